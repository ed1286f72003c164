-- The degrees of a node that a rule deletes: where the rule matches, as many edges of G arrive at it as edges of L do, and as many
-- leave it, since the dangling condition lets no other touch it. A loop counts once in each. In document 000 a search checks
-- these degrees (lemma 3.5); a condition that asks for them changes no match. Rests on RuleApplication and on Application's
-- Conditions.
use Rattle.std.specs.Prelude.{◌≡◌, ◌↔◌, Bool, true, List, map, ℕ, ◌<◌, ◌≤◌, eqb, length, get_or}
use Rattle.std.proofs.Common.{sym, ◌∙◌, ap, inl, inr, eq-eqb, eqb-true}
use Rattle.std.proofs.lemmas.List.{length-map}
use Rattle.meaning.specs.Basics.{count}
use Rattle.meaning.specs.Image.{Rule}
use Rattle.meaning.specs.References.{rule_holds}
use Rattle.laws.specs.Pieces.{get_or-map_in}
use Rattle.laws.specs.References.{ends}
use Rattle.meaning.specs.declared.Test.{Test}
use Rattle.published.specs.Graphs.{Graph, Edge}
use Rattle.published.specs.RuleApplication.{Incident, Exactly, Leaves, Arrives, True, Matches}
use Rattle.published.specs.Application.Conditions.{Passing}
use Rattle.published.proofs.Application.Conditions.{passing, passing-all}
use Rattle.published.specs.Degrees.{left_in, left_out, with_tests, asking}

module _ (r : Rule) (holds : rule_holds r ≡ true) (G : Graph) (m : Matches r G) where
  module _ (j : ℕ) (deleted : r.interface ≤ j) (there : j < length r.left.nodes) where
    -- of one end of the edges, the source or the target: `end` in G, `left` in L
    ends-exactly : (end left : ℕ → ℕ)
        → ((e : ℕ) → end e ≡ m.g.node j → Incident G e (m.g.node j))
        → ((k : ℕ) → k < length r.left.edges → end (m.g.edge k) ≡ m.g.node (left k))
        → ((k : ℕ) → k < length r.left.edges → left k < length r.left.nodes)
        → Exactly (count (λ k. eqb (left k) j) (length r.left.edges)) (λ e. Edge G e × (end e ≡ m.g.node j))
    ends-exactly end left touches same here =
        record {
          list = map m.g.edge (passing f n);
          size = length-map (passing f n) m.g.edge ∙ p.size;
          apart = λ i k h l e. p.apart i k h l (m.injective.edges _ _ (p.below i h) (p.below k l) (sym (at i h) ∙ e ∙ at k l));
          each = λ i h. rw (at i h) (m.g.edges _ (p.below i h), same _ (p.below i h) ∙ ap m.g.node (eqb-true _ _ (p.passes i h)));
          all = λ e q.
              let t = m.dangling e j q.0 deleted there (touches e q.1) in
              let same-node = sym (same t.0 t.1) ∙ ap end t.2 ∙ q.1 in
              let u = p.all t.0 t.1 (eq-eqb _ _ (m.injective.nodes _ _ (here t.0 t.1) there same-node)) in
              (u.0, u.1, at u.0 u.1 ∙ ap m.g.edge u.2 ∙ t.2);
        }
      where
        n : ℕ
        n = length r.left.edges

        f : ℕ → Bool
        f k = eqb (left k) j

        p : Passing f n (count f n) (passing f n)
        p = passing-all f n

        at : (i : ℕ) → i < count f n → get_or (map m.g.edge (passing f n)) i 0 ≡ m.g.edge (get_or (passing f n) i 0)
        at i h = get_or-map_in m.g.edge (passing f n) i 0 0 (rw p.size h)

    pub deleted_in : Exactly (left_in r j) (Arrives G (m.g.node j))
    deleted_in = ends-exactly G.target _ (λ e. inr) m.g.targets (λ k h. (ends r holds k h).1)

    pub deleted_out : Exactly (left_out r j) (Leaves G (m.g.node j))
    deleted_out = ends-exactly G.source _ (λ e. inl) m.g.sources (λ k h. (ends r holds k h).0)

-- a match of r, if these are true there
retested : (r : Rule) (t : List Test) (G : Graph) (m : Matches r G) → True G m.g.node m.α.of t → Matches (with_tests r t) G
retested r t G m c =
    record {
      g = m.g;
      injective = m.injective;
      α = record { of = m.α.of; ints = m.α.ints };
      compatible = m.compatible;
      dangling = m.dangling;
      condition = c;
    }

-- it has the matches of r, if r deletes node j
pub asking-same : (r : Rule) → rule_holds r ≡ true → (j : ℕ) → r.interface ≤ j → j < length r.left.nodes → (G : Graph)
    → Matches r G ↔ Matches (asking r j) G
asking-same r holds j deleted there G = (
  λ m. retested r _ G m (deleted_in r holds G m j deleted there, (deleted_out r holds G m j deleted there, m.condition)),
  λ m. retested (asking r j) r.tests G m m.condition.1.1,
)
