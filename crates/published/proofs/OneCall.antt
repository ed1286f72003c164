-- One rule call, both ways. An interpreter that meets demand 2, on an accepted image that is one rule call and with fuel to enter
-- it, answers 1 exactly where fail is a possible outcome by the published semantics; and where it answers anything else, a result
-- or a stop, some graph is a possible outcome. So a stop for want of room, or since a label can't be held, is never a fail of the
-- published semantics. Rests on Existence, Application and demands' Fails.
use Rattle.std.specs.Prelude.{ℕ, ◌<◌, ◌≤◌, ◌≡◌, refl, ◌↔◌, true, List, map, length, get_or}
use Rattle.std.proofs.Common.{sym, ◌∙◌, subst, arith}
use Rattle.std.proofs.Math.Path.{ap}
use Rattle.std.proofs.Math.Option.{Option, some, none}
use Rattle.std.proofs.lemmas.List.{length-map}
use Rattle.meaning.specs.Image.{Rule}
use Rattle.meaning.specs.Procedures.{rule_set, Program, program}
use Rattle.meaning.specs.References.{rule_holds}
use Rattle.meaning.specs.Matching.{Match}
use Rattle.meaning.specs.Commands.{Chosen, rule_at, first_rule}
use Rattle.meaning.specs.Calls.{Lent}
use Rattle.meaning.specs.Laws.Tests.{some_inj}
use Rattle.laws.specs.Hosts.{LegalHost, legal-host}
use Rattle.laws.specs.LegalCommands.{LegalRules, legal-rule, legal-sound}
use Rattle.laws.specs.Calls.{accepted-legal}
use Rattle.demands.specs.Demands.{Interpreter, Lendable, run_refused_with, Demand2}
use Rattle.demands.proofs.Ours.{good}
use Rattle.demands.specs.Fails.{host, fails-exactly}
use Rattle.demands.proofs.Laws.Inference.{called-none, called-some}
use Rattle.meaning.specs.declared.Layout.{Layout}
use Rattle.published.specs.Graphs.{Graph, graph_of}
use Rattle.published.specs.RuleApplication.{Matches, Applied}
use Rattle.published.specs.Semantics.{ComSeq, Outcome, graph, fails, ⟦◌⟧, call, com_seq}
use Rattle.published.proofs.Existence.{set-result, set-fails-exactly}
use Rattle.published.proofs.Application.{match-exactly, called_at}
use Rattle.published.proofs.Application.Matching.{match_published}
use Rattle.published.specs.Answers.{Comes}

-- A call of listed rules: it fails exactly where none of them has a match, and gives a graph where one has.

module _ (rules : List Rule) (legal : LegalRules rules) (l : List ℕ) (G : Graph) where
  abbrev set : List Rule
  set = map (rule_at rules) l

  listed : (i : ℕ) → i < length set → i < length l
  listed i k = rw (length-map l (rule_at rules)) at k

  holds : (i : ℕ) → i < length set → rule_holds (rule_at set i) ≡ true
  holds i k = rw (called_at rules legal l i (listed i k)) (legal-rule rules legal (get_or l i 0)).holds

  call-fails : ⟦◌⟧ Graph Applied (call set) G fails ↔ ((i : ℕ) → i < length l → Matches (rule_at rules (get_or l i 0)) G → ⊥)
  call-fails =
      let t = set-fails-exactly set holds G in (
        λ p i k m. t.0 p i (rw (length-map l (rule_at rules)) k) (rw (called_at rules legal l i k) m),
        λ n. t.1 (λ i k m. n i (listed i k) (rw (called_at rules legal l i (listed i k)) at m)),
      )

  call-gives : (i : ℕ) → i < length l → Matches (rule_at rules (get_or l i 0)) G → (H : Graph) × ⟦◌⟧ Graph Applied (call set) G (graph H)
  call-gives i k m = set-result set holds G i (rw (length-map l (rule_at rules)) k) (rw (called_at rules legal l i k) m)

module _ (L : Layout) (I : Interpreter) (second : Demand2 L I) (x : Lent) (b : Lendable x) (accepted : run_refused_with L x ≡ none)
    (p : Program) (form : program x.image ≡ some p) (l : List ℕ) (main : p.main ≡ rule_set l) (fuel : 1 ≤ x.fuel)
  where
    abbrev rules : List Rule
    rules = p.rules

    abbrev G : Graph
    G = graph_of (host L x)

    legal : LegalRules rules
    legal =
        let a = good L x accepted in
        let q : p ≡ a.tree = some_inj p a.tree (sym form ∙ a.form) in
        rw q (accepted-legal L x b.image.bytewise a)

    lent-legal : LegalHost L (host L x)
    lent-legal = legal-host L x.nodes x.edges b.nodes.bytewise b.edges.bytewise (good L x accepted).layout

    -- what the image's program can come to, and what the call can

    command : com_seq rules p.main ≡ call (map (rule_at rules) l)
    unfolding com_seq
    command = ap (com_seq rules) main

    of_image : (X : Outcome Graph) → ⟦◌⟧ Graph Applied (call (map (rule_at rules) l)) G X → Comes L x X
    of_image X o = record { tree = p; form = form; outcome = subst (λ (P : ComSeq). ⟦◌⟧ Graph Applied P G X) (sym command) o }

    pub of-call : (X : Outcome Graph) → Comes L x X → ⟦◌⟧ Graph Applied (call (map (rule_at rules) l)) G X
    of-call X c =
        let q : c.tree ≡ p = some_inj c.tree p (sym c.form ∙ form) in
        subst (λ (P : ComSeq). ⟦◌⟧ Graph Applied P G X) (ap (λ (t : Program). com_seq t.rules t.main) q ∙ command) c.outcome

    pub answers-fail : ((I.run x).answer ≡ 1) ↔ Comes L x fails
    answers-fail =
        let f = fails-exactly L I second x b accepted p form l main fuel in
        let c = call-fails rules legal l G in (
          λ z. of_image fails (c.1 (λ i k. (exactly i).0 (f.0 z i k))),
          λ z. f.1 (λ i k. (exactly i).1 (c.0 (of-call fails z) i k)),
        )
      where
        exactly : (i : ℕ) → ((q : List ℕ) → Match (host L x) (rule_at rules (get_or l i 0)) q → ⊥) ↔ (Matches (rule_at rules (get_or l i 0)) G → ⊥)
        exactly i = match-exactly (rule_at rules (get_or l i 0)) (legal-rule rules legal (get_or l i 0)) L (host L x) lent-legal

    pub answers-other : ((I.run x).answer ≡ 1 → ⊥) → (H : Graph) × Comes L x (graph H)
    answers-other n = at (first_rule rules (host L x) l) refl
      where
        at : (o : Option Chosen) → first_rule rules (host L x) l ≡ o → (H : Graph) × Comes L x (graph H)
        at none e = absurd (n ((fails-exactly L I second x b accepted p form l main fuel).1 (called-none rules (legal-sound rules legal) (host L x) l e)))
        at (some c) e =
            let f = called-some rules (legal-sound rules legal) (host L x) l c e in
            let r = legal-rule rules legal (get_or l f.place 0) in
            let m = match_published (host L x) _ r L lent-legal c.slots (rw f.rule at f.match) in
            let t = call-gives rules legal l G f.place f.listed m in
            (t.0, of_image (graph t.0) t.1)

    -- a stop, answered by 2 to 6, is no fail
    pub stop-no-fail : 2 ≤ (I.run x).answer → Comes L x fails → ⊥
    stop-no-fail k c = let e = answers-fail.1 c in omega arith
