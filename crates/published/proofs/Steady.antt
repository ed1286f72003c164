-- Programs that can come to one thing only. A rule set is steady relative to an invariant of graphs if it keeps it and gives one
-- graph up to isomorphism, if any, on the host graphs that have it. Where all rule sets that a program calls are steady, a graph
-- that has the invariant and that the program can bring to a result, or to fail, it can bring to nothing else: it can neither
-- diverge nor get stuck besides. The invariant is put into the likeness of graphs that Unique speaks of; a coarser likeness than
-- isomorphism will do too. Rests on Unique, Answers and SameMatch.
use Rattle.std.specs.Prelude.{◌≡◌, List, [], ◌∷◌, ℕ, zero, suc, ◌<◌, length}
use Rattle.std.proofs.Common.{subst, arith}
use Rattle.meaning.specs.Image.{Rule}
use Rattle.meaning.specs.Commands.{rule_at}
use Rattle.laws.specs.Values.{LegalRule}
use Rattle.laws.specs.LegalCommands.{LegalRules, legal-rule, legal-sound}
use Rattle.published.specs.Graphs.{Graph, HostGraph}
use Rattle.published.specs.RuleApplication.{Matches, Applies, Applied}
use Rattle.published.proofs.Isomorphism.{iso-same, applied-iso}
use Rattle.published.specs.SameMatch.{Agree}
use Rattle.published.proofs.SameMatch.{same-match}
use Rattle.published.proofs.HostResult.{applies-host}
use Rattle.published.specs.Semantics.{ComSeq, call, ◌⨟◌, when◌then◌else◌, try◌then◌else◌, ◌!, break, skip, fail, Outcome, graph, fails, ⟦◌⟧}
use Rattle.published.specs.Answers.{Alike}
use Rattle.published.proofs.Answers.{alike-back, carry}
use Rattle.published.specs.Alike.{Calls, Same, same_graph, same_fail, same_bottom}
use Rattle.published.proofs.Unique.{one-result, one-fail}
use Rattle.published.specs.Steady.{SameOutcome, Decided, Lockstep}
use Rattle.published.specs.Steady as Defs

pub like-decided : (◌~◌ : Graph → Graph → Type 0) → ((G H : Graph) → ◌~◌ G H → ◌~◌ H G) → (P : ComSeq) → Calls (Lockstep ◌~◌) P → (G : Graph)
    → ◌~◌ G G → Decided P G ◌~◌
like-decided ◌~◌ back P calls G same =
    record {
      result = one-result Graph Applied (Lockstep ◌~◌) ◌~◌ back (λ R u. u.carry) (λ R u. u.unique) P calls G same;
      fail = one-fail Graph Applied (Lockstep ◌~◌) ◌~◌ back (λ R u. u.carry) (λ R u. u.unique) P calls G same;
    }

-- a set of one rule
pub sole : (r : Rule) (G H : Graph) → Applied (r ∷ []) G H → Applies r G H
sole r G H a = at a.place a.listed a.applies
  where
    at : (i : ℕ) → i < length (r ∷ []) → Applies (rule_at (r ∷ []) i) G H → Applies r G H
    at zero k a = a
    at (suc i) k a = absurd (omega arith)

module _ (Inv : Graph → Type 0) where
  abbrev Steady : (R : List Rule) → Type 0
  Steady = Defs.Steady Inv

  -- so is one whose rules keep the invariant and that has one match at most where it holds: of one of its rules, and in one way
  pub one-match : (R : List Rule) → LegalRules R
      → ((i : ℕ) → i < length R → (G H : Graph) → HostGraph G → Inv G → Applies (rule_at R i) G H → Inv H)
      → ((i j : ℕ) → i < length R → j < length R → (G : Graph) → HostGraph G → Inv G → Matches (rule_at R i) G → Matches (rule_at R j) G → i ≡ j)
      → ((i : ℕ) → i < length R → (G : Graph) → HostGraph G → Inv G → (m n : Matches (rule_at R i) G) → Agree (rule_at R i) G m.g n.g)
      → Steady R
  one-match R legal kept apart agree =
      record {
        keeps = λ G H host inv a. kept a.place a.listed G H host inv a.applies;
        one = λ G H H' host inv a b.
            let e = apart a.place b.place a.listed b.listed G host inv a.applies.match b.applies.match in
            let c = subst (λ k. Applies (rule_at R k) G H) e a.applies in
            same-match (rule_at R b.place) (legal-sound R legal b.place) G H H' host c b.applies
            (agree b.place b.listed G host inv c.match b.applies.match);
      }

  -- one rule alone
  pub one-rule : (r : Rule) → LegalRule r → ((G H : Graph) → HostGraph G → Inv G → Applies r G H → Inv H)
      → ((G : Graph) → HostGraph G → Inv G → (m n : Matches r G) → Agree r G m.g n.g) → Steady (r ∷ [])
  one-rule r legal kept agree =
      record {
        keeps = λ G H host inv a. kept G H host inv (sole r G H a);
        one = λ G H H' host inv a b.
            let x = sole r G H a in
            let y = sole r G H' b in
            same-match r (legal-sound (r ∷ []) (legal, tt) 0) G H H' host x y (agree G host inv x.match y.match);
      }

  -- The theorem.

  -- isomorphic host graphs that have the invariant
  record Both (G H : Graph) : Type 0 where
    alike : Alike G H
    this : Inv G
    that : Inv H

  both-same : (G : Graph) → HostGraph G → Inv G → Both G G
  both-same G host inv = record { alike = record { this = host; that = host; iso = iso-same G }; this = inv; that = inv }

  both-back : (G H : Graph) → Both G H → Both H G
  both-back G H b = record { alike = alike-back G H b.alike; this = b.that; that = b.this }

  module _ (R : List Rule) (legal : LegalRules R) (steady : Steady R) where
    host-result : (G H : Graph) → HostGraph G → Applied R G H → HostGraph H
    host-result G H host a = applies-host (rule_at R a.place) (legal-rule R legal a.place) G H host a.applies

    steady-carry : (G G' H : Graph) → Both G G' → Applied R G H → (H' : Graph) × Both H H' × Applied R G' H'
    steady-carry G G' H b a =
        let c = carry R legal G G' H b.alike a in
        let this = steady.keeps G H b.alike.this b.this a in
        let that = steady.keeps G' c.0 b.alike.that b.that c.2 in
        (c.0, record { alike = c.1; this = this; that = that }, c.2)

    steady-unique : (G G' H H' : Graph) → Both G G' → Applied R G H → Applied R G' H' → Both H H'
    steady-unique G G' H H' b a c =
        let i = b.alike in
        let back = applied-iso R (λ k. (legal-rule R legal k).holds) G' G H' H' i.that (alike-back G G' i).iso (iso-same H') c in
        record {
          alike =
              record {
                this = host-result G H i.this a;
                that = host-result G' H' i.that c;
                iso = steady.one G H H' i.this b.this a back;
              };
          this = steady.keeps G H i.this b.this a;
          that = steady.keeps G' H' i.that b.that c;
        }

    steady-lockstep : Lockstep Both R
    steady-lockstep = record { carry = steady-carry; unique = steady-unique }

  lockstep-calls : (P : ComSeq) → Calls LegalRules P → Calls Steady P → Calls (Lockstep Both) P
  lockstep-calls (call R) u v = steady-lockstep R u v
  lockstep-calls (P ⨟ Q) u v = (lockstep-calls P u.0 v.0, lockstep-calls Q u.1 v.1)
  lockstep-calls (when C then P else Q) u v =
      (lockstep-calls C u.0 v.0, lockstep-calls P u.1 v.1, lockstep-calls Q u.2 v.2)
  lockstep-calls (try C then P else Q) u v =
      (lockstep-calls C u.0 v.0, lockstep-calls P u.1 v.1, lockstep-calls Q u.2 v.2)
  lockstep-calls (P !) u v = lockstep-calls P u v
  lockstep-calls break u v = tt
  lockstep-calls skip u v = tt
  lockstep-calls fail u v = tt

  both-alike : {X Y : Outcome Graph} → Same Graph Both X Y → SameOutcome X Y
  both-alike (same_graph b) = same_graph b.alike
  both-alike same_fail = same_fail
  both-alike same_bottom = same_bottom

  module _ (P : ComSeq) (legal : Calls LegalRules P) (steady : Calls Steady P) (G : Graph) (host : HostGraph G) (inv : Inv G) where
    decided : Decided P G Both
    decided = like-decided Both both-back P (lockstep-calls P legal steady) G (both-same G host inv)

    pub only-result : (H : Graph) → ⟦◌⟧ Graph Applied P G (graph H) → (X : Outcome Graph) → ⟦◌⟧ Graph Applied P G X
        → SameOutcome (graph H) X
    only-result H p X q = both-alike (decided.result H p X q)

    pub only-fail : ⟦◌⟧ Graph Applied P G fails → (X : Outcome Graph) → ⟦◌⟧ Graph Applied P G X → SameOutcome fails X
    only-fail p X q = both-alike (decided.fail p X q)

    pub steady-decided : Decided P G Alike
    steady-decided = record { result = only-result; fail = only-fail }
