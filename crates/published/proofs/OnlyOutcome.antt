-- What an exported call of `run` answers, on either core, is all that its program can come to by the published semantics: where the
-- rule sets that the program calls are steady relative to an invariant that the graph which came in has (Steady), or where the program
-- is known to come to one thing in another way. Before that: on isomorphic host graphs a program of an image comes to isomorphic
-- outcomes. Rests on Steady, Answers, Conformance and demands' Exported.
use Rattle.std.specs.Prelude.{◌≡◌, true, false, List, [], ◌∷◌, map, ℕ, ◌≤◌}
use Rattle.std.proofs.Common.{sym, ◌∙◌, ap, arith}
use Rattle.std.proofs.Math.Option.{some}
use Rattle.meaning.specs.Image.{Rule}
use Rattle.meaning.specs.Procedures
use Rattle.meaning.specs.Procedures.{Command, Commands, Program, program}
use Rattle.meaning.specs.Commands.{rule_at}
use Rattle.meaning.specs.Calls.{Lent}
use Rattle.demands.specs.Demands.{Lendable, Interpreter, Outcome as Answered}
use Rattle.demands.proofs.Ours.{good}
use Rattle.demands.proofs.First.{run_settled}
use Rattle.demands.specs.Exported.{Exported}
use Rattle.demands.proofs.Exported.{exported-run}
use Rattle.meaning.specs.Laws.Tests.{some_inj}
use Rattle.laws.specs.LegalCommands.{LegalRules, legal-rule}
use Rattle.laws.specs.Calls.{accepted-legal}
use Rattle.laws.specs.Undoing.{Numbered}
use Rattle.meaning.specs.declared.Layout.{Layout}
use Rattle.published.specs.Graphs.{Graph, HostGraph}
use Rattle.published.specs.RuleApplication.{Applied}
use Rattle.published.specs.Semantics.{ComSeq, Outcome, graph, fails, ⟦◌⟧, com_seq, in_order, followed}
use Rattle.published.specs.Answers.{Alike}
use Rattle.published.proofs.Answers.{alike_outcomes}
use Rattle.published.specs.Conformance.{held, CanComeTo}
use Rattle.published.proofs.Conformance.{run-result, run-fail}
use Rattle.published.specs.Alike.{Calls}
use Rattle.published.specs.Steady.{SameOutcome, Decided, Steady}
use Rattle.published.proofs.Steady.{steady-decided}
use Rattle.published.specs.OnlyOutcome.{OneOutcome}

-- The rule sets of a legal program.

module _ (rules : List Rule) (legal : LegalRules rules) where
  legal-set : (l : List ℕ) → LegalRules (map (rule_at rules) l)
  legal-set [] = tt
  legal-set (n ∷ l) = (legal-rule rules legal n, legal-set l)

  mutual
    unfolding com_seq in_order followed

    legal-calls : (c : Command) → Calls LegalRules (com_seq rules c)
    legal-calls (Procedures.rule_set l) = legal-set l
    legal-calls (Procedures.sequence cs) = legal_order cs
    legal-calls (Procedures.guarded false g a b) = (legal-calls g, legal-calls a, legal-calls b)
    legal-calls (Procedures.guarded true g a b) = (legal-calls g, legal-calls a, legal-calls b)
    legal-calls (Procedures.loop c) = legal-calls c
    legal-calls Procedures.skip = tt
    legal-calls Procedures.fail = tt
    legal-calls Procedures.break = tt
    legal-calls (Procedures.called c) = legal-calls c

    legal_order : (cs : Commands) → Calls LegalRules (in_order rules cs)
    legal_order Procedures.no_more = tt
    legal_order (Procedures.then c cs) = legal-followed cs (com_seq rules c) (legal-calls c)

    legal-followed : (cs : Commands) (P : ComSeq) → Calls LegalRules P → Calls LegalRules (followed rules cs P)
    legal-followed Procedures.no_more P u = u
    legal-followed (Procedures.then c cs) P u = (u, legal-followed cs (com_seq rules c) (legal-calls c))

  -- on isomorphic graphs a command comes to isomorphic outcomes
  pub names-free : (c : Command) (G G' : Graph) → Alike G G' → (X : Outcome Graph) → ⟦◌⟧ Graph Applied (com_seq rules c) G X
      → (X' : Outcome Graph) × SameOutcome X X' × ⟦◌⟧ Graph Applied (com_seq rules c) G' X'
  names-free c G G' i X p =
      alike_outcomes (com_seq rules c) (legal-calls c) G G' i X p

-- An exported run, on a program that can come to one thing only on the graph that came in.
module _ (L : Layout) (numbered : Numbered L) (I : Interpreter) (exported : Exported L I) (x : Lent) (b : Lendable x)
    (p : Program) (form : program x.image ≡ some p)
  where
    abbrev P : ComSeq
    P = com_seq p.rules p.main

    abbrev G : Graph
    G = held L x.nodes x.edges

    abbrev left : Graph
    left = held L (I.run x).nodes (I.run x).edges

    abbrev Comes : Outcome Graph → Type 0
    Comes X = ⟦◌⟧ Graph Applied P G X

    legal : (I.run x).answer ≤ 6 → Calls LegalRules P
    legal k =
        let q = ap (λ (o : Answered). o.answer) (exported-run L I exported x b) in
        let a = good L x (run_settled L x (omega arith)) in
        let e : a.tree ≡ p = some_inj a.tree p (sym a.form ∙ form) in
        legal-calls p.rules (rw e at (accepted-legal L x b.image.bytewise a)) p.main

    comes : (X : Outcome Graph) → CanComeTo L x.nodes x.edges x.image X → Comes X
    comes X c = let e : c.tree ≡ p = some_inj c.tree p (sym c.form ∙ form) in rw e at c.outcome

    module _ (decided : HostGraph G → Calls LegalRules P → Decided P G Alike) where
      pub run-decided : (I.run x).answer ≡ 0 → (X : Outcome Graph) → Comes X → SameOutcome (graph left) X
      run-decided z = let c = run-result L numbered I exported x b z in (decided c.came (legal (omega arith))).result _ (comes _ c)

      pub run-fail-decided : (I.run x).answer ≡ 1 → (X : Outcome Graph) → Comes X → SameOutcome fails X
      run-fail-decided z = let c = run-fail L numbered I exported x b z in (decided c.came (legal (omega arith))).fail (comes _ c)

    -- so it is where the rule sets are steady and the graph has their invariant
    module _ (Inv : Graph → Type 0) (inv : Inv G) (steady : Calls (Steady Inv) P) where
      pub run_only : (I.run x).answer ≡ 0 → (X : Outcome Graph) → Comes X → SameOutcome (graph left) X
      run_only = run-decided (λ host u. steady-decided Inv P u steady _ host inv)

      pub run-fail-only : (I.run x).answer ≡ 1 → (X : Outcome Graph) → Comes X → SameOutcome fails X
      run-fail-only = run-fail-decided (λ host u. steady-decided Inv P u steady _ host inv)

module _ (image : List ℕ) (p : Program) (form : program image ≡ some p) (Inv : Graph → Type 0) where
  pub decided-outcome
      : ((G : Graph) → HostGraph G → Inv G → Calls LegalRules (com_seq p.rules p.main) → Decided (com_seq p.rules p.main) G Alike)
      → OneOutcome image p Inv
  decided-outcome decided =
      record {
        result = λ L k I e x b q inv. run-decided L k I e x b p (ap program q ∙ form) (λ host u. decided _ host inv u);
        fail = λ L k I e x b q inv. run-fail-decided L k I e x b p (ap program q ∙ form) (λ host u. decided _ host inv u);
      }

  pub one-outcome : Calls (Steady Inv) (com_seq p.rules p.main) → OneOutcome image p Inv
  one-outcome steady = decided-outcome (λ G host inv u. steady-decided Inv (com_seq p.rules p.main) u steady G host inv)
