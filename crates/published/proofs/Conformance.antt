-- The exported calls of `run` conform to the published semantics of GP 2, on both cores: over every layout whose slots its numbers can
-- name, of every interpreter that keeps the promises of the exported calls at it, and of all that can be lent, where it answers 0, the
-- graph that it leaves is a possible result of the program on the graph that came in, and where it answers 1, the program can fail on
-- it; by the inference rules of document 000's Appendix B, over its host graphs and its rule application (Definition 2.7). Rests on
-- Answers and demands' Exported.
use Rattle.std.specs.Prelude.{◌≡◌, List, ℕ}
use Rattle.std.proofs.Common.{sym, ◌∙◌, ap, arith}
use Rattle.meaning.specs.Calls.{Lent}
use Rattle.demands.specs.Demands.{Lendable, Interpreter, Outcome as Answered, Demand1, Demand2}
use Rattle.demands.specs.Exported.{Exported}
use Rattle.demands.proofs.Exported.{exported-run}
use Rattle.demands.specs.Ours.{ours}
use Rattle.demands.proofs.DemandsMet.{met}
use Rattle.laws.specs.Undoing.{Numbered}
use Rattle.meaning.specs.declared.Layout.{Layout}
use Rattle.published.specs.Graphs.{Graph}
use Rattle.published.specs.Semantics.{Outcome, graph, fails}
use Rattle.published.proofs.Answers.{result_published, fail_published, came-host, left-host}
use Rattle.published.specs.Conformance as Defs

module _ (L : Layout) where
  abbrev held : List ℕ → List ℕ → Graph
  held = Defs.held L

  abbrev CanComeTo : (nodes edges image : List ℕ) (X : Outcome Graph) → Type 0
  CanComeTo = Defs.CanComeTo L

  module _ (numbered : Numbered L) (I : Interpreter) (exported : Exported L I) (x : Lent) (b : Lendable x) where
    first : Demand1 L (ours L)
    first = (met L numbered).0

    second : Demand2 L (ours L)
    second = (met L numbered).1

    -- what is left is what ours leaves
    same : I.run x ≡ (ours L).run x
    same = exported-run L I exported x b

    answer : (n : ℕ) → (I.run x).answer ≡ n → ((ours L).run x).answer ≡ n
    answer n z = ap (λ (o : Answered). o.answer) (sym same) ∙ z

    pub run-result : (I.run x).answer ≡ 0 → CanComeTo x.nodes x.edges x.image (graph (held (I.run x).nodes (I.run x).edges))
    run-result z =
        let y = answer 0 z in
        let c = result_published L numbered (ours L) first second x b y in
        rw same
        (record {
          tree = c.tree;
          form = c.form;
          came = came-host L numbered (ours L) first second x b (omega arith);
          outcome = c.outcome;
          host = left-host L numbered (ours L) first second x b y;
        })

    pub run-fail : (I.run x).answer ≡ 1 → CanComeTo x.nodes x.edges x.image fails
    run-fail z =
        let y = answer 1 z in
        let c = fail_published L numbered (ours L) first second x b y in
        record {
          tree = c.tree;
          form = c.form;
          came = came-host L numbered (ours L) first second x b (omega arith);
          outcome = c.outcome;
          host = tt;
        }
