-- What an exported call of `run` answers, on either core, is all that its program can come to by the published semantics: where the
-- rule sets that the program calls are steady relative to an invariant that the graph which came in has (Steady), or where the program
-- is known to come to one thing in another way. Before that: on isomorphic host graphs a program of an image comes to isomorphic
-- outcomes. Rests on Steady, Answers, Conformance and demands' Exported.
use Rattle.std.specs.Prelude.{◌≡◌, List, ℕ}
use Rattle.meaning.specs.Procedures.{Program}
use Rattle.meaning.specs.Calls.{Lent}
use Rattle.demands.specs.Demands.{Lendable, Interpreter}
use Rattle.demands.specs.Exported.{Exported}
use Rattle.laws.specs.Undoing.{Numbered}
use Rattle.meaning.specs.declared.Layout.{Layout}
use Rattle.published.specs.Graphs.{Graph}
use Rattle.published.specs.RuleApplication.{Applied}
use Rattle.published.specs.Semantics.{Outcome, graph, fails, ⟦◌⟧, com_seq}
use Rattle.published.specs.Conformance.{held}
use Rattle.published.specs.Steady.{SameOutcome}

-- The same of an image, over every layout: on all that can be lent with it where the tables hold a graph with the invariant. X is what
-- its program can come to there.
pub record OneOutcome (image : List ℕ) (p : Program) (Inv : Graph → Type 0) : Type 0 where
  pub result : (L : Layout) → Numbered L → (I : Interpreter) → Exported L I → (x : Lent) → Lendable x → x.image ≡ image
      → Inv (held L x.nodes x.edges) → (I.run x).answer ≡ 0
      → (X : Outcome Graph) → ⟦◌⟧ Graph Applied (com_seq p.rules p.main) (held L x.nodes x.edges) X
      → SameOutcome (graph (held L (I.run x).nodes (I.run x).edges)) X
  pub fail : (L : Layout) → Numbered L → (I : Interpreter) → Exported L I → (x : Lent) → Lendable x → x.image ≡ image
      → Inv (held L x.nodes x.edges) → (I.run x).answer ≡ 1
      → (X : Outcome Graph) → ⟦◌⟧ Graph Applied (com_seq p.rules p.main) (held L x.nodes x.edges) X
      → SameOutcome fails X
