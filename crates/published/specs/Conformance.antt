-- The exported calls of `run` conform to the published semantics of GP 2, on both cores: over every layout whose slots its numbers can
-- name, of every interpreter that keeps the promises of the exported calls at it, and of all that can be lent, where it answers 0, the
-- graph that it leaves is a possible result of the program on the graph that came in, and where it answers 1, the program can fail on
-- it; by the inference rules of document 000's Appendix B, over its host graphs and its rule application (Definition 2.7). Rests on
-- Answers and demands' Exported.
use Rattle.std.specs.Prelude.{◌≡◌, List, ℕ}
use Rattle.std.proofs.Math.Option.{some}
use Rattle.meaning.specs.Procedures.{Program, program}
use Rattle.meaning.specs.declared.Layout.{Layout}
use Rattle.published.specs.Graphs.{Graph, HostGraph, graph_of}
use Rattle.published.specs.RuleApplication.{Applied}
use Rattle.published.specs.Semantics.{Outcome, graph, fails, bottom, ⟦◌⟧, com_seq}
use Rattle.published.specs.Results

-- X is a host graph, if it is a graph
abbrev pub HostOutcome : Outcome Graph → Type 0
HostOutcome (graph H) = HostGraph H
HostOutcome fails = Unit {0}
HostOutcome bottom = Unit {0}

module _ (L : Layout) where
  -- the graph that two tables hold
  abbrev pub held : List ℕ → List ℕ → Graph
  held nodes edges = Results.held L graph_of nodes edges

  -- X is in ⟦P⟧G, where P is the image's program and the host graph G is what the tables hold
  pub record CanComeTo (nodes edges image : List ℕ) (X : Outcome Graph) : Type 0 where
    pub tree : Program
    pub form : program image ≡ some tree
    pub came : HostGraph (held nodes edges)
    pub outcome : ⟦◌⟧ Graph Applied (com_seq tree.rules tree.main) (held nodes edges) X
    pub host : HostOutcome X
