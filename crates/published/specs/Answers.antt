-- What the interpreter answers, by the published semantics: over abstract graphs, with the published rule application, a graph
-- that it leaves is a possible result of the program, and a fail is a possible outcome; and the names of nodes and edges do not
-- matter to what a program can come to. Rests on Application, HostResult, Isomorphism, Results and Alike.
use Rattle.meaning.specs.Calls.{Lent}
use Rattle.meaning.specs.declared.Layout.{Layout}
use Rattle.published.specs.Graphs.{Graph, HostGraph, graph_of, Iso}
use Rattle.published.specs.RuleApplication.{Applied}
use Rattle.published.specs.Semantics.{Outcome}
use Rattle.published.specs.Results.{CanComeTo}

-- The answers.

module _ (L : Layout) where
  -- executing the image's program on the graph that the tables hold can come to X
  abbrev pub Comes : Lent → Outcome Graph → Type 0
  Comes x X = CanComeTo L Graph Applied graph_of x.nodes x.edges x.image X

-- Names do not matter.

-- host graphs that are isomorphic
pub record Alike (G H : Graph) : Type 0 where
  pub this : HostGraph G
  pub that : HostGraph H
  pub iso : Iso G H
