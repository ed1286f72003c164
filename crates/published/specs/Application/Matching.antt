-- Matches in a host's graph: a match of meaning's is a published match, and a published match gives a match of meaning's.
-- It holds of a legal rule and a legal host: their atoms are words, and so are those of each test's operands.
-- Rests on Application/Conditions and SameMatch.
use Rattle.std.specs.Prelude.{ℕ, List}
use Rattle.meaning.specs.Layout.{Host}
use Rattle.meaning.specs.Image.{Rule}
use Rattle.meaning.specs.Matching.{node_slot, edge_slot, Match}
use Rattle.published.specs.Graphs.{graph_of}
use Rattle.published.specs.RuleApplication.{Premorphism}

-- The premorphism of a match: each left item goes to its slot.
abbrev pub premorphism : (h : Host) (r : Rule) (p : List ℕ) → Match h r p → Premorphism r.left (graph_of h)
premorphism h r p m =
    record {
      node = node_slot p;
      edge = edge_slot r p;
      nodes = m.nodes_live;
      edges = m.edges_live;
      sources = m.sources;
      targets = m.targets;
    }
