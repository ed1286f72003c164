-- `in_degree` meets its contract. The loop's invariant: `arriving` counts those of the edges passed that are asked for.
use Rattle.std.proofs.Common.{◌≤◌, ◌≡◌}
use Rattle.meaning.specs.Basics.{count}
use Rattle.meaning.specs.Matching.{edge_arrives}
use Rattle.graph.specs.Hosts.{host_in}
use Rattle.graph.proofs.Graph.in_degree.Given as goal

abbrev pub invariant-loop-x : goal.invariant-loop-x
invariant-loop-x l = (l.arriving ≤ l.x) × (l.arriving ≡ count (edge_arrives (host_in l.self) l.t) l.x)
