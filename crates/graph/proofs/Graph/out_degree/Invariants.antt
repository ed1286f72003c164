-- `out_degree` meets its contract. The loop's invariant: `leaving` counts those of the edges passed that are asked for.
use Rattle.std.proofs.Common.{◌≤◌, ◌≡◌}
use Rattle.meaning.specs.Basics.{count}
use Rattle.meaning.specs.Matching.{edge_leaves}
use Rattle.graph.specs.Hosts.{host_in}
use Rattle.graph.proofs.Graph.out_degree.Given as goal

abbrev pub invariant-loop-x : goal.invariant-loop-x
invariant-loop-x l = (l.leaving ≤ l.x) × (l.leaving ≡ count (edge_leaves (host_in l.self) l.s) l.x)
