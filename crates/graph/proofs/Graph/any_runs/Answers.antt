-- `any_runs` meets its contract: the edges are asked by number.
use Rattle.std.proofs.Common.{rules, tests, length}
use Rattle.meaning.specs.Matching.{edge_runs}
use Rattle.graph.specs.Hosts.{host_in}
use Rattle.laws.specs.Ranges.{any-is}
use Rattle.graph.proofs.Graph.any_runs.Goals as goal

pub returns : goal.returns
returns c =
    let h = host_in c.args.self.now in
    any-is (edge_runs h c.args.s c.args.t) (length h.edges) _ _ _ c.edge_slots.ensures (λ x b f k. search (rules, tests)) c.any.ensures.ran
