-- `degree` meets its contract: the edges are counted by number.
use Rattle.std.proofs.Common.{rules, tests, length}
use Rattle.meaning.specs.Matching.{edge_touches}
use Rattle.graph.specs.Hosts.{host_in}
use Rattle.laws.specs.Ranges.{count-is}
use Rattle.graph.proofs.Graph.degree.Goals as goal

pub returns : goal.returns
returns c =
    let h = host_in c.args.self.now in
    count-is (edge_touches h c.args.c) (length h.edges) _ _ c.filter.ensures.source c.filter.ensures.closure c.edge_slots.ensures (λ x b f k. search (rules, tests)) c.count.ensures.ran
