-- `any_joins` meets its contract.
use Rattle.std.proofs.Common.{rules, tests, length}
use Rattle.meaning.specs.Layout.{host_of}
use Rattle.fitting.specs.Fitting.{joins_at}
use Rattle.laws.specs.Ranges.{any-is}
use Rattle.fitting.proofs.any_joins.Goals as goal

pub returns : goal.returns
returns c =
    λ r q. let h = host_of c.args.host.now.layout c.args.host.now.nodes.now c.args.host.now.edges.now in
    any-is (joins_at h r c.args.k c.args.s c.args.t) (length h.edges) _ _ _ c.edge_slots.ensures (λ x b f k. search (rules, tests)) c.any.ensures.ran
