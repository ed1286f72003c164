-- `any_dangles` meets its contract.
use Rattle.std.proofs.Common.{rules, tests, length, take}
use Rattle.meaning.specs.FirstMatch.{dangles}
use Rattle.meaning.specs.Layout.{host_of}
use Rattle.meaning.specs.Matching.{total}
use Rattle.laws.specs.Ranges.{any-is}
use Rattle.fitting.proofs.any_dangles.Goals as goal

pub returns : goal.returns
returns c =
    λ r q. let h = host_of c.args.host.now.layout c.args.host.now.nodes.now c.args.host.now.edges.now in
    any-is (dangles h r (take (total r) c.args.at.now)) (length h.edges) _ _ _ c.edge_slots.ensures (λ x b f k. search (rules, tests)) c.any.ensures.ran
