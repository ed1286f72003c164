-- `matching::assign` meets its contract. The loop's invariant: the variables passed have their values.
use Rattle.std.proofs.Common.{take}
use Rattle.meaning.specs.Layout.{host_of}
use Rattle.matching.specs.Next.{Of}
use Rattle.meaning.specs.Matching.{total}
use Rattle.matching.specs.Values.{HasValues}
use Rattle.matching.proofs.assign.Given as goal

abbrev pub invariant-loop-v : goal.invariant-loop-v
invariant-loop-v l =
    Of l.rule.bytes.now l.rule.plan.now (λ r. HasValues (host_of l.host.layout l.host.nodes.now l.host.edges.now) r (take (total r) l.at) l.v l.values.lens l.values.atoms)
