-- `elements_agree` meets its contract. The loop's invariant: what the elements before the place stand for is there, and those
-- behind it have values.
use Rattle.std.proofs.Common.{◌≡◌, ◌≤◌, length}
use Rattle.meaning.specs.Layout.{host_of}
use Rattle.slots.specs.Laid.{laid}
use Rattle.agreeing.specs.Agreeing.{HasElements}
use Rattle.agreeing.proofs.Agreeing.{Comparing}
use Rattle.agreeing.proofs.elements_agree.Given as goal

abbrev pub invariant-loop-field : goal.invariant-loop-field
invariant-loop-field l = (l.field-iterator.bytes.now ≡ l.p) × (l.from ≤ length (laid l.a)) × ((w : HasElements (host_of l.host.layout l.host.nodes.now l.host.edges.now) l.rule.bytes.now l.rule.plan.now l.trial.at.now l.trial.item l.trial.slot l.p) → Comparing w (laid l.a) l.field-iterator.place l.from)
