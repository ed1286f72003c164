-- `matching::next_slot` meets its contract. The loop's invariant: no slot passed fits.
use Rattle.std.proofs.Common.{ℕ, ◌+◌, ◌-◌, ◌≤◌, ◌<◌, ◌≡◌, false, length, take}
use Rattle.meaning.specs.FirstMatch.{fits}
use Rattle.meaning.specs.Layout.{host_of}
use Rattle.matching.specs.Next.{Of}
use Rattle.matching.proofs.next_slot.Given as goal

abbrev pub invariant-loop-y : goal.invariant-loop-y
invariant-loop-y l =
    (l.trial.slot ≤ l.x) × Of l.rule.bytes.now l.rule.plan.now (λ r. (y : ℕ) → l.trial.slot ≤ y → y < l.x → fits (host_of l.host.layout l.host.nodes.now l.host.edges.now) r (take l.trial.item l.trial.at.now) y ≡ false)

abbrev pub decreases-loop-y : goal.decreases-loop-y
decreases-loop-y l = length (host_of l.host.layout l.host.nodes.now l.host.edges.now).nodes + length (host_of l.host.layout l.host.nodes.now l.host.edges.now).edges - l.x
