-- `matching::next_node` meets its contract. The loop's invariant: no slot passed fits.
use Rattle.std.proofs.Common.{ℕ, ◌-◌, ◌≤◌, ◌<◌, ◌≡◌, false, length, take}
use Rattle.meaning.specs.FirstMatch.{fits}
use Rattle.meaning.specs.Layout.{host_of}
use Rattle.matching.specs.Next.{Of}
use Rattle.matching.proofs.next_node.Given as goal

abbrev pub invariant-loop-x : goal.invariant-loop-x
invariant-loop-x l =
    (l.trial.slot ≤ l.x) × (l.n ≡ length (host_of l.host.layout l.host.nodes.now l.host.edges.now).nodes)
    × Of l.rule.bytes.now l.rule.plan.now (λ r. (y : ℕ) → l.trial.slot ≤ y → y < l.x → fits (host_of l.host.layout l.host.nodes.now l.host.edges.now) r (take l.trial.item l.trial.at.now) y ≡ false)

abbrev pub decreases-loop-x : goal.decreases-loop-x
decreases-loop-x l = l.n - l.x
