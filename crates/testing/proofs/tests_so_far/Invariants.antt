-- `tests_so_far` meets its contract. The loop's invariant: the tests passed that the item decides hold.
use Rattle.std.proofs.Common.{◌≡◌, true, take}
use Rattle.meaning.specs.Basics.{every}
use Rattle.meaning.specs.Layout.{host_of}
use Rattle.agreeing.specs.Placed.{Tried}
use Rattle.testing.proofs.Decisions.{so_far}
use Rattle.testing.proofs.tests_so_far.Given as goal

abbrev pub invariant-loop-t : goal.invariant-loop-t
invariant-loop-t l = (w : Tried (host_of l.host.layout l.host.nodes.now l.host.edges.now) l.rule.bytes.now l.rule.plan.now l.trial.at.now l.trial.item l.trial.slot) → every (so_far w) (take l.t w.trial.rule.tests) ≡ true
