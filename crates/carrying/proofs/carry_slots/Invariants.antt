-- `carry_slots` meets its contract. The loop's invariant: x slots are carried, the others are as they were lent.
use Rattle.std.proofs.Common.{◌≡◌, length}
use Rattle.carrying.proofs.Filling.{so_far}
use Rattle.carrying.proofs.carry_slots.Given as goal

abbrev pub invariant-loop-x : goal.invariant-loop-x
invariant-loop-x l = (length l.out ≡ length l.initial.out) × (l.out ≡ so_far l.host.layout l.to l.host.nodes.now l.host.edges.now l.n l.initial.out l.which l.x)
