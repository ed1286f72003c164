-- `free_slots` meets its contract. The loop's invariant: `free` counts the free slots among those passed.
use Rattle.std.proofs.Common.{◌+◌, ◌≤◌, ◌≡◌, drop}
use Rattle.meaning.specs.Applying.{free_slots}
use Rattle.slots.specs.Slots.{states}
use Rattle.slots.proofs.free_slots.Given as goal

abbrev pub invariant-loop-i : goal.invariant-loop-i
invariant-loop-i l = (l.free ≤ l.i) × (free_slots (states l.w l.table) ≡ l.free + free_slots (drop l.i (states l.w l.table)))
