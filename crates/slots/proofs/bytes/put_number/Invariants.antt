-- `put_number` meets its contract. The loop's invariant: the bytes from `i` on are written, and `rest` is what is left of the number.
use Rattle.std.proofs.Common.{◌-◌, ◌≤◌, ◌/◌, ◌^◌, ◌≡◌, length}
use Rattle.slots.proofs.Loops.{writing}
use Rattle.slots.proofs.bytes.put_number.Given as goal

abbrev pub invariant-loop-i : goal.invariant-loop-i
invariant-loop-i l = (l.i ≤ length l.initial.to) × (l.to ≡ writing l.n l.i l.initial.to) × (l.rest ≡ l.n / 256 ^ (length l.initial.to - l.i))
