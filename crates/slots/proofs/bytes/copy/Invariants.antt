-- `copy` meets its contract. The loop's invariant: the bytes passed are those of `from`, the others as they were.
use Rattle.std.proofs.Common.{◌++◌, ◌≡◌, length, take, drop}
use Rattle.slots.proofs.bytes.copy.Given as goal

abbrev pub invariant-loop-k : goal.invariant-loop-k
invariant-loop-k l = (length l.to ≡ length l.initial.to) × (l.to ≡ take l.k l.from ++ drop l.k l.initial.to)
