-- `bytes::zeros_from` meets its contract. The loop's invariant: all bytes passed are zero and those from `i` on are, exactly where
-- those from `start` on are.
use Rattle.std.proofs.Common.{◌≡◌, drop}
use Rattle.meaning.specs.Basics.{both, zeros}
use Rattle.slots.proofs.bytes.zeros_from.Given as goal

abbrev pub invariant-loop-i : goal.invariant-loop-i
invariant-loop-i l = both l.all (zeros (drop l.i l.from)) ≡ zeros (drop l.start l.from)
