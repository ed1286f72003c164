-- `digits_value` meets its contract. The invariant: the number of the digits up to here, as far as it is kept.
use lib.Seq.{slice}
use Rattle.text.specs.Integers.{value}
use Rattle.parsing.specs.Integers.{Capped}
use Rattle.parsing.proofs.integers.digits_value.Given as goal

abbrev pub invariant-loop-i : goal.invariant-loop-i
invariant-loop-i l = Capped (value (slice l.from l.i l.text)) l.v
