-- What a check of a call's input says, as the definitions do, and the size of a report. Rests on the types that code and
-- definitions share.
use Rattle.std.specs.Prelude.{ℕ, Result, Ok, Err}
use Rattle.std.proofs.Math.Option.{Option, some, none}
use Rattle.meaning.specs.declared.Refusal.{Refusal}

unfoldable pub refusal_of : Result (Unit {0}) Refusal → Option Refusal
refusal_of (Ok _) = none
refusal_of (Err w) = some w

-- the bytes of one number of a report, and of both
abbrev pub report_number : ℕ
report_number = 4

abbrev pub report_length : ℕ
report_length = 8
