-- `raise` meets its contract. The loop's invariant: the heights of the procedures passed are found.
use Rattle.std.proofs.Common.{◌-◌}
use Rattle.meaning.specs.Image.{raw_program}
use Rattle.parts.specs.Series.{For}
use Rattle.command_checks.specs.Heights.{Heights}
use Rattle.command_checks.proofs.Raising.{Raising}
use Rattle.command_checks.proofs.rounds.raise.Given as goal

abbrev pub invariant-loop-i : goal.invariant-loop-i
invariant-loop-i l = For (raw_program l.image) (λ p. Heights p.procedures (l.n - 1) l.initial.heights → Raising p.procedures (l.n - 1) l.n l.i l.heights)
