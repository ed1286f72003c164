-- `depth_fits` meets its contract. The loop's invariant: heights below n are found.
use Rattle.std.proofs.Common.{◌-◌}
use Rattle.meaning.specs.Image.{raw_program}
use Rattle.parts.specs.Series.{For}
use Rattle.command_checks.specs.Heights.{Heights}
use Rattle.command_checks.proofs.rounds.depth_fits.Given as goal

abbrev pub invariant-loop-n : goal.invariant-loop-n
invariant-loop-n l = For (raw_program l.image) (λ p. Heights p.procedures 0 l.initial.heights → Heights p.procedures (l.n - 1) l.heights)
