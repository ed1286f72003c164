-- `depth_holds` meets its contract: before the first round no height is known.
use Rattle.std.proofs.Common.{None, sym, arith, replicate, length-take-le}
use Rattle.meaning.specs.Image.{limits}
use Rattle.command_checks.proofs.Raising.{few-procedures, none-known}
use Rattle.command_checks.proofs.depth_holds.Goals as goal

pub returns-then-count-gt-PROCEDURES : goal.returns-then-count-gt-PROCEDURES
returns-then-count-gt-PROCEDURES c p e = absurd (omega (arith, few-procedures _ p e, c.procedure_count-count.ensures p e))

pub slice_bounds-depth_fits-end : goal.slice_bounds-depth_fits-end
slice_bounds-depth_fits-end c = sym (length-take-le c.procedure_count-count.result (replicate limits.procedures None) (omega arith))

pub returns : goal.returns
returns c p e = c.depth_fits.ensures p e (none-known p.procedures limits.procedures c.procedure_count-count.result (omega arith) (c.procedure_count-count.ensures p e))
