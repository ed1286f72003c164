-- `mode_at` meets its contract: a mode that is missing is 0.
use Rattle.std.proofs.Common.{sym}
use Rattle.fields.proofs.Finding.{part_in}
use Rattle.fields.specs.Laws.{found-field}
use Rattle.planning.proofs.Places.{mode-read, mode-none}
use Rattle.planning.proofs.mode_at.Goals as goal

pub slice_bounds-number_at-count : goal.slice_bounds-number_at-count
slice_bounds-number_at-count c = (part_in (found-field _ _ _ _ _ (sym c.in-Some.ensures))).0

pub slice_bounds-number_at-start : goal.slice_bounds-number_at-start
slice_bounds-number_at-start c = (part_in (found-field _ _ _ _ _ (sym c.in-Some.ensures))).0

pub slice_bounds-number_at-end : goal.slice_bounds-number_at-end
slice_bounds-number_at-end c = (part_in (found-field _ _ _ _ _ (sym c.in-Some.ensures))).1

pub returns-in-Some : goal.returns-in-Some
returns-in-Some c = mode-read _ _ c.in-Some.ensures c.number_at.ensures.0

pub returns-in-None : goal.returns-in-None
returns-in-None c = mode-none _ _ c.in-None.ensures
