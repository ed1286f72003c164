-- The cycle of `item_ok` and `rows_ok` meets its contracts.
use Rattle.std.proofs.Common.{refl, ◌∙◌}
use Rattle.fields.proofs.Finding.{part_in, nearer}
use Rattle.image.proofs.Walks.{lying, along_start, onto_bad, onto_done, onto_next, turn-cut, turn-bad, turn-next, too_few, enough}
use Rattle.image.proofs.+item_ok_rows_ok.Goals as goal

pub rows_ok-loop-tag-init : goal.rows_ok-loop-tag-init
rows_ok-loop-tag-init t c = along_start _ _

pub rows_ok-returns-in_default-read_field : goal.rows_ok-returns-in_default-read_field
rows_ok-returns-in_default-read_field t c = onto_bad c.loop-next.invariant c.in-Some.is (turn-cut c.loop-tag.invariant c.belongs.ensures c.loop-tag-test.true c.read_field.ensures (λ tag start end e. cc))

pub rows_ok-returns-in_default-read_field-2 : goal.rows_ok-returns-in_default-read_field-2
rows_ok-returns-in_default-read_field-2 t c = onto_bad c.loop-next.invariant c.in-Some.is (turn-cut c.loop-tag.invariant c.belongs.ensures c.loop-tag-test.true c.read_field.ensures (λ tag start end e. cc))

pub rows_ok-slice_bounds-item_ok-count : goal.rows_ok-slice_bounds-item_ok-count
rows_ok-slice_bounds-item_ok-count t c = (part_in (lying _ _ c.read_field.ensures c.in-Some-Ok.is c.in-Some-Ok.field-0-is)).0

pub rows_ok-slice_bounds-item_ok-start : goal.rows_ok-slice_bounds-item_ok-start
rows_ok-slice_bounds-item_ok-start t c = (part_in (lying _ _ c.read_field.ensures c.in-Some-Ok.is c.in-Some-Ok.field-0-is)).0

pub rows_ok-slice_bounds-item_ok-end : goal.rows_ok-slice_bounds-item_ok-end
rows_ok-slice_bounds-item_ok-end t c = (part_in (lying _ _ c.read_field.ensures c.in-Some-Ok.is c.in-Some-Ok.field-0-is)).1

pub rows_ok-returns-then-not-item_ok : goal.rows_ok-returns-then-not-item_ok
rows_ok-returns-then-not-item_ok t c = onto_bad c.loop-next.invariant c.in-Some.is (turn-bad c.loop-tag.invariant c.belongs.ensures c.loop-tag-test.true (lying _ _ c.read_field.ensures c.in-Some-Ok.is c.in-Some-Ok.field-0-is) refl c.item_ok.ensures c.if-not-item_ok.true)

pub rows_ok-loop-tag-smaller : goal.rows_ok-loop-tag-smaller
rows_ok-loop-tag-smaller t c = nearer (lying _ _ c.read_field.ensures c.in-Some-Ok.is c.in-Some-Ok.field-0-is)

pub rows_ok-loop-tag-preserved : goal.rows_ok-loop-tag-preserved
rows_ok-loop-tag-preserved t c = turn-next c.loop-tag.invariant c.belongs.ensures c.loop-tag-test.true (lying _ _ c.read_field.ensures c.in-Some-Ok.is c.in-Some-Ok.field-0-is) refl c.item_ok.ensures c.if-not-item_ok.false

pub rows_ok-returns-then-n-least : goal.rows_ok-returns-then-n-least
rows_ok-returns-then-n-least t c = onto_bad c.loop-next.invariant c.in-Some.is (too_few c.loop-tag.invariant c.belongs.ensures c.loop-tag-test.false c.least.ensures c.if-n-least.true)

pub rows_ok-loop-next-preserved : goal.rows_ok-loop-next-preserved
rows_ok-loop-next-preserved t c = onto_next c.loop-next.invariant c.in-Some.is c.next-next.ensures _ (enough c.loop-tag.invariant c.belongs.ensures c.loop-tag-test.false c.least.ensures c.if-n-least.false)

pub rows_ok-returns : goal.rows_ok-returns
rows_ok-returns t c = c.is_empty.ensures ∙ onto_done c.loop-next.invariant c.in_default.is
