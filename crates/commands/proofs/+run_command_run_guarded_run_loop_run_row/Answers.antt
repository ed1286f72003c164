use Rattle.std.proofs.Common.{refl, sym, ◌∙◌, arith, rules}
use Rattle.fields.proofs.Finding.{starts, gives-field, gives-cut, gives-end}
use Rattle.ends.specs.declared.Kind.TheVariants.{InRow, Guarded, Loop, Leaf}
use Rattle.commands.proofs.Parts.{row_in, guarded-of, loop-of, nth-known}
use Rattle.commands.proofs.Turns.{is_kind, which-less, mark-below, fuel-less, out-of-fuel, begun-spent, spent-below, paid-row, paid-guarded, paid-loop, paid-leaf, row-whole, row-start, row-over, row_cut, here-known, row_next, row-stop, guarded-stop, fuel-settled, begun-settled, guarded-go, loop-start, loop-over, loop-next, loop-stop}
use Rattle.commands.proofs.+run_command_run_guarded_run_loop_run_row.Goals as goal

pub run_command-run_nested_set-requires : goal.run_command-run_nested_set-requires
run_command-run_nested_set-requires t c = record {
  begun = c.requires.begun;
  known = rw c.if-tag-eq-RULE_SET.true at c.requires.known;
}

pub run_command-returns-then-tag-eq-RULE_SET : goal.run_command-returns-then-tag-eq-RULE_SET
run_command-returns-then-tag-eq-RULE_SET t c = rw (sym c.if-tag-eq-RULE_SET.true) at c.run_nested_set.ensures

pub run_command-returns-then-t-eq0 : goal.run_command-returns-then-t-eq0
run_command-returns-then-t-eq0 t c = out-of-fuel _ c.if-t-eq0.true c.requires.begun

pub run_command-entered-spent-requires : goal.run_command-entered-spent-requires
run_command-entered-spent-requires t c = let h = c.if-t-eq0.false in (omega arith, omega (arith, c.requires.begun.sum))

pub run_command-run_row-requires : goal.run_command-run_row-requires
run_command-run_row-requires t c = (omega (arith, c.decreases, spent-below _ c.entered-spent.ensures c.if-t-eq0.false), (begun-spent _ c.entered-spent.ensures c.if-t-eq0.false c.requires.begun, (c.requires.known, (is_kind c.requires.known c.if-tag-eq-RULE_SET.false c.kind_of.ensures InRow c.in-InRow.is))))

pub run_command-run_guarded-requires : goal.run_command-run_guarded-requires
run_command-run_guarded-requires t c =
    let k = is_kind c.requires.known c.if-tag-eq-RULE_SET.false c.kind_of.ensures (Guarded _) c.in-Guarded.is in
    (omega (arith, c.decreases, spent-below _ c.entered-spent.ensures c.if-t-eq0.false), (begun-spent _ c.entered-spent.ensures c.if-t-eq0.false c.requires.begun, guarded-of c.requires.known k.0 k.1 c.behind.ensures))

pub run_command-run_loop-requires : goal.run_command-run_loop-requires
run_command-run_loop-requires t c = (omega (arith, c.decreases, spent-below _ c.entered-spent.ensures c.if-t-eq0.false), (begun-spent _ c.entered-spent.ensures c.if-t-eq0.false c.requires.begun, loop-of c.requires.known (is_kind c.requires.known c.if-tag-eq-RULE_SET.false c.kind_of.ensures Loop c.in-Loop.is)))

pub run_command-returns-in-InRow : goal.run_command-returns-in-InRow
run_command-returns-in-InRow t c = paid-row _ c.entered-spent.ensures c.if-t-eq0.false c.run_row.ensures

pub run_command-returns-in-Guarded : goal.run_command-returns-in-Guarded
run_command-returns-in-Guarded t c =
    paid-guarded _ c.entered-spent.ensures c.if-t-eq0.false (is_kind c.requires.known c.if-tag-eq-RULE_SET.false c.kind_of.ensures (Guarded _) c.in-Guarded.is) c.behind.ensures c.run_guarded.ensures

pub run_command-returns-in-Loop : goal.run_command-returns-in-Loop
run_command-returns-in-Loop t c = paid-loop _ c.entered-spent.ensures c.if-t-eq0.false (is_kind c.requires.known c.if-tag-eq-RULE_SET.false c.kind_of.ensures Loop c.in-Loop.is) c.run_loop.ensures

pub run_command-returns-in-Leaf : goal.run_command-returns-in-Leaf
run_command-returns-in-Leaf t c = paid-leaf _ c.entered-spent.ensures c.if-t-eq0.false _ (is_kind c.requires.known c.if-tag-eq-RULE_SET.false c.kind_of.ensures (Leaf _) c.in-Leaf.is) c.requires.begun

pub run_guarded-run_command-ran-requires : goal.run_guarded-run_command-ran-requires
run_guarded-run_command-ran-requires t c = (omega (arith, c.decreases), (c.requires.begun, nth-known c.requires.row 0 (omega arith) c.nth_tag.ensures c.nth_part-guard.ensures))

pub run_guarded-returns-in_default : goal.run_guarded-returns-in_default
run_guarded-returns-in_default t c = guarded-stop _ c.nth_tag.ensures c.nth_part-guard.ensures c.run_command-ran.ensures _ (sym c.part_after.ensures ∙ c.in_default.is)

pub run_guarded-settle-after-requires : goal.run_guarded-settle-after-requires
run_guarded-settle-after-requires t c = record {
  running = c.run_command-ran.ensures.running;
  mark_le_records = mark-below _ (nth-known c.requires.row 0 (omega arith) c.nth_tag.ensures c.nth_part-guard.ensures) c.requires.begun c.run_command-ran.ensures;
}

pub run_guarded-run_command-requires : goal.run_guarded-run_command-requires
run_guarded-run_command-requires t c = (omega (arith, c.decreases, fuel-settled _ c.nth_tag.ensures c.nth_part-guard.ensures c.run_command-ran.ensures _ c.requires.row c.requires.begun c.settle-after.ensures), (begun-settled _ c.nth_tag.ensures c.nth_part-guard.ensures c.run_command-ran.ensures _ c.requires.row c.requires.begun c.settle-after.ensures, nth-known c.requires.row _ (which-less _ (sym c.part_after.ensures ∙ c.in-Some.is)) c.nth_tag-tag.ensures c.nth_part-part.ensures))

pub run_guarded-shape_of-nodes : goal.run_guarded-shape_of-nodes
run_guarded-shape_of-nodes t c = let x = c.run_command-ran.auto in let y = c.settle-after.auto in search rules

pub run_guarded-shape_of-edges : goal.run_guarded-shape_of-edges
run_guarded-shape_of-edges t c = let x = c.run_command-ran.auto in let y = c.settle-after.auto in search rules

pub run_guarded-shape_of-journal : goal.run_guarded-shape_of-journal
run_guarded-shape_of-journal t c = let x = c.run_command-ran.auto in let y = c.settle-after.auto in search rules

pub run_guarded-returns : goal.run_guarded-returns
run_guarded-returns t c = let x = c.run_command-ran.auto in let y = c.settle-after.auto in guarded-go _ c.nth_tag.ensures c.nth_part-guard.ensures c.run_command-ran.ensures _ c.requires.row c.requires.begun c.settle-after.ensures (sym c.part_after.ensures ∙ c.in-Some.is) c.nth_tag-tag.ensures c.nth_part-part.ensures (search rules) c.run_command.ensures

pub run_loop-loop-now_t-init : goal.run_loop-loop-now_t-init
run_loop-loop-now_t-init t c = loop-start _ c.requires.begun

pub run_loop-run_command-ran-requires : goal.run_loop-run_command-ran-requires
run_loop-run_command-ran-requires t c = (omega (arith, c.decreases, c.loop-now_t.invariant.fuel), (c.loop-now_t.invariant.begun, nth-known c.requires.row 0 (omega arith) c.nth_tag-tag.ensures c.nth_part-body.ensures))

pub run_loop-loop-now_t-smaller : goal.run_loop-loop-now_t-smaller
run_loop-loop-now_t-smaller t c = fuel-less _ (nth-known c.requires.row 0 (omega arith) c.nth_tag-tag.ensures c.nth_part-body.ensures) c.loop-now_t.invariant.begun c.run_command-ran.ensures c.loop-now_t-test.true

pub run_loop-loop-now_t-preserved : goal.run_loop-loop-now_t-preserved
run_loop-loop-now_t-preserved t c = loop-next _ c.loop-now_t.invariant c.loop-now_t-test.true c.nth_tag-tag.ensures c.nth_part-body.ensures c.run_command-ran.ensures c.requires.row (sym c.goes_on.ensures ∙ c.if-goes_on.true) (search rules)

pub run_loop-shape_of-nodes-else-goes_on : goal.run_loop-shape_of-nodes-else-goes_on
run_loop-shape_of-nodes-else-goes_on t c = let x = c.run_command-ran.auto in let y = c.loop-now_t.invariant in search rules

pub run_loop-shape_of-edges-else-goes_on : goal.run_loop-shape_of-edges-else-goes_on
run_loop-shape_of-edges-else-goes_on t c = let x = c.run_command-ran.auto in let y = c.loop-now_t.invariant in search rules

pub run_loop-shape_of-journal-else-goes_on : goal.run_loop-shape_of-journal-else-goes_on
run_loop-shape_of-journal-else-goes_on t c = let x = c.run_command-ran.auto in let y = c.loop-now_t.invariant in search rules

pub run_loop-close-requires : goal.run_loop-close-requires
run_loop-close-requires t c = record {
  running = c.run_command-ran.ensures.running;
  mark_le_records = mark-below _ (nth-known c.requires.row 0 (omega arith) c.nth_tag-tag.ensures c.nth_part-body.ensures) c.loop-now_t.invariant.begun c.run_command-ran.ensures;
}

pub run_loop-returns-else-goes_on : goal.run_loop-returns-else-goes_on
run_loop-returns-else-goes_on t c = loop-stop _ c.loop-now_t.invariant c.loop-now_t-test.true c.nth_tag-tag.ensures c.nth_part-body.ensures c.run_command-ran.ensures c.requires.row (sym c.goes_on.ensures ∙ c.if-goes_on.false) c.close.ensures

pub run_loop-returns : goal.run_loop-returns
run_loop-returns t c = loop-over _ c.loop-now_t.invariant c.loop-now_t-test.false

pub run_row-loop-field-init : goal.run_row-loop-field-init
run_row-loop-field-init t c =
    let s = starts c.into_iter-field-iterator.ensures.into_iter_gives c.of-field-items.ensures in
    (s.0, rw s.1 (row-start _ c.requires.begun))

pub run_row-returns-in_default : goal.run_row-returns-in_default
run_row-returns-in_default t c =
    let s = gives-cut c.loop-field.invariant.0 c.in-Some.ensures.steps c.in_default.is in
    absurd (row_cut _ c.loop-field.invariant.1 (row_in c.requires.known.0 c.requires.known.1 c.row_in-row.ensures).row s.0 s.1)

pub run_row-slice_bounds-part-count : goal.run_row-slice_bounds-part-count
run_row-slice_bounds-part-count t c = (gives-field c.loop-field.invariant.0 c.in-Some.ensures.steps c.in-Ok.is).part.0

pub run_row-slice_bounds-part-start : goal.run_row-slice_bounds-part-start
run_row-slice_bounds-part-start t c = (gives-field c.loop-field.invariant.0 c.in-Some.ensures.steps c.in-Ok.is).part.0

pub run_row-slice_bounds-part-end : goal.run_row-slice_bounds-part-end
run_row-slice_bounds-part-end t c = (gives-field c.loop-field.invariant.0 c.in-Some.ensures.steps c.in-Ok.is).part.1

pub run_row-run_command-ran-requires : goal.run_row-run_command-ran-requires
run_row-run_command-ran-requires t c =
    let g = c.loop-field.invariant.1 in
    let s = gives-field c.loop-field.invariant.0 c.in-Some.ensures.steps c.in-Ok.is in
    (omega (arith, c.decreases, g.fuel), (g.begun, here-known _ g s.inside s.lies refl (row_in c.requires.known.0 c.requires.known.1 c.row_in-row.ensures).row))

pub run_row-loop-field-preserved : goal.run_row-loop-field-preserved
run_row-loop-field-preserved t c =
    let g = c.loop-field.invariant.1 in
    let s = gives-field c.loop-field.invariant.0 c.in-Some.ensures.steps c.in-Ok.is in
    (s.same, rw s.place (row_next _ g s.inside s.lies refl c.run_command-ran.ensures (row_in c.requires.known.0 c.requires.known.1 c.row_in-row.ensures).row (sym c.goes_on.ensures ∙ c.if-not-goes_on.false) (search rules)))

pub run_row-returns-then-not-goes_on : goal.run_row-returns-then-not-goes_on
run_row-returns-then-not-goes_on t c =
    let s = gives-field c.loop-field.invariant.0 c.in-Some.ensures.steps c.in-Ok.is in
    row-whole _ c.requires.known.1 c.row_in-row.ensures (row-stop _ c.loop-field.invariant.1 s.inside s.lies refl c.run_command-ran.ensures (sym c.goes_on.ensures ∙ c.if-not-goes_on.true))

pub run_row-returns : goal.run_row-returns
run_row-returns t c =
    row-whole _ c.requires.known.1 c.row_in-row.ensures (row-over _ c.loop-field.invariant.1 (gives-end c.loop-field.invariant.0 c.in-None.ensures.steps))
