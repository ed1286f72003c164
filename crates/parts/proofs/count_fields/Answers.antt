use Rattle.parts.specs.Rows.{numbering_cut, numbering_done, numbering_next, numbering_start}
use Rattle.parts.proofs.Loops.{starts, gives-field, gives-cut, gives-end}
use Rattle.parts.proofs.count_fields.Goals as goal

pub loop-field-init : goal.loop-field-init
loop-field-init c =
    let s = starts c.into_iter-field-iterator.ensures.into_iter_gives c.of-field-items.ensures in
    (s.0, rw s.1 (numbering_start _))

pub returns-in_default-clause-by_index : goal.returns-in_default-clause-by_index
returns-in_default-clause-by_index c =
    let s = gives-cut c.loop-field.invariant.0 c.in-Some.ensures.steps c.in_default.is in
    numbering_cut c.loop-field.invariant.1 s.0 s.1

pub loop-field-preserved : goal.loop-field-preserved
loop-field-preserved c =
    let s = gives-field c.loop-field.invariant.0 c.in-Some.ensures.steps c.in-Ok.is in
    (s.same, rw s.place (numbering_next c.loop-field.invariant.1 s.inside s.lies))

pub returns-clause-by_index : goal.returns-clause-by_index
returns-clause-by_index c = numbering_done c.loop-field.invariant.1 (gives-end c.loop-field.invariant.0 c.in-None.ensures.steps)
