use Rattle.std.proofs.Common.{refl}
use Rattle.parts.specs.Images.{seeking_cut, seeking_done, seeking_found, seeking_other, seeking_rule, seeking_start}
use Rattle.parts.proofs.Loops.{starts, gives-field, gives-cut, gives-end}
use Rattle.parts.proofs.procedure_part.Goals as goal

pub loop-field-init : goal.loop-field-init
loop-field-init c =
    let s = starts c.into_iter-field-iterator.ensures.into_iter_gives c.of-field-items.ensures in
    (s.0, rw s.1 (seeking_start _ _))

pub returns-in_default : goal.returns-in_default
returns-in_default c =
    let s = gives-cut c.loop-field.invariant.0 c.in-Some.ensures.steps c.in_default.is in
    seeking_cut c.loop-field.invariant.1 _ s.0 s.1

pub slice_bounds-result-count : goal.slice_bounds-result-count
slice_bounds-result-count c = (gives-field c.loop-field.invariant.0 c.in-Some.ensures.steps c.in-Ok.is).part.0

pub slice_bounds-result-start : goal.slice_bounds-result-start
slice_bounds-result-start c = (gives-field c.loop-field.invariant.0 c.in-Some.ensures.steps c.in-Ok.is).part.0

pub slice_bounds-result-end-then-left-eq0 : goal.slice_bounds-result-end-then-left-eq0
slice_bounds-result-end-then-left-eq0 c = (gives-field c.loop-field.invariant.0 c.in-Some.ensures.steps c.in-Ok.is).part.1

pub returns-then-left-eq0 : goal.returns-then-left-eq0
returns-then-left-eq0 c =
    let s = gives-field c.loop-field.invariant.0 c.in-Some.ensures.steps c.in-Ok.is in
    seeking_found c.loop-field.invariant.1 s.inside s.lies c.if-tag-ne-RULE.true refl c.if-left-eq0.true

pub loop-field-preserved-then-tag-ne-RULE : goal.loop-field-preserved-then-tag-ne-RULE
loop-field-preserved-then-tag-ne-RULE c =
    let s = gives-field c.loop-field.invariant.0 c.in-Some.ensures.steps c.in-Ok.is in
    (s.same, rw s.place (seeking_other c.loop-field.invariant.1 s.inside s.lies c.if-tag-ne-RULE.true c.if-left-eq0.false))

pub loop-field-preserved : goal.loop-field-preserved
loop-field-preserved c =
    let s = gives-field c.loop-field.invariant.0 c.in-Some.ensures.steps c.in-Ok.is in
    (s.same, rw s.place (seeking_rule c.loop-field.invariant.1 s.inside s.lies c.if-tag-ne-RULE.false))

pub returns : goal.returns
returns c = seeking_done c.loop-field.invariant.1 _ (gives-end c.loop-field.invariant.0 c.in-None.ensures.steps)
