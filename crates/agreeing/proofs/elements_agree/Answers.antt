use Rattle.std.proofs.Common.{refl, arith}
use Rattle.parts.proofs.Loops.{starts, gives-field, gives-cut, gives-end}
use Rattle.agreeing.proofs.Agreeing.{comparing_start, comparing_there, comparing_element, comparing_fails, comparing_next, comparing_end}
use Rattle.agreeing.proofs.elements_agree.Goals as goal

pub loop-field-init : goal.loop-field-init
loop-field-init c = let s = starts c.into_iter-field-iterator.ensures.into_iter_gives c.of-field-items.ensures in (s.0, omega arith, λ w. rw s.1 (comparing_start w _))

pub returns-in_default : goal.returns-in_default
returns-in_default c = λ w.
    let s = gives-cut c.loop-field.invariant.0 c.in-Some.ensures.steps c.in_default.is in
    absurd (comparing_there (c.loop-field.invariant.2 w) s.0 s.1)

pub slice_bounds-part-count : goal.slice_bounds-part-count
slice_bounds-part-count c = (gives-field c.loop-field.invariant.0 c.in-Some.ensures.steps c.in-Ok.is).part.0

pub slice_bounds-part-start : goal.slice_bounds-part-start
slice_bounds-part-start c = (gives-field c.loop-field.invariant.0 c.in-Some.ensures.steps c.in-Ok.is).part.0

pub slice_bounds-part-end : goal.slice_bounds-part-end
slice_bounds-part-end c = (gives-field c.loop-field.invariant.0 c.in-Some.ensures.steps c.in-Ok.is).part.1

pub element_agrees-requires : goal.element_agrees-requires
element_agrees-requires c =
    let s = gives-field c.loop-field.invariant.0 c.in-Some.ensures.steps c.in-Ok.is in
    record {
      has_element = comparing_element (c.loop-field.invariant.2 c.requires) s.inside s.lies refl;
      from_in_bounds = c.loop-field.invariant.1;
    }

pub loop-field-preserved : goal.loop-field-preserved
loop-field-preserved c =
    let s = gives-field c.loop-field.invariant.0 c.in-Some.ensures.steps c.in-Ok.is in (
      s.same,
      (c.in-Some-element_agrees.ensures (comparing_element (c.loop-field.invariant.2 c.requires) s.inside s.lies refl)).1,
      λ w.
          let t = c.loop-field.invariant.2 w in
          rw s.place (comparing_next t s.inside s.lies refl (c.in-Some-element_agrees.ensures (comparing_element t s.inside s.lies refl))),
    )

pub returns-in_default-element_agrees : goal.returns-in_default-element_agrees
returns-in_default-element_agrees c = λ w.
    let s = gives-field c.loop-field.invariant.0 c.in-Some.ensures.steps c.in-Ok.is in
    let t = c.loop-field.invariant.2 w in
    comparing_fails t s.inside s.lies refl (c.in_default-element_agrees.ensures (comparing_element t s.inside s.lies refl))

pub returns : goal.returns
returns c = λ w. rw c.count.ensures (comparing_end (c.loop-field.invariant.2 w) (gives-end c.loop-field.invariant.0 c.in-None.ensures.steps) c.loop-field.invariant.1)
