use Rattle.std.proofs.Common.{refl, false, true}
use Rattle.parts.proofs.Loops.{gives-field, gives-cut, gives-end}
use Rattle.parts.specs.Walked.{done, cut, stop, next}
use Rattle.parts.proofs.every_field.Goals as goal

pub returns-in_default : goal.returns-in_default
returns-in_default g c =
    let s = gives-cut c.loop-field.invariant.0 c.in-Some.ensures.steps c.in_default.is in
    c.loop-field.invariant.1 false (cut s.0 s.1)

pub slice_bounds-passes-count : goal.slice_bounds-passes-count
slice_bounds-passes-count g c = (gives-field c.loop-field.invariant.0 c.in-Some.ensures.steps c.in-Ok.is).part.0

pub slice_bounds-passes-start : goal.slice_bounds-passes-start
slice_bounds-passes-start g c = (gives-field c.loop-field.invariant.0 c.in-Some.ensures.steps c.in-Ok.is).part.0

pub slice_bounds-passes-end : goal.slice_bounds-passes-end
slice_bounds-passes-end g c = (gives-field c.loop-field.invariant.0 c.in-Some.ensures.steps c.in-Ok.is).part.1

pub returns-then-not-passes : goal.returns-then-not-passes
returns-then-not-passes g c =
    let s = gives-field c.loop-field.invariant.0 c.in-Some.ensures.steps c.in-Ok.is in
    c.loop-field.invariant.1 false (stop _ s.lies refl c.if-not-passes.ensures)

pub loop-field-preserved : goal.loop-field-preserved
loop-field-preserved g c =
    let s = gives-field c.loop-field.invariant.0 c.in-Some.ensures.steps c.in-Ok.is in
    (s.same, λ r a. c.loop-field.invariant.1 r (next _ s.lies refl c.if-not-passes.ensures (rw s.place at a)))

pub returns : goal.returns
returns g c = c.loop-field.invariant.1 true (done (gives-end c.loop-field.invariant.0 c.in-None.ensures.steps))
