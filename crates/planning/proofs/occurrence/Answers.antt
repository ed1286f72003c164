use Rattle.std.proofs.Common.{refl, ◌∙◌, ap, Some}
use Rattle.parts.proofs.Loops.{starts, gives-field, gives-cut, gives-end}
use Rattle.planning.proofs.Variables.{seeking_start, seeking_done, seeking_cut, seeking_found, seeking_list, seeking_int, seeking_single}
use Rattle.planning.proofs.occurrence.Goals as goal
use Rattle.planning.proofs.occurrence.Goals.{in_default-variable_of-via-in-Some-2+else-takes_list, in_default-variable_of-via-in_default-variable_of}

pub loop-field-init : goal.loop-field-init
loop-field-init c = let s = starts c.into_iter-field-iterator.ensures.into_iter_gives c.of-field-items.ensures in (s.0, rw s.1 (seeking_start _ _ _))

pub returns-in_default : goal.returns-in_default
returns-in_default c = let s = gives-cut c.loop-field.invariant.0 c.in-Some.ensures.steps c.in_default.is in seeking_cut c.loop-field.invariant.1 s.0 s.1

pub slice_bounds-variable_of-count : goal.slice_bounds-variable_of-count
slice_bounds-variable_of-count c = (gives-field c.loop-field.invariant.0 c.in-Some.ensures.steps c.in-Ok.is).part.0

pub slice_bounds-variable_of-start : goal.slice_bounds-variable_of-start
slice_bounds-variable_of-start c = (gives-field c.loop-field.invariant.0 c.in-Some.ensures.steps c.in-Ok.is).part.0

pub slice_bounds-variable_of-end : goal.slice_bounds-variable_of-end
slice_bounds-variable_of-end c = (gives-field c.loop-field.invariant.0 c.in-Some.ensures.steps c.in-Ok.is).part.1

pub returns-in-Some-variable_of : goal.returns-in-Some-variable_of
returns-in-Some-variable_of c =
    let s = gives-field c.loop-field.invariant.0 c.in-Some.ensures.steps c.in-Ok.is in
    seeking_found c.loop-field.invariant.1 s.inside s.lies refl c.variable_of.ensures (c.in-Some-variable_of.is ∙ ap Some c.if-w-v.true)

pub loop-field-preserved-then-takes_list : goal.loop-field-preserved-then-takes_list
loop-field-preserved-then-takes_list c =
    let s = gives-field c.loop-field.invariant.0 c.in-Some.ensures.steps c.in-Ok.is in
    (s.same, rw s.place (seeking_list c.loop-field.invariant.1 s.inside s.lies refl c.variable_of.ensures c.in-Some-variable_of.is c.if-w-v.false c.if-takes_list.ensures))

pub loop-field-preserved : goal.loop-field-preserved
loop-field-preserved c =
    let s = gives-field c.loop-field.invariant.0 c.in-Some.ensures.steps c.in-Ok.is in (
      s.same,
      rw s.place
          (elim c.in_default-variable_of.branch [
            | in_default-variable_of-via-in-Some-2+else-takes_list w ↦ seeking_int c.loop-field.invariant.1 s.inside s.lies refl c.variable_of.ensures w.in-Some-variable_of.is w.if-w-v.false w.if-takes_list.ensures
            | in_default-variable_of-via-in_default-variable_of w ↦ seeking_single c.loop-field.invariant.1 s.inside s.lies refl c.variable_of.ensures w.in_default-variable_of.is
          ]),
    )

pub returns : goal.returns
returns c = seeking_done c.loop-field.invariant.1 (gives-end c.loop-field.invariant.0 c.in-None.ensures.steps)
