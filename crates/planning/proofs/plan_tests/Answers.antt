use Rattle.std.proofs.Common.{◌<◌, refl}
use Rattle.parts.proofs.Loops.{starts, gives-field, gives-cut, gives-end}
use Rattle.planning.proofs.Deciding.{deciding_start, deciding_cut, deciding_done, deciding_next, next_low, next-decides}
use Rattle.planning.proofs.plan_tests.Goals as goal
use Rattle.planning.proofs.plan_tests.Goals.{After-decided}

low : (c : After-decided) → c.loop-field.t < 4
low c =
    let s = gives-field c.loop-field.invariant.0 c.in-Some.ensures.steps c.in-Ok.is in
    next_low (c.loop-field.invariant.1 _ c.requires.labelled) s.inside s.lies refl c.read_test-test.ensures

pub loop-field-init : goal.loop-field-init
loop-field-init c = let s = starts c.into_iter-field-iterator.ensures.into_iter_gives c.of-field-items.ensures in (s.0, λ r w. rw s.1 (deciding_start w (c.tests-tests.ensures r w.named.laid)))

pub returns-in_default : goal.returns-in_default
returns-in_default c = λ r w.
    let s = gives-cut c.loop-field.invariant.0 c.in-Some.ensures.steps c.in_default.is in
    absurd (deciding_cut (c.loop-field.invariant.1 r w) s.0 s.1)

pub slice_bounds-read_test-count : goal.slice_bounds-read_test-count
slice_bounds-read_test-count c = (gives-field c.loop-field.invariant.0 c.in-Some.ensures.steps c.in-Ok.is).part.0

pub slice_bounds-read_test-start : goal.slice_bounds-read_test-start
slice_bounds-read_test-start c = (gives-field c.loop-field.invariant.0 c.in-Some.ensures.steps c.in-Ok.is).part.0

pub slice_bounds-read_test-end : goal.slice_bounds-read_test-end
slice_bounds-read_test-end c = (gives-field c.loop-field.invariant.0 c.in-Some.ensures.steps c.in-Ok.is).part.1

pub decided-requires : goal.decided-requires
decided-requires c =
    let s = gives-field c.loop-field.invariant.0 c.in-Some.ensures.steps c.in-Ok.is in
    next-decides (c.loop-field.invariant.1 _ c.requires.labelled) s.inside s.lies refl c.read_test-test.ensures

pub loop-field-preserved : goal.loop-field-preserved
loop-field-preserved c =
    let s = gives-field c.loop-field.invariant.0 c.in-Some.ensures.steps c.in-Ok.is in
    (s.same, λ r w. rw s.place (deciding_next (c.loop-field.invariant.1 r w) s.inside s.lies refl c.read_test-test.ensures c.decided.ensures))

pub returns : goal.returns
returns c = λ r w. deciding_done (c.loop-field.invariant.1 r w) (gives-end c.loop-field.invariant.0 c.in-None.ensures.steps)
