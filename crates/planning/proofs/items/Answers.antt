use Rattle.std.proofs.Common.{◌+◌, ◌<◌, ◌≤◌, refl, arith, length}
use Rattle.meaning.specs.Image.{most_items}
use Rattle.parts.proofs.Loops.{starts, gives-field, gives-cut, gives-end}
use Rattle.planning.proofs.Filling.{filling-start, filling-cut, filling-done, filling-node, filling-edge, next_low, next_fits}
use Rattle.planning.proofs.items.Goals as goal
use Rattle.planning.proofs.items.Goals.{In-Ok}

low : (c : In-Ok) → c.loop-field.j < most_items
low c =
    let s = gives-field c.loop-field.invariant.0 c.in-Some.ensures.steps c.in-Ok.is in
    next_low refl c.requires.has_graph.placed (c.loop-field.invariant.1 _ c.requires.has_graph.placed) s.inside s.lies

fits : (c : In-Ok) → (c.args.start + c.in-Ok.item.end ≤ length c.args.rule.now) × (c.in-Ok.item.start ≤ c.in-Ok.item.end)
fits c =
    let s = gives-field c.loop-field.invariant.0 c.in-Some.ensures.steps c.in-Ok.is in
    (next_fits refl c.requires.has_graph.placed (c.loop-field.invariant.1 _ c.requires.has_graph.placed) s.inside s.lies, s.part.0)

pub loop-field-init : goal.loop-field-init
loop-field-init c = let s = starts c.into_iter-field-iterator.ensures.into_iter_gives c.of-field-items.ensures in (s.0, λ g l. rw s.1 (filling-start refl l _ c.requires.plan_len))

pub returns-in_default : goal.returns-in_default
returns-in_default c = λ g l.
    let s = gives-cut c.loop-field.invariant.0 c.in-Some.ensures.steps c.in_default.is in
    absurd (filling-cut refl l (c.loop-field.invariant.1 g l) s.0 s.1)

pub overflow_add-plan : goal.overflow_add-plan
overflow_add-plan c = let h = fits (goal.at.overflow_add-plan c).In-Ok in omega arith

pub overflow_add-plan-in-loop-field : goal.overflow_add-plan-in-loop-field
overflow_add-plan-in-loop-field c = let h = low (goal.at.overflow_add-plan-in-loop-field c).In-Ok in omega arith

pub offset_bounds-plan-j : goal.offset_bounds-plan-j
offset_bounds-plan-j c = let h = low (goal.at.offset_bounds-plan-j c).In-Ok in omega arith

pub bounds-plan-j : goal.bounds-plan-j
bounds-plan-j c = let h = low (goal.at.bounds-plan-j c).In-Ok in omega arith

pub overflow_add-plan-in-loop-field-2 : goal.overflow_add-plan-in-loop-field-2
overflow_add-plan-in-loop-field-2 c = let h = fits (goal.at.overflow_add-plan-in-loop-field-2 c).In-Ok in omega arith

pub overflow_add-plan-in-loop-field-3 : goal.overflow_add-plan-in-loop-field-3
overflow_add-plan-in-loop-field-3 c = let h = low (goal.at.overflow_add-plan-in-loop-field-3 c).In-Ok in omega arith

pub offset_bounds-plan-j-in-loop-field : goal.offset_bounds-plan-j-in-loop-field
offset_bounds-plan-j-in-loop-field c = let h = low (goal.at.offset_bounds-plan-j-in-loop-field c).In-Ok in omega arith

pub bounds-plan-j-in-loop-field : goal.bounds-plan-j-in-loop-field
bounds-plan-j-in-loop-field c = let h = low (goal.at.bounds-plan-j-in-loop-field c).In-Ok in omega arith

pub overflow_add-j : goal.overflow_add-j
overflow_add-j c = let h = low (goal.at.overflow_add-j c).In-Ok in omega arith

pub overflow_add-nodes : goal.overflow_add-nodes
overflow_add-nodes c = let h = low (goal.at.overflow_add-nodes c).In-Ok in omega (arith, (c.loop-field.invariant.1 _ c.requires.has_graph.placed).counted)

pub loop-field-preserved-then-item-eq-NODE : goal.loop-field-preserved-then-item-eq-NODE
loop-field-preserved-then-item-eq-NODE c =
    let s = gives-field c.loop-field.invariant.0 c.in-Some.ensures.steps c.in-Ok.is in
    (s.same, λ g l. rw s.place (filling-node refl l (c.loop-field.invariant.1 g l) s.inside s.lies c.if-item-eq-NODE.true))

pub loop-field-preserved : goal.loop-field-preserved
loop-field-preserved c =
    let s = gives-field c.loop-field.invariant.0 c.in-Some.ensures.steps c.in-Ok.is in
    (s.same, λ g l. rw s.place (filling-edge refl l (c.loop-field.invariant.1 g l) s.inside s.lies c.if-item-eq-NODE.false))

pub overflow_sub-plan : goal.overflow_sub-plan
overflow_sub-plan c = omega (arith, (c.loop-field.invariant.1 _ c.requires.has_graph.placed).counted)

pub returns : goal.returns
returns c = λ g l. filling-done refl l (c.loop-field.invariant.1 g l) (gives-end c.loop-field.invariant.0 c.in-None.ensures.steps)
