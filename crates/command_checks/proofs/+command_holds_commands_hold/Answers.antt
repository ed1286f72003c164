-- The cycle of `command_holds` and `commands_hold` meets its contracts.
use Rattle.std.proofs.Common.{refl, ◌∙◌, sym, arith}
use Rattle.command_checks.proofs.Commanding.{break-at, call_at, no-depth, no_room, parting_cut, parting_done, parting_next, parting_start, parting_stop, parts_at, rule-set-at}
use Rattle.parts.proofs.Loops.{starts, gives-field, gives-cut, gives-end}
use Rattle.command_checks.proofs.+command_holds_commands_hold.Goals as goal

pub command_holds-returns-then-depth-eq0 : goal.command_holds-returns-then-depth-eq0
command_holds-returns-then-depth-eq0 t c = no-depth _ _ _ _ _ _ c.if-depth-eq0.true

pub command_holds-returns-then-not-has_room : goal.command_holds-returns-then-not-has_room
command_holds-returns-then-not-has_room t c = no_room _ _ _ _ _ (sym c.has_room.ensures ∙ c.if-not-has_room.true)

pub command_holds-returns-in-80 : goal.command_holds-returns-in-80
command_holds-returns-in-80 t c = rule-set-at _ _ _ _ _ _ c.if-depth-eq0.false (sym c.has_room.ensures ∙ c.if-not-has_room.false) c.rule_set_holds.ensures c.in-80.is

pub command_holds-returns-in-87 : goal.command_holds-returns-in-87
command_holds-returns-in-87 t c = break-at _ _ _ _ _ _ c.if-depth-eq0.false (sym c.has_room.ensures ∙ c.if-not-has_room.false) c.break_holds.ensures c.in-87.is

pub command_holds-returns-in-88 : goal.command_holds-returns-in-88
command_holds-returns-in-88 t c = call_at _ _ _ _ _ _ c.if-depth-eq0.false (sym c.has_room.ensures ∙ c.if-not-has_room.false) _ c.number_at.ensures.0 c.call_holds.ensures c.in-88.is

pub command_holds-commands_hold-requires : goal.command_holds-commands_hold-requires
command_holds-commands_hold-requires t c = (omega (arith, c.decreases), tt)

pub command_holds-returns-in_default : goal.command_holds-returns-in_default
command_holds-returns-in_default t c = parts_at _ _ _ _ _ _ c.if-depth-eq0.false (sym c.has_room.ensures ∙ c.if-not-has_room.false) _ c.inside-within.ensures _ c.of_first.ensures _ c.inner.ensures c.commands_hold.ensures (λ h. omega arith) (λ h. omega arith) (λ h. omega arith)

pub commands_hold-loop-field-init : goal.commands_hold-loop-field-init
commands_hold-loop-field-init t c =
    let s = starts c.into_iter-field-iterator.ensures.into_iter_gives c.of-field-items.ensures in
    (s.0, rw s.1 (parting_start _ _ _ _ _))

pub commands_hold-returns-in_default : goal.commands_hold-returns-in_default
commands_hold-returns-in_default t c =
    let s = gives-cut c.loop-field.invariant.0 c.in-Some.ensures.steps c.in_default.is in
    parting_cut c.loop-field.invariant.1 s.0 s.1

pub commands_hold-slice_bounds-command_holds-count : goal.commands_hold-slice_bounds-command_holds-count
commands_hold-slice_bounds-command_holds-count t c = (gives-field c.loop-field.invariant.0 c.in-Some.ensures.steps c.in-Ok.is).part.0

pub commands_hold-slice_bounds-command_holds-start : goal.commands_hold-slice_bounds-command_holds-start
commands_hold-slice_bounds-command_holds-start t c = (gives-field c.loop-field.invariant.0 c.in-Some.ensures.steps c.in-Ok.is).part.0

pub commands_hold-slice_bounds-command_holds-end : goal.commands_hold-slice_bounds-command_holds-end
commands_hold-slice_bounds-command_holds-end t c = (gives-field c.loop-field.invariant.0 c.in-Some.ensures.steps c.in-Ok.is).part.1

pub commands_hold-command_holds-requires : goal.commands_hold-command_holds-requires
commands_hold-command_holds-requires t c = (omega (arith, c.decreases), tt)

pub commands_hold-loop-field-preserved : goal.commands_hold-loop-field-preserved
commands_hold-loop-field-preserved t c =
    let s = gives-field c.loop-field.invariant.0 c.in-Some.ensures.steps c.in-Ok.is in
    (s.same, rw s.place (parting_next c.loop-field.invariant.1 s.inside s.lies refl c.command_holds.ensures c.if-not-command_holds.false))

pub commands_hold-returns-then-not-command_holds : goal.commands_hold-returns-then-not-command_holds
commands_hold-returns-then-not-command_holds t c =
    let s = gives-field c.loop-field.invariant.0 c.in-Some.ensures.steps c.in-Ok.is in
    parting_stop c.loop-field.invariant.1 s.inside s.lies refl c.command_holds.ensures c.if-not-command_holds.true

pub commands_hold-returns : goal.commands_hold-returns
commands_hold-returns t c = parting_done c.loop-field.invariant.1 (gives-end c.loop-field.invariant.0 c.in-None.ensures.steps)
