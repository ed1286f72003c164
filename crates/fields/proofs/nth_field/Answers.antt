use Rattle.std.proofs.Common.{◌+◌, ◌-◌, ap, ◌∙◌, Some, arith}
use Rattle.fields.specs.Laws.{on-field, on-cut, on-end, on-none}
use Rattle.fields.proofs.nth_field.Goals as goal

pub returns-in_err-field : goal.returns-in_err-field
returns-in_err-field c =
    c.from_residual.ensures ∙ on-end (c.args.n - c.loop.counter) (c.args.n - (c.loop.counter + 1)) (omega arith) _ _ _ c.read_field.ensures c.in_err-field.was ∙ c.loop.invariant

pub returns-in_default : goal.returns-in_default
returns-in_default c =
    on-cut (c.args.n - c.loop.counter) (c.args.n - (c.loop.counter + 1)) (omega arith) _ _ _ c.read_field.ensures (c.in_ok-field.was ∙ ap Some c.in_default.is) ∙ c.loop.invariant

pub loop-preserved : goal.loop-preserved
loop-preserved c =
    on-field (c.args.n - c.loop.counter) (c.args.n - (c.loop.counter + 1)) (omega arith) _ _ _ c.read_field.ensures {g = c.in-Ok.field} (c.in_ok-field.was ∙ ap Some c.in-Ok.is) ∙ c.loop.invariant

pub returns : goal.returns
returns c = c.read_field-2.ensures ∙ on-none (c.args.n - c.loop.counter) _ _ (omega arith) ∙ c.loop.invariant
