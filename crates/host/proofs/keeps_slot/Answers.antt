-- `keeps_slot` meets its contract, clause by clause.
use Rattle.std.proofs.Common.{◌∙◌, arith, rules}
use Rattle.host.proofs.Keeps.{slot-free, slot-state, slot-size}
use Rattle.host.proofs.keeps_slot.Goals as goal

pub returns-in-0 : goal.returns-in-0
returns-in-0 c = c.zeros_from.ensures ∙ slot-free c.args.l _ c.args.b.now c.args.which (omega arith)

pub returns-in_default : goal.returns-in_default
returns-in_default c = slot-size c.args.l _ c.args.b.now c.args.which (λ e. omega (arith, e, c.state.ensures, c.in-1.is)) (omega arith)

pub returns-in_default-2 : goal.returns-in_default-2
returns-in_default-2 c = slot-state c.args.l _ c.args.b.now c.args.which (λ e. search rules) (λ e. search rules)
