-- `items::command` meets its contract, tag by tag.
use Rattle.std.proofs.Common.{refl, ◌-◌, ◌∙◌, arith}
use Rattle.meaning.specs.Image.{as_sequence, as_loop}
use Rattle.fields.specs.Image.{command-rule_set, command-sequence, command-loop, command-other}
use Rattle.image.proofs.Rows.{sequence-fits, loop-fits}
use Rattle.image.proofs.Insides.{failed, no-depth, as_is, a_plain, a_call, of_parts, guarded_unflagged, guarded-row}
use Rattle.image.proofs.items.command.Goals as goal

pub returns-then-depth-eq0 : goal.returns-then-depth-eq0
returns-then-depth-eq0 c = no-depth _ _ _ c.if-depth-eq0.true

pub returns-in-80 : goal.returns-in-80
returns-in-80 c = as_is _ _ _ c.if-depth-eq0.false _ (command-rule_set (c.args.depth - 1) c.args.tag c.args.p.now c.in-80.is) c.rule_set_ok.ensures

pub returns-in-81 : goal.returns-in-81
returns-in-81 c = of_parts _ _ _ c.if-depth-eq0.false _ as_sequence refl (command-sequence (c.args.depth - 1) c.args.tag c.args.p.now c.in-81.is) (sequence-fits _ _)

pub returns-in-89 : goal.returns-in-89
returns-in-89 c = guarded-row _ _ _ c.if-depth-eq0.false c.in-89.is c.flagged.ensures c.if-flagged.true

pub returns-in-84 : goal.returns-in-84
returns-in-84 c = of_parts _ _ _ c.if-depth-eq0.false _ as_loop refl (command-loop (c.args.depth - 1) c.args.tag c.args.p.now c.in-84.is) (loop-fits _ _)

pub returns-in-85 : goal.returns-in-85
returns-in-85 c = c.is_empty.ensures ∙ a_plain _ _ _ c.if-depth-eq0.false (omega arith) (omega arith)

pub returns-in-88 : goal.returns-in-88
returns-in-88 c = a_call _ _ _ c.if-depth-eq0.false c.in-88.is

pub returns-in_default : goal.returns-in_default
returns-in_default c = guarded_unflagged _ _ _ c.if-depth-eq0.false c.in-89.is c.flagged.ensures c.if-flagged.false

pub returns-in_default-2 : goal.returns-in_default-2
returns-in_default-2 c = as_is _ _ _ c.if-depth-eq0.false _ (command-other (c.args.depth - 1) c.args.tag c.args.p.now (λ h. omega arith) (λ h. omega arith) (λ h. omega arith) (λ h. omega arith) (λ h. omega arith) (λ h. omega arith) (λ h. omega arith) (λ h. omega arith)) (failed _ refl)

pub returns-in_default-3 : goal.returns-in_default-3
returns-in_default-3 c = as_is _ _ _ c.if-depth-eq0.false _ (command-other (c.args.depth - 1) c.args.tag c.args.p.now (λ h. omega arith) (λ h. omega arith) (λ h. omega arith) (λ h. omega arith) (λ h. omega arith) (λ h. omega arith) (λ h. omega arith) (λ h. omega arith)) (failed _ refl)
