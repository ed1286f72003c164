-- `sort_of` meets its contract: a label whose first element ends where its bytes end is that element alone.
use Rattle.std.proofs.Common.{◌∙◌, ap, inl, inr, [], ◌∷◌}
use Rattle.meaning.specs.declared.Element.{Element}
use Rattle.parts.specs.Walks.{spells_label}
use Rattle.planning.proofs.Labelling.{only_one}
use Rattle.planning.proofs.sort_of.Goals as goal

pub returns-in_default : goal.returns-in_default
returns-in_default c = λ l q. inl (c.in_default.ensures l (spells_label _ l q))

pub returns-in-Variable : goal.returns-in-Variable
returns-in-Variable c = λ l q. inr (record { variable = c.in-Variable.v; is = only_one c.in-Some.ensures c.if-end-p.false l q ∙ ap (λ (d : Element). d ∷ []) c.in-Variable.is; there = c.if-v-types.true; first = c.if-plan-v.true })

pub returns-in-Constant : goal.returns-in-Constant
returns-in-Constant c = λ l q. only_one c.in-Some.ensures c.if-end-p.false l q ∙ ap (λ (d : Element). d ∷ []) c.in-Constant.is
