-- `element_value` meets its contract, by the kind of the element.
use Rattle.std.proofs.Common.{Some, None, refl}
use Rattle.values.specs.Laws.{kept_label, word_value, outside-value, element-constant, element-variable, element-sum, element-difference}
use Rattle.values.proofs.element_value.Goals as goal

pub returns-in-Constant : goal.returns-in-Constant
returns-in-Constant c = (kept_label _ _ c.one.ensures, element-constant _ _ _ _ c.in-Constant.is c.one.ensures)

pub returns-in-Variable : goal.returns-in-Variable
returns-in-Variable c = (kept_label _ _ c.value_of.ensures, element-variable _ _ _ _ c.in-Variable.is c.value_of.ensures)

pub returns-in_err-sum-in-Sum : goal.returns-in_err-sum-in-Sum
returns-in_err-sum-in-Sum c =
    rw c.from_residual.ensures
    (tt, element-sum _ _ _ _ _ _ None _ c.atom_of.ensures c.atom_of-in-Sum.ensures (outside-value None refl) c.in-Sum.is c.in_err-sum-in-Sum.ensures)

pub returns-in_ok-sum-in-Sum : goal.returns-in_ok-sum-in-Sum
returns-in_ok-sum-in-Sum c = (
  kept_label _ _ c.one-in-Sum.ensures,
  element-sum _ _ _ _ _ _ (Some c.in_ok-sum-in-Sum.field-0) _ c.atom_of.ensures c.atom_of-in-Sum.ensures
      (word_value _ _ _ refl c.one-in-Sum.ensures) c.in-Sum.is c.in_ok-sum-in-Sum.ensures,
)

pub returns-in_err-difference-in-Difference : goal.returns-in_err-difference-in-Difference
returns-in_err-difference-in-Difference c =
    let d = c.in_err-difference-in-Difference in
    rw c.from_residual-in_err-difference-in-Difference.ensures
    (tt, element-difference _ _ _ _ _ _ None _ c.atom_of-in-Difference.ensures c.atom_of-in-Difference-2.ensures (outside-value None refl) c.in-Difference.is d.ensures)

pub returns-in_ok-difference-in-Difference : goal.returns-in_ok-difference-in-Difference
returns-in_ok-difference-in-Difference c = (
  kept_label _ _ c.one-in-Difference.ensures,
  element-difference _ _ _ _ _ _ (Some c.in_ok-difference-in-Difference.field-0) _ c.atom_of-in-Difference.ensures c.atom_of-in-Difference-2.ensures
      (word_value _ _ _ refl c.one-in-Difference.ensures) c.in-Difference.is c.in_ok-difference-in-Difference.ensures,
)
