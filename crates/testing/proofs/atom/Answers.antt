-- `atom` meets its contract, kind by kind.
use Rattle.testing.proofs.Conditions.{constant-atom, of-operand, variable-atom}
use Rattle.testing.proofs.atom.Goals as goal

pub returns-then-tag-eq-CONSTANT : goal.returns-then-tag-eq-CONSTANT
returns-then-tag-eq-CONSTANT c = λ w. constant-atom w _ _ c.if-tag-eq-CONSTANT.true c.word_of.ensures.0

pub variable_atom-requires : goal.variable_atom-requires
variable_atom-requires c =
    (of-operand c.requires _ c.if-tag-eq-CONSTANT.false c.number_at-v.ensures.0)

pub returns-else-tag-eq-CONSTANT : goal.returns-else-tag-eq-CONSTANT
returns-else-tag-eq-CONSTANT c = λ w. variable-atom w _ c.if-tag-eq-CONSTANT.false c.number_at-v.ensures.0 _ _ (c.variable_atom.ensures (of-operand w _ c.if-tag-eq-CONSTANT.false c.number_at-v.ensures.0))
