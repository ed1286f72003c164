-- `atom_of` meets its contract.
use Rattle.values.specs.Laws.{atom-constant, atom-variable}
use Rattle.values.proofs.atom_of.Goals as goal

pub returns-in-Constant : goal.returns-in-Constant
returns-in-Constant c = atom-constant _ _ _ c.in-Constant.is

pub returns-in-Variable : goal.returns-in-Variable
returns-in-Variable c = atom-variable _ _ _ _ c.in-Variable.is c.first_atom.ensures
