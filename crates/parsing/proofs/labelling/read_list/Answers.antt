-- `read_list` meets its contract.
use Rattle.std.proofs.Common.{[]}
use Rattle.writing.specs.Words.{letters}
use Rattle.parsing.proofs.Atoms.{gathers-none}
use Rattle.parsing.proofs.Parts.{list-empty, integers-there}
use Rattle.parsing.proofs.labelling.read_list.Goals as goal

pub returns-in-Ok : goal.returns-in-Ok
unfolding letters
returns-in-Ok c = ([], list-empty _ c.in-Ok.ensures.0, gathers-none c.none.ensures)

pub returns-in-Err : goal.returns-in-Err
unfolding letters
returns-in-Err c = integers-there _ c.in-Err.ensures _ c.read_integers.ensures
