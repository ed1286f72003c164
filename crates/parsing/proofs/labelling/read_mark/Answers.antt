-- `read_mark` meets its contract.
use Rattle.text.specs.Grammar.{a_mark}
use Rattle.text.specs.Words.{hash}
use Rattle.parsing.specs.Laws.{optional-no}
use Rattle.parsing.proofs.Parts.{mark-there}
use Rattle.parsing.proofs.labelling.read_mark.Goals as goal

pub returns-in-Ok : goal.returns-in-Ok
returns-in-Ok c = mark-there _ c.in-Ok.ensures.0 _ c.read_mark_name.ensures

pub returns-in-Err : goal.returns-in-Err
returns-in-Err c = optional-no _ hash a_mark 0 c.in-Err.ensures
