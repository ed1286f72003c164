-- `read_root` meets its contract.
use Rattle.std.proofs.lemmas.Result.{err_from_is_err_and}
use Rattle.writing.specs.Words.{letters}
use Rattle.text.specs.Grammar.{a_root}
use Rattle.text.specs.Words.{left}
use Rattle.parsing.specs.Laws.{optional-yes, optional-no}
use Rattle.parsing.proofs.Parts.{root-read, root-breaks, right-breaks}
use Rattle.parsing.proofs.labelling.read_root.Goals as goal

pub returns-in_err-word : goal.returns-in_err-word
unfolding letters
returns-in_err-word c =
    let p = err_from_is_err_and c.from_residual.result c.from_residual.ensures.1 in
    rw (p.1, p.2) (optional-yes _ left a_root 0 c.in-Ok.ensures.0 (root-breaks _ c.in_err-word.ensures))

pub returns-in_err-next : goal.returns-in_err-next
unfolding letters
returns-in_err-next c =
    let p = err_from_is_err_and c.from_residual-in_err-next.result c.from_residual-in_err-next.ensures.1 in
    rw (p.1, p.2) (optional-yes _ left a_root 0 c.in-Ok.ensures.0 (right-breaks _ c.in_ok-word.ensures.0 c.in_err-next.ensures))

pub returns-in-Ok : goal.returns-in-Ok
unfolding letters
returns-in-Ok c = optional-yes _ left a_root 0 c.in-Ok.ensures.0 (root-read _ c.in_ok-word.ensures.0 c.in_ok-next.ensures.0)

pub returns : goal.returns
returns c = optional-no _ left a_root 0 c.in_default.ensures
