-- `with_integer` meets its contract.
use Rattle.std.proofs.Common.{arith}
use Rattle.parsing.proofs.Atoms.{gathers-more, gathers-full, gathers-unfit, gathers-no_atom}
use Rattle.parsing.proofs.labelling.with_integer.Goals as goal

pub returns-in_err-label : goal.returns-in_err-label
returns-in_err-label c = rw (c.from_residual.ensures, c.in_err-label.was) (gathers-unfit c.args.atom)

pub returns-in_err-word : goal.returns-in_err-word
returns-in_err-word c = rw (c.from_residual-in_err-word.ensures, c.in_ok-label.was, c.in_err-word.was) (gathers-no_atom c.in_ok-label.label)

pub returns-then-n-lt-MOST : goal.returns-then-n-lt-MOST
returns-then-n-lt-MOST c =
    rw (c.in_ok-label.was, c.in_ok-word.was) (gathers-more c.in_ok-label.label c.in_ok-word.word c.if-n-lt-MOST.true (omega arith))

pub returns : goal.returns
returns c = rw (c.in_ok-label.was, c.in_ok-word.was) (gathers-full c.in_ok-label.label c.in_ok-word.word c.if-n-lt-MOST.false)
