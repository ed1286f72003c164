-- `read_digits` meets its contract.
use Rattle.std.proofs.Common.{sym, ◌∙◌}
use Rattle.std.proofs.lemmas.Result.{err_from_is_err_and}
use Rattle.meaning.specs.Basics.{every}
use Rattle.text.specs.Words.{is_digit}
use Rattle.parsing.proofs.Tokens.{named-yes, named-no, not-named}
use Rattle.parsing.proofs.integers.read_digits.Goals as goal

pub returns-in_err-next : goal.returns-in_err-next
returns-in_err-next c =
    let p = err_from_is_err_and c.from_residual.result c.from_residual.ensures.1 in
    rw (p.1, p.2) (not-named c.args.text.now c.args.at (every is_digit) c.in_err-next.ensures)

pub returns-then-all_digits : goal.returns-then-all_digits
returns-then-all_digits c =
    let all = sym c.all_digits.ensures ∙ c.if-all_digits.true in
    (_, named-yes c.args.text.now c.args.at c.in_ok-next.ensures (every is_digit) all, c.digits_value-number.ensures)

pub returns : goal.returns
returns c =
    named-no c.args.text.now c.args.at c.in_ok-next.ensures (every is_digit) (sym c.all_digits.ensures ∙ c.if-all_digits.false)
