-- `expect_name` meets its contract.
use Rattle.std.proofs.Common.{sym, ◌∙◌}
use Rattle.std.proofs.lemmas.Result.{err_from_is_err_and}
use Rattle.parsing.proofs.Tokens.{word-met, word-other, not-expected}
use Rattle.parsing.proofs.expect_name.Goals as goal

pub returns-in_err-found : goal.returns-in_err-found
returns-in_err-found c =
    let p = err_from_is_err_and c.from_residual.result c.from_residual.ensures.1 in
    rw (p.1, p.2) (not-expected c.args.text.now c.args.at c.args.word.now c.in_err-found.ensures)

pub returns-then-is_word : goal.returns-then-is_word
returns-then-is_word c =
    word-met c.args.text.now c.args.at c.in_ok-found.ensures c.args.word.now (sym c.is_word.ensures ∙ c.if-is_word.true)

pub returns : goal.returns
returns c = word-other c.args.text.now c.args.at c.in_ok-found.ensures c.args.word.now (sym c.is_word.ensures ∙ c.if-is_word.false)
