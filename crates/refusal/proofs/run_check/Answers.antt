-- `refusal::run_check` meets its contract: lengths and fuel decide first, then what is behind them.
use Rattle.std.proofs.Common.{rules, ◌≡◌, Err, sym, ◌∙◌}
use Rattle.answers.specs.Answers.{refusal_of}
use Rattle.meaning.specs.Calls.{refusal_as}
use Rattle.meaning.specs.Laws.Checks.{behind-fine, behind-refused}
use Rattle.refusal.proofs.run_check.Goals as goal

pub returns-in_err-length_check : goal.returns-in_err-length_check
unfolding refusal_of refusal_as
returns-in_err-length_check c =
    let q : c.from_residual.result ≡ Err c.in_err-length_check.field-0.0 = search rules in
    rw q (sym (behind-refused _ _ _ (sym c.in_err-length_check.ensures)))

pub returns : goal.returns
unfolding refusal_of refusal_as
returns c = c.content_check.ensures ∙ sym (behind-fine _ _ (sym c.in_ok-length_check.ensures))
