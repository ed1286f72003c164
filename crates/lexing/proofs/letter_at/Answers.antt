-- `letter_at` meets its contract: a letter, a byte that is none, or the text's end.
use Rattle.std.proofs.Common.{sym, ◌∙◌, ◌+◌, arith}
use Rattle.lexing.proofs.Comparing.{letter-here, letter-other, letter-behind}
use Rattle.lexing.proofs.letter_at.Goals as goal
use Rattle.lexing.proofs.letter_at.Goals.{else-at-text-via-then-at-text+else-k-text, else-at-text-via-else-at-text}

pub returns-then-is_letter : goal.returns-then-is_letter
returns-then-is_letter c =
    letter-here c.args.text.now (c.args.at + c.args.k) (omega arith) (sym c.is_letter.ensures ∙ c.if-is_letter.true)

pub returns-else-is_letter : goal.returns-else-is_letter
returns-else-is_letter c =
    letter-other c.args.text.now (c.args.at + c.args.k) (omega arith) (sym c.is_letter.ensures ∙ c.if-is_letter.false)

pub returns-else-at-text : goal.returns-else-at-text
returns-else-at-text c =
    let i = c.args.at + c.args.k in
    elim c.else-at-text.branch [
      | else-at-text-via-then-at-text+else-k-text w ↦ letter-behind c.args.text.now i (omega (arith, w.if-k-text.false))
      | else-at-text-via-else-at-text w ↦ letter-behind c.args.text.now i (omega (arith, w.if-at-text.false))
    ]
