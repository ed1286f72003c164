use Rattle.std.proofs.Common.{sym, ◌∙◌, arith}
use Rattle.lexing.specs.Laws.{words-end}
use Rattle.lexing.proofs.Words.{words_white, words-sign}
use Rattle.lexing.proofs.next_word.Goals as goal

pub loop-at-preserved-then-is_white : goal.loop-at-preserved-then-is_white
loop-at-preserved-then-is_white c =
    let bs = c.args.text.now in
    let e = sym c.is_letter.ensures ∙ c.if-is_letter.false in
    let f = sym c.is_white.ensures ∙ c.if-is_white.true in
    (omega arith, c.loop-at.invariant.1 ∙ words_white bs c.loop-at.at (omega arith) e f)

pub returns-else-b-eq47 : goal.returns-else-b-eq47
returns-else-b-eq47 c =
    let bs = c.args.text.now in
    let e = sym c.is_letter.ensures ∙ c.if-is_letter.false in
    let f = sym c.is_white.ensures ∙ c.if-is_white.false in
    (c.loop-at.invariant.1 ∙ words-sign bs c.loop-at.at (omega arith) e f c.if-b-eq47.false, omega arith, omega arith)

pub returns : goal.returns
returns c = c.loop-at.invariant.1 ∙ words-end c.args.text.now c.loop-at.at (omega arith)
