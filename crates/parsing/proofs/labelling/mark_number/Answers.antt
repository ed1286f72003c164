-- `mark_number` meets its contract.
use Rattle.std.proofs.Common.{sym, ◌∙◌}
use Rattle.writing.specs.Words.{letters}
use Rattle.parsing.proofs.Marks.{is-red, is_green, is_blue, is-grey, is_dashed, is_none}
use Rattle.parsing.proofs.labelling.mark_number.Goals as goal

pub returns-then-is_word : goal.returns-then-is_word
unfolding letters
returns-then-is_word c = is-red _ (sym c.is_word.ensures ∙ c.if-is_word.true)

pub returns-then-is_word-2 : goal.returns-then-is_word-2
unfolding letters
returns-then-is_word-2 c =
    is_green _ (sym c.is_word.ensures ∙ c.if-is_word.false) (sym c.is_word-2.ensures ∙ c.if-is_word-2.true)

pub returns-then-is_word-3 : goal.returns-then-is_word-3
unfolding letters
returns-then-is_word-3 c =
    is_blue _ (sym c.is_word.ensures ∙ c.if-is_word.false) (sym c.is_word-2.ensures ∙ c.if-is_word-2.false)
    (sym c.is_word-3.ensures ∙ c.if-is_word-3.true)

pub returns-then-is_word-4 : goal.returns-then-is_word-4
unfolding letters
returns-then-is_word-4 c =
    is-grey _ (sym c.is_word.ensures ∙ c.if-is_word.false) (sym c.is_word-2.ensures ∙ c.if-is_word-2.false)
    (sym c.is_word-3.ensures ∙ c.if-is_word-3.false) (sym c.is_word-4.ensures ∙ c.if-is_word-4.true)

pub returns-then-is_word-5 : goal.returns-then-is_word-5
unfolding letters
returns-then-is_word-5 c =
    is_dashed _ (sym c.is_word.ensures ∙ c.if-is_word.false) (sym c.is_word-2.ensures ∙ c.if-is_word-2.false)
    (sym c.is_word-3.ensures ∙ c.if-is_word-3.false) (sym c.is_word-4.ensures ∙ c.if-is_word-4.false)
    (sym c.is_word-5.ensures ∙ c.if-is_word-5.true)

pub returns : goal.returns
unfolding letters
returns c =
    is_none _ (sym c.is_word.ensures ∙ c.if-is_word.false) (sym c.is_word-2.ensures ∙ c.if-is_word-2.false)
    (sym c.is_word-3.ensures ∙ c.if-is_word-3.false) (sym c.is_word-4.ensures ∙ c.if-is_word-4.false)
    (sym c.is_word-5.ensures ∙ c.if-is_word-5.false)
