-- `put_answer` meets its contract: the words of the line, one after the other.
use Rattle.std.proofs.Common.{arith}
use Rattle.writing.specs.Words.{letters}
use Rattle.lines.proofs.Lines.{answer-said}
use Rattle.lines.proofs.put_answer.Goals as goal

pub put-requires : goal.put-requires
put-requires c = omega (arith, c.requires.answer_size_in_bounds, c.put-a.ensures.short, c.put_number-b.ensures.short, c.put-c.ensures.short, c.put_number-d.ensures.short, c.put-e.ensures.short, c.put_number-f.ensures.short)

pub returns : goal.returns
unfolding letters
returns c =
    let number4 = c.number4-steps in
    let number42 = c.number4-records in
    answer-said c.args.answer number4.result number42.result _ _ number4.ensures.0 number42.ensures.0 c.put-a.ensures c.put_number-b.ensures c.put-c.ensures c.put_number-d.ensures c.put-e.ensures c.put_number-f.ensures c.put.ensures
