-- `put_mark` meets its contract, name by name.
use Rattle.std.proofs.Common.{refl, arith}
use Rattle.meaning.specs.Tags.{red_mark, green_mark, blue_mark, grey_mark, dashed_mark}
use Rattle.writing.specs.Words.{letters}
use Rattle.text.specs.Grammar.{marks}
use Rattle.exporting.specs.Lines.{mark_text}
use Rattle.exporting.proofs.Words.{mark-none, mark-put, mark-other}
use Rattle.exporting.proofs.put_mark.Goals as goal

pub returns-in-0 : goal.returns-in-0
returns-in-0 c = mark-none c.args.mark _ _ c.in-0.is

pub returns-in-1 : goal.returns-in-1
unfolding letters mark_text marks
returns-in-1 c = mark-put c.args.mark red_mark _ c.in-1.is refl (omega arith) c.put.ensures

pub returns-in-2 : goal.returns-in-2
unfolding letters mark_text marks
returns-in-2 c = mark-put c.args.mark green_mark _ c.in-2.is refl (omega arith) c.put-in-2.ensures

pub returns-in-3 : goal.returns-in-3
unfolding letters mark_text marks
returns-in-3 c = mark-put c.args.mark blue_mark _ c.in-3.is refl (omega arith) c.put-in-3.ensures

pub returns-in-4 : goal.returns-in-4
unfolding letters mark_text marks
returns-in-4 c = mark-put c.args.mark grey_mark _ c.in-4.is refl (omega arith) c.put-in-4.ensures

pub returns-in-5 : goal.returns-in-5
unfolding letters mark_text marks
returns-in-5 c = mark-put c.args.mark dashed_mark _ c.in-5.is refl (omega arith) c.put-in-5.ensures

pub returns-in_default : goal.returns-in_default
unfolding letters
returns-in_default c =
    let m = c.args.mark in
    mark-put m m (letters " # ") refl (mark-other m (omega arith)) (omega arith) c.put-in_default.ensures
