-- `at_slash` meets its contract, by the byte behind the slash.
use Rattle.std.proofs.Common.{◌∙◌, ◌+◌, arith}
use Rattle.lexing.proofs.Comments.{slash-first, slash-twice, slash-star, slash-alone, slash-end, comment_found}
use Rattle.lexing.proofs.at_slash.Goals as goal

pub returns-then-b-eq47 : goal.returns-then-b-eq47
returns-then-b-eq47 c =
    let first = slash-first c.args.text.now c.args.at c.requires.at_in_bounds c.requires.at_value in
    let line = c.line_end.ensures in
    let second = slash-twice c.args.text.now (c.args.at + 1) c.if-second-text.true c.if-b-eq47.true in
    (first ∙ second ∙ line.said, omega (arith, line.onward), line.within)

pub returns-then-b-eq42 : goal.returns-then-b-eq42
returns-then-b-eq42 c =
    let first = slash-first c.args.text.now c.args.at c.requires.at_in_bounds c.requires.at_value in
    let second = slash-star c.args.text.now (c.args.at + 1) c.if-second-text.true c.if-b-eq42.true in
    comment_found c.args.text.now c.args.at (c.args.at + 1 + 1) c.comment_end.result (first ∙ second) (omega arith) c.comment_end.ensures

pub returns-else-b-eq42 : goal.returns-else-b-eq42
returns-else-b-eq42 c =
    let first = slash-first c.args.text.now c.args.at c.requires.at_in_bounds c.requires.at_value in
    (first ∙ slash-alone c.args.text.now (c.args.at + 1) c.if-second-text.true c.if-b-eq47.false c.if-b-eq42.false, omega arith, omega arith)

pub returns-else-second-text : goal.returns-else-second-text
returns-else-second-text c =
    let first = slash-first c.args.text.now c.args.at c.requires.at_in_bounds c.requires.at_value in
    (first ∙ slash-end c.args.text.now (c.args.at + 1) c.if-second-text.false, omega arith, omega arith)
