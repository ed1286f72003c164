use Rattle.std.proofs.Common.{sym, ◌∙◌, arith}
use Rattle.lexing.proofs.Comparing.{none-some, some_same, agree-not, agree-ends, agree-more, agree-all}
use Rattle.lexing.proofs.same_name.Goals as goal

pub returns-in-None-None : goal.returns-in-None-None
returns-in-None-None c =
    let x = sym c.in-None-None.is-0 ∙ c.letter_at.ensures in
    let y = sym c.in-None-None.is-1 ∙ c.letter_at-in-loop-k.ensures in
    agree-ends c.args.text.now c.args.a c.args.b c.loop-k.k c.loop-k.invariant x y

pub returns-in_default : goal.returns-in_default
returns-in_default c =
    let x = sym c.in-Some-Some.is-0 ∙ c.letter_at.ensures in
    let y = sym c.in-Some-Some.is-1 ∙ c.letter_at-in-loop-k.ensures in
    agree-not c.args.text.now c.args.a c.args.b c.loop-k.k c.loop-k.invariant _ _ x y (λ q. c.if-x-y.false (some_same q))

pub returns-in_default-2 : goal.returns-in_default-2
returns-in_default-2 c =
    let x = sym c.in_default.is-0 ∙ c.letter_at.ensures in
    let y = sym c.in_default.is-1 ∙ c.letter_at-in-loop-k.ensures in
    agree-not c.args.text.now c.args.a c.args.b c.loop-k.k c.loop-k.invariant _ _ x y (λ q. none-some (sym q))

pub returns-in_default-3 : goal.returns-in_default-3
returns-in_default-3 c =
    let x = sym c.in_default.is-0 ∙ c.letter_at.ensures in
    let y = sym c.in_default.is-1 ∙ c.letter_at-in-loop-k.ensures in
    agree-not c.args.text.now c.args.a c.args.b c.loop-k.k c.loop-k.invariant _ _ x y none-some

pub loop-k-preserved : goal.loop-k-preserved
loop-k-preserved c =
    let x = sym c.in-Some-Some.is-0 ∙ c.letter_at.ensures in
    let y = sym c.in-Some-Some.is-1 ∙ c.letter_at-in-loop-k.ensures in
    agree-more c.args.text.now c.args.a c.args.b c.loop-k.k c.loop-k.invariant _ _ x y c.if-x-y.true

pub returns : goal.returns
returns c = agree-all c.args.text.now c.args.a c.args.b c.loop-k.k c.loop-k.invariant (omega arith)
