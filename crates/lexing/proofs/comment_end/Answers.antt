use Rattle.std.proofs.Common.{◌≡◌, length, refl, ◌∙◌, ⊎_elim, inl, inr, arith, eq-eqb, ne_eqb}
use Rattle.meaning.specs.Basics.{choose}
use Rattle.lexing.proofs.Comments.{comment_closed, comment_more, comment_end}
use Rattle.lexing.proofs.comment_end.Goals as goal

pub loop-i-init : goal.loop-i-init
unfolding choose
loop-i-init c = refl

pub returns-then-b-eq47 : goal.returns-then-b-eq47
returns-then-b-eq47 c =
    let bs = c.args.text.now in (
      c.loop-i.invariant ∙ comment_closed bs c.loop-i.i (omega arith) c.loop-i.starred c.if-starred.true (eq-eqb _ _ c.if-b-eq47.true),
      omega arith,
      omega arith,
    )

pub loop-i-preserved : goal.loop-i-preserved
loop-i-preserved c =
    let way = ⊎_elim (λ w. inl (ne_eqb _ _ w.1)) (λ w. inr w) c.else-starred.either in
    c.loop-i.invariant ∙ comment_more c.args.text.now c.loop-i.i (omega arith) c.loop-i.starred way

pub returns : goal.returns
returns c =
    let bs = c.args.text.now in
    let e : c.loop-i.i ≡ length bs = omega arith in
    (rw e at (c.loop-i.invariant ∙ comment_end bs c.loop-i.i c.loop-i.starred (omega arith)), omega arith, omega arith)
