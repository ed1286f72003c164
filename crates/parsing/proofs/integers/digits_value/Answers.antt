use Rattle.std.proofs.Common.{◌∙◌, ap, ℕ, ◌+◌, ◌*◌, arith}
use Rattle.parsing.proofs.Digits.{digit_range, capped_none, capped_more, capped_stay}
use Rattle.parsing.proofs.integers.digits_value.Goals as goal
use Rattle.parsing.proofs.integers.digits_value.Goals.{then-v-le-WHOLE, else-v-le-WHOLE}

pub loop-i-init : goal.loop-i-init
loop-i-init c = capped_none c.args.text.now c.args.from

pub overflow_sub-b : goal.overflow_sub-b
overflow_sub-b c =
    let t = digit_range c.args.text.now c.args.from c.args.to c.loop-i.i (omega arith) (omega arith) (omega arith) c.requires.text_value in
    omega arith

pub loop-i-preserved : goal.loop-i-preserved
loop-i-preserved c =
    let l = c.loop-i in
    elim c.if-v-le-WHOLE.branch [
      | then-v-le-WHOLE w ↦
          capped_more c.args.text.now c.args.from l.i l.v _ (omega arith) (omega arith) l.invariant w.if-v-le-WHOLE.true
          (w.v-is ∙ ap (λ (x : ℕ). l.v * 10 + x) w.from.ensures)
      | else-v-le-WHOLE w ↦
          capped_stay c.args.text.now c.args.from l.i l.v _ (omega arith) (omega arith) l.invariant w.if-v-le-WHOLE.false w.v-is
    ]
