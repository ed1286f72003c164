use Rattle.std.proofs.Common.{arith}
use Rattle.labels.specs.Laws.{held-length}
use Rattle.values.specs.Laws.{empty-few, valuing_start, valuing_end, valuing_none, valuing_long, valuing_next}
use Rattle.values.proofs.label_value.Goals as goal

pub loop-e-init : goal.loop-e-init
loop-e-init c = (
  record { held = c.none-so_far.ensures.held; few = empty-few _ _ c.none-so_far.ensures },
  λ l q. valuing_start _ _ l _ _ q c.none-so_far.ensures.atoms,
)

pub returns-in_err-next : goal.returns-in_err-next
returns-in_err-next c =
    rw c.from_residual.ensures (
      tt,
      λ l q.
          let t = c.loop-e.invariant.1 l q in
          valuing_none t (c.in-Some.ensures.next t.later t.spelt) (c.in_err-next.ensures).1,
    )

pub returns-in_err-so_far : goal.returns-in_err-so_far
returns-in_err-so_far c =
    rw c.from_residual-in_err-so_far.ensures (
      tt,
      λ l q.
          let t = c.loop-e.invariant.1 l q in
          valuing_long t (c.in-Some.ensures.next t.later t.spelt) _ (c.in_ok-next.ensures).1 (c.in_err-so_far.ensures).1,
    )

pub loop-e-preserved : goal.loop-e-preserved
loop-e-preserved c = (
  (c.in_ok-so_far.ensures).0,
  λ l q.
      let t = c.loop-e.invariant.1 l q in
      valuing_next t (c.in-Some.ensures.next t.later t.spelt) _ (c.in_ok-next.ensures).1 _ (c.in_ok-so_far.ensures).1,
)

pub returns : goal.returns
returns c =
    let i = c.loop-e in
    let k = held-length i.so_far i.invariant.0.held in (
      i.invariant.0,
      λ l q.
          let t = i.invariant.1 l q in
          valuing_end t (c.in_default.ensures t.later t.spelt) (omega (arith, i.invariant.0.few)),
    )
