use Rattle.std.proofs.Common.{sym, ◌∙◌, arith}
use Rattle.parts.specs.Walks.{shorter, counting-start, counting-end, counting-list, counting-single}
use Rattle.parts.specs.Elements.{Begins}
use Rattle.parts.proofs.elements.shape.Goals as goal

pub loop-e-init : goal.loop-e-init
loop-e-init c = (omega arith, omega arith, λ x e l q. counting-start x l _ q)

pub loop-e-preserved-then-takes_list : goal.loop-e-preserved-then-takes_list
loop-e-preserved-then-takes_list c =
    let b : Begins c.loop-e.rest.now c.in-Some.e c.in-Some.end = c.in-Some.ensures in
    let k = shorter b in (
      omega arith,
      omega arith,
      λ x e l q.
          let t = c.loop-e.invariant.2 x e l q in
          counting-list x l _ _ _ t _ _ (b.next t.later t.spelt) (sym (c.takes_list.ensures x e) ∙ c.if-takes_list.true),
    )

pub loop-e-preserved : goal.loop-e-preserved
loop-e-preserved c =
    let b : Begins c.loop-e.rest.now c.in-Some.e c.in-Some.end = c.in-Some.ensures in
    let k = shorter b in (
      omega arith,
      omega arith,
      λ x e l q.
          let t = c.loop-e.invariant.2 x e l q in
          counting-single x l _ _ _ t _ _ (b.next t.later t.spelt) (sym (c.takes_list.ensures x e) ∙ c.if-takes_list.false),
    )

pub returns : goal.returns
returns c = (
  c.loop-e.invariant.0,
  λ x e l q.
      let t = c.loop-e.invariant.2 x e l q in
      counting-end x l _ _ _ t (c.in_default.ensures t.later t.spelt),
)
