use Rattle.std.proofs.Common.{◌≡◌, ◌∙◌, ap, arith}
use Rattle.importing.proofs.Filling.{so_far, so_far-none, so_far-all, so_far_more}
use Rattle.importing.proofs.storing.store_table.Goals as goal

pub loop-x-init : goal.loop-x-init
loop-x-init c =
    let a = c.args in
    λ w. so_far-none a.l a.text.now a.node_places.now a.which a.places.now a.n a.out.now w

pub loop-x-preserved : goal.loop-x-preserved
loop-x-preserved c =
    let a = c.args in
    λ w. so_far_more a.l a.text.now a.node_places.now a.which a.places.now a.n a.out.now w c.requires.places_len_bound.0 c.loop-x.x c.loop-x-test.true _ _ (c.loop-x.invariant w) (c.store_slot.ensures w)

pub returns : goal.returns
returns c =
    let a = c.args in
    let e : c.loop-x.x ≡ a.n = omega arith in
    λ w. c.loop-x.invariant w ∙ ap (so_far a.l a.text.now a.node_places.now a.which a.places.now a.n a.out.now w) e ∙ so_far-all a.l a.text.now a.node_places.now a.which a.places.now a.n a.out.now w c.requires.places_len_bound.0 c.requires.places_len_bound.1
