use Rattle.std.proofs.Common.{◌≡◌, refl, sym, ◌∙◌, ap, arith}
use Rattle.carrying.proofs.Filling.{so_far, so_far-none, so_far-all, so_far_more, so_far-room}
use Rattle.carrying.proofs.Labels.{fit_at}
use Rattle.carrying.proofs.carry_slots.Goals as goal

pub loop-x-init : goal.loop-x-init
loop-x-init c = let a = c.args in (refl, sym (so_far-none a.host.now.layout a.to a.host.now.nodes.now a.host.now.edges.now a.n a.out.now a.which))

pub carry_slot-requires : goal.carry_slot-requires
carry_slot-requires c =
    let a = c.args in
    record {
      sized = c.requires.sized;
      n_value = c.slots_in-there.ensures;
      x_in_bounds = rw c.loop-x.invariant.0 (so_far-room a.host.now.layout a.to a.host.now.nodes.now a.host.now.edges.now a.n a.out.now a.which c.requires.out_len c.requires.atoms_value c.loop-x.x (omega arith));
      x_len_bound = fit_at a.host.now.layout a.host.now.nodes.now a.host.now.edges.now a.to.atoms a.which c.requires.atoms_value c.loop-x.x;
    }

pub loop-x-preserved : goal.loop-x-preserved
loop-x-preserved c =
    let a = c.args in
    so_far_more a.host.now.layout a.to a.host.now.nodes.now a.host.now.edges.now a.n a.out.now a.which c.requires.out_len c.requires.atoms_value c.loop-x.x (omega arith) _ _ c.loop-x.invariant.1 c.carry_slot.ensures

pub returns : goal.returns
returns c =
    let a = c.args in
    let e : c.loop-x.x ≡ a.n = omega arith in
    c.loop-x.invariant.1 ∙ ap (so_far a.host.now.layout a.to a.host.now.nodes.now a.host.now.edges.now a.n a.out.now a.which) e ∙ so_far-all a.host.now.layout a.to a.host.now.nodes.now a.host.now.edges.now a.n a.out.now a.which c.requires.out_len
