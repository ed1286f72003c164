use Rattle.std.proofs.Common.{◌≡◌, List, ℕ, ◌<◌, length, take, arith, length-take, get_or-take}
use Rattle.making.proofs.Loops.{altering_none, altering_next, altering_more}
use Rattle.making.proofs.change_nodes.Goals as goal

-- the first n slots
in_front : (s : List ℕ) (n i : ℕ) → i < length (take n s) → i < n
in_front s n i h = omega (arith, length-take n s)

pub loop-i-init : goal.loop-i-init
loop-i-init c = altering_none c.requires.held

pub change_node-requires : goal.change_node-requires
change_node-requires c =
    let h = in_front c.args.slots.now c.args.n c.loop-i.i c.loop-i-test.true in
    let t = altering_next c.loop-i.i c.loop-i.invariant c.requires.alters h in
    rw (get_or-take c.args.n c.args.slots.now c.loop-i.i 0 h) (record { held = t.0; x_in_bounds = t.1; changes = t.2 })

pub loop-i-preserved : goal.loop-i-preserved
loop-i-preserved c =
    let h = in_front c.args.slots.now c.args.n c.loop-i.i c.loop-i-test.true in
    altering_more c.loop-i.i c.loop-i.invariant h (rw (get_or-take c.args.n c.args.slots.now c.loop-i.i 0 h) at c.change_node.ensures) c.change_node.auto.nodes c.change_node.auto.journal

pub returns : goal.returns
returns c = λ w.
    let e : c.loop-i.i ≡ c.args.n = omega (arith, length-take c.args.n c.args.slots.now, c.loop-i-test.false, c.loop-i.auto.i-end, w.room, w.few) in
    rw e at (c.loop-i.invariant w)
