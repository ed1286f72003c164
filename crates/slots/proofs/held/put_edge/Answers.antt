-- `put_edge` meets its contract: the head, the ends, then the atoms, then zeros.
use Rattle.std.proofs.Common.{◌-◌, ◌*◌, ◌∷◌, ap, ◌∙◌, length, replicate}
use Rattle.meaning.specs.Layout.{edge_bytes}
use Rattle.slots.proofs.Written.{edge-put}
use Rattle.slots.proofs.held.put_edge.Goals as goal

pub returns : goal.returns
unfolding edge_bytes
returns c =
    let a = c.args in
    edge-put a.mark a.source a.target a.l.width (4 * a.l.atoms) a.label.now c.put_head.new.to c.put_number.new.to c.put_number-2.new.to c.put_atoms.new.to
    (c.put_head.ensures ∙ ap (λ n. 1 ∷ a.mark ∷ 0 ∷ length a.label.now ∷ replicate (n - 4) 0) c.requires.to_len.0)
    c.put_number.ensures c.put_number-2.ensures c.put_atoms.ensures
