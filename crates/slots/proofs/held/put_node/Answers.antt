-- `put_node` meets its contract: the head, then the atoms, then zeros.
use Rattle.std.proofs.Common.{ap, ◌∙◌, arith, length}
use Rattle.meaning.specs.Layout.{node_bytes, live}
use Rattle.meaning.specs.Basics.{padded}
use Rattle.slots.proofs.Written.{node-put}
use Rattle.slots.proofs.held.put_node.Goals as goal

pub returns : goal.returns
returns c =
    let a = c.args in
    node-put a.mark a.root (length a.to.now) a.label.now c.put_head.new.to c.put_atoms.new.to (omega (arith, c.requires.to_len.0)) c.put_head.ensures c.put_atoms.ensures
    ∙ ap (λ n. padded n (node_bytes (live (record { mark = a.mark; root = a.root; label = a.label.now })))) c.requires.to_len.0
