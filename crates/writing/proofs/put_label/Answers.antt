use Rattle.std.proofs.Common.{map, ◌+◌, ◌*◌, arith, rules, drop}
use Rattle.slots.specs.Laid.{laid}
use Rattle.writing.specs.Words.{signed, atom_size, label_size}
use Rattle.writing.specs.Lines.{onward}
use Rattle.writing.proofs.Words.{atoms-next, atoms-end}
use Rattle.writing.specs.Laws.Walks.{coming-start, coming-more, coming-last}
use Rattle.writing.proofs.put_label.Goals as goal

pub loop-j-init : goal.loop-j-init
loop-j-init c = coming-start (onward (map signed (laid c.args.label.now))) _ _ _

pub put_atom-at-requires : goal.put_atom-at-requires
put_atom-at-requires c =
    let loop = c.loop-j in
    omega (arith, loop.invariant.adds.short, loop.invariant.same, c.count-j-end.ensures)

pub loop-j-preserved : goal.loop-j-preserved
loop-j-preserved c =
    let loop = c.loop-j in
    coming-more loop.invariant _ (onward (map signed (drop (loop.j + 1) (laid c.args.label.now)))) (atom_size * (loop.j + 1)) (rw c.atom.ensures (atoms-next (laid c.args.label.now) loop.j (search rules))) (search rules) c.put_atom-at.ensures (omega arith)

pub put-requires : goal.put-requires
put-requires c =
    let loop = c.loop-j in
    omega (arith, loop.invariant.adds.short, loop.invariant.same, c.count-j-end.ensures)

pub returns : goal.returns
returns c =
    let n = c.count-j-end in
    let loop = c.loop-j in
    coming-last loop.invariant label_size (atoms-end (laid c.args.label.now) loop.j (omega (arith, n.ensures))) c.put.ensures (omega (arith, n.ensures))
