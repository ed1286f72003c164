use Rattle.std.proofs.Common.{sym, ◌∙◌, ◌+◌, ◌*◌, arith, drop}
use Rattle.meaning.specs.Layout.{most_atoms}
use Rattle.slots.specs.Laid.{laid}
use Rattle.writing.specs.Words.{letters}
use Rattle.exporting.specs.Lines.{atoms_behind}
use Rattle.exporting.specs.Putting.{integer_size, atoms_size}
use Rattle.exporting.proofs.Rows.{same-room, within, saying, then}
use Rattle.exporting.proofs.Walks.{coming-start, coming-more, coming-end}
use Rattle.exporting.proofs.Words.{atoms-none, atoms-first, atoms-next, atoms-end}
use Rattle.exporting.proofs.put_atoms.Goals as goal

pub returns-then-n-eq0 : goal.returns-then-n-eq0
unfolding letters
returns-then-n-eq0 c = saying _ _ (sym (atoms-none (laid c.args.label.now) (omega (arith, c.count-n.ensures)))) (within 5 atoms_size (omega arith) c.put.ensures)

pub loop-j-init : goal.loop-j-init
loop-j-init c = coming-start _ _ _ _

pub put-next-requires : goal.put-next-requires
put-next-requires c = omega (arith, c.loop-j.invariant.puts.short, c.put_integer-at.ensures.short, c.count-n.ensures, c.requires.atoms_size_bound)

pub put_integer-at-requires-in-loop-j : goal.put_integer-at-requires-in-loop-j
put_integer-at-requires-in-loop-j c = omega (arith, c.put-next.ensures.short, c.loop-j.invariant.puts.short, c.put_integer-at.ensures.short, c.count-n.ensures, c.requires.atoms_size_bound)

pub loop-j-preserved : goal.loop-j-preserved
unfolding letters
loop-j-preserved c =
    let loop = c.loop-j in
    let l = laid c.args.label.now in
    coming-more loop.invariant _ (atoms_behind (drop (loop.j + 1) l)) ((1 + integer_size) * (loop.j + 1)) (atoms-next l loop.j _ (omega (arith, c.count-n.ensures)) c.atom-in-loop-j.ensures) (then c.put-next.ensures c.put_integer-at-in-loop-j.ensures) (omega arith)

pub shape_of-out : goal.shape_of-out
shape_of-out c = same-room c.loop-j.invariant.puts ∙ same-room c.put_integer-at.ensures

pub returns : goal.returns
returns c =
    let loop = c.loop-j in
    let l = laid c.args.label.now in
    let behind = coming-end loop.invariant ((1 + integer_size) * most_atoms) (atoms-end l loop.j (omega (arith, c.count-n.ensures))) (omega (arith, c.count-n.ensures, c.requires.label_len_bound)) in
    saying _ _ (sym (atoms-first l _ (omega (arith, c.count-n.ensures)) c.atom.ensures)) (then c.put_integer-at.ensures behind)
