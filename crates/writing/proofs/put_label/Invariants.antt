-- `put_label` meets its contract. The loop's invariant: what is written, and the atoms from number j on, are the whole.
use Rattle.std.proofs.Common.{map, ◌*◌, drop}
use Rattle.slots.specs.Laid.{laid}
use Rattle.writing.specs.Words.{signed, atom_size}
use Rattle.writing.specs.Lines.{onward}
use Rattle.writing.specs.Laws.Walks.{Coming}
use Rattle.writing.proofs.put_label.Given as goal

abbrev pub invariant-loop-j : goal.invariant-loop-j
invariant-loop-j l =
    Coming (onward (map signed (laid l.label))) (onward (map signed (drop l.j (laid l.label)))) l.initial.out l.start l.out l.at (atom_size * l.j)
