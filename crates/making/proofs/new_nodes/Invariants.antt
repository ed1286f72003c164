-- `making::new_nodes` meets its contract. The loop's invariant: the first `i` new nodes have come, each with its record, and the
-- first places are the slots of the interface's nodes and theirs.
use Rattle.std.proofs.Common.{◌≡◌, length}
use Rattle.meaning.specs.Image.{most_items}
use Rattle.making.proofs.Loops.{Growing}
use Rattle.making.proofs.new_nodes.Given as goal

abbrev pub invariant-loop-i : goal.invariant-loop-i
invariant-loop-i l = (length l.places ≡ most_items) × Growing l.l l.initial.nodes l.edges l.initial.journal l.right l.values.lens l.values.atoms l.slots l.used l.k l.new l.i l.nodes l.journal l.places
