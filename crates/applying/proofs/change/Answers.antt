-- `applying::change` meets its contract: the right part is handed what the left part left.
use Rattle.applying.proofs.Parts.{right_there, halfway}
use Rattle.applying.proofs.change.Goals as goal

pub add_right-requires : goal.add_right-requires
add_right-requires c = let u = c.requires in let t = right_there u in halfway u t.1 (c.change_left-kept.ensures u t.0 t.1)

pub returns : goal.returns
returns c = λ u right q. c.add_right.ensures (halfway u q (c.change_left-kept.ensures u right q))
