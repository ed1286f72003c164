-- `read_items` meets its contract. The loop's invariant is what it has kept of the items so far; its measure is what is left of the text.
use Rattle.std.proofs.Common.{◌-◌, length}
use Rattle.items.proofs.Rowing.{SoFar}
use Rattle.items.proofs.read_items.Given as goal

abbrev pub invariant-loop-open : goal.invariant-loop-open
invariant-loop-open l =
    SoFar l.text l.which l.most l.initial.next (length l.initial.places) l.places l.next l.count l.fits

abbrev pub decreases-loop-open : goal.decreases-loop-open
decreases-loop-open l = length l.text - l.next
