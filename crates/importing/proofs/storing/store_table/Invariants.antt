-- `store_table` meets its contract. The loop's invariant: x slots are written, the others are as they were lent.
use Rattle.std.proofs.Common.{◌≡◌}
use Rattle.importing.specs.Tables.{Items}
use Rattle.importing.proofs.Filling.{so_far}
use Rattle.importing.proofs.storing.store_table.Given as goal

abbrev pub invariant-loop-x : goal.invariant-loop-x
invariant-loop-x l = (w : Items l.l l.text l.which l.places) → l.out ≡ so_far l.l l.text l.node_places l.which l.places l.n l.initial.out w l.x
