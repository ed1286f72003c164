-- `put_back_from` meets its contract. The loop's invariant: putting back the records below `u` from here gives what putting back all of them gives from the start, and what stands behind the slots is as it was.
use Rattle.std.proofs.Common.{◌≤◌, ◌≡◌, length}
use Rattle.journal.specs.Journal.{tables_of, RestKept, put_back}
use Rattle.journal.proofs.put_back_from.Given as goal

abbrev pub invariant-loop-u : goal.invariant-loop-u
invariant-loop-u l = (l.mark ≤ l.u) × (l.u ≤ l.used) × (length l.nodes ≡ length l.initial.nodes) × (length l.edges ≡ length l.initial.edges) × (put_back l.l l.mark l.u l.journal (tables_of l.l l.nodes l.edges) ≡ put_back l.l l.mark l.used l.journal (tables_of l.l l.initial.nodes l.initial.edges)) × RestKept l.l l.initial.nodes l.initial.edges l.nodes l.edges
