-- `ledger::free_edges` meets its contract. The loop's invariant: the first `k` edges are gone, each with its record.
use Rattle.ledger.specs.Changes.{Going}
use Rattle.ledger.proofs.free_edges.Given as goal

abbrev pub invariant-loop-k : goal.invariant-loop-k
invariant-loop-k l = Going l.l l.nodes l.initial.edges l.initial.journal l.used l.slots l.n l.k l.edges l.journal
