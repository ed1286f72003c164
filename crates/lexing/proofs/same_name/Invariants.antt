-- `same_name` meets its contract. The invariant: the names agree up to here.
use Rattle.lexing.proofs.Comparing.{Agree}
use Rattle.lexing.proofs.same_name.Given as goal

abbrev pub invariant-loop-k : goal.invariant-loop-k
invariant-loop-k l = Agree l.text l.a l.b l.k
