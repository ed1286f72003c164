-- The laws at any place of a program: (P; Q); R and P; (Q; R) give the same but for the steps, and skip before or after P changes only
-- the steps; so does any grouping of a long sequence, a skip anywhere in it, and a call of a procedure P for P. The steps differ by the
-- sequence, skip and call commands entered. How P, Q and R end does not matter. Rests on Runs and Places.
use Rattle.std.specs.Prelude.{◌≡◌}
use Rattle.meaning.specs.Procedures.{Program}
use Rattle.meaning.specs.Calls.{Lent}
use Rattle.laws.specs.Undoing.{Numbered}
use Rattle.demands.specs.Demands.{Interpreter, Demand1, Demand2}
use Rattle.wrapping.specs.Agreement.{SameTables, Starts, Fuelled, wraps_in, Agree}
use Rattle.meaning.specs.declared.Layout.{Layout}

module _ (L : Layout) (numbered : Numbered L) (I : Interpreter) (first : Demand1 L I) (second : Demand2 L I) (p q : Program)
    (rules : p.rules ≡ q.rules) (x y : Lent) (a : Starts L x p) (b : Starts L y q) (tables : SameTables x y) (fuelled : Fuelled I x)
    (fuelled' : Fuelled I y)
  where
    -- what x and y leave is the same but for the steps, and those differ by the sequence, skip and call commands entered
    abbrev pub Agreed : Type 0
    Agreed = Agree (I.run x) (I.run y) (wraps_in L x p) (wraps_in L y q)
