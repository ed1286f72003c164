-- Two programs that differ in wrapping alone, run on the same tables by an interpreter that meets demands 1 and 2: where neither is out
-- of fuel, they leave the same but for the steps, and those are the same once the commands entered that only wrap are taken off; where
-- one is not out of fuel, there is fuel with which the other is not. Rests on Running and Replacing.
use Rattle.std.specs.Prelude.{ℕ}
use Rattle.std.proofs.Common.{arith}
use Rattle.meaning.specs.Procedures.{Program}
use Rattle.meaning.specs.Calls.{Lent}
use Rattle.laws.specs.Undoing.{Numbered}
use Rattle.demands.specs.Demands.{Interpreter, Demand1, Demand2}
use Rattle.wrapping.specs.Wrapping.{wraps, AlikePrograms}
use Rattle.wrapping.specs.Agreement.{SameTables, Starts, Fuelled, noting, wraps_in, Agree, Needs}
use Rattle.wrapping.specs.Coming.{comes-one, comes-counted}
use Rattle.wrapping.proofs.Replacing.{alike-comes}
use Rattle.wrapping.specs.Running.{ComesOn}
use Rattle.wrapping.proofs.Running.{moved, ends_same, run-noted, enough, traced, needs}
use Rattle.meaning.specs.declared.Layout.{Layout}

module _ (L : Layout) (numbered : Numbered L) (I : Interpreter) (first : Demand1 L I) (second : Demand2 L I) (x : Lent) (p : Program)
    (a : Starts L x p) (fuelled : Fuelled I x) (q : Program) (alike : AlikePrograms p q)
  where
    -- q comes to what p's run came to
    other-comes : (n : ℕ) → ComesOn wraps L x p.rules p.main (noting L x p).end (noting L x p).noted.state.ledger n
        → ComesOn wraps L x q.rules q.main (noting L x p).end (noting L x p).noted.state.ledger n
    other-comes n k = rw (← alike.rules) (alike-comes _ _ _ p.main q.main alike.main k)

    -- two programs that differ in wrapping alone, on the same tables, neither out of fuel
    pub alike-agree : (y : Lent) → Starts L y q → SameTables x y → Fuelled I y → Agree (I.run x) (I.run y) (wraps_in L x p) (wraps_in L y q)
    alike-agree y b tables fuelled' =
        let o = (noting L x p).noted.state in
        let r = (noting L y q).noted.state in
        let i = traced L numbered I first second x p a fuelled wraps in
        let j = traced L numbered I first second y q b fuelled' wraps in
        let k = comes-one wraps _ _ _ (moved wraps L x y tables (other-comes i.counts i.comes)) j.comes in
        record {
          same = rw (run-noted L numbered I first second x p a, run-noted L numbered I first second y q b, k.0)
              (ends_same L x y tables o.steps r.steps (noting L y q).end o.ledger r.ledger o.fuel r.fuel k.1);
          others = i.counts;
          steps = i.steps;
          steps' = omega (arith, j.steps, k.2);
        }

    -- where one is not out of fuel, there is a number of steps that the other takes
    pub alike-ends : (s : ℕ) × Needs L I x q s
    alike-ends =
        let i = traced L numbered I first second x p a fuelled wraps in
        let k = comes-counted wraps _ _ _ (other-comes i.counts i.comes) in
        (k.0, needs L numbered I first second x q _ _ k.0 k.1 (enough L numbered I first second x p a fuelled))
