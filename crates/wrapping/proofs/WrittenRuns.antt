-- A program and the same with its calls written out, run on the same tables by an interpreter that meets demands 1 and 2: where neither
-- is out of fuel, they leave the same but for the steps, and those are more by exactly the calls entered; where one is not out of fuel,
-- there is fuel with which the other is not. Rests on Running, Runs and Writing.
use Rattle.std.specs.Prelude.{◌≡◌, ℕ, ◌+◌, ◌<◌}
use Rattle.std.proofs.Common.{sym, arith}
use Rattle.std.proofs.Math.Decide.{dec_lt}
use Rattle.meaning.specs.Procedures.{Program}
use Rattle.meaning.specs.Calls.{Lent}
use Rattle.laws.specs.Undoing.{Numbered}
use Rattle.demands.specs.Demands.{Interpreter, Demand1, Demand2}
use Rattle.wrapping.specs.WrittenOut.{is_call, WrittenOut}
use Rattle.wrapping.specs.Agreement.{SameTables, Starts, Fuelled, noting, calls_in, steps_in, SameButSteps, Needs}
use Rattle.wrapping.specs.Coming.{nothing}
use Rattle.wrapping.proofs.Writing.{written_programs_alike, comes-written}
use Rattle.wrapping.specs.Running.{ComesOn}
use Rattle.wrapping.proofs.Running.{enough, traced, needs}
use Rattle.wrapping.proofs.Runs.{alike-agree, alike-ends}
use Rattle.meaning.specs.declared.Layout.{Layout}

-- q is p with its calls written out
module _ (L : Layout) (numbered : Numbered L) (I : Interpreter) (first : Demand1 L I) (second : Demand2 L I) (p q : Program)
    (out : WrittenOut p q)
  where
    module _ (x : Lent) (a : Starts L x p) (fuelled : Fuelled I x) where
      -- where p is not out of fuel, q takes as many steps without the calls entered
      pub written-ends : (s : ℕ) × Needs L I x q s × (steps_in (I.run x) ≡ s + calls_in L x p)
      written-ends =
          let i = traced L numbered I first second x p a fuelled is_call in
          let k : ComesOn nothing L x q.rules q.main (noting L x p).end (noting L x p).noted.state.ledger i.counts =
          rw (← out.rules, out.main) (comes-written _ _ _ i.comes) in
          (i.counts, needs L numbered I first second x q _ _ i.counts k (enough L numbered I first second x p a fuelled), i.steps)

      -- the two on the same tables, neither out of fuel
      pub written-agree : (y : Lent) → Starts L y q → SameTables x y → Fuelled I y
          → SameButSteps (I.run x) (I.run y) × (steps_in (I.run x) ≡ steps_in (I.run y) + calls_in L x p)
      written-agree y b tables fuelled' =
          ((alike-agree L numbered I first second x p a fuelled q (written_programs_alike p q out) y b tables fuelled').same, at (dec_lt y.fuel written-ends.0))
        where
          at : Dec (y.fuel < written-ends.0) → steps_in (I.run x) ≡ steps_in (I.run y) + calls_in L x p
          at (yes h) = absurd (fuelled' (written-ends.1.short y b tables h))
          at (no h) = omega (arith, written-ends.2, (written-ends.1.enough y b tables (omega arith)).1)

    -- where q is not out of fuel, there is a number of steps that p takes
    pub unwritten_ends : (y : Lent) → Starts L y q → Fuelled I y → (s : ℕ) × Needs L I y p s
    unwritten_ends y b fuelled =
        let k = written_programs_alike p q out in
        alike-ends L numbered I first second y q b fuelled p (record { rules = sym k.rules; main = sym k.main })
