-- Laws of Procedures: what an image that has the form stands for, with its procedures put in; and calls written out.
-- Rests on the meaning's Procedures.
use Rattle.std.specs.Prelude.{ℕ, ◌≡◌, refl, true, List}
use Rattle.std.proofs.Common.{ap}
use Rattle.std.proofs.Math.Option.{Option, some}
use Rattle.meaning.specs.Basics.{◌>>=◌}
use Rattle.meaning.specs.Image.{RawProgram, limits, raw_program}
use Rattle.meaning.specs.Procedures.{Program, Command, rule_set, sequence, guarded, loop, skip, fail, break, called, Commands, no_more, then, put, depth_holds, put_in, program}
use Rattle.meaning.specs.Laws.Tests.{both_true, some_inj, is_some_true, bind_some}

-- its rules, and its main command with procedures put in
pub record StandsFor (r : RawProgram) (p : Program) : Type 0 where
  pub rules : p.rules ≡ r.rules
  pub main : put r.procedures limits.depth r.main ≡ some p.main

pub put_in_some : (r : RawProgram) (p : Program) → put_in r ≡ some p → StandsFor r p
unfolding put_in
put_in_some r p e =
    let t = bind_some (put r.procedures limits.depth r.main) _ p e in
    rw (← (some_inj _ p t.2)) (record { rules = refl; main = t.1 })

-- it stands for a program where the depth limit holds
pub depth_put_in : (r : RawProgram) → depth_holds r ≡ true → (p : Program) × (put_in r ≡ some p)
unfolding depth_holds put_in ◌>>=◌
depth_put_in r h =
    let t = is_some_true (put r.procedures limits.depth r.main) (both_true _ _ h).1 in
    let whole : Command → Option Program = λ c. some (record { rules = r.rules; main = c }) in
    (record { rules = r.rules; main = t.0 }, ap (λ (o : Option Command). o >>= whole) t.1)

pub program-some : (bs : List ℕ) (r : RawProgram) (p : Program) → raw_program bs ≡ some r → put_in r ≡ some p → program bs ≡ some p
unfolding program ◌>>=◌
program-some bs r p e q = rw (e, q)

-- the command with its calls written out, those in the procedures that it calls too
unfoldable mutual
  pub written : Command → Command
  written (rule_set l) = rule_set l
  written (sequence cs) = sequence (all_written cs)
  written (guarded keep g a b) = guarded keep (written g) (written a) (written b)
  written (loop c) = loop (written c)
  written skip = skip
  written fail = fail
  written break = break
  written (called c) = written c

  pub all_written : Commands → Commands
  all_written no_more = no_more
  all_written (then c cs) = then (written c) (all_written cs)
