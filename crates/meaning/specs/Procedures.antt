-- The program that an image stands for: each call of a procedure with that procedure's command put in. There is none where calls form a
-- ring, or where commands are then nested too deep (answer 19). Rests on Basics and Image.
use Rattle.std.specs.Prelude.{Bool, List, ℕ, zero, suc, get_or}
use Rattle.std.proofs.Math.Option.{Option, some, none}
use Rattle.meaning.specs.Basics.{both, every, is_some, ◌>>=◌}
use Rattle.meaning.specs.Image as Image
use Rattle.meaning.specs.Image.{Rule, Raw, Raws, RawProgram, limits, raw_program}

mutual
  -- `guarded keep` is try where a successful guard's changes are kept, and if where they are not; `called c` is a call of a
  -- procedure whose command is c
  pub data Command : Type 0 where
    rule_set : List ℕ → Command
    sequence : Commands → Command
    guarded : Bool → Command → Command → Command → Command
    loop : Command → Command
    skip : Command
    fail : Command
    break : Command
    called : Command → Command

  pub data Commands : Type 0 where
    no_more : Commands
    then : Command → Commands → Commands

pub record Program : Type 0 where
  pub rules : List Rule
  pub main : Command

unfoldable pub put_all : (Raw → Option Command) → Raws → Option Commands
put_all put Image.no_more = some no_more
put_all put (Image.then c cs) = do
  d ← put c
  ds ← put_all put cs
  some (then d ds)

-- the command with procedures put in, where it is then at most n deep, a call counting one; a procedure that there is not, which 17
-- refuses, counts as skip
unfoldable pub put : List Raw → ℕ → Raw → Option Command
put procedures zero c = none
put procedures (suc n) (Image.rule_set l) = some (rule_set l)
put procedures (suc n) (Image.sequence cs) = put_all (put procedures n) cs >>= λ ds. some (sequence ds)
put procedures (suc n) (Image.guarded keep g a b) = do
  x ← put procedures n g
  y ← put procedures n a
  z ← put procedures n b
  some (guarded keep x y z)
put procedures (suc n) (Image.loop c) = put procedures n c >>= λ d. some (loop d)
put procedures (suc n) Image.skip = some skip
put procedures (suc n) Image.fail = some fail
put procedures (suc n) Image.break = some break
put procedures (suc n) (Image.call i) = put procedures n (get_or procedures i Image.skip) >>= λ d. some (called d)

-- the main command and every procedure pass
abbrev pub everywhere : (Raw → Bool) → RawProgram → Bool
everywhere f p = both (every f p.procedures) (f p.main)

-- the depth limit holds with procedures put in, for those too that nothing calls
unfoldable pub depth_holds : RawProgram → Bool
depth_holds p = everywhere (λ c. is_some (put p.procedures limits.depth c)) p

unfoldable pub put_in : RawProgram → Option Program
put_in p = do
  c ← put p.procedures limits.depth p.main
  some (record { rules = p.rules; main = c })

unfoldable pub program : List ℕ → Option Program
program bs = raw_program bs >>= put_in
