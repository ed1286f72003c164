-- The form that images had when if (0x52) and try (0x53) were commands of their own, of three commands each and without a flag, and
-- there were neither procedures nor calls: how they were read and what a run of them came to; and how they are rewritten, tag for
-- tag, in today's form.
-- Rests on the meaning's Basics, Tags, Image, Calls and ProvedSet.
use Rattle.std.specs.Prelude.{true, false, List, ◌∷◌, ◌++◌, ℕ, zero, suc, ◌-◌, length, take, eqb}
use Rattle.std.proofs.Math.Option.{Option, some, none}
use Rattle.meaning.specs.Basics.{choose, either, concat, is_some, ensure, ◌>>◌, ◌>>=◌}
use Rattle.meaning.specs.Tags.{rule_tag, sequence_tag, loop_tag, guarded_tag}
use Rattle.meaning.specs.Image.{Raw, RawProgram, limits, field, leading, only, passes_all, rule, as_guarded, unguarded, program_by}
use Rattle.meaning.specs.Calls.{Lent, Returned, run_as}
use Rattle.meaning.specs.ProvedSet.{field_bytes}
use Rattle.meaning.specs.declared.Layout.{Layout}

abbrev pub if_tag : ℕ
if_tag = 0x52

abbrev pub try_tag : ℕ
try_tag = 0x53

-- Its meaning. It differs from today's in how a guarded command is read, and in what it did not have: procedures and calls.

unfoldable pub old_command : ℕ → ℕ → List ℕ → Option Raw
old_command zero tag bs = none
old_command (suc n) tag bs =
    let parts : List ℕ → Option (List Raw) = only passes_all (old_command n) limits.commands in
    choose (eqb tag if_tag) (parts bs >>= as_guarded false)
    (choose (eqb tag try_tag) (parts bs >>= as_guarded true) (unguarded parts tag bs))

abbrev pub old_program : List ℕ → Option RawProgram
old_program bs = program_by 0 (old_command limits.depth) bs

-- the check of the depth that came with procedures refuses none of them (`old-depth` in Renewed)
abbrev pub old_run : Layout → Lent → Returned
old_run L x = run_as L (old_program x.image) x

-- Rewriting. `field_bytes` writes a field: its tag, its length in two bytes, its payload.

-- a command's field in today's form, from its tag and payload in the old one
unfoldable pub renewed_command : ℕ → ℕ → List ℕ → Option (List ℕ)
renewed_command zero tag bs = none
renewed_command (suc n) tag bs =
    let parts = only passes_all (renewed_command n) limits.commands bs in
    choose (eqb tag if_tag) (parts >>= λ new. some (field_bytes guarded_tag (0 ∷ concat new)))
    (choose (eqb tag try_tag) (parts >>= λ new. some (field_bytes guarded_tag (1 ∷ concat new)))
    (choose (either (eqb tag sequence_tag) (eqb tag loop_tag)) (parts >>= λ new. some (field_bytes tag (concat new)))
    (some (field_bytes tag bs))))

-- an image of the old form in today's: its rules as they are, then its command
unfoldable pub renewed : List ℕ → Option (List ℕ)
renewed bs = do
  ensure (is_some (old_program bs))
  r ← leading (eqb rule_tag) (λ tag. rule) limits.rules bs
  d ← field r.rest
  new ← renewed_command limits.depth d.tag d.payload
  some (take (length bs - length r.rest) bs ++ new)
