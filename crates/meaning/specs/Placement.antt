-- Placement (answer 18): each break lies in a loop body of its own procedure, or of the main command, with no guard between them.
-- Rests on Basics, Image and, for `everywhere`, Procedures.
use Rattle.std.specs.Prelude.{Bool, true, false}
use Rattle.meaning.specs.Basics.{both}
use Rattle.meaning.specs.Image.{RawProgram, Raw, rule_set, sequence, guarded, loop, skip, fail, break, call, Raws, no_more, then}
use Rattle.meaning.specs.Procedures.{everywhere}

-- the flag says whether a break may stand here
unfoldable mutual
  pub breaks_lie : Raw → Bool → Bool
  breaks_lie (rule_set l) ok = true
  breaks_lie (sequence cs) ok = all_breaks_lie cs ok
  breaks_lie (guarded keep g a b) ok = both (breaks_lie g false) (both (breaks_lie a ok) (breaks_lie b ok))
  breaks_lie (loop c) ok = breaks_lie c true
  breaks_lie skip ok = true
  breaks_lie fail ok = true
  breaks_lie break ok = ok
  breaks_lie (call i) ok = true

  pub all_breaks_lie : Raws → Bool → Bool
  all_breaks_lie no_more ok = true
  all_breaks_lie (then c cs) ok = both (breaks_lie c ok) (all_breaks_lie cs ok)

unfoldable pub placement : RawProgram → Bool
placement p = everywhere (λ c. breaks_lie c false) p
