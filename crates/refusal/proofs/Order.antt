-- What is asked of a program, as the checks of an image ask it. Rests on the meaning's Calls.
use mathlib.Core.Path.{◌≡◌, sym}
use mathlib.Core.Bool.{Bool, true}
use mathlib.Core.Option.{some}
use mathlib.Core.List.{List}
use Prim.Native.Nat.{ℕ}
use Rattle.meaning.specs.Basics.{is_some}
use Rattle.meaning.specs.Image.{RawProgram, raw_program}
use Rattle.meaning.specs.Calls.{holds}
use Rattle.meaning.specs.Laws.Tests.{is_some_true}

-- what is said of a program is said of the image that has the form
pub holds_of : (f : RawProgram → Bool) (image : List ℕ) (r : Bool) → is_some (raw_program image) ≡ true
    → ((p : RawProgram) → raw_program image ≡ some p → r ≡ f p) → holds f (raw_program image) ≡ r
unfolding holds
holds_of f image r formed h = let p = is_some_true (raw_program image) formed in rw p.1 (sym (h p.0 p.1))
