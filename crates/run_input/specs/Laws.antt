-- What is found at a place, by cases: a field, or none. Rests on Reading.
use Rattle.std.specs.Prelude.{◌≡◌, List, ℕ, drop, Option, Some, None}
use Rattle.std.proofs.Math.Option.{none}
use Rattle.meaning.specs.Image.{expect}
use Rattle.run_input.specs.Reading.{Expected, Expects}

pub until : {bs : List ℕ} {at tag : ℕ} (r : Option ℕ) (end : ℕ) → r ≡ Some end → Expects bs at tag r → Expected bs at tag end
until r end e x = rw e at x

pub nowhere : (bs : List ℕ) (at tag : ℕ) (r : Option ℕ) → r ≡ None → Expects bs at tag r → expect tag (drop at bs) ≡ none
nowhere bs at tag r e x = rw e at x
