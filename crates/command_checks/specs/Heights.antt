-- The heights of procedures while they are found, lower ones before higher ones. Rests on the meaning's Procedures.
use Rattle.std.specs.Prelude.{◌≡◌, false, Option, Some, None, List, ℕ, leb, length, get_or}
use Rattle.meaning.specs.Basics.{is_some}
use Rattle.meaning.specs.Image.{Raw, skip}
use Rattle.meaning.specs.Procedures.{put}

-- how deep the command is with procedures put in, where that is known; where it is not, the command is more than b deep
pub record Height (procedures : List Raw) (b : ℕ) (known : Option ℕ) (c : Raw) : Type 0 where
  pub exact : (h : ℕ) → known ≡ Some h → (n : ℕ) → is_some (put procedures n c) ≡ leb h n
  pub beyond : known ≡ None → is_some (put procedures b c) ≡ false

-- the heights of all procedures, each at its procedure's number
pub record Heights (procedures : List Raw) (b : ℕ) (heights : List (Option ℕ)) : Type 0 where
  pub long : length heights ≡ length procedures
  pub height : (j : ℕ) → Height procedures b (get_or heights j (Some 1)) (get_or procedures j skip)
