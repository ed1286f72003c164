-- Whether a run would start, and what the first match of a rule of its image is. Rests on the meaning's Calls and FirstMatch.
use Rattle.std.specs.Prelude.{◌≡◌, Bool, true, false, Option, Some, None, List, [], ℕ, get_or, take}
use Rattle.std.proofs.Math.Option as math
use Rattle.meaning.specs.Basics.{absent}
use Rattle.meaning.specs.Layout.{base, host_of}
use Rattle.meaning.specs.Image.{Rule, raw_program}
use Rattle.meaning.specs.References.{names}
use Rattle.meaning.specs.Assigned.{assigned}
use Rattle.meaning.specs.FirstMatch.{first_match}
use Rattle.meaning.specs.Calls.{run_refusal, report_of, lending}
use Rattle.meaning.specs.declared.Refusal.{Refusal}
use Rattle.parts.specs.Series.{For}
use Rattle.meaning.specs.Matching.{total}
use Rattle.matching.specs.Next.{slots_at}
use Rattle.values.specs.Values.{values_of, Stored}

unfoldable pub is_fine : math.Option Refusal → Bool
is_fine math.none = true
is_fine (math.some w) = false

unfoldable pub is_match : Option (List ℕ) → Bool
is_match (Some slots) = true
is_match None = false

-- no number from 9 to 19 applies to the host and the image, at no fuel and no journal
unfoldable pub starts : List ℕ → List ℕ → List ℕ → Bool
starts nodes edges image = is_fine (run_refusal base (lending nodes edges [] image 0 (report_of 0 0)))

-- the first match of the rule of number i, with the values of the variables that occur on the left
pub record Answers (nodes edges image : List ℕ) (i : ℕ) (x : Option (List ℕ)) (lens atoms : List ℕ) : Type 0 where
  pub arrays : Stored lens atoms
  pub right : For (raw_program image) (λ p. (d : Rule) → slots_at (total (get_or p.rules i d)) x
      ≡ first_match (host_of base nodes edges) (get_or p.rules i d))
  pub values : For (raw_program image) (λ p. (d : Rule) (slots : List ℕ) → x ≡ Some slots → (v : ℕ)
      → absent v (names (get_or p.rules i d).left) ≡ false → values_of lens atoms v ≡ assigned
      (host_of base nodes edges)
      (get_or p.rules i d)
      (take (total (get_or p.rules i d)) slots)
      v)
