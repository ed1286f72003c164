-- The checks of a run's input, in their order: lengths and fuel, then contents. Rests on the meaning's Calls.
use Rattle.std.specs.Prelude.{Bool, List, [], ◌∷◌, ◌++◌, ℕ, length, leb}
use Rattle.meaning.specs.Basics.{is_some}
use Rattle.meaning.specs.Layout.{keeps_layout}
use Rattle.meaning.specs.Image.{limits, raw_program}
use Rattle.meaning.specs.References.{references}
use Rattle.meaning.specs.Placement.{placement}
use Rattle.meaning.specs.Procedures.{depth_holds}
use Rattle.meaning.specs.Calls.{length_checks, holds, most_fuel}
use Rattle.meaning.specs.declared.Layout.{Layout}
use Rattle.meaning.specs.declared.Refusal.{Refusal}
use Rattle.meaning.specs.declared.Refusal.TheVariants.{TooMuchFuel, ImageTooLong, BadHost, BadForm, BadReferences, BadPlacement, BadDepth}

-- form, references, placement, depth: 16 to 19
abbrev pub image_checks : List ℕ → List (Bool × Refusal)
image_checks image =
    (is_some (raw_program image), BadForm)
    ∷ (holds references (raw_program image), BadReferences)
    ∷ (holds placement (raw_program image), BadPlacement)
    ∷ (holds depth_holds (raw_program image), BadDepth)
    ∷ []

module _ (L : Layout) where
  -- lengths and fuel: 9 to 14
  abbrev pub size_checks : List ℕ → List ℕ → List ℕ → List ℕ → ℕ → List ℕ → List (Bool × Refusal)
  size_checks nodes edges journal image fuel report =
      length_checks L nodes edges journal report
      ++ (leb fuel most_fuel, TooMuchFuel)
      ∷ (leb (length image) limits.bytes, ImageTooLong)
      ∷ []

  -- the host and the image: 15 to 19
  abbrev pub content_checks : List ℕ → List ℕ → List ℕ → List (Bool × Refusal)
  content_checks nodes edges image = (keeps_layout L nodes edges, BadHost) ∷ image_checks image
