-- Laws for the code that walks the parts of an image. Rests on Asked and on parts' Images.
use mathlib.Core.Path.{◌≡◌, refl, sym, ◌∙◌}
use mathlib.Core.Bool.{Bool, true}
use mathlib.Core.List.{List, [], ◌∷◌, ◌++◌, map}
use Prim.Native.Nat.{ℕ}
use native.Mathlib.Omega.{arith}
use Rattle.std.specs.Prelude.{Option as Known}
use Rattle.meaning.specs.Basics.{both, every}
use Rattle.meaning.specs.Image.{Rule, RawProgram, limits, command}
use Rattle.meaning.specs.Procedures.{everywhere}
use Rattle.meaning.specs.Tags.{procedure_tag, rule_tag}
use Rattle.meaning.specs.Laws.Tests.{both-last, every_append, every_map}
use Rattle.parts.specs.Series.{For}
use Rattle.parts.specs.Images.{Part, rule_of, procedure_of, main_of, procedure, image_part, image_parts, part-is, command-above}
use Rattle.command_checks.specs.declared.Demand.{Demand}
use Rattle.command_checks.specs.Asked.{command_asked, part_asked}

module _ (d : Demand) (t : List (Known ℕ)) where
  rules_pass : (xs : List Rule) (l : List Part) → every (part_asked d t) (map rule_of xs ++ l) ≡ every (part_asked d t) l
  unfolding part_asked every both
  rules_pass [] l = refl
  rules_pass (x ∷ xs) l = rules_pass xs l

  -- what is asked of all parts of an image is what is asked everywhere
  pub parts-asked : (tag : ℕ) (p : RawProgram) → everywhere (command_asked d t) p ≡ every (part_asked d t) (image_parts tag p)
  unfolding part_asked every
  parts-asked tag p =
      let main = main_of tag p.main ∷ [] in
      sym
      (rules_pass p.rules (map procedure_of p.procedures ++ main)
      ∙ every_append (part_asked d t) (map procedure_of p.procedures) main
      ∙ rw (every_map (part_asked d t) procedure_of p.procedures, ← (both-last (command_asked d t p.main))))

  module _ (tag : ℕ) (bs : List ℕ) where
    pub part-rule : tag ≡ rule_tag → For (image_part tag bs) (λ i. true ≡ part_asked d t i)
    unfolding part_asked
    part-rule h (rule_of x) e = refl
    part-rule h (procedure_of c) e = absurd (omega (arith, (part-is tag bs (procedure_of c) e).0))
    part-rule h (main_of u c) e = absurd (omega (arith, command-above tag bs c (part-is tag bs (main_of u c) e).1))

    module _ (r : Bool) where
      pub part-procedure : tag ≡ procedure_tag → For (procedure bs) (λ c. r ≡ command_asked d t c) → For (image_part tag bs) (λ i. r ≡ part_asked d t i)
      unfolding part_asked
      part-procedure h q (rule_of x) e = absurd (omega (arith, (part-is tag bs (rule_of x) e).0))
      part-procedure h q (procedure_of c) e = q c (part-is tag bs (procedure_of c) e).1
      part-procedure h q (main_of u c) e = absurd (omega (arith, command-above tag bs c (part-is tag bs (main_of u c) e).1))

      pub part-main : (tag ≡ rule_tag → ⊥) → (tag ≡ procedure_tag → ⊥) → For (command limits.depth tag bs) (λ c. r ≡ command_asked d t c) → For (image_part tag bs) (λ i. r ≡ part_asked d t i)
      unfolding part_asked
      part-main h k q (rule_of x) e = absurd (h (part-is tag bs (rule_of x) e).0)
      part-main h k q (procedure_of c) e = absurd (k (part-is tag bs (procedure_of c) e).0)
      part-main h k q (main_of u c) e = q c (part-is tag bs (main_of u c) e).1
