-- Elements by their tags and bytes: what a trial gives their variables, and the atoms that they stand for. Rests on
-- specs/Agreeing, on slots' Laid, on fields' Parsed and on the meaning's Matching.
use mathlib.Core.Path.{◌≡◌, refl, sym, ◌∙◌, ap, subst}
use mathlib.Core.Option.{some}
use mathlib.Core.List.{List, [], ◌∷◌}
use Prim.Native.Nat.{ℕ, ◌≤◌}
use native.Mathlib.Omega.{arith}
use native.Mathlib.Decide.{ℕ_discrete}
use lib.ListN.{length, get_or}
use lib.Seq.{take_all}
use Rattle.meaning.specs.Tags.{constant_tag, variable_tag, sum_tag, difference_tag}
use Rattle.meaning.specs.Numbers.{number}
use Rattle.meaning.specs.Basics.{same}
use Rattle.meaning.specs.Layout.{Host, atom_length, pieces}
use Rattle.meaning.specs.Image.{element}
use Rattle.meaning.specs.References.{element_names}
use Rattle.meaning.specs.Matching.{Assignment, atoms_of}
use Rattle.meaning.specs.declared.Element.{Element}
use Rattle.meaning.specs.declared.Element.TheVariants.{Variable}
use Rattle.fields.specs.Image.{element-other}
use Rattle.fields.specs.Parsed.{constant-read, variable-read, sum-read, difference-read}
use Rattle.slots.specs.Laid.{laid}
use Rattle.std.specs.Prelude.{Option, Some}
use Rattle.agreeing.specs.Agreeing.{AgreesFrom, Valued, HasValue, HasElement}

-- as many bytes as an atom has are one
laid_one : (bs : List ℕ) → length bs ≡ atom_length → laid bs ≡ number bs ∷ []
unfolding pieces
laid_one bs e = rw (e, take_all atom_length bs (omega arith))

-- What elements stand for.

module _ (α : Assignment) (tag : ℕ) (bs : List ℕ) (e : Element) (s : element tag bs ≡ some e) where
  pub constant-laid : tag ≡ constant_tag → atoms_of α e ≡ laid bs
  unfolding atoms_of
  constant-laid h = let t = constant-read tag bs e h s in rw t.1 (sym (laid_one bs t.0))

  variable-is : tag ≡ variable_tag → e ≡ Variable (get_or bs 0 0)
  variable-is h = (variable-read tag bs e h s).1

  variable-atoms : tag ≡ variable_tag → atoms_of α e ≡ α (get_or bs 0 0)
  unfolding atoms_of
  variable-atoms h = rw (variable-is h)

  -- what agrees with the variable's value agrees with the element
  pub variable-agrees : (m : List ℕ) (from : ℕ) (r : Option ℕ) (v : ℕ) (l : List ℕ) → tag ≡ variable_tag → v ≡ get_or bs 0 0 → l ≡ α v → AgreesFrom m from l r → AgreesFrom m from (atoms_of α e) r
  variable-agrees m from r v l h q f g = subst (λ (x : List ℕ). AgreesFrom m from x r) (f ∙ ap α q ∙ sym (variable-atoms h)) g

  no-atoms : (tag ≡ constant_tag → ⊥) → (tag ≡ variable_tag → ⊥) → atoms_of α e ≡ []
  unfolding atoms_of
  no-atoms h k = at (ℕ_discrete tag sum_tag) (ℕ_discrete tag difference_tag)
    where
      at : Dec (tag ≡ sum_tag) → Dec (tag ≡ difference_tag) → atoms_of α e ≡ []
      at (yes q) d = rw (sum-read tag bs e q s).2
      at (no q) (yes d) = rw (difference-read tag bs e d s).2
      at (no q) (no d) = let f = sym (element-other tag bs h k q d) ∙ s in let z : ◌≡◌ {A = ℕ} 0 1 = cc in absurd (omega arith)

  -- which every label has at any place
  pub nothing-agrees : (m : List ℕ) (from : ℕ) → (tag ≡ constant_tag → ⊥) → (tag ≡ variable_tag → ⊥) → from ≤ length m → AgreesFrom m from (atoms_of α e) (Some from)
  unfolding same
  nothing-agrees m from h k f = rw (no-atoms h k) (omega arith, f, refl)

-- What a trial gives.

module _ {h : Host} {bs plan at : List ℕ} {i c tag : ℕ} {p : List ℕ} (w : HasElement h bs plan at i c tag p) (k : tag ≡ variable_tag) (v : ℕ) (q : v ≡ get_or p 0 0) where
  pub element-variable : Valued w.trial.rule w.trial.placed v
  unfolding element_names
  element-variable = rw q (rw (variable-is (λ v. []) tag p w.element w.spelt k) at w.valued).0

  abbrev pub of-element : HasValue h bs plan at i c v
  of-element = record { trial = w.trial; valued = element-variable }
