-- Label and tests of a slot that is likely: a label that agrees where its length fits, one that is compared, and the tests that are
-- left. Rests on agreeing's Candidates and Assigned and on laws' References and Labels.
use mathlib.Core.Path.{◌≡◌, refl, sym, ◌∙◌}
use mathlib.Core.Logic.{inl, inr}
use mathlib.Core.Bool.{Bool, true, false}
use mathlib.Core.List.{List, [], ◌∷◌, ◌++◌, append-nil}
use Prim.Native.Nat.{ℕ, ◌<◌, ◌≤◌}
use native.Mathlib.Omega.{arith}
use borrow.Author.Tests.{eq-eqb, eqb-true}
use lib.ListN.{length, length-append}
use lib.Seq.{get_or_at, take_all}
use Rattle.meaning.specs.Basics.{choose, same, concat}
use Rattle.meaning.specs.Layout.{Host}
use Rattle.meaning.specs.Image.{Rule}
use Rattle.meaning.specs.References.{labels, lists, rule_holds}
use Rattle.meaning.specs.Matching.{left_nodes, total, atoms_of, instance}
use Rattle.meaning.specs.FirstMatch.{length_fits, label_agrees, first_with, tests_so_far, fits}
use Rattle.meaning.specs.Assigned.{is_variable, share, spare, taken, or_else, assigned}
use Rattle.meaning.specs.Laws.Tests.{both_yes, both-no, both_of, same_of}
use Rattle.laws.specs.References.{label-simple}
use Rattle.laws.specs.Labels.{need, fits-need}
use Rattle.meaning.specs.declared.Element.TheVariants.{Variable}
use Rattle.plan.specs.Plan.{label_of, Alone}
use Rattle.agreeing.specs.Placed.{label_at}
use Rattle.agreeing.specs.Candidates.{Likely}
use Rattle.agreeing.specs.Assigned.{assigned-first}

-- A label that is empty, or one variable that its item is the first to have, agrees where its length fits.

-- such a variable takes all of the atoms
lone-takes : (r : Rule) (v : ℕ) (m : List ℕ) → lists r (Variable v ∷ []) ≤ 1 → length_fits r (Variable v ∷ []) m ≡ true
    → or_else (taken r v (spare r (Variable v ∷ []) (length m)) (Variable v ∷ []) m) [] ≡ m
unfolding taken is_variable or_else choose need
lone-takes r v m s f =
    let e = fits-need r (Variable v ∷ []) m s f in
    rw (eq-eqb v v refl) (take_all (share r (spare r (Variable v ∷ []) (length m)) (Variable v)) m (omega arith))

empty-fits : (r : Rule) (m : List ℕ) → length_fits r [] m ≡ true → m ≡ []
unfolding length_fits lists choose
empty-fits r m f = let e = eqb-true (length m) 0 f in sym (take_all 0 m (omega arith))

module _ (h : Host) (r : Rule) (p : List ℕ) (i c : ℕ) (n : length p ≡ i) (k : i < total r) (holds : rule_holds r ≡ true)
    (f : length_fits r (label_of r i) (label_at h (left_nodes r) i c) ≡ true) where
  first-takes : (v : ℕ) → label_of r i ≡ Variable v ∷ [] → first_with v (labels r.left) ≡ i
      → assigned h r (p ++ c ∷ []) v ≡ label_at h (left_nodes r) i c
  first-takes v l e =
      let s = length-append p (c ∷ []) in
      let a = rw (e, get_or_at p c [] 0 i n, l) at (assigned-first h r (p ++ c ∷ []) v (omega arith) (omega arith)) in
      a ∙ lone-takes r v (label_at h (left_nodes r) i c) (rw l at (label-simple r holds i)) (rw l at f)

  pub alone-agrees : Alone r i (label_of r i) → label_agrees r (assigned h r (p ++ c ∷ [])) (label_of r i) (label_at h (left_nodes r) i c) ≡ true
  unfolding label_agrees concat atoms_of
  alone-agrees (inl e) = both_of _ _ f (same_of _ _ (rw e (empty-fits r _ (rw e at f))))
  alone-agrees (inr x) =
      both_of _ _ f (same_of _ _ (rw x.is (sym (append-nil _ ∙ first-takes x.variable x.is x.first))))

-- Label and tests of a slot that is likely.

module _ {h : Host} {r : Rule} {sort : ℕ} {p : List ℕ} {i c : ℕ} (l : Likely h r sort p i c true) where
  -- the label agrees where the atoms are those that it stands for
  pub compared_is : (g : Bool) → g ≡ same (label_at h (left_nodes r) i c) (instance (assigned h r (p ++ c ∷ [])) (label_of r i))
      → label_agrees r (assigned h r (p ++ c ∷ [])) (label_of r i) (label_at h (left_nodes r) i c) ≡ g
  unfolding label_agrees
  compared_is g q = both_yes _ _ ((l.label refl).length refl) ∙ sym q

  pub compared_no : (g : Bool) → g ≡ same (label_at h (left_nodes r) i c) (instance (assigned h r (p ++ c ∷ [])) (label_of r i)) → g ≡ false
      → false ≡ fits h r p c
  compared_no g q e = sym (l.rest refl ∙ both-no _ _ (compared_is g q ∙ e))

  -- the tests are left where the label agrees
  pub left-tests : label_agrees r (assigned h r (p ++ c ∷ [])) (label_of r i) (label_at h (left_nodes r) i c) ≡ true
      → (b : Bool) → b ≡ tests_so_far h r (p ++ c ∷ []) → b ≡ fits h r p c
  left-tests e b q = q ∙ sym (l.rest refl ∙ both_yes _ _ e)
