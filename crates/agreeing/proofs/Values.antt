-- The values that a placement gives: that of a variable, from the first item that has it; and that the elements of a placed
-- item's label have values. Rests on Parts, on Assigned and on laws' References.
use mathlib.Core.Path.{◌≡◌, refl, sym, ◌∙◌}
use mathlib.Core.Bool.{Bool, true, false}
use mathlib.Core.List.{List, [], ◌∷◌}
use Prim.Native.Nat.{ℕ, zero, suc, ◌+◌, ◌<◌, ◌≤◌}
use native.Mathlib.Omega.{arith}
use borrow.Author.Tests.{eq-eqb}
use lib.ListN.{length, get_or, take, drop}
use Rattle.meaning.specs.Basics.{choose}
use Rattle.meaning.specs.Layout.{Host}
use Rattle.meaning.specs.Image.{Rule}
use Rattle.meaning.specs.References.{element_names, labels, is_plain, rule_holds}
use Rattle.meaning.specs.Matching.{left_nodes}
use Rattle.meaning.specs.Assigned.{is_variable, assigned}
use Rattle.meaning.specs.FirstMatch.{has, first_with}
use Rattle.meaning.specs.Laws.Tests.{either_left, either-right}
use Rattle.meaning.specs.Laws.Every.{Every}
use Rattle.laws.specs.References.{label-plain, label-variables}
use Rattle.meaning.specs.declared.Element.{Element}
use Rattle.meaning.specs.declared.Element.TheVariants.{Constant, Variable, Sum, Difference}
use Rattle.agreeing.specs.Placed.{slots, slot_of, label_at}
use Rattle.agreeing.specs.Agreeing.{ElementValued, HasValue, OnLeft, Takes}
use Rattle.agreeing.specs.Assigned.{assigned-first}
use Rattle.agreeing.proofs.Parts.{item-is}
use Rattle.plan.specs.Plan.{first_at, nodes_at}

-- A trial's variable: the slot of its first item, and its value where that item's label has it.

module _ {h : Host} {bs plan at : List ℕ} {i c v : ℕ} (w : HasValue h bs plan at i c v) where
  abbrev pub on-left : OnLeft bs plan v
  on-left =
      record {
        rule = w.trial.rule;
        planned = w.trial.planned;
        there = w.valued.0;
        placed = omega (arith, w.valued.1, w.trial.few);
      }

  first-placed : get_or plan (first_at + v) 0 < length w.trial.placed
  first-placed = omega (arith, item-is on-left, w.valued.1)

  module _ (x : ℕ) (s : x ≡ slot_of at i c (get_or plan (first_at + v) 0)) where
    first_slot : x ≡ get_or w.trial.placed (get_or plan (first_at + v) 0) 0
    first_slot = s ∙ w.trial.slot (get_or plan (first_at + v) 0) first-placed

    -- it is inside its table
    pub first-inside : x < slots h (get_or plan nodes_at 0) (get_or plan (first_at + v) 0)
    first-inside =
        let n : get_or plan nodes_at 0 ≡ left_nodes w.trial.rule = w.trial.planned.laid.items.nodes in
        rw (n, first_slot) (w.trial.inside (get_or plan (first_at + v) 0) first-placed)

    -- and what the variable takes of its label is its value
    module _ (m : List ℕ) (len from n : ℕ) (g : m ≡ label_at h (get_or plan nodes_at 0) (get_or plan (first_at + v) 0) x) (e : length m ≡ len) (t : Takes w.trial.rule v len from n) where
      pub part-value : take n (drop from m) ≡ assigned h w.trial.rule w.trial.placed v
      part-value =
          let f = item-is on-left in
          let k : get_or plan nodes_at 0 ≡ left_nodes w.trial.rule = w.trial.planned.laid.items.nodes in
          let q = assigned-first h w.trial.rule w.trial.placed v w.trial.few w.valued.1 in
          let d : m ≡ label_at h (left_nodes w.trial.rule) (first_with v (labels w.trial.rule.left)) (get_or w.trial.placed (first_with v (labels w.trial.rule.left)) 0) =
          g ∙ rw (first_slot, k, f)
          in
          t m e ∙ rw (← e, d) (sym q)

-- The elements of a placed item's label have values.

first_le : (v : ℕ) (ls : List (List Element)) (i : ℕ) → has v (get_or ls i []) ≡ true → first_with v ls ≤ i
unfolding first_with choose
first_le v [] i e = omega arith
first_le v (l ∷ ls) zero e = rw e (omega arith)
first_le v (l ∷ ls) (suc i) e = go (has v l) (first_le v ls i e)
  where
    go : (b : Bool) → first_with v ls ≤ i → choose b 0 (suc (first_with v ls)) ≤ suc i
    go true k = omega arith
    go false k = omega arith

module _ (r : Rule) (q : List ℕ) where
  element-valued : (x : Element) → is_plain x ≡ true → Every (λ v. v < length r.variables) (element_names x)
      → ((v : ℕ) → is_variable v x ≡ true → first_with v (labels r.left) < length q) → ElementValued r q x
  unfolding is_plain element_names is_variable
  element-valued (Constant c) p e f = tt
  element-valued (Variable v) p e f = ((e.0, f v (eq-eqb v v refl)), tt)
  element-valued (Sum a b) p e f = let z : ◌≡◌ {A = ℕ} 0 1 = cc in absurd (omega arith)
  element-valued (Difference a b) p e f = let z : ◌≡◌ {A = ℕ} 0 1 = cc in absurd (omega arith)

  elements-valued : (l : List Element) → Every (λ x. is_plain x ≡ true) l → Every (λ x. Every (λ v. v < length r.variables) (element_names x)) l
      → ((v : ℕ) → has v l ≡ true → first_with v (labels r.left) < length q) → Every (ElementValued r q) l
  unfolding has
  elements-valued [] p e f = tt
  elements-valued (x ∷ l) p e f = (
    element-valued x p.0 e.0 (λ v k. f v (either_left _ _ k)),
    elements-valued l p.1 e.1 (λ v k. f v (either-right _ _ k)),
  )

  pub label-valued : rule_holds r ≡ true → (i : ℕ) → i < length q → Every (ElementValued r q) (get_or (labels r.left) i [])
  label-valued holds i k =
      elements-valued (get_or (labels r.left) i []) (label-plain r holds i) (label-variables r holds i)
      (λ v e. let f = first_le v (labels r.left) i e in omega arith)
