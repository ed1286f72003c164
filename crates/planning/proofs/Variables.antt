-- Which element is a variable and which takes a list, where a label has a variable, and which label is the first that
-- does. Rests on plan's Plan, on the meaning's FirstMatch and on parts' Series.
use mathlib.Core.Path.{◌≡◌, refl, sym, ◌∙◌, ap}
use mathlib.Core.Option.{some, none}
use mathlib.Core.List.{List, [], ◌∷◌}
use mathlib.Core.Bool.{Bool, true, false}
use Prim.Native.Nat.{ℕ, zero, suc, ◌+◌, ◌-◌, ◌<◌, ◌≤◌}
use native.Mathlib.Omega.{arith}
use native.Mathlib.Decide.{ℕ_discrete}
use borrow.Author.Tests.{eq-eqb}
use Rattle.std.proofs.Common.{ne_eqb}
use lib.ListN.{length, get_or, take, drop}
use Rattle.meaning.specs.Tags.{constant_tag, difference_tag, sum_tag, variable_tag}
use Rattle.fields.specs.Image.{element-other}
use Rattle.fields.specs.Parsed.{constant-read, variable-read, sum-read, difference-read}
use Rattle.meaning.specs.Basics.{choose, either}
use Rattle.meaning.specs.Image.{limits, Rule, field, element, passes_all, label}
use Rattle.meaning.specs.References.{takes_list}
use Rattle.meaning.specs.Assigned.{is_variable}
use Rattle.meaning.specs.Matching.{left_nodes, left_edges}
use Rattle.meaning.specs.FirstMatch.{has, first_with}
use Rattle.meaning.specs.Laws.Tests.{choose_true, choose_false}
use Rattle.meaning.specs.declared.Element.{Element}
use Rattle.meaning.specs.declared.Element.TheVariants.{Constant, Variable, Sum, Difference}
use Rattle.fields.specs.Laws.{Lies}
use Rattle.parts.specs.Series.{Series, only-series, series-none, series-some, series-there}
use Rattle.plan.specs.Plan.{FirstAt, singles_before, lists_before}
use Rattle.planning.specs.Planning.{variable_of, Occurring, FirstFound}
use Rattle.std.specs.Prelude.{Option, Some, None}
use Rattle.std.specs.Option.{unwrap_or}
use Rattle.planning.specs.declared.First.{First}

-- Elements.

module _ (tag : ℕ) (bs : List ℕ) (e : Element) (q : element tag bs ≡ some e) where
  pub variable-yes : tag ≡ variable_tag → Some (get_or bs 0 0) ≡ variable_of e
  variable-yes h = let t = variable-read tag bs e h q in rw t.1

  pub variable-no : (tag ≡ variable_tag → ⊥) → None ≡ variable_of e
  variable-no h = at (ℕ_discrete tag constant_tag) (ℕ_discrete tag sum_tag) (ℕ_discrete tag difference_tag)
    where
      at : Dec (tag ≡ constant_tag) → Dec (tag ≡ sum_tag) → Dec (tag ≡ difference_tag) → None ≡ variable_of e
      at (yes a) b c = rw (constant-read tag bs e a q).1
      at (no a) (yes b) c = rw (sum-read tag bs e b q).2
      at (no a) (no b) (yes c) = rw (difference-read tag bs e c q).2
      at (no a) (no b) (no c) =
          let n = element-other tag bs a h b c in
          let z : ◌≡◌ {A = ℕ} 0 1 = cc in
          absurd (omega arith)

variable-is : (e : Element) (w : ℕ) → Some w ≡ variable_of e → e ≡ Variable w
variable-is (Constant c) w h = cc
variable-is (Variable x) w h = cc
variable-is (Sum a b) w h = cc
variable-is (Difference a b) w h = cc

variable-other : (v : ℕ) (r : Rule) (e : Element) → None ≡ variable_of e → (is_variable v e ≡ false) × (takes_list r e ≡ false)
unfolding is_variable takes_list
variable-other v r (Constant c) h = (refl, refl)
variable-other v r (Variable x) h = cc
variable-other v r (Sum a b) h = (refl, refl)
variable-other v r (Difference a b) h = (refl, refl)

-- Labels. A loop that looks for the variable, behind s elements of one atom and q lists: what is left of the label has it
-- where the label has.

pub record Left (r : Rule) (v : ℕ) (p : List ℕ) (at s q : ℕ) (l : List Element) : Type 0 where
  pub elements : List Element
  pub series : Series element elements [] (drop at p)
  pub same : has v l ≡ has v elements
  pub singles : singles_before r v l ≡ s + singles_before r v elements
  pub lists : lists_before r v l ≡ q + lists_before r v elements

pub record Seeking (types : List ℕ) (v : ℕ) (p : List ℕ) (at s q : ℕ) : Type 0 where
  pub few : s + q ≤ at
  pub left : (r : Rule) → r.variables ≡ types → (l : List Element) → label p ≡ some l → Left r v p at s q l

pub seeking_start : (types : List ℕ) (v : ℕ) (p : List ℕ) → Seeking types v p 0 0 0
unfolding label
seeking_start types v p =
    record {
      few = omega arith;
      left = λ r k l e. record { elements = l; series = only-series passes_all element element (λ tag bs a h q. q) limits.elements p l e; same = refl; singles = omega arith; lists = omega arith };
    }

module _ {types : List ℕ} {v : ℕ} {p : List ℕ} {at s q : ℕ} (w : Seeking types v p at s q) where
  pub seeking_done : length p ≤ at → (r : Rule) → r.variables ≡ types → (l : List Element) → label p ≡ some l → has v l ≡ false
  unfolding has
  seeking_done h r k l e =
      let x = w.left r k l e in
      x.same ∙ ap (has v) (series-none element p at x.elements x.series h)

  module _ {tag start end : ℕ} {part : List ℕ} {o : Option ℕ} (h : at < length p) (k : Lies p at tag start end) (is : part ≡ take (end - start) (drop start p)) (t : (e : Element) → element tag part ≡ some e → o ≡ variable_of e) where
    pub seeking_found : o ≡ Some v → (r : Rule) → r.variables ≡ types → (l : List Element) → label p ≡ some l → Occurring r v l (Some (record { singles = s; lists = q }))
    unfolding has either singles_before lists_before choose is_variable
    seeking_found g r i l e =
        let x = w.left r i l e in
        let n = series-some element p at x.elements x.series h tag start end k in
        let d : n.first ≡ Variable v = variable-is n.first v (sym g ∙ t n.first (ap (element tag) is ∙ n.read)) in
        let y : is_variable v n.first ≡ true = ap (is_variable v) d ∙ eq-eqb v v refl in (
          x.same ∙ ap (has v) n.parts ∙ rw y,
          sym (x.singles ∙ ap (λ (m : List Element). s + singles_before r v m) n.parts ∙ rw y (omega arith)),
          sym (x.lists ∙ ap (λ (m : List Element). q + lists_before r v m) n.parts ∙ rw y (omega arith)),
        )

    -- a turn that does not find it
    seeking_turn : (s' q' : ℕ) → s' + q' ≡ s + q + 1
        → ((r : Rule) → r.variables ≡ types → (a : Element) → o ≡ variable_of a → (is_variable v a ≡ false) × ((m : List Element) → (s + singles_before r v (a ∷ m) ≡ s' + singles_before r v m) × (q + lists_before r v (a ∷ m) ≡ q' + lists_before r v m)))
        → Seeking types v p end s' q'
    unfolding has either
    seeking_turn s' q' z f =
        record {
          few = omega (arith, w.few, k.starts, k.ends);
          left = λ r i l e.
              let x = w.left r i l e in
              let n = series-some element p at x.elements x.series h tag start end k in
              let y = f r i n.first (t n.first (ap (element tag) is ∙ n.read)) in
              let g = y.0 in
              let c = y.1 n.others in
              record {
                elements = n.others;
                series = n.series;
                same = x.same ∙ ap (has v) n.parts ∙ rw g;
                singles = x.singles ∙ ap (λ (m : List Element). s + singles_before r v m) n.parts ∙ c.0;
                lists = x.lists ∙ ap (λ (m : List Element). q + lists_before r v m) n.parts ∙ c.1;
              };
        }

    -- another variable
    module _ {x : ℕ} (g : o ≡ Some x) (d : x ≡ v → ⊥) where
      other-variable : (a : Element) → o ≡ variable_of a → (a ≡ Variable x) × (is_variable v a ≡ false)
      unfolding is_variable
      other-variable a e = let b : a ≡ Variable x = variable-is a x (sym g ∙ e) in (b, ap (is_variable v) b ∙ ne_eqb x v d)

      pub seeking_list : ((r : Rule) → r.variables ≡ types → true ≡ takes_list r (Variable x)) → Seeking types v p end s (q + 1)
      unfolding singles_before lists_before choose
      seeking_list u = seeking_turn s (q + 1) (omega arith) (λ r i a e.
          let b = other-variable a e in
          let y = b.1 in
          let z : takes_list r a ≡ true = ap (takes_list r) b.0 ∙ sym (u r i) in
          (y, λ m. (rw (y, z), rw (y, z) (omega arith))))

      pub seeking_int : ((r : Rule) → r.variables ≡ types → false ≡ takes_list r (Variable x)) → Seeking types v p end (s + 1) q
      unfolding singles_before lists_before choose
      seeking_int u = seeking_turn (s + 1) q (omega arith) (λ r i a e.
          let b = other-variable a e in
          let y = b.1 in
          let z : takes_list r a ≡ false = ap (takes_list r) b.0 ∙ sym (u r i) in
          (y, λ m. (rw (y, z) (omega arith), rw (y, z))))

    -- no variable
    pub seeking_single : o ≡ None → Seeking types v p end (s + 1) q
    unfolding singles_before lists_before choose
    seeking_single g = seeking_turn (s + 1) q (omega arith) (λ r i a e.
        let b = variable-other v r a (sym g ∙ e) in
        let y = b.0 in
        let z = b.1 in
        (y, λ m. (rw (y, z) (omega arith), rw (y, z))))

  pub seeking_cut : at < length p → field (drop at p) ≡ none → (r : Rule) → r.variables ≡ types → (l : List Element) → label p ≡ some l → has v l ≡ false
  seeking_cut h k r i l e = let x = w.left r i l e in absurd (series-there element p at x.elements x.series h k)

-- The first label.

pub first-at : (v j : ℕ) (ls : List (List Element)) → j < length ls → ((i : ℕ) → i < j → has v (get_or ls i []) ≡ false) → has v (get_or ls j []) ≡ true → j ≡ first_with v ls
unfolding first_with
first-at v j [] h f e = absurd (omega arith)
first-at v zero (l ∷ ls) h f e = sym (choose_true (has v l) zero (suc (first_with v ls)) e)
first-at v (suc j) (l ∷ ls) h f e =
    ap suc (first-at v j ls (omega arith) (λ i k. f (suc i) (omega arith)) e)
    ∙ sym (choose_false (has v l) zero (suc (first_with v ls)) (f 0 (omega arith)))

pub first-none : (v : ℕ) (ls : List (List Element)) → ((i : ℕ) → i < length ls → has v (get_or ls i []) ≡ false) → length ls ≡ first_with v ls
unfolding first_with
first-none v [] f = refl
first-none v (l ∷ ls) f =
    ap suc (first-none v ls (λ i k. f (suc i) (omega arith)))
    ∙ sym (choose_false (has v l) zero (suc (first_with v ls)) (f 0 (omega arith)))

pub first-low : (v : ℕ) (ls : List (List Element)) → first_with v ls ≤ length ls
unfolding first_with choose
first-low v [] = omega arith
first-low v (l ∷ ls) = at (has v l) (first-low v ls)
  where
    at : (b : Bool) → first_with v ls ≤ length ls → choose b zero (suc (first_with v ls)) ≤ suc (length ls)
    at true h = omega arith
    at false h = omega arith

-- the labels below a number that lack the variable, and one more
pub none_more : (v j : ℕ) (ls : List (List Element)) → ((i : ℕ) → i < j → has v (get_or ls i []) ≡ false) → has v (get_or ls j []) ≡ false
    → (i : ℕ) → i < j + 1 → has v (get_or ls i []) ≡ false
none_more v j ls f e i h = at (ℕ_discrete i j)
  where
    at : Dec (i ≡ j) → has v (get_or ls i []) ≡ false
    at (yes q) = rw q e
    at (no q) = f i (omega arith)

-- what is written of a variable that no item has is how many items there are
pub found_or : (r : Rule) (v : ℕ) (o : Option First) (d : First) → FirstFound r v o → d.item ≡ left_nodes r + left_edges r
    → FirstAt r v (unwrap_or o d).item (unwrap_or o d).behind.singles (unwrap_or o d).behind.lists
found_or r v (Some f) d w e = w
found_or r v None d w e =
    record {
      item = e ∙ sym w;
      singles = λ h. absurd (omega arith);
      lists = λ h. absurd (omega arith);
    }
