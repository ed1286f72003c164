-- Where the atoms of a variable lie in the label of its first item: behind so many single atoms and lists. Rests on
-- specs/Agreeing and on laws' Assignment and References.
use mathlib.Core.Path.{◌≡◌, refl, sym, ◌∙◌, ap}
use mathlib.Core.Bool.{Bool, true, false}
use mathlib.Core.Option.{some}
use mathlib.Core.List.{List, [], ◌∷◌}
use Prim.Native.Nat.{ℕ, suc, ◌+◌, ◌-◌, ◌*◌, ◌<◌, ◌≤◌, min}
use native.Mathlib.Omega.{arith}
use native.Mathlib.Decide.{dec_lt}
use native.Mathlib.Nat.{mul-le-mul}
use borrow.Author.Tests.{eqb-true}
use lib.ListN.{length, get_or, take, drop, length-drop}
use lib.Seq.{drop-drop}
use Rattle.std.proofs.lemmas.List.{take_min, drop_min}
use Rattle.meaning.specs.Layout.{most_atoms}
use Rattle.meaning.specs.Basics.{choose, either}
use Rattle.meaning.specs.Image.{limits, Rule, most_items}
use Rattle.meaning.specs.References.{labels, takes_list, lists, rule_holds}
use Rattle.meaning.specs.Matching.{left_nodes, left_edges, total}
use Rattle.meaning.specs.Assigned.{is_variable, share, spare, taken, or_else}
use Rattle.meaning.specs.FirstMatch.{has, first_with}
use Rattle.laws.specs.References.{label-simple}
use Rattle.laws.specs.Assignment.{labels_length, label-node, label-edge}
use Rattle.fields.specs.Parsed.{label-few, rule_node-is, rule_edge-is}
use Rattle.meaning.specs.declared.Element.{Element}
use Rattle.meaning.specs.declared.Element.TheVariants.{Constant, Variable, Sum, Difference}
use Rattle.parts.specs.Elements.{Counted}
use Rattle.parts.specs.declared.Counts.{Counts}
use Rattle.plan.specs.Plan.{Laid, singles_before, lists_before, label_of, before_at, elements_at, first_at, lists_at, singles_at}
use Rattle.agreeing.specs.Agreeing.{OnLeft, Takes}

-- The label of an item.

-- the first label that has a variable has it
has_first : (v : ℕ) (ls : List (List Element)) → first_with v ls < length ls → has v (get_or ls (first_with v ls) []) ≡ true
unfolding first_with choose
has_first v [] h = absurd (omega arith)
has_first v (l ∷ ls) h = go (has v l) refl h (has_first v ls)
  where
    go : (b : Bool) → has v l ≡ b → choose b 0 (suc (first_with v ls)) < suc (length ls)
        → (first_with v ls < length ls → has v (get_or ls (first_with v ls) []) ≡ true)
        → has v (get_or (l ∷ ls) (choose b 0 (suc (first_with v ls))) []) ≡ true
    go true q h ih = q
    go false q h ih = ih (omega arith)

-- a left label is short
label-short : {bs plan : List ℕ} {r : Rule} → Laid bs r plan → (j : ℕ) → j < total r → length (label_of r j) ≤ limits.elements
label-short {bs} {plan} {r} l j h = go (dec_lt j (left_nodes r))
  where
    go : Dec (j < left_nodes r) → length (label_of r j) ≤ limits.elements
    go (yes k) = rw (label-node r j k) (label-few _ _ (rule_node-is _ _ (l.items.node j k).is).label)
    go (no k) =
        let e : j ≡ left_nodes r + (j - left_nodes r) = omega arith in
        let i : j - left_nodes r < left_edges r = omega arith in
        rw (e, label-edge r (j - left_nodes r) i) (label-few _ _ (rule_edge-is _ _ (l.items.edge (j - left_nodes r) i).is).label)

-- it has no more lists than elements, as it has at most one
lists-within : (r : Rule) (l : List Element) → lists r l ≤ 1 → lists r l ≤ length l
unfolding lists
lists-within r [] h = omega arith
lists-within r (x ∷ l) h = omega arith

pub counted-simple : {r : Rule} → rule_holds r ≡ true → (j : ℕ) (s : Counts) → Counted r (label_of r j) s → s.lists ≤ s.elements
counted-simple {r} h j s c = omega (arith, c.long, c.listed, lists-within r (label_of r j) (label-simple r h j))

-- Before a variable.

before-within : (r : Rule) (v : ℕ) (l : List Element) → singles_before r v l + lists_before r v l ≤ length l
unfolding singles_before lists_before choose
before-within r v [] = omega arith
before-within r v (x ∷ l) = at (is_variable v x) (takes_list r x) (before-within r v l)
  where
    at : (b t : Bool) → singles_before r v l + lists_before r v l ≤ length l
        → choose b 0 (choose t (singles_before r v l) (suc (singles_before r v l))) + choose b 0 (choose t (suc (lists_before r v l)) (lists_before r v l)) ≤ suc (length l)
    at true t h = omega arith
    at false true h = omega arith
    at false false h = omega arith

share-variable : (r : Rule) (v n : ℕ) (x : Element) → is_variable v x ≡ true → share r n x ≡ share r n (Variable v)
unfolding is_variable
share-variable r v n (Constant c) e = let z : ◌≡◌ {A = ℕ} 0 1 = cc in absurd (omega arith)
share-variable r v n (Variable w) e = rw (eqb-true w v e)
share-variable r v n (Sum a b) e = let z : ◌≡◌ {A = ℕ} 0 1 = cc in absurd (omega arith)
share-variable r v n (Difference a b) e = let z : ◌≡◌ {A = ℕ} 0 1 = cc in absurd (omega arith)

-- what a variable takes lies behind what the elements before it take
taken_at : (r : Rule) (v n : ℕ) (l : List Element) (m : List ℕ) → has v l ≡ true
    → taken r v n l m ≡ some (take (share r n (Variable v)) (drop (singles_before r v l + lists_before r v l * n) m))
unfolding has taken singles_before lists_before either choose
taken_at r v n [] m e = let z : ◌≡◌ {A = ℕ} 0 1 = cc in absurd (omega arith)
taken_at r v n (x ∷ l) m e = at (is_variable v x) refl e (takes_list r x) refl (taken_at r v n l (drop (share r n x) m))
  where
    at : (b : Bool) → is_variable v x ≡ b → either b (has v l) ≡ true → (t : Bool) → takes_list r x ≡ t
        → (has v l ≡ true → taken r v n l (drop (choose t n 1) m) ≡ some (take (share r n (Variable v)) (drop (singles_before r v l + lists_before r v l * n) (drop (choose t n 1) m))))
        → choose b (some (take (choose t n 1) m)) (taken r v n l (drop (choose t n 1) m))
        ≡ some (take (share r n (Variable v)) (drop (choose b 0 (choose t (singles_before r v l) (suc (singles_before r v l))) + choose b 0 (choose t (suc (lists_before r v l)) (lists_before r v l)) * n) m))
    at true q e t u ih =
        let f : choose t n 1 ≡ share r n (Variable v) = ap (λ (d : Bool). choose d n 1) (sym u) ∙ share-variable r v n x q in
        let z : 0 + 0 * n ≡ 0 = omega arith in
        rw (f, z)
    at false q e true u ih =
        let z : n + (singles_before r v l + lists_before r v l * n) ≡ singles_before r v l + suc (lists_before r v l) * n = omega arith in
        ih e ∙ rw (drop-drop (singles_before r v l + lists_before r v l * n) n m, z)
    at false q e false u ih =
        let z : 1 + (singles_before r v l + lists_before r v l * n) ≡ suc (singles_before r v l) + lists_before r v l * n = omega arith in
        ih e ∙ rw (drop-drop (singles_before r v l + lists_before r v l * n) 1 m, z)

-- A variable of the rule that a left item has.

module _ {bs plan : List ℕ} {v : ℕ} (w : OnLeft bs plan v) where
  -- the first item that has it, and its label
  abbrev item : ℕ
  item = first_with v (labels w.rule.left)

  abbrev pattern : List Element
  pattern = label_of w.rule item

  pub item-is : get_or plan (first_at + v) 0 ≡ item
  item-is = (w.planned.first v w.there).item

  item-has : has v pattern ≡ true
  item-has = has_first v (labels w.rule.left) (omega (arith, w.placed, labels_length w.rule))

  pub item-low : get_or plan (first_at + v) 0 < most_items
  item-low = let i = w.planned.laid.items in omega (arith, item-is, w.placed, i.few_nodes, i.few_edges)

  pub item-counted : (s : Counts) → s.elements ≡ get_or plan (elements_at + get_or plan (first_at + v) 0) 0 → s.lists ≡ get_or plan (lists_at + get_or plan (first_at + v) 0) 0 → Counted w.rule pattern s
  item-counted s e f =
      let c = w.planned.labelled item w.placed in
      record { long = e ∙ rw item-is c.elements; listed = f ∙ rw item-is c.lists }

  pub item-simple : (s : Counts) → s.elements ≡ get_or plan (elements_at + get_or plan (first_at + v) 0) 0 → s.lists ≡ get_or plan (lists_at + get_or plan (first_at + v) 0) 0 → s.lists ≤ s.elements
  item-simple s e f = counted-simple w.planned.laid.holds item s (item-counted s e f)

  singles-is : get_or plan (singles_at + v) 0 ≡ singles_before w.rule v pattern
  singles-is = let f = w.planned.first v w.there in rw item-is at (f.singles (rw item-is w.placed))

  lists-is : get_or plan (before_at + v) 0 ≡ lists_before w.rule v pattern
  lists-is = let f = w.planned.first v w.there in rw item-is at (f.lists (rw item-is w.placed))

  -- few elements are before it, so that the place can be counted
  before-few : get_or plan (singles_at + v) 0 + get_or plan (before_at + v) 0 ≤ limits.elements
  before-few =
      let s = singles-is in
      let q = lists-is in
      omega (arith, before-within w.rule v pattern, label-short w.planned.laid item w.placed)

  pub place-low : (n : ℕ) → n ≤ most_atoms → get_or plan (singles_at + v) 0 + get_or plan (before_at + v) 0 * n ≤ limits.elements + limits.elements * most_atoms
  place-low n h = let k : get_or plan (before_at + v) 0 ≤ limits.elements = omega (arith, before-few) in omega (arith, before-few, mul-le-mul k h)

  -- where a list takes n atoms of a label of so many, it takes k of them from a place on
  module _ (len n k from : ℕ) (n-is : n ≡ spare w.rule pattern len) (k-is : k ≡ share w.rule n (Variable v))
      (from_is : from ≡ get_or plan (singles_at + v) 0 + get_or plan (before_at + v) 0 * n) where
    takes_all : Takes w.rule v len from k
    unfolding or_else
    takes_all m e = rw (taken_at w.rule v (spare w.rule pattern len) pattern m item-has, from_is, k-is, singles-is, lists-is, n-is)

    -- but what lies behind its end
    pub takes-cut : (f c : ℕ) → f ≡ min from len → c ≡ min k (len - f) → Takes w.rule v len f c
    takes-cut f c g h m e =
        let d : drop f m ≡ drop from m = ap (λ (x : ℕ). drop x m) (g ∙ ap (min from) (sym e)) ∙ drop_min from m in
        let q : c ≡ min k (length (drop f m)) = h ∙ ap (min k) (ap (λ (x : ℕ). x - f) (sym e) ∙ sym (length-drop f m)) in
        ap (λ (x : ℕ). take x (drop f m)) q ∙ take_min k (drop f m) ∙ ap (take k) d ∙ takes_all m e
