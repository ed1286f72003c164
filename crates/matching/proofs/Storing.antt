-- The values of the variables in arrays, one variable at a time.
use Prim.Native.Nat.{ℕ, ◌+◌, ◌-◌, ◌*◌, ◌≤◌, ◌<◌}
use mathlib.Core.Path.{◌≡◌, refl, sym, ◌∙◌}
use mathlib.Core.Logic.{◌⊎◌, inl, inr, ⊎_map}
use mathlib.Core.Bool.{Bool, true, false}
use mathlib.Core.List.{List, ◌++◌}
use native.Mathlib.Omega.{arith}
use native.Mathlib.Decide.{ℕ_discrete, dec_lt}
use borrow.Author.Tests.{ltb-true}
use lib.Dec.{ltb}
use lib.ListN.{length, get_or, take, drop, set, length-set, length-drop}
use lib.Seq.{ext_get_or, get_or-take, get_or-drop, get_or-set_same, get_or-set_other, length-take-le}
use Rattle.meaning.specs.Basics.{absent}
use Rattle.meaning.specs.Numbers.{whole}
use Rattle.meaning.specs.Layout.{Host, most_atoms}
use Rattle.meaning.specs.Image.{Rule, most_items, limits}
use Rattle.meaning.specs.References.{labels, names, test_names, variables_exist, rule_holds}
use Rattle.meaning.specs.FirstMatch.{first_with}
use Rattle.meaning.specs.Assigned.{assigned}
use Rattle.meaning.specs.Laws.Tests.{both_true, absent-false, every_true, every_append, clauses-true}
use Rattle.laws.specs.References.{left-plain}
use Rattle.laws.specs.Assignment.{labels_length}
use Rattle.laws.specs.Decided.{first-with}
use Rattle.agreeing.specs.Placed.{Known, Inside, Full}
use Rattle.agreeing.specs.Agreeing.{HasValue}
use Rattle.meaning.specs.Matching.{total}
use Rattle.values.specs.Values.{values_of, Stored, values_room}
use Rattle.matching.specs.Values.{Copied, HasValues}
use Rattle.matching.proofs.Plans.{levels-of}
use Rattle.matching.proofs.Completing.{all_placed}
use Rattle.plan.specs.Plan.{edges_at, first_at, nodes_at}

-- a part of two lists is the same where their elements are
same-part : (n k : ℕ) (xs ys : List ℕ) → k + n ≤ length xs → k + n ≤ length ys
    → ((j : ℕ) → j < n → get_or xs (k + j) 0 ≡ get_or ys (k + j) 0) → take n (drop k xs) ≡ take n (drop k ys)
same-part n k xs ys a b e =
    let s : length (take n (drop k xs)) ≡ n = length-take-le n (drop k xs) (omega (arith, length-drop k xs)) in
    let t : length (take n (drop k ys)) ≡ n = length-take-le n (drop k ys) (omega (arith, length-drop k ys)) in
    ext_get_or 0 (take n (drop k xs)) (take n (drop k ys)) (s ∙ sym t) (λ j h.
    let l : j < n = omega arith in
    get_or-take n (drop k xs) j 0 l ∙ get_or-drop k xs j 0 ∙ e j l ∙ sym (get_or-take n (drop k ys) j 0 l ∙ get_or-drop k ys j 0))

-- Copying, one atom at a time.

pub record Copying (start j : ℕ) (new before after : List ℕ) : Type 0 where
  pub room : length after ≡ values_room
  pub words : (x : ℕ) → x < j → get_or new x 0 < whole
  pub inside : (x : ℕ) → x < j → get_or after (start + x) 0 ≡ get_or new x 0
  pub outside : (x : ℕ) → (x < start) ⊎ (start + j ≤ x) → get_or after x 0 ≡ get_or before x 0

pub copy_none : (start : ℕ) (new before : List ℕ) → length before ≡ values_room → Copying start 0 new before before
copy_none start new before e = record { room = e; words = λ x k. absurd (omega arith); inside = λ x k. absurd (omega arith); outside = λ x k. refl }

pub copied_all : (start j : ℕ) (new before after : List ℕ) → j ≡ length new → Copying start j new before after
    → Copied start new before after
copied_all start j new before after e s =
    let t : Copying start (length new) new before after = rw e at s in
    record { room = t.room; words = t.words; inside = t.inside; outside = t.outside }

pub copy_more : (start j y : ℕ) (new before after : List ℕ) → y ≡ get_or new j 0 → y < whole → start + j < values_room → Copying start j new before after
    → Copying start (j + 1) new before (set after (start + j) y)
copy_more start j y new before after q w h s = record {
  room = length-set after (start + j) y ∙ s.room;
  words = λ x k. word x k (ℕ_discrete x j);
  inside = λ x k. at x k (ℕ_discrete x j);
  outside = λ x k.
      get_or-set_other after (start + j) x y 0 (apart x k)
      ∙ s.outside x (⊎_map (λ (l : x < start). l) (λ (l : start + (j + 1) ≤ x). omega arith) k);
}
  where
    word : (x : ℕ) → x < j + 1 → Dec (x ≡ j) → get_or new x 0 < whole
    word x k (yes e) = rw (e, ← q) w
    word x k (no e) = s.words x (omega arith)

    at : (x : ℕ) → x < j + 1 → Dec (x ≡ j) → get_or (set after (start + j) y) (start + x) 0 ≡ get_or new x 0
    at x k (yes e) = rw (e, ← q) (get_or-set_same after (start + j) y 0 (omega (arith, s.room)))
    at x k (no e) = get_or-set_other after (start + j) (start + x) y 0 (omega arith) ∙ s.inside x (omega arith)

    apart : (x : ℕ) → (x < start) ⊎ (start + (j + 1) ≤ x) → x ≡ start + j → ⊥
    apart x (inl k) e = omega arith
    apart x (inr k) e = omega arith

-- The arrays, one variable at a time.

-- variable v gets the n atoms of a label
module _ (v n : ℕ) (lens atoms after new : List ℕ) (low : v < limits.variables) (x : Stored lens atoms)
    (s : Copied (most_atoms * v) new atoms after) (q : n ≡ length new) (few : n ≤ most_atoms) where
  pub arrays-more : Stored (set lens v n) after
  arrays-more = record {
    variables = length-set lens v n ∙ x.variables;
    room = s.room;
    few = λ u. short u (ℕ_discrete u v);
    words = λ i. word i (dec_lt i (most_atoms * v)) (dec_lt i (most_atoms * v + n));
  }
    where
      short : (u : ℕ) → Dec (u ≡ v) → get_or (set lens v n) u 0 ≤ most_atoms
      short u (yes e) = rw (e, get_or-set_same lens v n 0 (omega (arith, x.variables))) few
      short u (no e) = rw (get_or-set_other lens v u n 0 e) (x.few u)

      word : (i : ℕ) → Dec (i < most_atoms * v) → Dec (i < most_atoms * v + n) → get_or after i 0 < whole
      word i (yes d) e = rw (s.outside i (inl d)) (x.words i)
      word i (no d) (yes e) =
          let f : most_atoms * v + (i - most_atoms * v) ≡ i = omega arith in
          let k : i - most_atoms * v < length new = omega arith in
          rw (rw f at (s.inside (i - most_atoms * v) k)) (s.words (i - most_atoms * v) k)
      word i (no d) (no e) = rw (s.outside i (inr (omega arith))) (x.words i)

  -- which it then has
  pub value-new : values_of (set lens v n) after v ≡ new
  value-new =
      let e : get_or (set lens v n) v 0 ≡ n = get_or-set_same lens v n 0 (omega (arith, x.variables)) in
      let t : length (take n (drop (most_atoms * v) after)) ≡ n = length-take-le n (drop (most_atoms * v) after) (omega (arith, length-drop (most_atoms * v) after, s.room)) in
      rw e
      (ext_get_or 0 _ new (t ∙ q) (λ j h.
      let k : j < n = omega arith in
      get_or-take n (drop (most_atoms * v) after) j 0 k ∙ get_or-drop (most_atoms * v) after j 0 ∙ s.inside j (omega arith)))

  -- and those before it keep theirs
  pub value-old : (u : ℕ) → u < v → values_of (set lens v n) after u ≡ values_of lens atoms u
  value-old u k =
      rw (get_or-set_other lens v u n 0 (omega arith))
      (same-part (get_or lens u 0) (most_atoms * u) after atoms (omega (arith, s.room, x.few u)) (omega (arith, x.room, x.few u))
      (λ j l. s.outside (most_atoms * u + j) (inl (omega (arith, x.few u)))))

  pub values-more : (h : Host) (r : Rule) (p : List ℕ) → new ≡ assigned h r p v → HasValues h r p v lens atoms
      → HasValues h r p (v + 1) (set lens v n) after
  values-more h r p is y u k l = by (ℕ_discrete u v)
    where
      by : Dec (u ≡ v) → values_of (set lens v n) after u ≡ assigned h r p u
      by (yes e) = rw e (value-new ∙ is)
      by (no e) = value-old u (omega arith) ∙ y u (omega arith) l

-- no left item has variable v
pub values-skip : (h : Host) (r : Rule) (p : List ℕ) (v : ℕ) (lens atoms : List ℕ) → total r ≤ first_with v (labels r.left)
    → HasValues h r p v lens atoms → HasValues h r p (v + 1) lens atoms
values-skip h r p v lens atoms m x u k l = x u (by (ℕ_discrete u v)) l
  where
    by : Dec (u ≡ v) → u < v
    by (yes e) = let f : total r ≤ first_with u (labels r.left) = rw e m in absurd (omega arith)
    by (no e) = omega arith

-- a variable that occurs on the left is one of the rule's, and a left item has it
pub on-left : (r : Rule) → rule_holds r ≡ true → (v : ℕ) → absent v (names r.left) ≡ false
    → (v < length r.variables) × (first_with v (labels r.left) < total r)
unfolding rule_holds variables_exist
on-left r holds v e =
    let exists : ℕ → Bool = λ u. ltb u (length r.variables) in
    let sides = names r.left ++ names r.right in
    let all-exist = (both_true _ _ (sym (every_append exists sides (test_names r)) ∙ clauses-true _ holds 0)).0 in
    let left-exist = (both_true _ _ (sym (every_append exists (names r.left) (names r.right)) ∙ all-exist)).0 in
    let t = absent-false v (names r.left) e in (
      rw t.2
          at (ltb-true (get_or (names r.left) t.0 0) (length r.variables) (every_true exists (names r.left) 0 left-exist t.0 t.1)),
      omega (arith, (first-with v (labels r.left) (left-plain r holds) e).0, labels_length r),
    )

-- A full placement gives them.

module _ (h : Host) (bs plan at : List ℕ) (w : Known bs plan) (room : length at ≡ most_items)
    (inside : Inside h (get_or plan nodes_at 0) at (get_or plan nodes_at 0 + get_or plan edges_at 0)) where
  abbrev placed : Full h bs plan at most_items 0
  placed = all_placed h bs plan at w room inside

  abbrev pub has_value : (v : ℕ) → v < length w.rule.variables → get_or plan (first_at + v) 0 < get_or plan nodes_at 0 + get_or plan edges_at 0
      → HasValue h bs plan at most_items 0 v
  has_value v k l = record {
    trial = placed.trial;
    valued = (k, omega (arith, placed.whole, (w.planned.first v k).item, levels-of _ _ w));
  }
