-- Free slots of a table from a number on, slot by slot; and that a live slot is there. Rests on specs/Tables.
use mathlib.Core.Path.{◌≡◌, refl, sym, ◌∙◌, ap}
use mathlib.Core.Bool.{Bool, true, false, not}
use mathlib.Core.List.{List}
use Prim.Native.Nat.{ℕ, ◌+◌, ◌-◌, ◌<◌, ◌≤◌}
use native.Mathlib.Omega.{arith}
use Rattle.std.specs.Bool.{MatchBool}
use Rattle.std.specs.List.{AllWithin, HoldsAt, range_with_len}
use Rattle.std.proofs.Common.{subst}
use Rattle.std.proofs.lemmas.List.FromFn.{length-range_with_len, get_or-range_with_len}
use lib.ListN.{length, drop, length-drop, get_or-eq_default}
use lib.Seq.{get_or-drop}
use Rattle.meaning.specs.Basics.{every}
use Rattle.meaning.specs.Layout.{Slot, free, is_live, live_at, read_nodes, read_edges}
use Rattle.meaning.specs.Laws.Tests.{every_true, every_of}
use Rattle.meaning.specs.Laws.Slots.{live_at_lt}
use Rattle.meaning.specs.declared.Layout.{Layout}
use Rattle.meaning.specs.declared.Table.{Table}
use Rattle.meaning.specs.declared.Table.TheVariants.{Nodes, Edges}
use Rattle.graph.specs.Graph.{slots_in}
use Rattle.carrying.specs.Tables.{live_in, free_from_in}

-- a test of each number from one on up to another
pub all-between : (Yes No : ℕ → Type 0) (n end : ℕ) (r : Bool)
    → MatchBool r (AllWithin Yes (range_with_len n (end - n)) 0 (length (range_with_len n (end - n))))
    ((k : ℕ) × (k < length (range_with_len n (end - n))) × HoldsAt No (range_with_len n (end - n)) k)
    → MatchBool r ((x : ℕ) → n ≤ x → x < end → Yes x) ((x : ℕ) × (n ≤ x) × (x < end) × No x)
all-between Yes No n end true f = λ x h k.
    let i : x - n < end - n = omega arith in
    subst Yes (get_or-range_with_len n (end - n) (x - n) 0 i ∙ omega arith) (f (x - n) 0 (omega arith) (rw (length-range_with_len n (end - n)) i))
all-between Yes No n end false h =
    let i : h.0 < end - n = rw (← (length-range_with_len n (end - n))) h.1 in
    (n + h.0, omega arith, omega arith, subst No (get_or-range_with_len n (end - n) h.0 0 i) (h.2 0))

module _ {A : Type 0} (l : List (Slot A)) (n : ℕ) where
  abbrev free_from : Bool
  free_from = every (λ s. not (is_live s)) (drop n l)

  all-free : ((x : ℕ) → n ≤ x → x < length l → live_at l x ≡ false) → free_from ≡ true
  all-free f =
      every_of (λ s. not (is_live s)) (drop n l) free
      (λ i h.
      let k : i < length l - n = rw length-drop at h in
      ap (λ (s : Slot A). not (is_live s)) (get_or-drop n l i free) ∙ ap not (f (n + i) (omega arith) (omega arith)))

  -- where one is live, they are not all free
  one-live : (x : ℕ) → n ≤ x → x < length l → live_at l x ≡ true → false ≡ free_from
  one-live x h k e = at free_from refl
    where
      at : (b : Bool) → free_from ≡ b → false ≡ b
      at false q = refl
      at true q =
          let d : x - n < length (drop n l) = rw length-drop (omega arith) in
          let p : n + (x - n) ≡ x = omega arith in
          sym (ap not e) ∙ ap (λ (y : ℕ). not (live_at l y)) (sym p)
          ∙ ap (λ (s : Slot A). not (is_live s)) (sym (get_or-drop n l (x - n) free))
          ∙ every_true (λ s. not (is_live s)) (drop n l) free q (x - n) d

module _ (L : Layout) (nodes edges : List ℕ) where
  free_of : (t : Table) (n : ℕ) → ((x : ℕ) → n ≤ x → x < slots_in L nodes edges t → live_in L nodes edges t x ≡ false)
      → free_from_in L nodes edges t n ≡ true
  free_of Nodes n f = all-free (read_nodes L nodes) n f
  free_of Edges n f = all-free (read_edges L edges) n f

  free-not : (t : Table) (n x : ℕ) → n ≤ x → x < slots_in L nodes edges t → live_in L nodes edges t x ≡ true
      → false ≡ free_from_in L nodes edges t n
  free-not Nodes n x = one-live (read_nodes L nodes) n x
  free-not Edges n x = one-live (read_edges L edges) n x

  -- what a test of each slot says
  pub free_told : (t : Table) (n : ℕ) (r : Bool)
      → MatchBool r ((x : ℕ) → n ≤ x → x < slots_in L nodes edges t → live_in L nodes edges t x ≡ false)
      ((x : ℕ) × (n ≤ x) × (x < slots_in L nodes edges t) × (live_in L nodes edges t x ≡ true))
      → r ≡ free_from_in L nodes edges t n
  free_told t n true f = sym (free_of t n f)
  free_told t n false h = free-not t n h.0 h.1 h.2 h.3

  -- a live slot is there
  pub live-there : (t : Table) (x : ℕ) → live_in L nodes edges t x ≡ true → x < slots_in L nodes edges t
  live-there Nodes x = live_at_lt (read_nodes L nodes) x
  live-there Edges x = live_at_lt (read_edges L edges) x

-- there is no live slot behind the last
pub live-behind : (L : Layout) (nodes edges : List ℕ) (t : Table) (x : ℕ) → slots_in L nodes edges t ≤ x → live_in L nodes edges t x ≡ false
unfolding is_live
live-behind L nodes edges Nodes x h = ap is_live (get_or-eq_default (read_nodes L nodes) free {n = x} h)
live-behind L nodes edges Edges x h = ap is_live (get_or-eq_default (read_edges L edges) free {n = x} h)
