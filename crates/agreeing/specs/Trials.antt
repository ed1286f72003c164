-- Making trials: of the slots so far with one more, and of all of them. Rests on Placed and Candidates and on the meaning's
-- Laws/Tests.
use Rattle.std.specs.Prelude.{◌≡◌, List, [], ◌∷◌, ◌++◌, ℕ, ◌+◌, ◌<◌, ◌≤◌, length, get_or, take}
use Rattle.std.proofs.Common.{sym, ◌∙◌, arith, length-append, get_or-take, length-take-le}
use Rattle.std.proofs.Math.Decide.{ℕ_discrete}
use Rattle.std.proofs.Math.ListN.{get_or-append}
use Rattle.std.proofs.lemmas.List.{get_or_at}
use Rattle.meaning.specs.Image.{most_items}
use Rattle.meaning.specs.Layout.{Host}
use Rattle.meaning.specs.Matching.{left_nodes, total}
use Rattle.meaning.specs.Laws.Tests.{choose_eq, choose_ne}
use Rattle.agreeing.specs.Placed.{Known, Inside, slots, slot_of, Tried, Full}
use Rattle.agreeing.specs.Candidates.{Candidate}
use Rattle.plan.specs.Plan.{nodes_at}

-- The slots so far, with one more.

module _ (at : List ℕ) (i c : ℕ) (fits : i ≤ length at) where
  pub next-length : length (take i at ++ c ∷ []) ≡ i + 1
  next-length = let k = length-take-le i at fits in length-append (take i at) (c ∷ []) ∙ omega arith

  pub next-new : get_or (take i at ++ c ∷ []) i 0 ≡ c
  next-new = get_or_at (take i at) c [] 0 i (length-take-le i at fits)

  pub next-old : (j : ℕ) → j < i → get_or (take i at ++ c ∷ []) j 0 ≡ get_or at j 0
  next-old j h =
      let k = length-take-le i at fits in
      get_or-append (take i at) (c ∷ []) 0 j (omega arith) ∙ get_or-take i at j 0 h

  pub next-slot : (j : ℕ) → j < length (take i at ++ c ∷ []) → slot_of at i c j ≡ get_or (take i at ++ c ∷ []) j 0
  next-slot j h = go (ℕ_discrete j i)
    where
      go : Dec (j ≡ i) → slot_of at i c j ≡ get_or (take i at ++ c ∷ []) j 0
      go (yes e) = choose_eq j i c (get_or at j 0) e ∙ rw e (sym next-new)
      go (no d) = let k = next-length in choose_ne j i c (get_or at j 0) d ∙ sym (next-old j (omega arith))

  pub next-inside : (h : Host) (n : ℕ) → Inside h n at i → c < slots h n i → (j : ℕ) → j < length (take i at ++ c ∷ [])
      → get_or (take i at ++ c ∷ []) j 0 < slots h n j
  next-inside h n f s j k = go (ℕ_discrete j i)
    where
      go : Dec (j ≡ i) → get_or (take i at ++ c ∷ []) j 0 < slots h n j
      go (yes e) = rw (e, next-new) s
      go (no d) = let m = next-length in let l : j < i = omega arith in rw (next-old j l) (f j l)

-- All slots.

module _ (at : List ℕ) (n : ℕ) (room : length at ≡ most_items) (fits : n ≤ most_items) where
  pub full-length : length (take n at) ≡ n
  full-length = length-take-le n at (omega arith)

  pub full-slot : (i c : ℕ) → n ≤ i → (j : ℕ) → j < length (take n at) → slot_of at i c j ≡ get_or (take n at) j 0
  full-slot i c l j h =
      let k = full-length in
      choose_ne j i c (get_or at j 0) (λ e. omega arith) ∙ sym (get_or-take n at j 0 (omega arith))

  pub full-inside : (h : Host) (m : ℕ) → Inside h m at n → (j : ℕ) → j < length (take n at) → get_or (take n at) j 0 < slots h m j
  full-inside h m f j l = let k = full-length in let i : j < n = omega arith in rw (get_or-take n at j 0 i) (f j i)

-- Items of whichever rule the plan is of.

pub few-items : {bs plan : List ℕ} (w : Known bs plan) → total w.rule ≤ most_items
few-items w = let i = w.planned.laid.items in omega (arith, i.few_nodes, i.few_edges)

-- the items before one of them are placed
pub before-length : {bs plan : List ℕ} (w : Known bs plan) (at : List ℕ) (i : ℕ) → length at ≡ most_items → i < total w.rule → length (take i at) ≡ i
before-length w at i room k = length-take-le i at (omega (arith, few-items w))

-- the item of a candidate is there, and the slot is inside its table
module _ {h : Host} {bs plan : List ℕ} {i c : ℕ} (w : Known bs plan) (k : Candidate h bs plan i c) where
  pub item-there : i < total w.rule
  item-there =
      let a = w.planned.laid.items in
      let b = k.planned.laid.items in
      omega (arith, a.nodes, a.edges, b.nodes, b.edges, k.there)

  pub item-inside : c < slots h (left_nodes w.rule) i
  item-inside =
      let n : left_nodes k.rule ≡ left_nodes w.rule = sym k.planned.laid.items.nodes ∙ w.planned.laid.items.nodes in
      rw n at k.inside

-- Trials.

module _ (h : Host) (bs plan at : List ℕ) (w : Known bs plan) (room : length at ≡ most_items) where
  -- item i is tried at slot c
  abbrev pub tried : (i c : ℕ) → i < total w.rule → Inside h (left_nodes w.rule) at i
      → c < slots h (left_nodes w.rule) i → Tried h bs plan at i c
  tried i c k f s =
      record {
        trial = record {
          rule = w.rule;
          planned = w.planned;
          room = room;
          placed = take i at ++ c ∷ [];
          few = omega (arith, next-length at i c (omega (arith, few-items w)));
          slot = next-slot at i c (omega (arith, few-items w));
          inside = next-inside at i c (omega (arith, few-items w)) h (left_nodes w.rule) f s;
        };
        last = next-length at i c (omega (arith, few-items w));
      }

  -- all items are placed, and none is tried
  abbrev pub full : (i c : ℕ) → total w.rule ≤ i → Inside h (left_nodes w.rule) at (total w.rule) → Full h bs plan at i c
  full i c l f =
      record {
        trial = record {
          rule = w.rule;
          planned = w.planned;
          room = room;
          placed = take (total w.rule) at;
          few = omega (arith, full-length at (total w.rule) room (few-items w));
          slot = full-slot at (total w.rule) room (few-items w) i c l;
          inside = full-inside at (total w.rule) room (few-items w) h (left_nodes w.rule) f;
        };
        whole = full-length at (total w.rule) room (few-items w);
      }

  -- a candidate is tried
  abbrev pub tried_item : (i c : ℕ) → Inside h (get_or plan nodes_at 0) at i → Candidate h bs plan i c → Tried h bs plan at i c
  tried_item i c f k =
      let n : get_or plan nodes_at 0 ≡ left_nodes w.rule = w.planned.laid.items.nodes in
      tried i c (item-there w k) (rw n at f) (item-inside w k)
