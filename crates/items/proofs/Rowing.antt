-- A row of items, as the loop reads it: what it has kept of the items so far. Rests on Items, on parsing's Laws and Rows, and
-- on the text's Exact.
use mathlib.Core.Path.{◌≡◌, refl, sym, ◌∙◌, ap}
use mathlib.Core.Bool.{Bool, true}
use mathlib.Core.List.{List, [], ◌∷◌, ◌++◌}
use Rattle.std.specs.Prelude.{Ok, Err}
use Prim.Native.Nat.{ℕ, ◌+◌, ◌<◌, ◌≤◌}
use native.Mathlib.Omega.{arith}
use native.Mathlib.Decide.{ℕ_discrete}
use lib.ListN.{length, get_or, set, length-append, length-set, get_or-append}
use lib.Seq.{set_out, get_or_at, get_or-set_same, get_or-set_other}
use Rattle.meaning.specs.Basics.{both, every}
use Rattle.meaning.specs.Laws.Tests.{every_append, both-last}
use Rattle.meaning.specs.declared.Table.{Table}
use Rattle.meaning.specs.declared.Table.TheVariants.{Nodes, Edges}
use Rattle.text.specs.Words.{left}
use Rattle.text.specs.Grammar.{Parsed, node, edge}
use Rattle.text.proofs.Exact.{node-shorter, edge-shorter}
use Rattle.parsing.specs.Reading.{Comes, Passed}
use Rattle.parsing.specs.Laws.{then}
use Rattle.parsing.specs.Rows.{Rows, Shortens, row-begins, row_breaks, row_ends, row_goes}
use Rattle.parsing.specs.declared.BrokenAt.{BrokenAt}
use Rattle.items.specs.Items.{ItemOf, body_of, item_of, fits_in, At, Places, ReadsItem, AreItems, ReadsItems}
use Rattle.items.specs.declared.ItemAt.{ItemAt}

-- A whole item: a parenthesis, and its body.

item_shortens : (t : Table) → Shortens (item_of t)
item_shortens Nodes = node-shorter
item_shortens Edges = edge-shorter

item-whole : (bs : List ℕ) (t : Table) {c s q : ℕ} {o : Parsed (ItemOf t)} → Passed bs c left (Ok s) → Comes bs s (body_of t) o q
    → Comes bs c (item_of t) o q
unfolding node edge
item-whole bs Nodes x y = then bs _ x.0 y
item-whole bs Edges x y = then bs _ x.0 y

-- One item more fits where all do and it does.
every_more : {A : Type 0} (f : A → Bool) (l : List A) (a : A) → every f (l ++ a ∷ []) ≡ both (every f l) (f a)
unfolding every
every_more f l a = every_append f l (a ∷ []) ∙ ap (both (every f l)) (sym (both-last (f a)))

-- The place of one item more, where there is room for it.

module _ (bs : List ℕ) (t : Table) (l : List (ItemOf t)) (ps : List ℕ) (a : ItemOf t) (p : ℕ) where
  place-more : Places bs t l ps → At bs t p a → Places bs t (l ++ a ∷ []) (set ps (length l) p)
  place-more h x d i k m = at (ℕ_discrete i (length l))
    where
      at : Dec (i ≡ length l) → At bs t (get_or (set ps (length l) p) i 0) (get_or (l ++ a ∷ []) i d)
      at (yes e) = rw (e, get_or-set_same ps (length l) p 0 (omega (arith, length-set ps (length l) p)), get_or_at l a [] d (length l) refl) x
      at (no e) =
          let n : i < length l = omega (arith, length-append l (a ∷ [])) in
          rw (get_or-set_other ps (length l) i p 0 e, get_or-append l (a ∷ []) d i n) (h d i n (omega (arith, length-set ps (length l) p)))

-- no place is kept where there is no room
pub no_room : (ps : List ℕ) (i p : ℕ) {qs : List ℕ} → length ps ≤ i → qs ≡ ps → qs ≡ set ps i p
no_room ps i p h e = e ∙ sym (set_out ps i p h)

-- The loop, with places for n items.

module _ (bs : List ℕ) (t : Table) (most : ℕ) where
  pub record SoFar (c : ℕ) (n : ℕ) (ps : List ℕ) (next : ℕ) (count : ℕ) (fits : Bool) : Type 0 where
    pub items : List (ItemOf t)
    pub rows : Rows bs left (item_of t) c next items
    pub are : AreItems bs t most ps (record { next = next; count = count; fits = fits }) items
    pub few : count ≤ next
    pub room : length ps ≡ n

  pub none_yet : (c : ℕ) (ps : List ℕ) → SoFar c (length ps) ps c 0 true
  unfolding every
  none_yet c ps = record {
    items = [];
    rows = row-begins bs left (item_of t) c;
    are = record { count = refl; fits = refl; places = λ d i h k. absurd (omega arith) };
    few = omega arith;
    room = refl;
  }

  module _ {c : ℕ} {n : ℕ} {ps : List ℕ} {next : ℕ} {count : ℕ} {fits : Bool} (x : SoFar c n ps next count fits) where
    -- no item begins
    pub row-stops : {b : BrokenAt} → Passed bs next left (Err b)
        → ReadsItems bs t most c ps (Ok (record { next = next; count = count; fits = fits }))
    row-stops o = (x.items, row_ends bs left (item_of t) x.rows o, x.are)

    module _ {s : ℕ} (o : Passed bs next left (Ok s)) where
      -- the text breaks in an item
      pub row-breaks : {b : BrokenAt} (qs : List ℕ) → ReadsItem bs t most s (Err b) → ReadsItems bs t most c qs (Err b)
      row-breaks qs y = row_breaks bs left (item_of t) x.rows o.0 (item-whole bs t o y)

      -- one item more
      pub one_more : (r : ItemAt) {qs : List ℕ} {fit : Bool} → ReadsItem bs t most s (Ok r) → qs ≡ set ps count r.from → fit ≡ both fits r.fits
          → SoFar c n qs r.next (count + 1) fit
      one_more r {qs} {fit} y p f =
          let i = x.are in
          let j = y.2 in
          record {
            items = x.items ++ y.0 ∷ [];
            rows = row_goes bs left (item_of t) x.rows (item_shortens t) o.0 (item-whole bs t o y.1);
            are = record {
              count = ap (λ m. m + 1) i.count ∙ sym (length-append x.items (y.0 ∷ []));
              fits = f ∙ rw (i.fits, j.fits, every_more (fits_in t most) x.items y.0);
              places = rw (p, i.count) (place-more bs t x.items ps y.0 r.from i.places j.at);
            };
            few = let h = o.1 in let q = y.1.onward in omega (arith, x.few);
            room = rw p (length-set ps count r.from) ∙ x.room;
          }
