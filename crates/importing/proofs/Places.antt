-- Items that are listed at places: each at its own, their names, the front of more places, and a test of each. Rests on specs/Names
-- and items' Items.
use mathlib.Core.Path.{◌≡◌, refl, sym, ◌∙◌, ap}
use mathlib.Core.Bool.{Bool, true, false}
use mathlib.Core.Option.{none}
use mathlib.Core.List.{List, [], ◌∷◌, map}
use Prim.Native.Nat.{ℕ, suc, ◌+◌, ◌<◌, ◌≤◌}
use native.Mathlib.Numerals.{add-one}
use native.Mathlib.Omega.{arith}
use lib.ListN.{length, get_or, take, drop, drop_of_length-le}
use lib.Seq.{drop-cons, get_or-take, length-take-le}
use Rattle.meaning.specs.Basics.{both, every}
use Rattle.meaning.specs.declared.Table.{Table}
use Rattle.meaning.specs.declared.Table.TheVariants.{Nodes, Edges}
use Rattle.text.specs.Grammar.{Label}
use Rattle.items.specs.Items.{ItemOf, id_of, At, Places}
use Rattle.importing.specs.Names.{names_at, ListedAt}

-- an item for numbers that a list does not have

no_label : Label
no_label = record { atoms = []; mark = 0 }

pub no_item : (t : Table) → ItemOf t
no_item Nodes = record { id = []; root = 0; label = no_label; position = none; behind = none }
no_item Edges = record { id = []; source = []; target = []; label = no_label }

module _ (bs : List ℕ) (t : Table) where
  module _ (l : List (ItemOf t)) (ps : List ℕ) (w : ListedAt bs t l ps) (i : ℕ) (h : i < length ps) where
    pub listed_at : At bs t (get_or ps i 0) (get_or l i (no_item t))
    listed_at = w.places (no_item t) i (omega (arith, w.count)) h

    pub listed_cons : drop i l ≡ get_or l i (no_item t) ∷ drop (i + 1) l
    listed_cons = let k = w.count in rw (add-one i) (drop-cons l i (no_item t) (omega arith))

  pub names-listed : (l : List (ItemOf t)) (ps : List ℕ) → ListedAt bs t l ps → names_at bs ps ≡ map (id_of t) l
  names-listed [] [] w = refl
  names-listed [] (p ∷ ps) w = let k = w.count in absurd (omega arith)
  names-listed (a ∷ l) [] w = let k = w.count in absurd (omega arith)
  names-listed (a ∷ l) (p ∷ ps) w =
      let k = w.count in
      let e = (w.places a 0 (omega arith) (omega arith)).id in
      let n = names-listed l ps (record { count = omega arith; places = λ d i g h. w.places d (suc i) (omega arith) (omega arith) }) in
      cc

  -- the front of more places
  pub listed-front : (l : List (ItemOf t)) (ps : List ℕ) (n : ℕ) → Places bs t l ps → n ≡ length l → n ≤ length ps → ListedAt bs t l (take n ps)
  listed-front l ps n w e h =
      let k = length-take-le n ps h in
      record {
        count = k ∙ e;
        places = λ d i g j. rw (get_or-take n ps i 0 (omega arith)) (w d i g (omega arith));
      }

  -- whether a test holds of each: it does of the first i
  module _ (f : ItemOf t → Bool) (l : List (ItemOf t)) (ps : List ℕ) (w : ListedAt bs t l ps) (i : ℕ) (so : every f l ≡ every f (drop i l)) where
    module _ (h : i < length ps) where
      turn : (b : Bool) → f (get_or l i (no_item t)) ≡ b → every f l ≡ both b (every f (drop (i + 1) l))
      unfolding every
      turn b e = so ∙ ap (every f) (listed_cons l ps w i h) ∙ ap (λ b. both b (every f (drop (i + 1) l))) e

      pub every_more : f (get_or l i (no_item t)) ≡ true → every f l ≡ every f (drop (i + 1) l)
      unfolding both
      every_more e = turn true e

      pub every-found : f (get_or l i (no_item t)) ≡ false → false ≡ every f l
      unfolding both
      every-found e = sym (turn false e)

    pub every-all : length ps ≤ i → true ≡ every f l
    unfolding every
    every-all h = let k = w.count in sym (so ∙ ap (every f) (drop_of_length-le l {i = i} (omega arith)))
