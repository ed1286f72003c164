-- Names looked up one after the other, by the places where they begin. Rests on specs/Names and the text's Grammar and Text.
use mathlib.Core.Path.{◌≡◌, refl, sym, ◌∙◌, ap}
use mathlib.Core.Bool.{Bool, true, false, not}
use mathlib.Core.List.{List, [], ◌∷◌}
use Prim.Native.Nat.{ℕ, suc, ◌+◌, ◌-◌, ◌<◌, ◌≤◌}
use native.Mathlib.Numerals.{add-one}
use native.Mathlib.Omega.{arith}
use borrow.Author.Tests.{lt-ltb, le-ltb}
use Rattle.std.specs.Prelude.{Option, Some, None, is_some, cond}
use Rattle.std.specs.List.{position_or_len}
use native.Mathlib.Decide.{dec_lt}
use lib.Dec.{ltb}
use lib.ListN.{length, get_or, take, drop, length-drop, length-map, drop_of_length-le}
use lib.Seq.{drop-cons, take_all}
use Rattle.meaning.specs.Basics.{choose, both, same}
use Rattle.text.specs.Grammar.{index, known}
use Rattle.text.specs.Text.{apart}
use Rattle.lexing.specs.Lexing.{name_at}
use Rattle.importing.specs.Names.{names_at, Found}

module _ (bs ps : List ℕ) where
  names_cons : (i : ℕ) → i < length ps → names_at bs (drop i ps) ≡ name_at bs (get_or ps i 0) ∷ names_at bs (drop (i + 1) ps)
  names_cons i h = rw (add-one i, drop-cons ps i 0 h)

  -- One that is looked up, by its place among the places.

  module _ (id : List ℕ) where
    abbrev is_it : ℕ → Bool
    is_it p = same (name_at bs p) id

    position-index : (l : List ℕ) → position_or_len is_it l ≡ index id (names_at bs l)
    unfolding index choose
    position-index [] = refl
    position-index (p ∷ l) = at (is_it p) (position-index l)
      where
        at : (b : Bool) → position_or_len is_it l ≡ index id (names_at bs l)
            → cond (not b) (1 + position_or_len is_it l) 0 ≡ choose b 0 (suc (index id (names_at bs l)))
        at true e = refl
        at false e = omega (arith, e)

    index-short : (l : List (List ℕ)) → index id l ≤ length l
    unfolding index choose
    index-short [] = omega arith
    index-short (a ∷ l) = at (same a id) (index-short l)
      where
        at : (b : Bool) → index id l ≤ length l → choose b 0 (suc (index id l)) ≤ length (a ∷ l)
        at true h = omega arith
        at false h = omega (arith, h)

    pub found-at : (r : Option ℕ) → r ≡ cond (ltb (position_or_len is_it ps) (length ps)) (Some (position_or_len is_it ps)) None
        → Found id (names_at bs ps) r
    found-at r e = rw e (at (dec_lt (position_or_len is_it ps) (length ps)))
      where
        n : ℕ
        n = position_or_len is_it ps

        at : Dec (n < length ps) → Found id (names_at bs ps) (cond (ltb n (length ps)) (Some n) None)
        at (yes h) = rw (lt-ltb n (length ps) h) (sym (position-index ps), omega (arith, length-map ps (name_at bs)))
        at (no h) =
            rw (le-ltb n (length ps) (omega arith))
            (omega (arith, position-index ps, index-short (names_at bs ps), length-map ps (name_at bs)))

  -- Whether no two are the same: none of the first i is behind itself again.

  abbrev pub Apart : ℕ → Type 0
  Apart i = apart (names_at bs ps) ≡ apart (names_at bs (drop i ps))

  -- one that is looked up in the places behind its own
  module _ (i : ℕ) (so : Apart i) (h : i < length ps) where
    abbrev id : List ℕ
    id = name_at bs (get_or ps i 0)

    abbrev behind : List (List ℕ)
    behind = names_at bs (drop (i + 1) ps)

    -- looked up in all places behind its own
    abbrev pub Behind : Option ℕ → Type 0
    Behind r = Found id (names_at bs (take (length ps - (i + 1)) (drop (i + 1) ps))) r

    there : (r : Option ℕ) → Behind r → Found id behind r
    there r f =
        let e = take_all (length ps - (i + 1)) (drop (i + 1) ps) (omega (arith, length-drop (i + 1) ps)) in
        rw e at f

    turn : (b : Bool) → known id behind ≡ b → apart (names_at bs ps) ≡ both (not b) (apart behind)
    unfolding apart
    turn b e = so ∙ ap apart (names_cons i h) ∙ ap (λ b. both (not b) (apart behind)) e

    pub apart_more : (r : Option ℕ) → Behind r → is_some r ≡ false → Apart (i + 1)
    unfolding known both
    apart_more None f e = turn false (le-ltb (index id behind) (length behind) (omega (arith, there None f)))
    apart_more (Some j) f e = let z : ◌≡◌ {A = ℕ} 0 1 = cc in absurd (omega arith)

    pub apart-found : (r : Option ℕ) → Behind r → is_some r ≡ true → false ≡ apart (names_at bs ps)
    unfolding known both
    apart-found None f e = let z : ◌≡◌ {A = ℕ} 0 1 = cc in absurd (omega arith)
    apart-found (Some j) f e =
        let k = there (Some j) f in
        sym (turn true (lt-ltb (index id behind) (length behind) (omega (arith, k.0, k.1))))

  pub apart-all : (i : ℕ) → Apart i → length ps ≤ i → true ≡ apart (names_at bs ps)
  unfolding apart
  apart-all i so h = sym (so ∙ ap (λ l. apart (names_at bs l)) (drop_of_length-le ps h))
