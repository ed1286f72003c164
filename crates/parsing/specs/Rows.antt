-- A row of items, as a loop reads it: the items read so far, and what is read from the place on. Rests on Laws.
use Rattle.std.proofs.Math.Path.{◌≡◌, refl}
use Rattle.std.proofs.Common.{◌∙◌, arith}
use Rattle.std.specs.Prelude.{true, false}
use mathlib.Core.List.{List, [], ◌∷◌, ◌++◌, append_assoc, append-nil}
use Prim.Native.Nat.{ℕ, zero, suc, ◌<◌, ◌≤◌}
use Rattle.std.proofs.Math.ListN.{length}
use Rattle.meaning.specs.Basics.{choose}
use Rattle.text.specs.Words.{Word}
use Rattle.text.specs.Grammar.{Read, Parsed, got, broke, gives, ◌>>=◌, begins, expect, many}
use Rattle.parsing.specs.Reading.{ahead, Reads, Breaks}
use Rattle.parsing.specs.Laws.{expect-got, expect-broke}
use Rattle.parsing.specs.declared.BrokenAt.{BrokenAt}

-- a row behind items that were read before it
unfoldable pub behind : {A : Type 0} → List A → Parsed (List A) → Parsed (List A)
behind l (got r) = gives (l ++ r.value) r.rest
behind l (broke ws) = broke ws

-- all items that begin with the word
abbrev pub row : {A : Type 0} → Word → (List Word → Parsed A) → List Word → Parsed (List A)
row w item ws = many w item (length ws) ws

-- items that were read between two places
pub record Rows {A : Type 0} (bs : List ℕ) (w : Word) (item : List Word → Parsed A) (c r : ℕ) (l : List A) : Type 0 where
  pub most : ℕ
  pub whole : row w item (ahead bs c) ≡ behind l (many w item most (ahead bs r))
  pub enough : length (ahead bs r) ≤ most
  pub onward : c ≤ r

-- what is read has words
abbrev pub Shortens : {A : Type 0} → (List Word → Parsed A) → Type 0
Shortens {A} item = (ws : List Word) (r : Read A) → item ws ≡ got r → length r.rest < length ws

module _ {A : Type 0} (bs : List ℕ) (w : Word) (item : List Word → Parsed A) where
  behind-none : (o : Parsed (List A)) → o ≡ behind [] o
  unfolding behind
  behind-none (got r) = refl
  behind-none (broke ws) = refl

  pub row-begins : (c : ℕ) → Rows bs w item c c []
  row-begins c = record { most = length (ahead bs c); whole = behind-none (row w item (ahead bs c)); enough = omega arith; onward = omega arith }

  -- no item begins where the row ends
  many-none : (most : ℕ) (ws : List Word) → begins w ws ≡ false → many w item most ws ≡ gives [] ws
  unfolding many choose
  many-none zero ws e = refl
  many-none (suc most) ws e = rw e

  -- one item more, or the break in it
  many_more : (most : ℕ) (ws : List Word) (l : List A) (r : Read A) → length ws ≤ most → begins w ws ≡ true → item ws ≡ got r
      → length r.rest < length ws
      → (fewer : ℕ) × (behind l (many w item most ws) ≡ behind (l ++ r.value ∷ []) (many w item fewer r.rest)) × (length r.rest ≤ fewer)
  unfolding many behind choose begins ◌>>=◌
  many_more zero [] l r h e f g = absurd (omega arith)
  many_more zero (v ∷ ws) l r h e f g = absurd (omega arith)
  many_more (suc most) ws l r h e f g = (most, rw (e, f) (at (many w item most r.rest)), omega arith)
    where
      at : (o : Parsed (List A)) → behind l (o >>= (λ y. gives (r.value ∷ y.value) y.rest)) ≡ behind (l ++ r.value ∷ []) o
      at (broke ws) = refl
      at (got y) = rw (append_assoc l (r.value ∷ []) y.value)

  many-broke : (most : ℕ) (ws vs : List Word) → length ws ≤ most → begins w ws ≡ true → item ws ≡ broke vs → many w item most ws ≡ broke vs
  unfolding many choose begins ◌>>=◌
  many-broke zero [] vs h e f = let z : ◌≡◌ {A = ℕ} 0 1 = cc in absurd (omega arith)
  many-broke zero (v ∷ ws) vs h e f = absurd (omega arith)
  many-broke (suc most) ws vs h e f = rw (e, f)

  module _ {c r : ℕ} {l : List A} (x : Rows bs w item c r l) where
    -- the row ends where no item begins
    pub row_ends : {b : BrokenAt} → Breaks bs r (expect w) b → Reads bs c (row w item) r l
    unfolding behind
    row_ends y = record {
      read = rw (many-none x.most (ahead bs r) (expect-broke bs w y), append-nil l) at x.whole;
      onward = x.onward;
    }

    -- it breaks where an item does
    pub row_breaks : {s : ℕ} {b : BrokenAt} → Reads bs r (expect w) s tt → Breaks bs r item b → Breaks bs c (row w item) b
    unfolding behind
    row_breaks {b = b} y z = record {
      read = rw (many-broke x.most (ahead bs r) (ahead bs b.place) x.enough (expect-got bs w y).0 z.read) at x.whole;
      onward = omega (arith, x.onward, z.onward);
    }

    -- one item more
    pub row_goes : {s q : ℕ} {a : A} → Shortens item → Reads bs r (expect w) s tt → Reads bs r item q a → Rows bs w item c q (l ++ a ∷ [])
    row_goes f y z =
        let t = many_more x.most (ahead bs r) l _ x.enough (expect-got bs w y).0 z.read (f (ahead bs r) _ z.read) in
        record { most = t.0; whole = x.whole ∙ t.1; enough = t.2; onward = omega (arith, x.onward, z.onward) }
