-- What the tests of an import say: a name is there, no name twice, at most so many items, an atom's value. Rests on Integers, Grammar,
-- Text and Exact, and on the laws' Numbers.
use Rattle.std.specs.Prelude.{◌≡◌, refl, Bool, true, false, not, List, [], ◌∷◌, ◌↔◌, ℕ, zero, suc, ◌-◌, ◌%◌, ◌<◌, ◌≤◌, leb, ltb, pos, negsuc, neg_ℤ, length, get_or}
use Rattle.std.proofs.Common.{sym, ◌∙◌, ap, mod-eq_of_lt, arith, lt-ltb, ltb-true, le-leb, leb-true}
use Rattle.std.proofs.lemmas.Bool.{not-true}
use Rattle.meaning.specs.Basics.{choose, same}
use Rattle.meaning.specs.Numbers.{half, whole}
use Rattle.meaning.specs.Laws.Tests.{both_true, both_of, choose_lt, choose_le, same_of, not_so}
use Rattle.laws.specs.Numbers.{value as value_of}
use Rattle.text.specs.Integers.{Integer, value, is_atom, atom}
use Rattle.text.specs.Grammar.{Listed, index, known}
use Rattle.text.specs.Text.{apart, at_most}
use Rattle.text.proofs.Exact.{known_lt, index_at}

-- Names.

index_le : (id : List ℕ) (l : List (List ℕ)) (j : ℕ) → j < length l → get_or l j [] ≡ id → index id l ≤ j
unfolding index choose
index_le id [] j h e = absurd (omega arith)
index_le id (a ∷ l) zero h e = rw (same_of a id e) (omega arith)
index_le id (a ∷ l) (suc j) h e = at (same a id) (index_le id l j (omega arith) e)
  where
    at : (b : Bool) → index id l ≤ j → choose b 0 (suc (index id l)) ≤ suc j
    at true k = omega arith
    at false k = omega arith

-- a name is known exactly where it stands in the row
pub known-exact : (id : List ℕ) (l : List (List ℕ)) → (known id l ≡ true) ↔ ((j : ℕ) × (j < length l) × (get_or l j [] ≡ id))
unfolding known
known-exact id l = (
  λ e. let k = known_lt id l e in (index id l, k, index_at id l k),
  λ t. let k = index_le id l t.0 t.1 t.2 in let h = t.1 in lt-ltb (index id l) (length l) (omega arith),
)

-- no two names in the row are the same

abbrev pub Distinct : List (List ℕ) → Type 0
Distinct l = (i j : ℕ) → i < j → j < length l → get_or l i [] ≡ get_or l j [] → ⊥

apart-true : (l : List (List ℕ)) → apart l ≡ true → Distinct l
unfolding apart
apart-true [] e i j h k q = omega arith
apart-true (a ∷ l) e i zero h k q = omega arith
apart-true (a ∷ l) e zero (suc j) h k q =
    let u = (known-exact a l).1 (j, omega arith, sym q) in
    let v : known a l ≡ false = not-true (known a l) (both_true _ _ e).0 in
    let z : ◌≡◌ {A = ℕ} 0 1 = cc in
    omega arith
apart-true (a ∷ l) e (suc i) (suc j) h k q = apart-true l (both_true _ _ e).1 i j (omega arith) (omega arith) q

apart_of : (l : List (List ℕ)) → Distinct l → apart l ≡ true
unfolding apart
apart_of [] f = refl
apart_of (a ∷ l) f =
    both_of _ _ (ap not (not_so (known a l) behind)) (apart_of l (λ i j h k q. f (suc i) (suc j) (omega arith) (omega arith) q))
  where
    behind : known a l ≡ true → ⊥
    behind e = let t = (known-exact a l).0 e in let h = t.1 in f 0 (suc t.0) (omega arith) (omega arith) (sym t.2)

pub apart-exact : (l : List (List ℕ)) → (apart l ≡ true) ↔ Distinct l
apart-exact l = (apart-true l, apart_of l)

-- Counts.

pub at_most_exact : (m n : ℕ) (g : Listed) → (at_most m n g ≡ true) ↔ ((length g.nodes ≤ m) × (length g.edges ≤ n))
unfolding at_most
at_most_exact m n g = (
  λ e. let t = both_true _ _ e in (leb-true _ m t.0, leb-true _ n t.1),
  λ t. both_of _ _ (le-leb _ m t.0) (le-leb _ n t.1),
)

-- Atoms: the word of an integer that is an atom has the integer's value.

negated : (n : ℕ) → n ≤ half → value_of ((whole - n) % whole) ≡ neg_ℤ (pos n)
unfolding value_of choose
negated zero h = refl
negated (suc n) h =
    let m : (whole - suc n) % whole ≡ whole - suc n = mod-eq_of_lt (omega arith) in
    rw m (choose_le (whole - suc n) half _ _ (omega arith) ∙ rw (lt-ltb (whole - suc n) whole (omega arith)) (ap negsuc (omega arith)))

pub atom-value : (x : Integer) → is_atom x ≡ true
    → let n : ℕ = value x.digits in value_of (atom x) ≡ choose x.negative (neg_ℤ (pos n)) (pos n)
unfolding is_atom atom choose
atom-value x e = at x.negative (value x.digits) e
  where
    at : (b : Bool) (n : ℕ) → choose b (leb n half) (ltb n half) ≡ true
        → value_of (choose b ((whole - n) % whole) n) ≡ choose b (neg_ℤ (pos n)) (pos n)
    at true n e = negated n (leb-true n half e)
    at false n e = unfold value_of in choose_lt n half _ _ (ltb-true n half e)
