-- Laws of labels in hand: filling one, and copying a part of an array to one.
-- Rests on Labels and on the meaning's Laws/Tests.
use Rattle.std.specs.Prelude.{◌≡◌, refl, List, ℕ, ◌+◌, ◌<◌, ◌≤◌, length, get_or, set, take, drop, replicate}
use Rattle.std.proofs.Common.{sym, ◌∙◌, arith, add-one, length-drop, length-set, length-take-le, take_all, take-suc, take-suc-set, get_or-set_same, get_or-set_other, get_or-take, get_or-drop}
use Rattle.std.proofs.Math.Decide.{ℕ_discrete}
use Rattle.meaning.specs.Numbers.{whole}
use Rattle.meaning.specs.Layout.{most_atoms}
use Rattle.meaning.specs.Laws.Tests.{zero-at}
use Rattle.labels.specs.Labels.{atoms_in, Held, Holds}
use Rattle.labels.specs.declared.Label.{Label}

-- Filling a label.

-- the first j of the words are those of the list
pub record Filled (m : List ℕ) (j : ℕ) (l : List ℕ) : Type 0 where
  pub room : length l ≡ most_atoms
  pub small : (i : ℕ) → get_or l i 0 < whole
  pub front : take j l ≡ take j m

pub filled_none : (m : List ℕ) → Filled m 0 (replicate most_atoms 0)
filled_none m = record { room = refl; small = λ i. omega (arith, zero-at most_atoms i); front = refl }

pub filled_more : (m l : List ℕ) (j v : ℕ) → Filled m j l → j < most_atoms → j < length m → v < whole → v ≡ get_or m j 0
    → Filled m (j + 1) (set l j v)
filled_more m l j v f h k s e =
    let r = f.room in
    record {
      room = length-set l j v ∙ r;
      small = λ i. go i (ℕ_discrete i j);
      front = rw (add-one j, take-suc-set l j v (omega arith), take-suc m j 0 k, f.front, e);
    }
  where
    go : (i : ℕ) → Dec (i ≡ j) → get_or (set l j v) i 0 < whole
    go i (yes q) = let r = f.room in rw (q, get_or-set_same l j v 0 (omega arith)) s
    go i (no q) = rw (get_or-set_other l j i v 0 q) (f.small i)

pub filled-all : (m l : List ℕ) (n : ℕ) → Filled m n l → n ≤ most_atoms → n ≡ length m → Holds m (record { len = n; atoms = l })
filled-all m l n f h e =
    record {
      held = record { few = h; room = f.room; small = f.small };
      atoms = f.front ∙ take_all n m (omega arith);
    }

-- how many atoms a label in hand has
pub held-length : (a : Label) → Held a → length (atoms_in a) ≡ a.len
held-length a h = let f = h.few in let r = h.room in length-take-le a.len a.atoms (omega arith)

-- copying a part of an array
module _ (atoms : List ℕ) (from n j : ℕ) (l : List ℕ) (few : n ≤ most_atoms) (fits : from + n ≤ length atoms) (f : Filled (take n (drop from atoms)) j l) where
  copied-length : length (take n (drop from atoms)) ≡ n
  copied-length =
      let d = length-drop from atoms in
      length-take-le n (drop from atoms) (omega arith)

  pub copied_more : j < n → get_or atoms (from + j) 0 < whole → Filled (take n (drop from atoms)) (j + 1) (set l j (get_or atoms (from + j) 0))
  copied_more k s =
      let e = copied-length in
      filled_more _ l j _ f (omega arith) (omega arith) s
      (sym (get_or-take n (drop from atoms) j 0 k ∙ get_or-drop from atoms j 0))

  pub copied_all : j ≡ n → Holds (take n (drop from atoms)) (record { len = n; atoms = l })
  copied_all e = filled-all _ l n (rw e at f) few (sym copied-length)
