-- The value that a placement gives a variable, by the first of the items that has it. Rests on Placed and on laws' Labels
-- and Assignment.
use Rattle.std.specs.Prelude.{◌≡◌, refl, Bool, true, false, List, [], ◌∷◌, ◌++◌, map, ℕ, zero, suc, ◌<◌, ◌≤◌, length, get_or, take, drop}
use Rattle.std.proofs.Common.{sym, ◌∙◌, ap, arith}
use Rattle.std.proofs.Math.Decide.{dec_lt}
use Rattle.std.proofs.lemmas.List.{length-map}
use Rattle.meaning.specs.Basics.{choose}
use Rattle.meaning.specs.Layout.{Host}
use Rattle.meaning.specs.Image.{Rule}
use Rattle.meaning.specs.References.{labels}
use Rattle.meaning.specs.Matching.{node_at, edge_at, left_nodes, total}
use Rattle.meaning.specs.Assigned.{spare, taken, paired, host_labels, or_else, value_from, assigned}
use Rattle.meaning.specs.FirstMatch.{has, first_with}
use Rattle.meaning.specs.Laws.Tests.{choose_lt, choose_le}
use Rattle.laws.specs.Labels.{taken-has, taken_not}
use Rattle.laws.specs.Assignment.{labels_length}
use Rattle.meaning.specs.declared.Element.{Element}
use Rattle.agreeing.specs.Placed.{label_at}

-- what variable v takes of atoms m at label l, or nothing
abbrev taken_of : Rule → ℕ → List Element → List ℕ → List ℕ
taken_of r v l m = or_else (taken r v (spare r l (length m)) l m) []

-- The first of the items that has a variable gives it its value.

value-first : (r : Rule) (v : ℕ) (ls : List (List Element)) (ms : List (List ℕ)) → first_with v ls < length ls → first_with v ls < length ms
    → value_from r (paired ls ms) v ≡ taken_of r v (get_or ls (first_with v ls) []) (get_or ms (first_with v ls) [])
unfolding first_with paired value_from or_else choose
value-first r v [] ms h k = absurd (omega arith)
value-first r v (l ∷ ls) [] h k = absurd (omega arith)
value-first r v (l ∷ ls) (m ∷ ms) h k = go (has v l) refl h k (value-first r v ls ms)
  where
    go : (b : Bool) → has v l ≡ b → choose b 0 (suc (first_with v ls)) < suc (length ls) → choose b 0 (suc (first_with v ls)) < suc (length ms)
        → (first_with v ls < length ls → first_with v ls < length ms → value_from r (paired ls ms) v ≡ taken_of r v (get_or ls (first_with v ls) []) (get_or ms (first_with v ls) []))
        → or_else (taken r v (spare r l (length m)) l m) (value_from r (paired ls ms) v)
        ≡ taken_of r v (get_or (l ∷ ls) (choose b 0 (suc (first_with v ls))) []) (get_or (m ∷ ms) (choose b 0 (suc (first_with v ls))) [])
    go true q h k ih = rw (taken-has r v (spare r l (length m)) l m q).1
    go false q h k ih = rw (taken_not r v (spare r l (length m)) l m q) (ih (omega arith) (omega arith))

-- The host labels by number.

map_at : {A : Type 0} (f : A → List ℕ) (l : List A) (i : ℕ) (a : A) → i < length l → get_or (map f l) i [] ≡ f (get_or l i a)
map_at f [] i a h = absurd (omega arith)
map_at f (x ∷ l) zero a h = refl
map_at f (x ∷ l) (suc i) a h = map_at f l i a (omega arith)

module _ (f g : ℕ → List ℕ) where
  parted_length : (n : ℕ) (q : List ℕ) → length (map f (take n q) ++ map g (drop n q)) ≡ length q
  parted_length zero q = length-map q g
  parted_length (suc n) [] = refl
  parted_length (suc n) (x ∷ q) = ap suc (parted_length n q)

  parted_front : (n : ℕ) (q : List ℕ) (j : ℕ) → j < n → j < length q → get_or (map f (take n q) ++ map g (drop n q)) j [] ≡ f (get_or q j 0)
  parted_front zero q j h k = absurd (omega arith)
  parted_front (suc n) [] j h k = absurd (omega arith)
  parted_front (suc n) (x ∷ q) zero h k = refl
  parted_front (suc n) (x ∷ q) (suc j) h k = parted_front n q j (omega arith) (omega arith)

  parted_back : (n : ℕ) (q : List ℕ) (j : ℕ) → n ≤ j → j < length q → get_or (map f (take n q) ++ map g (drop n q)) j [] ≡ g (get_or q j 0)
  parted_back zero q j h k = map_at g q j 0 k
  parted_back (suc n) [] j h k = absurd (omega arith)
  parted_back (suc n) (x ∷ q) zero h k = absurd (omega arith)
  parted_back (suc n) (x ∷ q) (suc j) h k = parted_back n q j (omega arith) (omega arith)

host-label : (h : Host) (r : Rule) (q : List ℕ) (j : ℕ) → j < length q → get_or (host_labels h r q) j [] ≡ label_at h (left_nodes r) j (get_or q j 0)
host-label h r q j k = go (dec_lt j (left_nodes r))
  where
    go : Dec (j < left_nodes r) → get_or (host_labels h r q) j [] ≡ label_at h (left_nodes r) j (get_or q j 0)
    go (yes l) =
        parted_front (λ x. (node_at h x).label) (λ x. (edge_at h x).label) (left_nodes r) q j l k
        ∙ sym (choose_lt j (left_nodes r) (node_at h (get_or q j 0)).label (edge_at h (get_or q j 0)).label l)
    go (no l) =
        parted_back (λ x. (node_at h x).label) (λ x. (edge_at h x).label) (left_nodes r) q j (omega arith) k
        ∙ sym (choose_le j (left_nodes r) (node_at h (get_or q j 0)).label (edge_at h (get_or q j 0)).label (omega arith))

pub assigned-first : (h : Host) (r : Rule) (q : List ℕ) (v : ℕ) → length q ≤ total r → first_with v (labels r.left) < length q
    → assigned h r q v
    ≡ taken_of r v (get_or (labels r.left) (first_with v (labels r.left)) []) (label_at h (left_nodes r) (first_with v (labels r.left)) (get_or q (first_with v (labels r.left)) 0))
assigned-first h r q v s k =
    let n = labels_length r in
    let m = parted_length (λ x. (node_at h x).label) (λ x. (edge_at h x).label) (left_nodes r) q in
    value-first r v (labels r.left) (host_labels h r q) (omega arith) (omega arith)
    ∙ ap (taken_of r v (get_or (labels r.left) (first_with v (labels r.left)) [])) (host-label h r q _ k)
