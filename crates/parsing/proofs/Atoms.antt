-- Atoms: the one that an integer is, and those of integers one after the other, as far as a label has room. Rests on specs/Integers and
-- specs/Labels, and on labels' Laws.
use mathlib.Core.Path.{◌≡◌, refl, sym, ◌∙◌, ap}
use mathlib.Core.Bool.{Bool, true, false}
use Rattle.std.specs.Prelude.{Option, Some, None}
use mathlib.Core.List.{List, [], ◌∷◌, ◌++◌, map, map-append}
use Prim.Native.Nat.{ℕ, ◌+◌, ◌<◌, ◌≤◌}
use native.Mathlib.Decide.{dec_lt}
use native.Mathlib.Omega.{arith}
use borrow.Author.Tests.{leb-true, ltb-true, le-leb, lt-leb, le-ltb}
use lib.ListN.{length, set, length-append, length-map}
use lib.Seq.{take_at, get_or_at}
use Rattle.meaning.specs.Basics.{choose, both, every}
use Rattle.meaning.specs.Numbers.{half, whole}
use Rattle.meaning.specs.Layout.{most_atoms}
use Rattle.meaning.specs.Laws.Tests.{not_so, both_of, both_true, every_append}
use Rattle.labels.specs.Labels.{Holds}
use Rattle.labels.specs.Laws.{Filled, filled_more, filled-all, held-length}
use Rattle.labels.specs.declared.Label.{Label}
use Rattle.text.specs.Integers.{Integer, value, is_atom, atom}
use Rattle.parsing.specs.Integers.{Capped, fits, Held, Atom}
use Rattle.parsing.specs.Labels.{fit, Gathers, GathersMore}

-- The atom that an integer is, by what was kept of its number.

capped_fits : (negative : Bool) (n v : ℕ) → Capped n v → fits negative n ≡ fits negative v
unfolding choose
capped_fits negative n v c = at negative (dec_lt whole v)
  where
    at : (b : Bool) → Dec (whole < v) → fits b n ≡ fits b v
    at b (no h) = rw (c.exact (omega arith))
    at true (yes h) = let k = c.over h in lt-leb n half (omega arith) ∙ sym (lt-leb v half (omega arith))
    at false (yes h) = let k = c.over h in le-ltb n half (omega arith) ∙ sym (le-ltb v half (omega arith))

small : (negative : Bool) (v : ℕ) → fits negative v ≡ true → v ≤ whole
unfolding choose
small true v e = omega (arith, leb-true v half e)
small false v e = omega (arith, ltb-true v half e)

pub held-atom : {v : ℕ} (negative : Bool) (o : Option ℕ) (ds : List ℕ) → Held v negative o → Capped (value ds) v
    → Atom (record { negative = negative; digits = ds }) o
unfolding is_atom atom
held-atom {v} negative (Some w) ds h c = (capped_fits negative (value ds) v c ∙ h.0, rw (c.exact (small negative v h.0)) h.1)
held-atom {v} negative None ds h c = capped_fits negative (value ds) v c ∙ h

-- Atoms one after the other.

pub gathers-none : {label : Label} → Holds [] label → Gathers [] (Some label)
unfolding both every
gathers-none h = (refl, h)

-- how many atoms there are, where they are gathered
count : (label : Label) (l : List Integer) → Holds (map atom l) label → length l ≡ label.len
count label l h = sym (length-map l atom) ∙ ap length (sym h.atoms) ∙ held-length label h.held

differ : {b : Bool} → b ≡ false → b ≡ true → ⊥
differ e k = let z : ◌≡◌ {A = ℕ} 0 1 = cc in omega arith

-- integers that are atoms for which there is room are so without the last
module _ (l : List Integer) (x : Integer) where
  more : length (l ++ x ∷ []) ≡ length l + 1
  more = length-append l (x ∷ [])

  fit-more : fit l ≡ true → length l < most_atoms → is_atom x ≡ true → fit (l ++ x ∷ []) ≡ true
  unfolding every
  fit-more e h a =
      both_of _ _ (le-leb (length (l ++ x ∷ [])) most_atoms (omega (arith, more)))
      (every_append is_atom l (x ∷ []) ∙ both_of _ _ (both_true _ _ e).1 (both_of _ _ a refl))

  fit-less : fit (l ++ x ∷ []) ≡ true → (fit l ≡ true) × (length l < most_atoms) × (is_atom x ≡ true)
  unfolding every
  fit-less e =
      let t = both_true _ _ e in
      let h = leb-true (length (l ++ x ∷ [])) most_atoms t.0 in
      let u = both_true (every is_atom l) _ (sym (every_append is_atom l (x ∷ [])) ∙ t.1) in
      (both_of _ _ (le-leb (length l) most_atoms (omega (arith, more))) u.0, omega (arith, more), (both_true (is_atom x) _ u.1).0)

pub gathers-more : (label : Label) (word : ℕ) → label.len < most_atoms → word < whole
    → GathersMore (Some label) (Some word) (Some (record { len = label.len + 1; atoms = set label.atoms label.len word }))
gathers-more label word h s l x k a =
    let n = count label l k.1 in
    let held = k.1 in
    let m = length-map l atom ∙ n in
    let w = map-append atom l (x ∷ []) in
    let many = ap length w ∙ length-append (map atom l) (atom x ∷ []) in
    let start : Filled (map atom (l ++ x ∷ [])) label.len label.atoms = record {
      room = held.held.room;
      small = held.held.small;
      front = held.atoms ∙ sym (rw w (take_at (map atom l) (atom x ∷ []) label.len m));
    } in
    let all = filled_more _ _ label.len word start h (omega (arith, many, m)) s
    (sym a.1 ∙ sym (rw w (get_or_at (map atom l) (atom x) [] 0 label.len m))) in
    (fit-more l x k.0 (omega (arith, n)) a.0, filled-all _ _ (label.len + 1) all (omega arith) (omega (arith, many, m)))

-- not all are atoms for which there is room

pub gathers-full : (label : Label) (word : ℕ) → most_atoms ≤ label.len → GathersMore (Some label) (Some word) None
gathers-full label word h l x k a = not_so _ (λ q. omega (arith, (fit-less l x q).1, count label l k.1))

pub gathers-unfit : (a : Option ℕ) → GathersMore None a None
gathers-unfit a l x k e = not_so _ (λ q. differ k (fit-less l x q).0)

pub gathers-no_atom : (label : Label) → GathersMore (Some label) None None
gathers-no_atom label l x k a = not_so _ (λ q. differ a (fit-less l x q).2)
