-- One byte after the other: what `put` has written after each turn. Rests on specs/Putting and Rows.
use mathlib.Core.Path.{◌≡◌, refl, sym, ◌∙◌, ap}
use mathlib.Core.List.{List, [], ◌∷◌, ◌++◌}
use Prim.Native.Nat.{ℕ, suc, ◌+◌, ◌<◌, ◌≤◌}
use native.Mathlib.Numerals.{add-one}
use native.Mathlib.Omega.{arith}
use lib.ListN.{length, get_or, set, take}
use lib.Seq.{take-suc, take-length, set_out}
use Rattle.exporting.specs.Putting.{Puts}
use Rattle.exporting.proofs.Rows.{nothing, within, saying, then}

put_one : (out : List ℕ) (i byte : ℕ) → Puts 1 (byte ∷ []) out i (set out i byte) (suc i)
put_one out i byte = record { written = refl; ends = omega arith; short = omega arith }

-- a byte that the buffer has no place for
pub put-out : (out later : List ℕ) (i byte : ℕ) → length out ≤ i → later ≡ out → later ≡ set out i byte
put-out out later i byte h e = e ∙ sym (set_out out i byte h)

pub put-none : (text before : List ℕ) (at : ℕ) → Puts 0 (take 0 text) before at before (at + 0)
put-none text before at = let z : at + 0 ≡ at = omega arith in rw z (nothing 0 before at)

module _ (text before out : List ℕ) (at k : ℕ) (p : Puts k (take k text) before at out (at + k)) where
  pub put-more : (later : List ℕ) → k < length text → later ≡ set out (at + k) (get_or text k 0)
      → Puts (k + 1) (take (k + 1) text) before at later (at + (k + 1))
  put-more later h e =
      let z : at + (k + 1) ≡ suc (at + k) = omega arith in
      let q : take k text ++ get_or text k 0 ∷ [] ≡ take (k + 1) text = rw (add-one k) (sym (take-suc text k 0 h)) in
      rw (z, e) (saying (take k text ++ get_or text k 0 ∷ []) (take (k + 1) text) q (then p (put_one out (at + k) (get_or text k 0))))

  pub put_all : k ≡ length text → Puts (length text) text before at out (at + k)
  put_all e =
      saying (take k text) text (ap (λ (n : ℕ). take n text) e ∙ take-length text) (within k (length text) (omega arith) p)
