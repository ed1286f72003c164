-- Texts in a row: what two writers leave one after the other, on a buffer that may end before them. Rests on specs/Putting.
use mathlib.Core.Path.{◌≡◌, refl, ◌∙◌, ap}
use mathlib.Core.List.{List, [], ◌∷◌, ◌++◌}
use Prim.Native.Nat.{ℕ, suc, ◌+◌, ◌≤◌}
use native.Mathlib.Omega.{arith}
use lib.ListN.{length, set, drop, length-append}
use lib.Seq.{sets, sets-eq, length-sets}
use Rattle.exporting.specs.Putting.{Puts}

-- Bytes that are set from a place on.

sets_append : (b : List ℕ) (at : ℕ) (s t : List ℕ) → sets b at (s ++ t) ≡ sets (sets b at s) (at + length s) t
sets_append b at [] t = let z : at + 0 ≡ at = omega arith in rw z
sets_append b at (x ∷ s) t = let z : at + suc (length s) ≡ suc at + length s = omega arith in rw z (sets_append (set b at x) (suc at) s t)

-- where they fit, they are the front, and what is behind them stays
sets-front : (b s : List ℕ) → length s ≤ length b → sets b 0 s ≡ s ++ drop (length s) b
sets-front b s h = let z : 0 + length s ≡ length s = omega arith in rw z at (sets-eq s b 0 (omega arith))

-- What writers leave.

pub nothing : (most : ℕ) (before : List ℕ) (at : ℕ) → Puts most [] before at before at
nothing most before at = record { written = refl; ends = omega arith; short = omega arith }

pub within : (m n : ℕ) {t before after : List ℕ} {at end : ℕ} → m ≤ n → Puts m t before at after end → Puts n t before at after end
within m n h p = record { written = p.written; ends = p.ends; short = omega (arith, p.short) }

pub saying : {m : ℕ} (t u : List ℕ) {before after : List ℕ} {at end : ℕ} → t ≡ u → Puts m t before at after end → Puts m u before at after end
saying t u e p = rw e at p

module _ {before between after : List ℕ} {at p r m n : ℕ} where
  pub then : {t u : List ℕ} → Puts m t before at between p → Puts n u between p after r → Puts (m + n) (t ++ u) before at after r
  then {t} {u} a b =
      record {
        written = b.written ∙ rw (a.written, a.ends, sets_append before at t u);
        ends = rw (length-append t u) (omega (arith, a.ends, b.ends));
        short = omega (arith, a.short, b.short);
      }

module _ {t before after : List ℕ} {at end m : ℕ} where
  pub same-room : Puts m t before at after end → length after ≡ length before
  same-room p = ap length p.written ∙ length-sets before at t

-- a text that fits is the front of the buffer, and what is behind it stays
pub front : {t before after : List ℕ} {end m : ℕ} → Puts m t before 0 after end → length t ≤ length before
    → after ≡ t ++ drop (length t) before
front {t} {before} p h = p.written ∙ sets-front before t h
