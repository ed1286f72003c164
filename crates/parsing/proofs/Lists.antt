-- A list of integers as the loop reads it: those read behind the first one, and what was gathered of all. Rests on specs/Rows, Atoms
-- and Parts.
use mathlib.Core.List.{List, [], ◌∷◌, ◌++◌}
use Prim.Native.Nat.{ℕ, ◌-◌, ◌<◌}
use native.Mathlib.Omega.{arith}
use lib.ListN.{length}
use Rattle.std.specs.Prelude.{Option, Ok, Err}
use Rattle.labels.specs.declared.Label.{Label}
use Rattle.text.specs.Words.{colon}
use Rattle.text.specs.Integers.{Integer}
use Rattle.text.specs.Grammar.{next_integer, integers}
use Rattle.text.proofs.Exact.{next-shorter}
use Rattle.parsing.specs.Reading.{Passed}
use Rattle.parsing.specs.Integers.{ReadsInteger}
use Rattle.parsing.specs.Labels.{Gathers, GathersMore, ReadsList}
use Rattle.parsing.specs.Rows.{Rows, row-begins, row_goes, row_ends, row_breaks}
use Rattle.parsing.specs.declared.BrokenAt.{BrokenAt}
use Rattle.parsing.specs.declared.integers.IntegerAt.{IntegerAt}
use Rattle.parsing.proofs.Parts.{next-integer, next-breaks, integers-read, integers-break}

-- between two places, and between what was gathered at them
pub record Gathering (bs : List ℕ) (first : ℕ) (g₀ : Option Label) (next : ℕ) (g : Option Label) : Type 0 where
  pub behind : List Integer
  pub rows : Rows bs colon next_integer first next behind
  pub gathers : (x : Integer) → Gathers (x ∷ []) g₀ → Gathers (x ∷ behind) g

pub gathering_begins : (bs : List ℕ) (next : ℕ) (g : Option Label) → Gathering bs next g next g
gathering_begins bs next g = record { behind = []; rows = row-begins bs colon next_integer next; gathers = λ x k. k }

module _ {bs : List ℕ} {first : ℕ} {g₀ : Option Label} {next : ℕ} {g : Option Label} (l : Gathering bs first g₀ next g) where
  pub gathering_more : {s : ℕ} (x : IntegerAt) {g' : Option Label} → Passed bs next colon (Ok s) → ReadsInteger bs s (Ok x) → GathersMore g x.word g'
      → Gathering bs first g₀ x.next g'
  gathering_more f p x m = record {
    behind = l.behind ++ x.0 ∷ [];
    rows = row_goes bs colon next_integer l.rows next-shorter p.0 (next-integer bs p.0 x.1);
    gathers = λ y h. m (y ∷ l.behind) x.0 (l.gathers y h) x.2;
  }

pub nearer : {bs : List ℕ} {next s : ℕ} (x : IntegerAt) → Passed bs next colon (Ok s) → ReadsInteger bs s (Ok x) → length bs - x.next < length bs - next
nearer f p x = omega (arith, p.1, p.2, x.1.onward)

-- the list, from its first integer on

module _ {bs : List ℕ} {c next : ℕ} (f : IntegerAt) {g₀ g : Option Label} (x : ReadsInteger bs c (Ok f)) (l : Gathering bs f.next g₀ next g) where
  pub list-ends : (n : Option Label) {b : BrokenAt} → Gathers [] n → GathersMore n f.word g₀ → Passed bs next colon (Err b)
      → ReadsList bs c integers (Ok (record { next = next; label = g }))
  list-ends n z m p = (x.0 ∷ l.behind, integers-read bs x.1 (row_ends bs colon next_integer l.rows p), l.gathers x.0 (m [] x.0 z x.2))

  pub list-broken : {s : ℕ} {b : BrokenAt} → Passed bs next colon (Ok s) → ReadsInteger bs s (Err b) → ReadsList bs c integers (Err b)
  list-broken p y = integers-break bs x.1 (row_breaks bs colon next_integer l.rows p.0 (next-breaks bs p.0 y))
