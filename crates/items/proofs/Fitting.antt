-- Whether a label that was gathered can be held: by its mark, by its integers, and by their number. Rests on Items and on labels' Laws.
use mathlib.Core.Path.{◌≡◌, refl, sym, ◌∙◌, ap}
use mathlib.Core.Bool.{Bool, true, false}
use Prim.Native.Nat.{ℕ, ◌≤◌}
use native.Mathlib.Omega.{arith}
use borrow.Author.Tests.{leb-false, lt-leb}
use Rattle.std.specs.Prelude.{Option, Some, None}
use lib.Dec.{leb}
use lib.ListN.{length, length-map}
use Rattle.meaning.specs.Basics.{both, clauses, every}
use Rattle.meaning.specs.Layout.{most_atoms}
use Rattle.meaning.specs.Laws.Tests.{both_true, both-no, both_false}
use Rattle.meaning.specs.declared.Table.{Table}
use Rattle.labels.specs.Laws.{held-length}
use Rattle.text.specs.Integers.{is_atom, atom}
use Rattle.text.specs.Text.{label_fits}
use Rattle.labels.specs.declared.Label.{Label}
use Rattle.items.specs.Items.{is_mark, Fits}

module _ (t : Table) (mark : ℕ) (most : ℕ) where
  -- no mark of the table's
  pub no-mark : (g : Option Label) → is_mark t mark ≡ false → Fits t mark g most false
  unfolding label_fits clauses both
  no-mark g e l x = rw e

  -- an integer is no atom, or there are more than any slot has room for
  pub no-atoms : most ≤ most_atoms → Fits t mark None most false
  unfolding label_fits clauses both
  no-atoms h l x =
      let n = at (leb (length l) most_atoms) (every is_atom l) refl refl x in
      sym (ap (both (is_mark t mark)) n ∙ both_false (is_mark t mark))
    where
      at : (a b : Bool) → leb (length l) most_atoms ≡ a → every is_atom l ≡ b → both a b ≡ false
          → both (leb (length l) most) (both (every is_atom l) true) ≡ false
      at true true p q z = absurd (let o : ◌≡◌ {A = ℕ} 0 1 = cc in omega arith)
      at true false p q z = rw q (both_false (leb (length l) most))
      at false b p q z = both-no _ _ (lt-leb (length l) most (omega (arith, leb-false (length l) most_atoms p)))

  -- else their number decides
  pub by_number : (label : Label) → is_mark t mark ≡ true → Fits t mark (Some label) most (leb label.len most)
  unfolding label_fits clauses both
  by_number label e l x =
      let a : every is_atom l ≡ true = (both_true (leb (length l) most_atoms) _ x.0).1 in
      let h = x.1 in
      let n : length l ≡ label.len = sym (length-map l atom) ∙ ap length (sym h.atoms) ∙ held-length label h.held in
      rw (e, a, n) (at (leb label.len most))
    where
      at : (b : Bool) → b ≡ both true (both b (both true true))
      at true = refl
      at false = refl
