-- Laws of the checks before any change: the values in the arrays are the match's at the names of the right side, and what
-- hinders is found in document 01's order. Rests on Application, on values' Right and on ledger's Rooms.
use mathlib.Core.Path.{◌≡◌, sym, ◌∙◌, ap}
use mathlib.Core.Bool.{Bool, true, false}
use mathlib.Core.List.{List, ◌++◌}
use Prim.Native.Nat.{ℕ, ◌+◌, ◌/◌, ◌≤◌}
use native.Mathlib.Nat.{le-div_iff_mul-le, mul-le-mul_left}
use native.Mathlib.Omega.{arith}
use lib.ListN.{length, take}
use Rattle.std.specs.Prelude.{Result, Err}
use borrow.Author.Tests.{not-true}
use Rattle.meaning.specs.Basics.{absent, is_some}
use Rattle.meaning.specs.Layout.{record_length, read_nodes, read_edges, host_of}
use Rattle.meaning.specs.Image.{Rule}
use Rattle.meaning.specs.References.{names, test_names, variables_on_left, rule_holds}
use Rattle.meaning.specs.Matching.{left_edges, total}
use Rattle.meaning.specs.Assigned.{assigned}
use Rattle.meaning.specs.Applying.{free_slots, right_side, new_nodes, gone_nodes, records_of, hindrance}
use Rattle.meaning.specs.Laws.Tests.{choose_true, choose_false, clauses-true}
use Rattle.meaning.specs.Laws.Every.{Every, Every-true, Every-parts, Every-then}
use Rattle.meaning.specs.declared.Layout.{Layout}
use Rattle.meaning.specs.declared.Stop.{Stop}
use Rattle.meaning.specs.declared.Stop.TheVariants.{LabelTooLarge}
use Rattle.values.specs.Values.{values_of, Agree, all_held}
use Rattle.values.specs.Right.{held-right}
use Rattle.ledger.specs.Running.{journal_of, ledger_of}
use Rattle.ledger.specs.Whole.{records-count}
use Rattle.ledger.specs.Rooms.{stop_of, lacking, hindrance-is}
use Rattle.applying.specs.Application.{AtMatch}

-- a number of records is at most half of the journal's bytes
pub records-half : (L : Layout) (journal : List ℕ) (used : ℕ) → used ≤ length journal / record_length L → used + used ≤ length journal
records-half L journal used h =
    let a = (le-div_iff_mul-le {k = record_length L} {x = used} {y = length journal} (omega arith)).0 h in
    let b = mul-le-mul_left {m = 2} {n = record_length L} used (omega arith) in
    omega arith

-- the variables of the right side occur on the left
right-left : (r : Rule) → rule_holds r ≡ true → Every (λ v. absent v (names r.left) ≡ false) (names r.right)
unfolding rule_holds variables_on_left
right-left r holds =
    let Occurs : ℕ → Type 0 = λ v. absent v (names r.left) ≡ false in
    let occur = Every-true _ Occurs (λ v e. not-true _ e) (names r.right ++ test_names r) (clauses-true _ holds 8) in
    (Every-parts Occurs (names r.right) (test_names r) occur).0

module _ {L : Layout} {nodes edges bs slots lens atoms : List ℕ} (w : AtMatch L nodes edges bs slots lens atoms) where
  abbrev placed : List ℕ
  placed = take (total w.tree) slots

  -- the arrays hold the match's values
  pub values_agree : Agree (values_of lens atoms) (assigned (host_of L nodes edges) w.tree placed) (names w.tree.right)
  values_agree = Every-then _ _ (λ v e. w.values v e) (names w.tree.right) (right-left w.tree w.legal.holds)

  held-is : {b : Bool} → b ≡ all_held L.atoms (values_of lens atoms) w.tree.right
      → is_some (right_side L.atoms (host_of L nodes edges) w.tree placed) ≡ b
  held-is e = sym (e ∙ held-right L.atoms (host_of L nodes edges) w.tree placed (values_of lens atoms) values_agree)

  module _ (journal : List ℕ) (used : ℕ) {b : Bool} (h : b ≡ all_held L.atoms (values_of lens atoms) w.tree.right) where
    -- a label can't be held
    pub too_large : b ≡ false
        → stop_of (Err LabelTooLarge) ≡ hindrance L.atoms (length journal / record_length L) w.tree placed (ledger_of L nodes edges journal used)
    unfolding stop_of
    too_large e =
        sym (hindrance-is L.atoms (length journal / record_length L) w.tree placed (ledger_of L nodes edges journal used)
        ∙ choose_false _ _ _ (held-is h ∙ e))

    -- or else what is lacking hinders
    pub lacks : b ≡ true → (a : Result (Unit {0}) Stop) {new gone count m all : ℕ}
        → new ≡ new_nodes w.tree → gone ≡ gone_nodes w.tree → count ≡ length w.tree.right.edges → m ≡ left_edges w.tree
        → all ≡ used + records_of w.tree
        → stop_of a ≡ lacking new (free_slots (read_nodes L nodes)) gone count (free_slots (read_edges L edges)) m all (length journal / record_length L)
        → stop_of a ≡ hindrance L.atoms (length journal / record_length L) w.tree placed (ledger_of L nodes edges journal used)
    lacks e a {all} n1 n2 n3 n4 n5 s =
        let n6 : all ≡ length (journal_of L journal used) + records_of w.tree = n5 ∙ ap (λ (u : ℕ). u + records_of w.tree) (sym (records-count L nodes edges journal used)) in
        (rw (n1, n2, n3, n4, n6) at s)
        ∙ sym (hindrance-is L.atoms (length journal / record_length L) w.tree placed (ledger_of L nodes edges journal used)
        ∙ choose_true _ _ _ (held-is h ∙ e))
