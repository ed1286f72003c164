-- Laws of what undo leaves, and of what holds where nothing is refused.
use Prim.Native.Nat.{ℕ, ◌/◌, ◌%◌, ◌≤◌}
use mathlib.Core.Path.{◌≡◌, refl, sym, ◌∙◌, ap}
use mathlib.Core.List.{List}
use mathlib.Core.Bool.{true}
use mathlib.Core.Option.{Option, some, none}
use native.Mathlib.Nat.{zero-mul, sub-zero}
use lib.Dec.{eqb}
use lib.ListN.{length}
use Rattle.meaning.specs.Basics.{choose, every, concat}
use Rattle.meaning.specs.Layout.{Tables, node_length, edge_length, record_length, keeps_record}
use Rattle.meaning.specs.Calls.{report_of, refused, undo_refusal, tables_undone, undo_on, undo, answer_number, refusal_number, lending_undo, Yields}
use Rattle.laws.specs.Calls.{undo-accepted}
use Rattle.laws.specs.Pieces.{concat-cut, fits-length}
use Rattle.meaning.specs.declared.Layout.{Layout}
use Rattle.meaning.specs.declared.Refusal.{Refusal}
use Rattle.answers.specs.Answers.{report_length}
use Rattle.journal.specs.Journal.{tables_of, records_from, put_back, cleared_from}

module _ (L : Layout) (nodes edges journal : List ℕ) (count : ℕ) (report : List ℕ) where
  abbrev undo_fails : Option Refusal
  undo_fails = undo_refusal L (lending_undo nodes edges journal count report)

  -- what holds where nothing fails
  pub record Sound : Type 0 where
    pub reports : length report ≡ report_length
    pub nodes_whole : length nodes % node_length L ≡ 0
    pub edges_whole : length edges % edge_length L ≡ 0
    pub within : count ≤ length journal / record_length L
    pub kept : every (keeps_record L (length nodes / node_length L) (length edges / edge_length L)) (records_from L 0 count journal) ≡ true

  pub sound : undo_fails ≡ none → Sound
  sound e =
      let a = undo-accepted L (lending_undo nodes edges journal count report) e in
      record {
        reports = a.report_size;
        nodes_whole = (fits-length _ _ nodes a.nodes_fit).0;
        edges_whole = (fits-length _ _ edges a.edges_fit).0;
        within = a.within;
        kept = rw (zero-mul (record_length L), sub-zero count) a.kept;
      }

  -- What undo leaves.

  pub leaves-refused : (w : Refusal) (report' : List ℕ) → some w ≡ undo_fails → report' ≡ choose (eqb (length report) report_length) (report_of 0 0) report
      → Yields (undo L (lending_undo nodes edges journal count report)) (refusal_number w) nodes edges journal report'
  unfolding undo undo_on refused answer_number
  leaves-refused w report' e r =
      rw (← e) (record { numbered = refl; nodes_returned = refl; edges_returned = refl; journal_returned = refl; report_returned = r })

  pub leaves-undone : (nodes' edges' journal' report' : List ℕ) → none ≡ undo_fails → length nodes' ≡ length nodes → length edges' ≡ length edges
      → tables_of L nodes' edges' ≡ put_back L 0 count journal (tables_of L nodes edges)
      → journal' ≡ cleared_from L 0 count journal → report' ≡ report_of 0 count
      → Yields (undo L (lending_undo nodes edges journal count report)) 0 nodes' edges' journal' report'
  unfolding undo undo_on tables_undone put_back answer_number
  leaves-undone nodes' edges' journal' report' e n m t j r =
      let s = sound (sym e) in
      let q : tables_of L nodes' edges' ≡ tables_undone L nodes edges journal count = rw (zero-mul (record_length L), sub-zero count) at t in
      rw (← e) (record {
        numbered = refl;
        nodes_returned =
            sym (concat-cut (node_length L) nodes' (ap (λ (k : ℕ). k % node_length L) n ∙ s.nodes_whole))
            ∙ ap (λ (x : Tables (List ℕ) (List ℕ)). concat x.nodes) q;
        edges_returned =
            sym (concat-cut (edge_length L) edges' (ap (λ (k : ℕ). k % edge_length L) m ∙ s.edges_whole))
            ∙ ap (λ (x : Tables (List ℕ) (List ℕ)). concat x.edges) q;
        journal_returned = j ∙ rw (zero-mul (record_length L), sub-zero count);
        report_returned = r;
      })
