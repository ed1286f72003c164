-- Laws of the two calls: what is known of input that is accepted, and what each call does with input that is refused and with
-- input that is not. Rests on the meaning's Calls, and on Procedures, LegalImage and Breaks.
use Rattle.std.specs.Prelude.{ℕ, ◌/◌, ◌≤◌, ◌≡◌, false, List, length, eqb}
use Rattle.std.proofs.Math.Bool.{true}
use Rattle.std.proofs.Math.Option.{some, none}
use borrow.Author.Tests.{eqb-true, leb-true, eq-eqb, le-leb}
use Rattle.meaning.specs.Basics.{choose, every, is_some, first_failing}
use Rattle.meaning.specs.Layout.{node_length, edge_length, record_length, fits_table, host_of, keeps_record, keeps_layout}
use Rattle.meaning.specs.Image.{RawProgram, limits, raw_program}
use Rattle.meaning.specs.Procedures.{Program, depth_holds, put_in, program}
use Rattle.meaning.specs.References.{references}
use Rattle.meaning.specs.Placement.{placement}
use Rattle.meaning.specs.Commands.{State, Out, beginning, exec}
use Rattle.meaning.specs.Calls.{Lent, LentUndo, most_fuel, refused, holds, refusal_as, run_refusal, journal_room, finished, started, run_on, run, counted, keeps_records, undo_refusal, undo_on, undo}
use Rattle.meaning.specs.Laws.Tests.{both_true, is_some_true}
use Rattle.meaning.specs.Laws.Checks.{first_failing-none}
use Rattle.laws.specs.Numbers.{Bytes}
use Rattle.laws.specs.Procedures.{depth_put_in, program-some}
use Rattle.laws.specs.LegalCommands.{LegalRules}
use Rattle.laws.specs.LegalImage.{program-legal}
use Rattle.laws.specs.Breaks.{breaks_stay, put_in_stays}
use Rattle.meaning.specs.declared.Layout.{Layout}
use Rattle.meaning.specs.declared.Refusal.{Refusal}

-- a refused call leaves a report of another length than 8 as it came
pub refused-report : (w : Refusal) (nodes edges journal report : List ℕ) → eqb (length report) 8 ≡ false
    → (refused w nodes edges journal report).report ≡ report
unfolding refused choose
refused-report w nodes edges journal report e = rw e

module _ (L : Layout) (x : Lent) where
  -- what is asked of the input of a run
  pub record Accepted : Type 0 where
    pub report_size : length x.report ≡ 8
    pub nodes_fit : fits_table (node_length L) L.nodes x.nodes ≡ true
    pub edges_fit : fits_table (edge_length L) L.edges x.edges ≡ true
    pub journal_fits : fits_table (record_length L) L.records x.journal ≡ true
    pub fuel_fits : x.fuel ≤ most_fuel
    pub image_fits : length x.image ≤ limits.bytes
    pub layout : keeps_layout L x.nodes x.edges ≡ true
    pub raw : RawProgram
    pub read : raw_program x.image ≡ some raw
    pub references : references raw ≡ true
    pub placement : placement raw ≡ true
    pub depth : depth_holds raw ≡ true
    pub tree : Program
    pub whole : put_in raw ≡ some tree
    pub form : program x.image ≡ some tree

  pub accepted : run_refusal L x ≡ none → Accepted
  unfolding refusal_as holds
  accepted e =
      let t1 = first_failing-none _ _ _ e in
      let t2 = first_failing-none _ _ _ t1.1 in
      let t3 = first_failing-none _ _ _ t2.1 in
      let t4 = first_failing-none _ _ _ t3.1 in
      let t5 = first_failing-none _ _ _ t4.1 in
      let t6 = first_failing-none _ _ _ t5.1 in
      let t7 = first_failing-none _ _ _ t6.1 in
      let t8 = first_failing-none _ _ _ t7.1 in
      let t9 = first_failing-none _ _ _ t8.1 in
      let t10 = first_failing-none _ _ _ t9.1 in
      let t11 = first_failing-none _ _ _ t10.1 in
      let p = is_some_true (raw_program x.image) t8.0 in
      let deep : depth_holds p.0 ≡ true = rw p.1 at t11.0 in
      let q = depth_put_in p.0 deep in
      record {
        report_size = eqb-true _ _ t1.0;
        nodes_fit = t2.0;
        edges_fit = t3.0;
        journal_fits = t4.0;
        fuel_fits = leb-true _ _ t5.0;
        image_fits = leb-true _ _ t6.0;
        layout = t7.0;
        raw = p.0;
        read = p.1;
        references = rw p.1 at t9.0;
        placement = rw p.1 at t10.0;
        depth = deep;
        tree = q.0;
        whole = q.1;
        form = program-some x.image p.0 q.0 p.1 q.1;
      }

  pub accepts : Accepted → run_refusal L x ≡ none
  unfolding refusal_as first_failing choose holds is_some
  accepts a =
      rw (
        eq-eqb (length x.report) 8 a.report_size,
        a.nodes_fit,
        a.edges_fit,
        a.journal_fits,
        le-leb x.fuel most_fuel a.fuel_fits,
        le-leb (length x.image) limits.bytes a.image_fits,
        a.layout,
        a.read,
        a.references,
        a.placement,
        a.depth,
      )

  pub run-refused : (w : Refusal) → run_refusal L x ≡ some w
      → run L x ≡ refused w x.nodes x.edges x.journal x.report
  unfolding run run_on
  run-refused w e = rw e

  -- the state that a run starts in, what its program does, and what the run leaves
  abbrev pub starting : State
  starting = beginning (host_of L x.nodes x.edges) x.fuel

  abbrev pub ending : Program → Out
  ending p = exec L.atoms (journal_room L x.journal) p.rules p.main starting

  pub run-started : (p : Program) → run_refusal L x ≡ none → program x.image ≡ some p
      → run L x ≡ finished L (ending p).end (ending p) x.nodes x.edges x.journal
  unfolding run run_on started program
  run-started p e q = rw (e, q)

  -- the rules of an accepted program are legal, and no break comes out of it
  pub accepted-legal : Bytes x.image → (a : Accepted) → LegalRules a.tree.rules
  unfolding holds
  accepted-legal h a = program-legal x.image a.tree h a.form (rw a.read a.references)

  pub accepted-stays : (a : Accepted) → breaks_stay a.tree.main false ≡ true
  accepted-stays a = put_in_stays a.raw a.tree a.whole a.placement

module _ (L : Layout) (y : LentUndo) where
  -- what is asked of the input of an undo
  pub record UndoAccepted : Type 0 where
    pub report_size : length y.report ≡ 8
    pub nodes_fit : fits_table (node_length L) L.nodes y.nodes ≡ true
    pub edges_fit : fits_table (edge_length L) L.edges y.edges ≡ true
    pub within : y.count ≤ journal_room L y.journal
    pub kept : every (keeps_record L (length y.nodes / node_length L) (length y.edges / edge_length L)) (counted L y.count y.journal) ≡ true

  pub undo-accepted : undo_refusal L y ≡ none → UndoAccepted
  unfolding undo_refusal keeps_records
  undo-accepted e =
      let t1 = first_failing-none _ _ _ e in
      let t2 = first_failing-none _ _ _ t1.1 in
      let t3 = first_failing-none _ _ _ t2.1 in
      let t4 = first_failing-none _ _ _ t3.1 in
      let t5 = first_failing-none _ _ _ t4.1 in
      let k = both_true _ _ t5.0 in
      record { report_size = eqb-true _ _ t1.0; nodes_fit = t2.0; edges_fit = t3.0; within = leb-true _ _ k.0; kept = k.1 }

  pub undo-refused : (w : Refusal) → undo_refusal L y ≡ some w
      → undo L y ≡ refused w y.nodes y.edges y.journal y.report
  unfolding undo undo_on
  undo-refused w e = rw e
