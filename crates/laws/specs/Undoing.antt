-- A run from tables that keep the layout leaves tables that keep it again, and undo on what a result left, with the count in
-- its report, gives back the tables byte for byte and a journal of zeros.
-- Rests on the meaning's Calls, and on Hosts, Records, Restoring, LegalCommands and Calls.
use Rattle.std.specs.Prelude.{ℕ, ◌+◌, ◌-◌, ◌*◌, ◌/◌, ◌^◌, ◌<◌, ◌≤◌, List, ◌++◌, map, reverse, true, drop, replicate}
use Rattle.std.proofs.Math.Path.{◌≡◌, refl}
use Rattle.std.proofs.Common.{◌∙◌, ap, div-mul-le_self, mul-le-mul_right, arith, drop_at}
use Rattle.std.proofs.Math.Option.{Option, some, none}
use borrow.Author.Tests.{eq-eqb, le-leb}
use Rattle.std.proofs.Math.ListN.{length}
use Rattle.std.proofs.lemmas.List.{replicate-append-replicate}
use Rattle.meaning.specs.Basics.{choose, concat, padded, first_failing}
use Rattle.meaning.specs.Numbers.{number, bytes, whole}
use Rattle.meaning.specs.Layout.{Slot, Node, Edge, Host, Change, base, four, small, layout_of, node_length, edge_length, record_length, fits_table, read_node, read_edge, host_of, write_node, write_edge, write_nodes, write_edges, write_record, keeps_layout}
use Rattle.meaning.specs.Procedures.{Program, program}
use Rattle.meaning.specs.Commands.{State, Out, beginning, exec}
use Rattle.meaning.specs.Calls.{Returned, report_of, refused, run_refusal, journal_room, finished, started, run_on, run, keeps_records, undo_refusal, tables_undone, undo_on, undo, lending, lending_undo}
use Rattle.meaning.specs.Laws.Tests.{both_of}
use Rattle.meaning.specs.Laws.Every.{Every}
use Rattle.laws.specs.Numbers.{Bytes, length-bytes, number-bytes}
use Rattle.laws.specs.Pieces.{fits-length, fits_whole, fits-same, length-read}
use Rattle.laws.specs.Layout.{length-padded, write_read-nodes, write_read-edges}
use Rattle.laws.specs.Hosts.{legal-host, length-write_nodes, length-write_edges, keeps_layout_write}
use Rattle.laws.specs.Records.{LegalChange, Every-reverse, map_tables, keeps-records, length-written, counted-written, undo-written}
use Rattle.laws.specs.Restoring.{from_start}
use Rattle.laws.specs.Commands.{exec-from, exec-room}
use Rattle.laws.specs.Legality.{LegalLedger}
use Rattle.laws.specs.LegalCommands.{LegalRules, exec-legal}
use Rattle.laws.specs.Calls.{Accepted, accepted, accepted-legal}
use Rattle.meaning.specs.declared.Layout.{Layout}
use Rattle.meaning.specs.declared.Core.{Core}
use Rattle.meaning.specs.declared.Core.TheVariants.{Wide, Small}
use Rattle.meaning.specs.declared.Refusal.{Refusal}
use Rattle.meaning.specs.declared.Answer.TheVariants.{Result}
use Rattle.meaning.specs.declared.End.{End}
use Rattle.meaning.specs.declared.End.TheVariants.{Done, Failed, Broke, Stopped}

-- the slot numbers of the largest tables have the layout's width, the length of a label one byte, and the count of a full journal four
pub record Numbered (L : Layout) : Type 0 where
  pub narrow : 0 < L.width
  pub nodes : L.nodes ≤ 256 ^ L.width
  pub edges : L.edges ≤ 256 ^ L.width
  pub records : L.records < whole
  pub labels : L.atoms < 256

pub base-numbered : Numbered base
base-numbered = record { narrow = omega arith; nodes = omega arith; edges = omega arith; records = omega arith; labels = omega arith }

pub four-numbered : Numbered four
four-numbered = record { narrow = omega arith; nodes = omega arith; edges = omega arith; records = omega arith; labels = omega arith }

pub small-numbered : Numbered small
small-numbered = record { narrow = omega arith; nodes = omega arith; edges = omega arith; records = omega arith; labels = omega arith }

pub core_numbered : (c : Core) → Numbered (layout_of c)
core_numbered Wide = base-numbered
core_numbered Small = small-numbered

-- The journal that a run writes.

module _ (L : Layout) (narrow : 0 < L.width) where
  -- the counted records cleared
  cleared : (js : List (Change (Slot Node) (Slot Edge))) → Every (LegalChange L) js → (n : ℕ) → length js * record_length L ≤ n
      → replicate (length js * record_length L) 0 ++ drop (length js * record_length L) (padded n (concat (map (write_record L) (reverse js))))
      ≡ replicate n 0
  cleared js legal n h =
      let k = length js * record_length L in
      let l : length (concat (map (write_record L) (reverse js))) ≡ k = length-written L narrow js legal in
      let e : k + (n - length (concat (map (write_record L) (reverse js)))) ≡ n = omega arith in
      rw (drop_at (concat (map (write_record L) (reverse js))) (replicate (n - length (concat (map (write_record L) (reverse js)))) 0) k l, replicate-append-replicate, e)

-- The report.

-- the records that a report states
abbrev pub stated_records : List ℕ → ℕ
stated_records report = number (drop 4 report)

pub stated-report : (steps records : ℕ) → records < whole → stated_records (report_of steps records) ≡ records
stated-report steps records h =
    rw (drop_at (bytes 4 steps) (bytes 4 records) 4 (length-bytes 4 steps)) (number-bytes 4 records h)

-- undo of what a run left, with the records that its report states, gives back the tables and a journal of zeros
abbrev pub Restores : Layout → List ℕ → List ℕ → List ℕ → List ℕ → Returned → Type 0
Restores L nodes edges journal report o =
    undo L (lending_undo o.nodes o.edges o.journal (stated_records o.report) report)
    ≡ record {
      answer = Result;
      nodes = nodes;
      edges = edges;
      journal = replicate (length journal) 0;
      report = report_of 0 (stated_records o.report);
    }

-- A run that starts.

module _ (L : Layout) (numbered : Numbered L) (nodes edges journal : List ℕ) (hn : Bytes nodes) (he : Bytes edges)
    (nodes_fit : fits_table (node_length L) L.nodes nodes ≡ true)
    (edges_fit : fits_table (edge_length L) L.edges edges ≡ true)
    (journal_fits : fits_table (record_length L) L.records journal ≡ true) (layout : keeps_layout L nodes edges ≡ true)
    (p : Program) (legal : LegalRules p.rules) (fuel : ℕ)
  where
    abbrev start : State
    start = beginning (host_of L nodes edges) fuel

    abbrev out : Out
    out = exec L.atoms (journal_room L journal) p.rules p.main start

    few_nodes : length nodes / node_length L ≤ 256 ^ L.width
    few_nodes = let t = fits-length (node_length L) L.nodes nodes nodes_fit in omega (arith, numbered.nodes, t.1)

    few_edges : length edges / edge_length L ≤ 256 ^ L.width
    few_edges = let t = fits-length (edge_length L) L.edges edges edges_fit in omega (arith, numbered.edges, t.1)

    pub start-legal : LegalLedger L (length nodes / node_length L) (length edges / edge_length L) start.ledger
    start-legal =
        record {
          nodes = length-read (node_length L) read_node nodes;
          edges = length-read (edge_length L) (read_edge L) edges;
          host = legal-host L nodes edges hn he layout;
          records = tt;
          within = tt;
        }

    -- host and journal are legal when the program ends
    pub out-legal : LegalLedger L (length nodes / node_length L) (length edges / edge_length L) out.state.ledger
    out-legal = exec-legal L _ _ few_nodes few_edges (journal_room L journal) p.rules legal p.main start start-legal

    -- the tables keep the layout, whatever the end
    finished-keeps : (e : End) → keeps_layout L (finished L e out nodes edges journal).nodes (finished L e out nodes edges journal).edges ≡ true
    unfolding finished
    finished-keeps Done = keeps_layout_write L out.state.ledger.host out-legal.host
    finished-keeps Failed = layout
    finished-keeps Broke = layout
    finished-keeps (Stopped w) = layout

    pub started-keeps : keeps_layout L (started L p nodes edges journal fuel).nodes (started L p nodes edges journal fuel).edges ≡ true
    unfolding started
    started-keeps = finished-keeps out.end

    -- Undo of a result: the tables as they came, and the journal cleared.

    abbrev records : List (Change (Slot Node) (Slot Edge))
    records = out.state.ledger.journal

    abbrev after : Host
    after = out.state.ledger.host

    abbrev journal_after : List ℕ
    journal_after = padded (length journal) (concat (map (write_record L) (reverse records)))

    few-records : length records ≤ length journal / record_length L
    few-records = exec-room L.atoms (journal_room L journal) p.rules p.main start (omega arith)

    records-fit : length records * record_length L ≤ length journal
    records-fit =
        let k = mul-le-mul_right (record_length L) few-records in
        let l = div-mul-le_self (length journal) (record_length L) in
        omega arith

    length-nodes : length (write_nodes L after.nodes) ≡ length nodes
    length-nodes =
        length-write_nodes L after out-legal.host ∙ ap (λ (n : ℕ). n * node_length L) out-legal.nodes ∙ fits_whole _ _ nodes nodes_fit

    length-edges : length (write_edges L after.edges) ≡ length edges
    length-edges =
        length-write_edges L after out-legal.host ∙ ap (λ (n : ℕ). n * edge_length L) out-legal.edges ∙ fits_whole _ _ edges edges_fit

    length-journal : length journal_after ≡ length journal
    length-journal =
        length-padded (length journal) (concat (map (write_record L) (reverse records)))
        (omega (arith, records-fit, length-written L numbered.narrow records out-legal.records))

    keeps : keeps_records L (write_nodes L after.nodes) (write_edges L after.edges) journal_after (length records) ≡ true
    unfolding keeps_records
    keeps =
        both_of _ _ (rw length-journal (le-leb _ _ few-records))
        (rw (counted-written L numbered.narrow records out-legal.records (length journal), length-nodes, length-edges)
        (keeps-records L numbered.narrow _ _ (reverse records) (Every-reverse (LegalChange L) records out-legal.records)
        (Every-reverse _ records out-legal.within)))

    tables : tables_undone L (write_nodes L after.nodes) (write_edges L after.edges) journal_after (length records)
        ≡ map_tables (write_node L) (write_edge L) start.ledger.host
    tables =
        undo-written L numbered.narrow records (length journal) after out-legal.records out-legal.host
        ∙ ap (map_tables (write_node L) (write_edge L))
        (from_start start.ledger out.state.ledger refl (exec-from L.atoms (journal_room L journal) p.rules p.main start))

    -- what undo leaves of it
    abbrev given_back : Returned
    given_back =
        record {
          answer = Result;
          nodes = nodes;
          edges = edges;
          journal = replicate (length journal) 0;
          report = report_of 0 (length records);
        }

    pub undo-result : (report : List ℕ) → length report ≡ 8
        → undo L (lending_undo (write_nodes L after.nodes) (write_edges L after.edges) journal_after (length records) report) ≡ given_back
    unfolding undo undo_on undo_refusal first_failing choose
    undo-result report h =
        rw (
          eq-eqb (length report) 8 h,
          fits-same (node_length L) L.nodes nodes (write_nodes L after.nodes) length-nodes nodes_fit,
          fits-same (edge_length L) L.edges edges (write_edges L after.edges) length-edges edges_fit,
          fits-same (record_length L) L.records journal journal_after length-journal journal_fits,
          keeps,
          tables,
          write_read-nodes L nodes edges layout hn (fits-length (node_length L) L.nodes nodes nodes_fit).0,
          write_read-edges L nodes edges layout he (fits-length (edge_length L) L.edges edges edges_fit).0,
          cleared L numbered.narrow records out-legal.records (length journal) records-fit,
        )

    finished-undo : (report : List ℕ) → length report ≡ 8 → (e : End) → (finished L e out nodes edges journal).answer ≡ Result
        → Restores L nodes edges journal report (finished L e out nodes edges journal)
    unfolding finished
    finished-undo report h Done e =
        let t = fits-length (record_length L) L.records journal journal_fits in
        let k : length records < whole = omega (arith, t.1, few-records, numbered.records) in
        rw (stated-report out.state.steps (length records) k) (undo-result report h)
    finished-undo report h Failed e = let z : ◌≡◌ {A = ℕ} 0 1 = cc in absurd (omega arith)
    finished-undo report h Broke e = let z : ◌≡◌ {A = ℕ} 0 1 = cc in absurd (omega arith)
    finished-undo report h (Stopped w) e = let z : ◌≡◌ {A = ℕ} 0 1 = cc in absurd (omega arith)

-- The call.

module _ (L : Layout) (numbered : Numbered L) (nodes edges journal image : List ℕ) (fuel : ℕ) (report : List ℕ) (hn : Bytes nodes)
    (he : Bytes edges) (hi : Bytes image)
  where
    -- the rules of an accepted program are legal
    rules : (a : Accepted L (lending nodes edges journal image fuel report)) → LegalRules a.tree.rules
    rules = accepted-legal L (lending nodes edges journal image fuel report) hi

    -- a property of what the call leaves: of what a refused call leaves, and of what a started one does
    called : (P : Returned → Type 0) → ((w : Refusal) → P (refused w nodes edges journal report))
        → ((a : Accepted L (lending nodes edges journal image fuel report)) → P (started L a.tree nodes edges journal fuel))
        → P (run L (lending nodes edges journal image fuel report))
    unfolding run run_on program
    called P f g = at (run_refusal L (lending nodes edges journal image fuel report)) refl
      where
        at : (w : Option Refusal) → run_refusal L (lending nodes edges journal image fuel report) ≡ w
            → P (run_on L w (program image) (lending nodes edges journal image fuel report))
        at (some w) e = f w
        at none e = let a = accepted L (lending nodes edges journal image fuel report) e in rw a.form (g a)

    -- from tables that keep the layout, run leaves tables that keep it
    pub run-keeps : keeps_layout L nodes edges ≡ true
        → keeps_layout L (run L (lending nodes edges journal image fuel report)).nodes (run L (lending nodes edges journal image fuel report)).edges ≡ true
    unfolding refused
    run-keeps k =
        called (λ o. keeps_layout L o.nodes o.edges ≡ true) (λ w. k)
        (λ a. started-keeps L numbered nodes edges journal hn he a.nodes_fit a.edges_fit a.journal_fits a.layout a.tree (rules a) fuel)

    -- undo of a result gives back what came in
    pub run-undo : (back : List ℕ) → length back ≡ 8 → (run L (lending nodes edges journal image fuel report)).answer ≡ Result
        → Restores L nodes edges journal back (run L (lending nodes edges journal image fuel report))
    unfolding refused started
    run-undo back h =
        called (λ o. o.answer ≡ Result → Restores L nodes edges journal back o)
        (λ w e. let z : ◌≡◌ {A = ℕ} 0 1 = cc in absurd (omega arith))
        (λ a. finished-undo L numbered nodes edges journal hn he a.nodes_fit a.edges_fit a.journal_fits a.layout a.tree (rules a) fuel back h _)
