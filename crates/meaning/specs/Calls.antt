-- The two calls, each a function from all its inputs to all its outputs, refusals in their order included.
-- Rests on Basics, Numbers, Layout, Image, References, Placement, Procedures and Commands, and on the code's Layout, Stop, Refusal, Answer and
-- End. At document 01's layout (`base`) a node has 36 bytes, an edge 40, a record 44; tables have at most 512, 1,024 and 1,024. At the
-- small core's (`small`) they have 8, 10 and 12; tables have at most 128, 255 and 255.
use Rattle.std.specs.Prelude.{◌≡◌, Bool, false, List, [], ◌∷◌, ◌++◌, map, reverse, ℕ, ◌*◌, ◌/◌, length, drop, replicate, eqb, leb}
use Rattle.std.proofs.Math.Option.{Option, some, none}
use Rattle.meaning.specs.Basics.{choose, both, every, concat, padded, is_some, first_failing, ◌>>=◌}
use Rattle.meaning.specs.Numbers.{number, bytes}
use Rattle.meaning.specs.Layout.{Tables, undone, node_length, edge_length, record_length, fits_table, pieces, cut, host_of, write_nodes, write_edges, write_record, keeps_layout, read_record, keeps_record}
use Rattle.meaning.specs.Image.{RawProgram, limits, raw_program}
use Rattle.meaning.specs.References.{references}
use Rattle.meaning.specs.Placement.{placement}
use Rattle.meaning.specs.Procedures.{Program, depth_holds, put_in}
use Rattle.meaning.specs.Commands.{Out, beginning, exec}
use Rattle.meaning.specs.declared.Layout.{Layout}
use Rattle.meaning.specs.declared.Stop.{Stop}
use Rattle.meaning.specs.declared.Stop.TheVariants.{OutOfFuel, NoNodeRoom, NoEdgeRoom, NoRecordRoom, LabelTooLarge}
use Rattle.meaning.specs.declared.Refusal.{Refusal}
use Rattle.meaning.specs.declared.Refusal.TheVariants.{ReportLength, NodeTableLength, EdgeTableLength, JournalLength, TooMuchFuel, ImageTooLong, BadHost, BadForm, BadReferences, BadPlacement, BadDepth, BadRecords, BadText, BadNames, TextDoesNotFit, BufferTooShort, LabelDoesNotFit, HostDoesNotFit}
use Rattle.meaning.specs.declared.Answer.{Answer}
use Rattle.meaning.specs.declared.Answer.TheVariants.{Result, Fail, Stopped as stopped_by, Refused}
use Rattle.meaning.specs.declared.End.{End}
use Rattle.meaning.specs.declared.End.TheVariants.{Done, Failed, Broke, Stopped}

-- The numbers of the answers. 7 is nobody's, and stays unused.

unfoldable pub stop_number : Stop → ℕ
stop_number OutOfFuel = 2
stop_number NoNodeRoom = 3
stop_number NoEdgeRoom = 4
stop_number NoRecordRoom = 5
stop_number LabelTooLarge = 6

unfoldable pub refusal_number : Refusal → ℕ
refusal_number ReportLength = 9
refusal_number NodeTableLength = 10
refusal_number EdgeTableLength = 11
refusal_number JournalLength = 12
refusal_number TooMuchFuel = 13
refusal_number ImageTooLong = 14
refusal_number BadHost = 15
refusal_number BadForm = 16
refusal_number BadReferences = 17
refusal_number BadPlacement = 18
refusal_number BadDepth = 19
refusal_number BadRecords = 20
refusal_number BadText = 22
refusal_number BadNames = 23
refusal_number TextDoesNotFit = 24
refusal_number BufferTooShort = 25
refusal_number LabelDoesNotFit = 26
refusal_number HostDoesNotFit = 29

unfoldable pub answer_number : Answer → ℕ
answer_number Result = 0
answer_number Fail = 1
answer_number (stopped_by w) = stop_number w
answer_number (Refused w) = refusal_number w

-- What run is lent: both tables, the journal, the program image, the fuel and the report.
pub record Lent : Type 0 where
  pub nodes : List ℕ
  pub edges : List ℕ
  pub journal : List ℕ
  pub image : List ℕ
  pub fuel : ℕ
  pub report : List ℕ

abbrev pub lending : List ℕ → List ℕ → List ℕ → List ℕ → ℕ → List ℕ → Lent
lending nodes edges journal image fuel report =
    record { nodes = nodes; edges = edges; journal = journal; image = image; fuel = fuel; report = report }

-- What undo is lent: both tables, the journal, the count of records and the report.
pub record LentUndo : Type 0 where
  pub nodes : List ℕ
  pub edges : List ℕ
  pub journal : List ℕ
  pub count : ℕ
  pub report : List ℕ

abbrev pub lending_undo : List ℕ → List ℕ → List ℕ → ℕ → List ℕ → LentUndo
lending_undo nodes edges journal count report =
    record { nodes = nodes; edges = edges; journal = journal; count = count; report = report }

-- What a call returns: its answer and every buffer.
pub record Returned : Type 0 where
  pub answer : Answer
  pub nodes : List ℕ
  pub edges : List ℕ
  pub journal : List ℕ
  pub report : List ℕ

-- the number and the buffers are those that a call returns
pub record Yields (l : Returned) (number : ℕ) (nodes edges journal report : List ℕ) : Type 0 where
  pub numbered : number ≡ answer_number l.answer
  pub nodes_returned : nodes ≡ l.nodes
  pub edges_returned : edges ≡ l.edges
  pub journal_returned : journal ≡ l.journal
  pub report_returned : report ≡ l.report

-- steps and records, four bytes each
abbrev pub report_of : ℕ → ℕ → List ℕ
report_of steps records = bytes 4 steps ++ bytes 4 records

abbrev pub most_fuel : ℕ
most_fuel = 1000000

-- a refused call leaves tables and journal as they were, and zeros in the report if it has 8 bytes
unfoldable pub refused : Refusal → List ℕ → List ℕ → List ℕ → List ℕ → Returned
refused w nodes edges journal report =
    record {
      answer = Refused w;
      nodes = nodes;
      edges = edges;
      journal = journal;
      report = choose (eqb (length report) 8) (report_of 0 0) report;
    }

-- the test holds of what was read, if anything was
unfoldable pub holds : (RawProgram → Bool) → Option RawProgram → Bool
holds f none = false
holds f (some p) = f p

module _ (L : Layout) where
  -- The lengths, which both calls look at first (9 to 12).
  abbrev pub length_checks : List ℕ → List ℕ → List ℕ → List ℕ → List (Bool × Refusal)
  length_checks nodes edges journal report =
      (eqb (length report) 8, ReportLength)
      ∷ (fits_table (node_length L) L.nodes nodes, NodeTableLength)
      ∷ (fits_table (edge_length L) L.edges edges, EdgeTableLength)
      ∷ (fits_table (record_length L) L.records journal, JournalLength)
      ∷ []

  -- Run.

  -- the lowest applicable number from 9 to 19, where the image is read as p
  unfoldable pub refusal_as : Option RawProgram → Lent → Option Refusal
  refusal_as p x =
      first_failing
      (length_checks x.nodes x.edges x.journal x.report
      ++ (leb x.fuel most_fuel, TooMuchFuel)
      ∷ (leb (length x.image) limits.bytes, ImageTooLong)
      ∷ (keeps_layout L x.nodes x.edges, BadHost)
      ∷ (is_some p, BadForm)
      ∷ (holds references p, BadReferences)
      ∷ (holds placement p, BadPlacement)
      ∷ (holds depth_holds p, BadDepth)
      ∷ [])

  abbrev pub run_refusal : Lent → Option Refusal
  run_refusal x = refusal_as (raw_program x.image) x

  -- how many records the journal holds
  abbrev pub journal_room : List ℕ → ℕ
  journal_room journal = length journal / record_length L

  -- a run that did not come to a result gives the graph back as it came, and an empty journal
  abbrev pub given_back : Answer → ℕ → List ℕ → List ℕ → List ℕ → Returned
  given_back a steps nodes edges journal =
      record { answer = a; nodes = nodes; edges = edges; journal = replicate (length journal) 0; report = report_of steps 0 }

  -- what a started run leaves, by its end; no break reaches the end of a program that keeps the placement
  unfoldable pub finished : End → Out → List ℕ → List ℕ → List ℕ → Returned
  finished Done o nodes edges journal =
      record {
        answer = Result;
        nodes = write_nodes L o.state.ledger.host.nodes;
        edges = write_edges L o.state.ledger.host.edges;
        journal = padded (length journal) (concat (map (write_record L) (reverse o.state.ledger.journal)));
        report = report_of o.state.steps (length o.state.ledger.journal);
      }
  finished Failed o nodes edges journal = given_back Fail o.state.steps nodes edges journal
  finished Broke o nodes edges journal = given_back Fail o.state.steps nodes edges journal
  finished (Stopped w) o nodes edges journal = given_back (stopped_by w) o.state.steps nodes edges journal

  unfoldable pub started : Program → List ℕ → List ℕ → List ℕ → ℕ → Returned
  started p nodes edges journal fuel =
      let o : Out = exec L.atoms (journal_room journal) p.rules p.main (beginning (host_of L nodes edges) fuel) in
      finished o.end o nodes edges journal

  unfoldable pub run_on : Option Refusal → Option Program → Lent → Returned
  run_on (some w) p x = refused w x.nodes x.edges x.journal x.report
  run_on none none x = refused BadForm x.nodes x.edges x.journal x.report
  run_on none (some p) x = started p x.nodes x.edges x.journal x.fuel

  -- what a call returns, where the image is read as p
  abbrev pub run_as : Option RawProgram → Lent → Returned
  run_as p x = run_on (refusal_as p x) (p >>= put_in) x

  unfoldable pub run : Lent → Returned
  run x = run_as (raw_program x.image) x

  -- Undo.

  abbrev pub counted : ℕ → List ℕ → List (List ℕ)
  counted count journal = pieces (record_length L) count journal

  -- the count is at most the journal's records, and each counted record keeps to its table
  unfoldable pub keeps_records : List ℕ → List ℕ → List ℕ → ℕ → Bool
  keeps_records nodes edges journal count =
      both (leb count (journal_room journal))
      (every (keeps_record L (length nodes / node_length L) (length edges / edge_length L)) (counted count journal))

  unfoldable pub undo_refusal : LentUndo → Option Refusal
  undo_refusal y =
      first_failing
      (length_checks y.nodes y.edges y.journal y.report
      ++ (keeps_records y.nodes y.edges y.journal y.count, BadRecords)
      ∷ [])

  -- both tables as lists of slots, with the counted records stored back from last to first
  unfoldable pub tables_undone : List ℕ → List ℕ → List ℕ → ℕ → Tables (List ℕ) (List ℕ)
  tables_undone nodes edges journal count =
      undone (reverse (map (read_record L) (counted count journal)))
      (record { nodes = cut (node_length L) nodes; edges = cut (edge_length L) edges })

  unfoldable pub undo_on : Option Refusal → LentUndo → Returned
  undo_on (some w) y = refused w y.nodes y.edges y.journal y.report
  undo_on none y =
      record {
        answer = Result;
        nodes = concat (tables_undone y.nodes y.edges y.journal y.count).nodes;
        edges = concat (tables_undone y.nodes y.edges y.journal y.count).edges;
        journal = replicate (y.count * record_length L) 0 ++ drop (y.count * record_length L) y.journal;
        report = report_of 0 y.count;
      }

  unfoldable pub undo : LentUndo → Returned
  undo y = undo_on (undo_refusal y) y

  -- What the exported calls promise, each with its layout: the number that is answered, and what lies in every buffer then.

  abbrev pub RunPromise : Lent → ℕ → List ℕ → List ℕ → List ℕ → List ℕ → Type 0
  RunPromise x number nodes edges journal report = Yields (run x) number nodes edges journal report

  abbrev pub UndoPromise : LentUndo → ℕ → List ℕ → List ℕ → List ℕ → List ℕ → Type 0
  UndoPromise y number nodes edges journal report = Yields (undo y) number nodes edges journal report
