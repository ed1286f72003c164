-- The user's three demands, each of an arbitrary interpreter: a function from all that the calls `run` and `undo` are lent to
-- all that they leave. Which input is bad, what the bytes of a table stand for and what commands mean is document 01's; how an
-- interpreter works is left open. Rests on the meaning's Basics, Numbers, Layout, Image, References, Placement and Procedures, on
-- Commands for its states and on Calls for what is lent and what is checked, on laws' Numbers (for `Bytes` alone), on Inference, and on
-- the code's Layout, Stop and End.
-- The demands take the layout of the tables. At document 01's (`base`) a node has 36 bytes, an edge 40, a record 44; at the small
-- core's (`small`) 8, 10 and 12. Elsewhere in this crate: ours meets all three (Met), and so does all that keeps the contracts of the
-- exported calls (Exported); demands 1 and 2 leave one outcome of each call (OneOutcome); and who does not meet which (Worthless,
-- WorthlessUndo).
use Rattle.std.specs.Prelude.{◌≡◌, Bool, true, false, List, [], ◌∷◌, ◌++◌, map, reverse, ℕ, zero, suc, ◌+◌, ◌-◌, ◌*◌, ◌/◌, ◌^◌, ◌<◌, ◌≤◌, length, get_or, take, drop, replicate, eqb, leb}
use Rattle.std.proofs.Math.Option.{Option, some, none}
use Rattle.meaning.specs.Basics.{choose, concat, padded, absent, is_some, first_failing}
use Rattle.meaning.specs.Numbers.{number, bytes}
use Rattle.meaning.specs.Layout.{node_length, edge_length, record_length, kind_place, slot_of, fits_table, host_of, write_nodes, write_edges, write_record, keeps_layout}
use Rattle.meaning.specs.Image.{limits, raw_program}
use Rattle.meaning.specs.References.{references}
use Rattle.meaning.specs.Placement.{placement}
use Rattle.meaning.specs.Procedures.{Program, depth_holds, program}
use Rattle.meaning.specs.Commands.{State, beginning}
use Rattle.demands.specs.Inference.{Executes}
use Rattle.meaning.specs.Calls.{Lent, LentUndo, most_fuel, holds, keeps_records}
use Rattle.laws.specs.Numbers.{Bytes}
use Rattle.meaning.specs.declared.Layout.{Layout}
use Rattle.meaning.specs.declared.Stop.{Stop}
use Rattle.meaning.specs.declared.Stop.TheVariants.{OutOfFuel, NoNodeRoom, NoEdgeRoom, NoRecordRoom, LabelTooLarge}
use Rattle.meaning.specs.declared.End.{End}
use Rattle.meaning.specs.declared.End.TheVariants.{Done, Failed, Broke, Stopped}

-- What a driver can lend: buffers of bytes, whose lengths are numbers of 64 bits, and numbers of 32 bits. Nothing else reaches a
-- call, and the demands speak of nothing else.

pub record Buffer (bs : List ℕ) : Type 0 where
  pub bytewise : Bytes bs
  pub fits : length bs < 2 ^ 64

pub record Lendable (x : Lent) : Type 0 where
  pub nodes : Buffer x.nodes
  pub edges : Buffer x.edges
  pub journal : Buffer x.journal
  pub image : Buffer x.image
  pub fuel : x.fuel < 2 ^ 32
  pub report : Buffer x.report

pub record LendableUndo (y : LentUndo) : Type 0 where
  pub nodes : Buffer y.nodes
  pub edges : Buffer y.edges
  pub journal : Buffer y.journal
  pub count : y.count < 2 ^ 32
  pub report : Buffer y.report

-- Interpreters.

-- what either call leaves: the answer's number, and every buffer
pub record Outcome : Type 0 where
  pub answer : ℕ
  pub nodes : List ℕ
  pub edges : List ℕ
  pub journal : List ℕ
  pub report : List ℕ

pub record Interpreter : Type 0 where
  pub run : Lent → Outcome
  pub undo : LentUndo → Outcome

-- The published table: the answers of run and those of undo, and of them the ones that end a run that has started.

abbrev pub run_table : List ℕ
run_table = 0 ∷ 1 ∷ 2 ∷ 3 ∷ 4 ∷ 5 ∷ 6 ∷ 9 ∷ 10 ∷ 11 ∷ 12 ∷ 13 ∷ 14 ∷ 15 ∷ 16 ∷ 17 ∷ 18 ∷ 19 ∷ []

abbrev pub undo_table : List ℕ
undo_table = 0 ∷ 9 ∷ 10 ∷ 11 ∷ 12 ∷ 20 ∷ []

abbrev pub stop_answer : Stop → ℕ
stop_answer OutOfFuel = 2
stop_answer NoNodeRoom = 3
stop_answer NoEdgeRoom = 4
stop_answer NoRecordRoom = 5
stop_answer LabelTooLarge = 6

abbrev pub In : ℕ → List ℕ → Type 0
In n l = absent n l ≡ false

-- the report: steps and records, four bytes each
abbrev pub reporting : ℕ → ℕ → List ℕ
reporting steps records = bytes 4 steps ++ bytes 4 records

-- a refusal touches no table and no journal; 9 leaves the report, the others write zeros in it
pub record Untouched (ns es js rs : List ℕ) (o : Outcome) : Type 0 where
  pub nodes : o.nodes ≡ ns
  pub edges : o.edges ≡ es
  pub journal : o.journal ≡ js
  pub nine : o.answer ≡ 9 → o.report ≡ rs
  pub others : (o.answer ≡ 9 → ⊥) → o.report ≡ reporting 0 0

-- the graph as it came, the journal cleared, the steps reported and 0 records
pub record GivenBack (x : Lent) (o : Outcome) : Type 0 where
  pub nodes : o.nodes ≡ x.nodes
  pub edges : o.edges ≡ x.edges
  pub journal : o.journal ≡ replicate (length x.journal) 0
  pub steps : ℕ
  pub report : o.report ≡ reporting steps 0

-- the records that a report states
abbrev pub records_in : Outcome → ℕ
records_in o = number (drop 4 o.report)

-- what undo is lent after a run: what the run left, and as many records as its report states
abbrev pub lent_after : Outcome → List ℕ → LentUndo
lent_after o report =
    record { nodes = o.nodes; edges = o.edges; journal = o.journal; count = records_in o; report = report }

-- both tables as they came, byte for byte, a cleared journal, and the count reported
pub record Restored (x : Lent) (count : ℕ) (o : Outcome) : Type 0 where
  pub answer : o.answer ≡ 0
  pub nodes : o.nodes ≡ x.nodes
  pub edges : o.edges ≡ x.edges
  pub journal : o.journal ≡ replicate (length x.journal) 0
  pub report : o.report ≡ reporting 0 count

-- a table with slots of w bytes, the first w of the bytes b in slot i
abbrev pub with_slot : ℕ → ℕ → List ℕ → List ℕ → List ℕ
with_slot w i b table = take (i * w) table ++ take w b ++ drop (i * w + w) table

module _ (L : Layout) where
  -- What is asked of the input, in order, with the number that is answered where it does not hold.

  abbrev pub lengths : List ℕ → List ℕ → List ℕ → List ℕ → List (Bool × ℕ)
  lengths nodes edges journal report =
      (eqb (length report) 8, 9)
      ∷ (fits_table (node_length L) L.nodes nodes, 10)
      ∷ (fits_table (edge_length L) L.edges edges, 11)
      ∷ (fits_table (record_length L) L.records journal, 12)
      ∷ []

  -- the lowest number from 9 to 19 that applies; none where the run starts
  abbrev pub run_refused_with : Lent → Option ℕ
  run_refused_with x =
      first_failing
      (lengths x.nodes x.edges x.journal x.report
      ++ (leb x.fuel most_fuel, 13)
      ∷ (leb (length x.image) limits.bytes, 14)
      ∷ (keeps_layout L x.nodes x.edges, 15)
      ∷ (is_some (raw_program x.image), 16)
      ∷ (holds references (raw_program x.image), 17)
      ∷ (holds placement (raw_program x.image), 18)
      ∷ (holds depth_holds (raw_program x.image), 19)
      ∷ [])

  abbrev pub undo_refused_with : LentUndo → Option ℕ
  undo_refused_with y =
      first_failing
      (lengths y.nodes y.edges y.journal y.report
      ++ (keeps_records L y.nodes y.edges y.journal y.count, 20)
      ∷ [])

  -- An accepted undo, on bytes.

  -- record n of a journal, from 0
  abbrev pub record_at : List ℕ → ℕ → List ℕ
  record_at journal n = take (record_length L) (drop (n * record_length L) journal)

  -- the bytes that record r holds of its slot as it stood before; base: from byte 4 on
  abbrev pub before : List ℕ → List ℕ
  before r = drop (2 * L.width) r

  -- both tables after the first n records of the journal are stored back, from last to first; kind 1 is a node's
  unfoldable pub stored_back : List ℕ → ℕ → List ℕ → List ℕ → List ℕ × List ℕ
  stored_back journal zero nodes edges = (nodes, edges)
  stored_back journal (suc n) nodes edges =
      let r = record_at journal n in
      choose (eqb (get_or r kind_place 0) 1)
      (stored_back journal n (with_slot (node_length L) (slot_of L r) (before r) nodes) edges)
      (stored_back journal n nodes (with_slot (edge_length L) (slot_of L r) (before r) edges))

  -- the counted records are stored back, and are zeros then; 0 steps and the count are reported
  pub record StoredBack (y : LentUndo) (o : Outcome) : Type 0 where
    pub answer : o.answer ≡ 0
    pub nodes : o.nodes ≡ (stored_back y.journal y.count y.nodes y.edges).0
    pub edges : o.edges ≡ (stored_back y.journal y.count y.nodes y.edges).1
    pub journal : o.journal ≡ replicate (y.count * record_length L) 0 ++ drop (y.count * record_length L) y.journal
    pub report : o.report ≡ reporting 0 y.count

  -- 1. Every program, graph, table and allowance gets an answer from the published table. The entry point itself refuses bad
  -- input. A refusal before the start changes no table or journal; a run that starts and ends in anything but a result gives
  -- the graph back byte for byte, with the journal cleared. An accepted undo stores the counted records back.
  pub record Demand1 (I : Interpreter) : Type 0 where
    pub answers : (x : Lent) → Lendable x → In (I.run x).answer run_table
    pub refuses : (x : Lent) → Lendable x → (n : ℕ) → run_refused_with x ≡ some n → (I.run x).answer ≡ n
    pub starts : (x : Lent) → Lendable x → run_refused_with x ≡ none → (I.run x).answer ≤ 6
    pub untouched : (x : Lent) → Lendable x → 9 ≤ (I.run x).answer
        → Untouched x.nodes x.edges x.journal x.report (I.run x)
    pub gives_back : (x : Lent) → Lendable x → 1 ≤ (I.run x).answer → (I.run x).answer ≤ 6 → GivenBack x (I.run x)
    pub undo_answers : (y : LentUndo) → LendableUndo y → In (I.undo y).answer undo_table
    pub undo_refuses : (y : LentUndo) → LendableUndo y → (n : ℕ) → undo_refused_with y ≡ some n → (I.undo y).answer ≡ n
    pub undo_untouched : (y : LentUndo) → LendableUndo y → 9 ≤ (I.undo y).answer
        → Untouched y.nodes y.edges y.journal y.report (I.undo y)
    pub undoes : (y : LentUndo) → LendableUndo y → undo_refused_with y ≡ none → StoredBack y (I.undo y)

  -- What a run of the meaning leaves.

  -- the graph that the tables hold, no records, the fuel lent, no steps
  abbrev pub start : Lent → State
  start x = beginning (host_of L x.nodes x.edges) x.fuel

  -- the program's command, by the rules of inference, ends in e at t
  abbrev pub Means : Lent → Program → End → State → Type 0
  Means x p e t = Executes L.atoms (length x.journal / record_length L) p.rules p.main (start x) e t

  abbrev pub as_it_came : Lent → ℕ → ℕ → Outcome
  as_it_came x answer steps =
      record { answer = answer; nodes = x.nodes; edges = x.edges; journal = replicate (length x.journal) 0; report = reporting steps 0 }

  -- after a result the graph at t, the records from the front with zeros behind them, and both numbers; else what came.
  -- No break reaches the end of a program that keeps the placement.
  abbrev pub outcome_at : Lent → End → State → Outcome
  outcome_at x Done t =
      record {
        answer = 0;
        nodes = write_nodes L t.ledger.host.nodes;
        edges = write_edges L t.ledger.host.edges;
        journal = padded (length x.journal) (concat (map (write_record L) (reverse t.ledger.journal)));
        report = reporting t.steps (length t.ledger.journal);
      }
  outcome_at x Failed t = as_it_came x 1 t.steps
  outcome_at x Broke t = as_it_came x 1 t.steps
  outcome_at x (Stopped w) t = as_it_came x (stop_answer w) t.steps

  -- 2. Commands mean what GP 2 says, with document 01's fixed order of choice: a run that starts leaves what the rules of
  -- inference say of its program. Undoing the journal of a result restores the graph that came in.
  pub record Demand2 (I : Interpreter) : Type 0 where
    pub means : (x : Lent) → Lendable x → (p : Program) → run_refused_with x ≡ none → program x.image ≡ some p
        → (e : End) × (t : State) × Means x p e t × (I.run x ≡ outcome_at x e t)
    pub restores : (x : Lent) → Lendable x → (report : List ℕ) → Buffer report → length report ≡ 8
        → (I.run x).answer ≡ 0 → Restored x (records_in (I.run x)) (I.undo (lent_after (I.run x) report))

  -- y is x with any fuel, further free slots behind the tables and any longer journal, within the limits
  pub record Roomier (x y : Lent) : Type 0 where
    pub lendable : Lendable y
    pub nodes_more : ℕ
    pub edges_more : ℕ
    pub nodes : y.nodes ≡ x.nodes ++ replicate (nodes_more * node_length L) 0
    pub edges : y.edges ≡ x.edges ++ replicate (edges_more * edge_length L) 0
    pub journal : length x.journal ≤ length y.journal
    pub image : y.image ≡ x.image
    pub nodes_fit : fits_table (node_length L) L.nodes y.nodes ≡ true
    pub edges_fit : fits_table (edge_length L) L.edges y.edges ≡ true
    pub journal_fits : fits_table (record_length L) L.records y.journal ≡ true
    pub fuel_fits : y.fuel ≤ most_fuel
    pub report_fits : length y.report ≡ 8

  -- o is what was left of x, and q of y: the same, with the added room free behind
  pub record SameWithRoom (x y : Lent) (more : Roomier x y) (o q : Outcome) : Type 0 where
    pub answer : q.answer ≡ o.answer
    pub report : q.report ≡ o.report
    pub nodes : q.nodes ≡ o.nodes ++ replicate (more.nodes_more * node_length L) 0
    pub edges : q.edges ≡ o.edges ++ replicate (more.edges_more * edge_length L) 0
    pub journal : q.journal ≡ o.journal ++ replicate (length y.journal - length x.journal) 0

  -- s commands are entered in the meaning of the program
  pub record Entered (x : Lent) (s : ℕ) : Type 0 where
    pub tree : Program
    pub image : program x.image ≡ some tree
    pub end : End
    pub state : State
    pub means : Means x tree end state
    pub steps : state.steps ≡ s

  -- 3. Suppose a run answers with a result, with fail or with a label that can't be held, after s commands. Give the same graph
  -- and program s or more fuel, any further free slots behind the tables and any longer journal, within the limits: answer,
  -- s, live slots and records are the same, and the added room is still free. With that room and less than s fuel it answers
  -- out of fuel. s is the count of commands entered in demand 2's meaning.
  pub record Settled (I : Interpreter) (x : Lent) : Type 0 where
    pub s : ℕ
    pub records : ℕ
    pub report : (I.run x).report ≡ reporting s records
    pub entered : Entered x s
    pub enough : (y : Lent) (more : Roomier x y) → s ≤ y.fuel → SameWithRoom x y more (I.run x) (I.run y)
    pub short : (y : Lent) (more : Roomier x y) → y.fuel < s → (I.run y).answer ≡ 2

  pub record Demand3 (I : Interpreter) : Type 0 where
    pub settled : (x : Lent) → Lendable x → In (I.run x).answer (0 ∷ 1 ∷ 6 ∷ []) → Settled I x
