-- The state that lent bytes hold while a program runs: the host in both tables, and the records at the front of the journal.
-- Rests on the meaning's Layout, Applying and Commands, and on laws' Hosts and Records.
use Rattle.std.specs.Prelude.{◌≡◌, true, List, map, reverse, ℕ, ◌/◌, ◌^◌, ◌≤◌, length, get_or}
use Rattle.meaning.specs.Basics.{concat, padded}
use Rattle.meaning.specs.Layout.{Slot, Node, Edge, free, Change, Sized, node_length, edge_length, record_length, fits_table, pieces, read_node, read_edge, read_nodes, read_edges, host_of, write_nodes, write_edges, write_record, read_record, most_atoms}
use Rattle.meaning.specs.Applying.{Ledger, ledger_at}
use Rattle.meaning.specs.Commands.{State, state_at, Out, ends}
use Rattle.meaning.specs.Laws.Every.{Every}
use Rattle.meaning.specs.Laws.Slots.{OnLive}
use Rattle.meaning.specs.Laws.Attached.{Attached}
use Rattle.laws.specs.Hosts.{LegalNode, LegalEdge}
use Rattle.laws.specs.Records.{map_change, LegalChange, Within}
use Rattle.meaning.specs.declared.Layout.{Layout}
use Rattle.meaning.specs.declared.Tally.{Tally}
use Rattle.meaning.specs.declared.Ran.{Ran}

module _ (L : Layout) where
  -- the change that a record's bytes hold
  unfoldable pub change_of : List ℕ → Change (Slot Node) (Slot Edge)
  change_of b = map_change read_node (read_edge L) (read_record L b)

  -- the first `used` records of the journal, the last first
  unfoldable pub journal_of : List ℕ → ℕ → List (Change (Slot Node) (Slot Edge))
  journal_of journal used = reverse (map change_of (pieces (record_length L) used journal))

  abbrev pub ledger_of : List ℕ → List ℕ → List ℕ → ℕ → Ledger
  ledger_of nodes edges journal used =
      ledger_at (host_of L nodes edges) (journal_of journal used)

  abbrev pub state_of : List ℕ → List ℕ → List ℕ → Tally → State
  state_of nodes edges journal t =
      state_at (ledger_of nodes edges journal t.records) t.fuel t.steps

  -- how a command ended, with the state that the bytes hold after it
  abbrev pub out_of : Ran → List ℕ → List ℕ → List ℕ → Out
  out_of r nodes edges journal = ends r.end (state_of nodes edges journal r.tally)

  -- what the bytes keep through every change: each table is its slots as they are written, the journal is the written records
  -- with zeros behind them, and slots and records are legal
  pub record Held (nodes edges journal : List ℕ) (used : ℕ) : Type 0 where
    pub sized : Sized L
    pub few : L.atoms ≤ most_atoms
    pub node_numbers : L.nodes ≤ 256 ^ L.width
    pub edge_numbers : L.edges ≤ 256 ^ L.width
    pub nodes_fit : fits_table (node_length L) L.nodes nodes ≡ true
    pub edges_fit : fits_table (edge_length L) L.edges edges ≡ true
    pub journal_fits : fits_table (record_length L) L.records journal ≡ true
    pub room : used ≤ length journal / record_length L
    pub nodes_written : write_nodes L (read_nodes L nodes) ≡ nodes
    pub edges_written : write_edges L (read_edges L edges) ≡ edges
    pub written : padded (length journal) (concat (map (write_record L) (reverse (journal_of journal used)))) ≡ journal
    pub nodes_legal : (i : ℕ) → OnLive (LegalNode L) (get_or (read_nodes L nodes) i free)
    pub edges_legal : (i : ℕ) → OnLive (LegalEdge L) (get_or (read_edges L edges) i free)
    pub records_legal : Every (LegalChange L) (journal_of journal used)
    pub records_within : Every (Within (length nodes / node_length L) (length edges / edge_length L)) (journal_of journal used)

  -- what they keep between commands: both ends of every edge are live too
  pub record Running (nodes edges journal : List ℕ) (used : ℕ) : Type 0 where
    pub held : Held nodes edges journal used
    pub ends : (i : ℕ) → OnLive (Attached (read_nodes L nodes)) (get_or (read_edges L edges) i free)

  -- the bytes hold the ledger g
  pub record Leads (g : Ledger) (nodes edges journal : List ℕ) (used : ℕ) : Type 0 where
    pub ledger : ledger_of nodes edges journal used ≡ g
    pub held : Held nodes edges journal used
