-- Laws of the running state between commands: a legal ledger in lent bytes, where it starts, and that it keeps the layout.
-- Rests on Running and Steps, and on laws' Hosts and Legality.
use Rattle.std.specs.Prelude.{◌≡◌, true, List, ℕ, ◌-◌, ◌/◌, ◌^◌, ◌≤◌, length, replicate}
use Rattle.std.proofs.Common.{sym, ◌∙◌, ap, subst, arith}
use Rattle.meaning.specs.Basics.{concat}
use Rattle.meaning.specs.Layout.{Sized, node_length, edge_length, record_length, fits_table, pieces, read_node, read_edge, keeps_layout, most_atoms}
use Rattle.meaning.specs.Applying.{Ledger}
use Rattle.laws.specs.Numbers.{Bytes}
use Rattle.laws.specs.Pieces.{length-read, fits-length}
use Rattle.laws.specs.Layout.{write_read-nodes, write_read-edges}
use Rattle.laws.specs.Hosts.{LegalHost, legal-host, keeps_layout_write}
use Rattle.laws.specs.Legality.{LegalLedger}
use Rattle.meaning.specs.declared.Layout.{Layout}
use Rattle.ledger.specs.Running.{journal_of, ledger_of, Running, Leads}
use Rattle.ledger.specs.Steps.{length-journal_of}

module _ (L : Layout) (nodes edges journal : List ℕ) (used : ℕ) where
  -- as many records as are used
  pub records-count : length (journal_of L journal used) ≡ used
  records-count = length-journal_of L journal used

  module _ (run : Running L nodes edges journal used) where
    -- the ledger is legal, over tables of so many slots
    pub running-legal : LegalLedger L (length nodes / node_length L) (length edges / edge_length L) (ledger_of L nodes edges journal used)
    running-legal =
        record {
          nodes = length-read (node_length L) read_node nodes;
          edges = length-read (edge_length L) (read_edge L) edges;
          host = record { nodes = run.held.nodes_legal; edges = run.held.edges_legal; ends = run.ends };
          records = run.held.records_legal;
          within = run.held.records_within;
        }

    pub few-nodes : length nodes / node_length L ≤ 256 ^ L.width
    few-nodes = omega (arith, (fits-length (node_length L) L.nodes nodes run.held.nodes_fit).1, run.held.node_numbers)

    pub few-edges : length edges / edge_length L ≤ 256 ^ L.width
    few-edges = omega (arith, (fits-length (edge_length L) L.edges edges run.held.edges_fit).1, run.held.edge_numbers)

    -- the tables keep the layout
    pub running-keeps : keeps_layout L nodes edges ≡ true
    running-keeps =
        sym (λ i. keeps_layout L (run.held.nodes_written i) (run.held.edges_written i))
        ∙ keeps_layout_write L (ledger_of L nodes edges journal used).host running-legal.host

  -- bytes that hold a legal ledger run
  pub leads-running : (g : Ledger) → Leads L g nodes edges journal used → LegalHost L g.host → Running L nodes edges journal used
  leads-running g l h =
      let k : LegalHost L (ledger_of L nodes edges journal used).host = subst (λ (a : Ledger). LegalHost L a.host) (sym l.ledger) h in
      record { held = l.held; ends = k.ends }

-- The start: tables that keep the layout, and a journal of zeros.

pub running-start : (L : Layout) (nodes edges journal : List ℕ) → Sized L → L.atoms ≤ most_atoms
    → (L.nodes ≤ 256 ^ L.width) × (L.edges ≤ 256 ^ L.width)
    → (fits_table (node_length L) L.nodes nodes ≡ true)
    × (fits_table (edge_length L) L.edges edges ≡ true)
    × (fits_table (record_length L) L.records journal ≡ true)
    → Bytes nodes → Bytes edges → keeps_layout L nodes edges ≡ true → journal ≡ replicate (length journal) 0
    → Running L nodes edges journal 0
unfolding journal_of pieces concat
running-start L nodes edges journal sized few numbers fits bn be keeps blank =
    let h = legal-host L nodes edges bn be keeps in
    let z : length journal - 0 ≡ length journal = omega arith in
    record {
      held = record {
        sized = sized;
        few = few;
        node_numbers = numbers.0;
        edge_numbers = numbers.1;
        nodes_fit = fits.0;
        edges_fit = fits.1;
        journal_fits = fits.2;
        room = omega arith;
        nodes_written = write_read-nodes L nodes edges keeps bn (fits-length (node_length L) L.nodes nodes fits.0).0;
        edges_written = write_read-edges L nodes edges keeps be (fits-length (edge_length L) L.edges edges fits.1).0;
        written = ap (λ (n : ℕ). replicate n 0) z ∙ sym blank;
        nodes_legal = h.nodes;
        edges_legal = h.edges;
        records_legal = tt;
        records_within = tt;
      };
      ends = h.ends;
    }
