-- What putting records back and clearing them leaves, for any earlier ledger that the bytes came from. Rests on Records,
-- on journal's Restores and on laws' Restoring.
use Prim.Native.Nat.{ℕ, ◌-◌, ◌*◌, ◌/◌, ◌<◌, ◌≤◌}
use mathlib.Core.Path.{◌≡◌, sym, ◌∙◌, ap}
use mathlib.Core.Bool.{true}
use mathlib.Core.List.{List, ◌++◌, map, reverse}
use native.Mathlib.Nat.{div-mul-le_self, mul-le-mul_right}
use native.Mathlib.Omega.{arith}
use lib.ListN.{length, take, length-append}
use Rattle.meaning.specs.Basics.{every, concat, padded}
use Rattle.meaning.specs.Layout.{Slot, Node, Edge, Host, Change, undone, node_length, edge_length, record_length, fits_table, read_nodes, read_edges, write_nodes, write_edges, write_record, keeps_record}
use Rattle.meaning.specs.Applying.{Ledger}
use Rattle.meaning.specs.Laws.Every.{Every, Every-parts}
use Rattle.laws.specs.Pieces.{fits-length, fits-same}
use Rattle.laws.specs.Layout.{length-padded}
use Rattle.laws.specs.Hosts.{LegalHost, read_write_nodes, read_write_edges}
use Rattle.laws.specs.Records.{LegalChange, Within, length-written}
use Rattle.laws.specs.Restoring.{From, from-host}
use Rattle.meaning.specs.declared.Layout.{Layout}
use Rattle.journal.specs.Journal.{tables_of, records_from, put_back, cleared_from}
use Rattle.journal.proofs.Restores.{restores-bytes}
use Rattle.ledger.specs.Running.{journal_of, ledger_of, Held, Running}
use Rattle.ledger.specs.Whole.{records-count, running-legal}
use Rattle.undoing.specs.Undone.{Undone}
use Rattle.undoing.proofs.Records.{journal-written, kept-records, cleared-records}

from_less : {A : Type 0} (l m : List A) → length m ≤ length (l ++ m)
from_less l m = omega (arith, length-append l m)

module _ (L : Layout) (nodes edges journal : List ℕ) (used mark : ℕ) (run : Running L nodes edges journal used) (le : mark ≤ used) where
  narrow : 0 < L.width
  narrow = run.held.sized.narrow

  abbrev js : List (Change (Slot Node) (Slot Edge))
  js = journal_of L journal used

  abbrev h : Host
  h = (ledger_of L nodes edges journal used).host

  count : length js ≡ used
  count = records-count L nodes edges journal used

  within : mark ≤ length js
  within = rw count le

  -- the records that are put back keep to their tables
  pub kept : every (keeps_record L (length nodes / node_length L) (length edges / edge_length L)) (records_from L mark used journal) ≡ true
  kept =
      ap (every (keeps_record L (length nodes / node_length L) (length edges / edge_length L))) (sym (λ i. records_from L mark (count i) (run.held.written i)))
      ∙ kept-records L narrow js run.held.records_legal (length nodes / node_length L) (length edges / edge_length L) mark (length journal)
      run.held.records_within within

  module _ (nodes' edges' journal' : List ℕ) (nodes_long : length nodes' ≡ length nodes) (edges_long : length edges' ≡ length edges)
      (tables : tables_of L nodes' edges' ≡ put_back L mark used journal (tables_of L nodes edges))
      (cleared : journal' ≡ cleared_from L mark used journal)
    where
      nodes_fit : fits_table (node_length L) L.nodes nodes' ≡ true
      nodes_fit = fits-same (node_length L) L.nodes nodes nodes' nodes_long run.held.nodes_fit

      edges_fit : fits_table (edge_length L) L.edges edges' ≡ true
      edges_fit = fits-same (edge_length L) L.edges edges edges' edges_long run.held.edges_fit

      -- the tables as they are written
      restored : (nodes' ≡ write_nodes L (undone (take (length js - mark) js) h).nodes)
          × (edges' ≡ write_edges L (undone (take (length js - mark) js) h).edges)
      restored =
          restores-bytes L narrow js (length journal) mark run.held.records_legal h (running-legal L nodes edges journal used run).host within nodes' edges'
          (fits-length (node_length L) L.nodes nodes' nodes_fit).0 (fits-length (edge_length L) L.edges edges' edges_fit).0
          (tables ∙ sym (λ i. put_back L mark (count i) (run.held.written i) (tables_of L (run.held.nodes_written i) (run.held.edges_written i))))

      module _ (g : Ledger) (legal : LegalHost L g.host) (from : From g (ledger_of L nodes edges journal used)) (m : length g.journal ≡ mark) where
        host : undone (take (length js - mark) js) h ≡ g.host
        host = ap (λ (n : ℕ). undone (take (length js - n) js) h) (sym m) ∙ from-host g (ledger_of L nodes edges journal used) from

        nodes_are : nodes' ≡ write_nodes L g.host.nodes
        nodes_are = restored.0 ∙ ap (λ (t : Host). write_nodes L t.nodes) host

        edges_are : edges' ≡ write_edges L g.host.edges
        edges_are = restored.1 ∙ ap (λ (t : Host). write_edges L t.edges) host

        nodes_read : read_nodes L nodes' ≡ g.host.nodes
        nodes_read = ap (read_nodes L) nodes_are ∙ read_write_nodes L g.host legal

        edges_read : read_edges L edges' ≡ g.host.edges
        edges_read = ap (read_edges L) edges_are ∙ read_write_edges L g.host legal

        legals : Every (LegalChange L) (from.new ++ g.journal)
        legals = rw from.recorded at run.held.records_legal

        earlier : Every (LegalChange L) g.journal
        earlier = (Every-parts (LegalChange L) from.new g.journal legals).1

        fits : length (from.new ++ g.journal) * record_length L ≤ length journal
        fits =
            let c : length (from.new ++ g.journal) ≡ used = sym (ap length from.recorded) ∙ count in
            rw c
            (omega (arith, mul-le-mul_right (record_length L) run.held.room, div-mul-le_self (length journal) (record_length L)))

        journal_is : journal' ≡ padded (length journal) (concat (map (write_record L) (reverse g.journal)))
        journal_is =
            cleared
            ∙ sym (λ i. cleared_from L (m i) (count i) (run.held.written i))
            ∙ ap (λ (l : List (Change (Slot Node) (Slot Edge))). cleared_from L (length g.journal) (length l) (padded (length journal) (concat (map (write_record L) (reverse l))))) from.recorded
            ∙ cleared-records L narrow from.new g.journal (length journal) legals fits

        journal_read : journal_of L journal' mark ≡ g.journal
        journal_read =
            (λ i. journal_of L (journal_is i) (sym m i)) ∙ journal-written L narrow g.journal earlier (length journal)

        journal_long : length journal' ≡ length journal
        journal_long =
            let k : length (concat (map (write_record L) (reverse g.journal))) ≤ length journal =
            rw (length-written L narrow g.journal earlier)
            (omega (arith, fits, mul-le-mul_right (record_length L) (from_less from.new g.journal))) in
            ap length journal_is ∙ length-padded (length journal) (concat (map (write_record L) (reverse g.journal))) k

        written : padded (length journal') (concat (map (write_record L) (reverse (journal_of L journal' mark)))) ≡ journal'
        written = (λ i. padded (journal_long i) (concat (map (write_record L) (reverse (journal_read i))))) ∙ sym journal_is

        held : Held L nodes' edges' journal' mark
        held =
            record {
              sized = run.held.sized;
              few = run.held.few;
              node_numbers = run.held.node_numbers;
              edge_numbers = run.held.edge_numbers;
              nodes_fit = nodes_fit;
              edges_fit = edges_fit;
              journal_fits = fits-same (record_length L) L.records journal journal' journal_long run.held.journal_fits;
              room = rw journal_long (omega (arith, run.held.room));
              nodes_written = ap (write_nodes L) nodes_read ∙ sym nodes_are;
              edges_written = ap (write_edges L) edges_read ∙ sym edges_are;
              written = written;
              nodes_legal = rw nodes_read legal.nodes;
              edges_legal = rw edges_read legal.edges;
              records_legal = rw journal_read earlier;
              records_within = rw (journal_read, nodes_long, edges_long) earlier_within;
            }
          where
            earlier_within : Every (Within (length nodes / node_length L) (length edges / edge_length L)) g.journal
            earlier_within =
                (Every-parts (Within (length nodes / node_length L) (length edges / edge_length L)) from.new g.journal
                (rw from.recorded at run.held.records_within)).1

        again : (ledger_of L nodes' edges' journal' mark ≡ g) × Running L nodes' edges' journal' mark
        again = (
          λ i. record { host = record { nodes = nodes_read i; edges = edges_read i }; journal = journal_read i },
          record { held = held; ends = rw (nodes_read, edges_read) legal.ends },
        )

      pub undone-is : Undone L nodes edges journal used mark nodes' edges' journal'
      undone-is = record { again = again }
