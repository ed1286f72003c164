-- A program on carried tables: what ends with a result or a fail at one layout ends so on the graph carried to another, where there are as
-- many slots, atoms to a label and records or more, after the same steps; and leaves the graph that it left there, carried.
-- Rests on ResizedHosts, Carried and LargerRuns.
use Rattle.std.specs.Prelude.{ℕ, ◌≤◌, ◌≡◌, true, List, map, length}
use Rattle.meaning.specs.Basics.{concat, padded}
use Rattle.meaning.specs.Layout.{Slot, Node, Edge, Change, record_length, fits_table, host_of, write_record}
use Rattle.meaning.specs.Calls.{Lent, most_fuel, journal_room}
use Rattle.meaning.specs.Carrying.{lending_tables, carry}
use Rattle.demands.specs.Demands.{Lendable, Outcome}
use Rattle.demands.specs.Laws.Alike.{Alike}
use Rattle.meaning.specs.declared.Layout.{Layout}
use Rattle.meaning.specs.declared.Manner.{Manner}
use Rattle.layouts.specs.Carried.{node_slots, edge_slots, arriving, AsManySlots, host_in}

-- y is x with its tables carried from L to M, as many slots or more, and room for as many records or more; the program is the same, and the
-- fuel any
pub record CarriedLent (k : Manner) (L M : Layout) (x y : Lent) : Type 0 where
  pub lendable : Lendable y
  pub to_nodes : List ℕ
  pub to_edges : List ℕ
  pub carried : carry k L M (lending_tables x.nodes x.edges to_nodes to_edges) ≡ arriving y.nodes y.edges
  pub nodes_many : AsManySlots k (node_slots L x.nodes) (node_slots M y.nodes)
  pub edges_many : AsManySlots k (edge_slots L x.edges) (edge_slots M y.edges)
  pub records : journal_room L x.journal ≤ journal_room M y.journal
  pub journal_fits : fits_table (record_length M) M.records y.journal ≡ true
  pub image : y.image ≡ x.image
  pub fuel_fits : y.fuel ≤ most_fuel
  pub report_fits : length y.report ≡ 8

-- o is what is left of x at L, and q of y at M: the same answer, steps and count of records; the same slot at each number, q's tables being
-- o's carried; and journals of the same changes
pub record CarriedRun (k : Manner) (L M : Layout) (x y : Lent) (o q : Outcome) : Type 0 where
  pub answer : q.answer ≡ o.answer
  pub report : q.report ≡ o.report
  pub alike : Alike (host_of L o.nodes o.edges) (host_of M q.nodes q.edges)
  pub host
      : host_of M q.nodes q.edges ≡ host_in k (node_slots M y.nodes) (edge_slots M y.edges) (host_of L o.nodes o.edges)
  pub tables : (to_nodes to_edges : List ℕ) → length to_nodes ≡ length y.nodes → length to_edges ≡ length y.edges
      → carry k L M (lending_tables o.nodes o.edges to_nodes to_edges) ≡ arriving q.nodes q.edges
  pub changes : List (Change (Slot Node) (Slot Edge))
  pub recorded : o.journal ≡ padded (length x.journal) (concat (map (write_record L) changes))
  pub recorded_there : q.journal ≡ padded (length y.journal) (concat (map (write_record M) changes))
