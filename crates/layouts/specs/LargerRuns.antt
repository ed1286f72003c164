-- Runs at two layouts, by interpreters that meet demands 1 and 2 there: what ends with a result or a fail at the one ends so at the other,
-- where the tables hold the same graph, with room for as many atoms, slots and records or more. Answer, steps, live slots and records
-- are the same; and what is out of fuel at the one is so at the other with the same fuel. Rests on demands' Larger and OneOutcome.
use Rattle.std.specs.Prelude.{ℕ, ◌<◌, ◌≤◌, ◌≡◌, true, List, map, length}
use Rattle.meaning.specs.Basics.{concat, padded}
use Rattle.meaning.specs.Layout.{Slot, Node, Edge, Change, read_nodes, read_edges, host_of, write_nodes, write_edges, write_record, keeps_layout}
use Rattle.meaning.specs.Calls.{Lent}
use Rattle.laws.specs.Hosts.{LegalHost}
use Rattle.demands.specs.Demands.{Outcome, Interpreter, reporting, Entered}
use Rattle.demands.specs.Larger.{Larger}
use Rattle.demands.specs.Laws.Further.{roomier}
use Rattle.meaning.specs.declared.Layout.{Layout}

-- One run that starts: tables of the lengths lent, which keep the layout, and hold a legal host as it is written.

pub record Left (L : Layout) (x : Lent) (o : Outcome) : Type 0 where
  pub nodes_length : length o.nodes ≡ length x.nodes
  pub edges_length : length o.edges ≡ length x.edges
  pub layout : keeps_layout L o.nodes o.edges ≡ true
  pub legal : LegalHost L (host_of L o.nodes o.edges)
  pub nodes_written : write_nodes L (read_nodes L o.nodes) ≡ o.nodes
  pub edges_written : write_edges L (read_edges L o.edges) ≡ o.edges

-- Two runs.

-- o is what is left of x at L, and q of y at M: the same but for the added room, which is free, and for the layout
pub record SameRun (L M : Layout) (x y : Lent) (more : Larger L M x y) (o q : Outcome) : Type 0 where
  pub answer : q.answer ≡ o.answer
  pub report : q.report ≡ o.report
  pub host : host_of M q.nodes q.edges ≡ roomier more.nodes_more more.edges_more (host_of L o.nodes o.edges)
  pub changes : List (Change (Slot Node) (Slot Edge))
  pub recorded : o.journal ≡ padded (length x.journal) (concat (map (write_record L) changes))
  pub recorded_there : q.journal ≡ padded (length y.journal) (concat (map (write_record M) changes))
  pub left : Left L x o
  pub left_there : Left M y q

-- A run of x by I takes s steps, which are no more than its fuel. With s fuel or more J's run of each y that is `Given` is the `Same`; with
-- less it is out of fuel.
pub record RunsAs (L : Layout) (I J : Interpreter) (x : Lent) (Given : Lent → Type 0) (Same : (y : Lent) → Given y → Type 0) : Type 0 where
  pub s : ℕ
  pub records : ℕ
  pub report : (I.run x).report ≡ reporting s records
  pub entered : Entered L x s
  pub within : s ≤ x.fuel
  pub enough : (y : Lent) (given : Given y) → s ≤ y.fuel → Same y given
  pub short : (y : Lent) → Given y → y.fuel < s → (J.run y).answer ≡ 2
