-- A program on carried tables: what ends with a result or a fail at one layout ends so on the graph carried to another, where there are as
-- many slots, atoms to a label and records or more, after the same steps; and leaves the graph that it left there, carried.
-- Rests on ResizedHosts, Carried and LargerRuns.
use Rattle.std.specs.Prelude.{ℕ, ◌-◌, ◌/◌, ◌≤◌, ◌≡◌, refl, List, length}
use Rattle.std.proofs.Common.{sym, ◌∙◌, ap, subst, arith}
use Rattle.meaning.specs.Layout.{Host, node_length, edge_length, read_node, read_edge, host_of, write_nodes, write_edges}
use Rattle.meaning.specs.Calls.{Lent}
use Rattle.meaning.specs.Carrying.{LentTables, lending_tables, Carried, carry}
use Rattle.laws.specs.Pieces.{length-read}
use Rattle.laws.specs.Carrying.{LengthsAgree, Taken, taken, takes}
use Rattle.laws.specs.Undoing.{Numbered}
use Rattle.demands.specs.Demands.{Lendable, Outcome, Interpreter, Demand1, Demand2}
use Rattle.demands.specs.Larger.{Larger}
use Rattle.demands.specs.Laws.Alike.{Alike}
use Rattle.demands.specs.Laws.Further.{roomier, roomier-alike}
use Rattle.meaning.specs.declared.Layout.{Layout}
use Rattle.meaning.specs.declared.Manner.{Manner}
use Rattle.meaning.specs.declared.Answer.TheVariants.{Result}
use Rattle.layouts.specs.ResizedHosts.{resized_host, resized-further, host-fits-of, legal-fits}
use Rattle.layouts.specs.Carried.{node_slots, edge_slots, arrived, arriving, Kept}
use Rattle.layouts.proofs.Carried.{carry-taken, result-taken, as_many, lengths-same, host_in_lem, carry-kept}
use Rattle.layouts.specs.LargerRuns.{SameRun, RunsAs}
use Rattle.layouts.proofs.LargerRuns.{run_larger, out_larger}
use Rattle.layouts.specs.CarriedRuns.{CarriedLent, CarriedRun}

-- tables that grow have further free slots
grown : (L M : Layout) (nodes edges to_nodes to_edges : List ℕ) → node_slots L nodes ≤ node_slots M to_nodes
    → edge_slots L edges ≤ edge_slots M to_edges
    → arrived L M (lending_tables nodes edges to_nodes to_edges)
    ≡ roomier (node_slots M to_nodes - node_slots L nodes) (edge_slots M to_edges - edge_slots L edges) (host_of L nodes edges)
grown L M nodes edges to_nodes to_edges p q =
    let h : Host = host_of L nodes edges in
    let n = length-read (node_length L) read_node nodes in
    let m = length-read (edge_length L) (read_edge L) edges in
    let a = resized-further (node_slots M to_nodes) h.nodes (omega arith) in
    let b = resized-further (edge_slots M to_edges) h.edges (omega arith) in
    (λ i. record { nodes = a i; edges = b i }) ∙ (λ i. roomier (node_slots M to_nodes - n i) (edge_slots M to_edges - m i) h)

module _ (k : Manner) (L M : Layout) (numbered_there : Numbered M) (x : Lent) (b : Lendable x) (y : Lent) (c : CarriedLent k L M x y) where
  abbrev lent : LentTables
  lent = lending_tables x.nodes x.edges c.to_nodes c.to_edges

  result : (carry k L M lent).answer ≡ Result
  result = ap (λ (d : Carried). d.answer) c.carried

  its : Taken k L M lent
  its = taken k L M lent (result-taken k L M lent result)

  kept : Kept k L M lent (arriving y.nodes y.edges)
  kept =
      subst (Kept k L M lent) c.carried
      (carry-kept k L M numbered_there.nodes lent b.nodes.bytewise b.edges.bytewise result)

  nodes-agree : LengthsAgree k (node_length L) L.nodes x.nodes (node_length M) M.nodes y.nodes
  nodes-agree = lengths-same k _ _ x.nodes _ _ c.to_nodes its.nodes x.nodes y.nodes refl kept.nodes_length

  edges-agree : LengthsAgree k (edge_length L) L.edges x.edges (edge_length M) M.edges y.edges
  edges-agree = lengths-same k _ _ x.edges _ _ c.to_edges its.edges x.edges y.edges refl kept.edges_length

  nodes-many : node_slots L x.nodes ≤ node_slots M y.nodes
  nodes-many = as_many k _ _ x.nodes _ _ y.nodes nodes-agree c.nodes_many

  edges-many : edge_slots L x.edges ≤ edge_slots M y.edges
  edges-many = as_many k _ _ x.edges _ _ y.edges edges-agree c.edges_many

  abbrev nodes_more : ℕ
  nodes_more = node_slots M y.nodes - node_slots L x.nodes

  abbrev edges_more : ℕ
  edges_more = edge_slots M y.edges - edge_slots L x.edges

  carried_larger : Larger L M x y
  carried_larger =
      let n = sym kept.nodes_length in
      let m = sym kept.edges_length in
      record {
        lendable = c.lendable;
        nodes_more = nodes_more;
        edges_more = edges_more;
        host =
            kept.host ∙ sym (host_in_lem k L M lent its)
            ∙ (λ i. resized_host (n i / node_length M) (m i / edge_length M) (host_of L x.nodes x.edges))
            ∙ grown L M x.nodes x.edges y.nodes y.edges nodes-many edges-many;
        layout = kept.layout;
        records = c.records;
        image = c.image;
        nodes_fit = nodes-agree.into;
        edges_fit = edges-agree.into;
        journal_fits = c.journal_fits;
        fuel_fits = c.fuel_fits;
        report_fits = c.report_fits;
      }

  module _ (labels : L.atoms ≤ M.atoms) (o q : Outcome) (same : SameRun L M x y carried_larger o q) where
    abbrev host : Host
    host = host_of L o.nodes o.edges

    same-host : host_of M q.nodes q.edges ≡ roomier nodes_more edges_more host
    unfolding carried_larger
    same-host = same.host

    module _ (to_nodes to_edges : List ℕ) (en : length to_nodes ≡ length y.nodes) (ee : length to_edges ≡ length y.edges) where
      abbrev after : LentTables
      after = lending_tables o.nodes o.edges to_nodes to_edges

      node-count : node_slots L o.nodes ≡ node_slots L x.nodes
      node-count = ap (λ (n : ℕ). n / node_length L) same.left.nodes_length

      edge_count : edge_slots L o.edges ≡ edge_slots L x.edges
      edge_count = ap (λ (n : ℕ). n / edge_length L) same.left.edges_length

      node-room : node_slots M to_nodes ≡ node_slots M y.nodes
      node-room = ap (λ (n : ℕ). n / node_length M) en

      edge-room : edge_slots M to_edges ≡ edge_slots M y.edges
      edge-room = ap (λ (n : ℕ). n / edge_length M) ee

      after-host : arrived L M after ≡ host_of M q.nodes q.edges
      after-host =
          grown L M o.nodes o.edges to_nodes to_edges (omega (arith, node-count, node-room, nodes-many))
          (omega (arith, edge_count, edge-room, edges-many))
          ∙ (λ i. roomier (node-room i - node-count i) (edge-room i - edge_count i) host)
          ∙ sym same-host

      after-taken : Taken k L M after
      after-taken =
          let n = length-read (node_length L) read_node o.nodes in
          let m = length-read (edge_length L) (read_edge L) o.edges in
          record {
            nodes = lengths-same k _ _ x.nodes _ _ y.nodes nodes-agree o.nodes to_nodes same.left.nodes_length en;
            edges = lengths-same k _ _ x.edges _ _ y.edges edges-agree o.edges to_edges same.left.edges_length ee;
            layout = same.left.layout;
            fits =
                host-fits-of M.atoms (node_slots M to_nodes) (edge_slots M to_edges) host
                (legal-fits L host same.left.legal M.atoms (node_slots M to_nodes) (edge_slots M to_edges) labels
                (omega (arith, n, node-count, node-room, nodes-many)) (omega (arith, m, edge_count, edge-room, edges-many)));
          }

      after-carried : carry k L M after ≡ arriving q.nodes q.edges
      after-carried =
          carry-taken k L M after (takes k L M after after-taken)
          ∙ ap (λ (h : Host). arriving (write_nodes M h.nodes) (write_edges M h.edges)) after-host
          ∙ (λ i. arriving (same.left_there.nodes_written i) (same.left_there.edges_written i))

    carried-run : CarriedRun k L M x y o q
    carried-run =
        record {
          answer = same.answer;
          report = same.report;
          alike = subst (Alike host) (sym same-host) (roomier-alike nodes_more edges_more host);
          host = sym (after-host y.nodes y.edges refl refl) ∙ host_in_lem k L M _ (after-taken y.nodes y.edges refl refl);
          tables = after-carried;
          changes = same.changes;
          recorded = same.recorded;
          recorded_there = same.recorded_there;
        }

module _ (k : Manner) (L M : Layout) (numbered : Numbered L) (numbered_there : Numbered M) (labels : L.atoms ≤ M.atoms) (I J : Interpreter)
    (first : Demand1 L I) (second : Demand2 L I) (first_there : Demand1 M J) (second_there : Demand2 M J) (x : Lent) (b : Lendable x)
  where
    pub run-carried : (I.run x).answer ≤ 1 → RunsAs L I J x (CarriedLent k L M x) (λ y c. CarriedRun k L M x y (I.run x) (J.run y))
    run-carried h =
        let n = run_larger L M numbered numbered_there labels x b I J first second first_there second_there h in
        record {
          s = n.s;
          records = n.records;
          report = n.report;
          entered = n.entered;
          within = n.within;
          enough = λ y c l.
              carried-run k L M numbered_there x b y c labels (I.run x) (J.run y)
              (n.enough y (carried_larger k L M numbered_there x b y c) l);
          short = λ y c. n.short y (carried_larger k L M numbered_there x b y c);
        }

    -- what is out of fuel is so with the same fuel there
    pub out-carried : (I.run x).answer ≡ 2 → (y : Lent) → CarriedLent k L M x y → y.fuel ≡ x.fuel → (J.run y).answer ≡ 2
    out-carried h y c =
        out_larger L M numbered numbered_there labels x b I J first second first_there second_there h y
        (carried_larger k L M numbered_there x b y c)
