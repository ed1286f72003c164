-- What is refused, check by check, and what a carrying that is not refused may rest on. Rests on specs/Tables and the laws' Carrying.
use mathlib.Core.Path.{◌≡◌, refl, sym, ◌∙◌}
use mathlib.Core.Bool.{true}
use mathlib.Core.Option.{some, none}
use mathlib.Core.List.{List}
use Prim.Native.Nat.{ℕ, ◌*◌, ◌/◌, ◌≤◌}
use lib.ListN.{length}
use Rattle.meaning.specs.Layout.{Sized, most_atoms, node_length, edge_length, keeps_layout}
use Rattle.meaning.specs.Calls.{answer_number}
use Rattle.meaning.specs.Carrying.{LentTables, Carries, lengths_agree, slots_fit, host_fits, carry_refusal, carry_on, carry}
use Rattle.meaning.specs.Laws.Tests.{both_true}
use Rattle.laws.specs.Pieces.{fits_whole}
use Rattle.meaning.specs.declared.Layout.{Layout}
use Rattle.meaning.specs.declared.Manner.{Manner}
use Rattle.meaning.specs.declared.Refusal.{Refusal}
use Rattle.meaning.specs.declared.Answer.TheVariants.{Result, Refused}
use Rattle.meaning.specs.declared.Table.TheVariants.{Nodes, Edges}
use Rattle.graph.specs.Graph.{Legal}
use Rattle.carrying.specs.Tables.{labels_fit_in, table_carried}
use Rattle.laws.specs.Carrying.{lengths-agree, Taken, taken}

module _ (k : Manner) (L M : Layout) (x : LentTables) where
  -- What the tests say, in whose layouts slots are as long as they say.
  module _ (s : Sized L) (t : Sized M) where
    pub legal : lengths_agree k L.node L.nodes x.nodes M.node M.nodes x.to_nodes ≡ true
        → lengths_agree k L.edge L.edges x.edges M.edge M.edges x.to_edges ≡ true
        → keeps_layout L x.nodes x.edges ≡ true → L.atoms ≤ most_atoms → Legal L x.nodes x.edges
    legal n e l a =
        let m : lengths_agree k (node_length L) L.nodes x.nodes (node_length M) M.nodes x.to_nodes ≡ true = (λ i. lengths_agree k (sym s.node i) L.nodes x.nodes (sym t.node i) M.nodes x.to_nodes) ∙ n in
        let f : lengths_agree k (edge_length L) L.edges x.edges (edge_length M) M.edges x.to_edges ≡ true = (λ i. lengths_agree k (sym s.edge i) L.edges x.edges (sym t.edge i) M.edges x.to_edges) ∙ e in
        record { sized = s; few = a; nodes_fit = (lengths-agree _ _ _ _ _ _ _ m).from; edges_fit = (lengths-agree _ _ _ _ _ _ _ f).from; keeps = l }

  -- What is left by the refusal.

  pub left-refused : (w : Refusal) → some w ≡ carry_refusal k L M x
      → Carries (carry k L M x) (answer_number (Refused w)) x.to_nodes x.to_edges
  unfolding carry carry_on
  left-refused w e = rw (← e) (record { numbered = refl; nodes_returned = refl; edges_returned = refl })

  module _ (e : none ≡ carry_refusal k L M x) where
    its : Taken k L M x
    its = taken k L M x (sym e)

    pub taken-legal : Sized L → L.atoms ≤ most_atoms → Legal L x.nodes x.edges
    taken-legal s a = record { sized = s; few = a; nodes_fit = its.nodes.from; edges_fit = its.edges.from; keeps = its.layout }

    pub nodes-labels : labels_fit_in L x.nodes x.edges Nodes M.atoms ≡ true
    unfolding host_fits slots_fit
    nodes-labels = (both_true _ _ (both_true _ _ its.fits).0).0

    pub edges-labels : labels_fit_in L x.nodes x.edges Edges M.atoms ≡ true
    unfolding host_fits slots_fit
    edges-labels = (both_true _ _ (both_true _ _ its.fits).1).0

    module _ (t : Sized M) where
      pub nodes-size : length x.to_nodes ≡ length x.to_nodes / M.node * node_length M
      nodes-size = rw t.node (sym (fits_whole (node_length M) M.nodes x.to_nodes its.nodes.into))

      pub edges-size : length x.to_edges ≡ length x.to_edges / M.edge * edge_length M
      edges-size = rw t.edge (sym (fits_whole (edge_length M) M.edges x.to_edges its.edges.into))

      -- both tables, at the counts of slots that the code has
      pub left-taken : (ns es : List ℕ) → ns ≡ table_carried L M x.nodes x.edges Nodes (length x.to_nodes / M.node)
          → es ≡ table_carried L M x.nodes x.edges Edges (length x.to_edges / M.edge)
          → Carries (carry k L M x) (answer_number Result) ns es
      unfolding carry carry_on
      left-taken ns es p q =
          let n = p ∙ (λ i. table_carried L M x.nodes x.edges Nodes (length x.to_nodes / t.node i)) in
          let m = q ∙ (λ i. table_carried L M x.nodes x.edges Edges (length x.to_edges / t.edge i)) in
          rw (← e) (record { numbered = refl; nodes_returned = n; edges_returned = m })
