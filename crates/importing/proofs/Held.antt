-- What is stored of an item that was read again: its mark, root and ends, and a label that has room. Rests on specs/Tables, on items'
-- Again and on parsing's Labels.
use mathlib.Core.Path.{◌≡◌, sym, ◌∙◌, ap}
use mathlib.Core.Bool.{Bool, true}
use mathlib.Core.List.{List, map}
use Prim.Native.Nat.{ℕ, ◌≤◌}
use native.Mathlib.Omega.{arith}
use borrow.Author.Tests.{le-leb, leb-true}
use Rattle.std.specs.Prelude.{Option, Some, None, IsSome, Ok, Err}
use Rattle.std.proofs.Common.{rules}
use lib.ListN.{length, length-map}
use Rattle.meaning.specs.Layout.{Node, Edge, most_atoms, is_node_mark, is_edge_mark}
use Rattle.meaning.specs.Laws.Tests.{both_of, clauses-true}
use Rattle.meaning.specs.declared.Layout.{Layout}
use Rattle.meaning.specs.declared.Table.TheVariants.{Nodes, Edges}
use Rattle.labels.specs.Labels.{atoms_in, Holds}
use Rattle.text.specs.Integers.{atom}
use Rattle.text.specs.Grammar.{Label, index}
use Rattle.text.specs.Text.{to_node, to_edge, label_fits}
use Rattle.lexing.specs.Lexing.{name_at}
use Rattle.parsing.specs.Labels.{fit, Gathers}
use Rattle.parsing.specs.declared.BrokenAt.{BrokenAt}
use Rattle.labels.specs.declared.Label.{Label as Gathered}
use Rattle.items.specs.Items.{IsNode, ReadsNode, IsEdge, ReadsEdge}
use Rattle.items.specs.Again.{node-again, node-unbroken, edge-again, edge-unbroken}
use Rattle.items.specs.declared.NodeAt.{NodeAt}
use Rattle.items.specs.declared.EdgeAt.{EdgeAt}
use Rattle.importing.specs.Tables.{Item}

-- a label that fits, as it was gathered
pub record LabelHeld (L : Layout) (l : Label) (g : Gathered) : Type 0 where
  pub holds : Holds (map atom l.atoms) g
  pub size : length (atoms_in g) ≤ L.atoms

module _ (L : Layout) (few : L.atoms ≤ most_atoms) where
  is-fit : (is_mark : ℕ → Bool) (l : Label) → label_fits is_mark L.atoms l ≡ true → (fit l.atoms ≡ true) × (length l.atoms ≤ L.atoms)
  unfolding label_fits
  is-fit is_mark l e =
      let n = leb-true (length l.atoms) L.atoms (clauses-true _ e 1) in
      (both_of _ _ (le-leb (length l.atoms) most_atoms (omega arith)) (clauses-true _ e 2), n)

  label-held : (is_mark : ℕ → Bool) (l : Label) {o : Option Gathered} (g : Gathered) → label_fits is_mark L.atoms l ≡ true → o ≡ Some g
      → Gathers l.atoms o → LabelHeld L l g
  label-held is_mark l g e q h =
      let k = (rw q at h).1 in
      record { holds = k; size = omega (arith, (is-fit is_mark l e).1, ap length k.atoms, length-map l.atoms atom) }

  -- a label that fits is gathered
  label-there : (is_mark : ℕ → Bool) (l : Label) (o : Option Gathered) → label_fits is_mark L.atoms l ≡ true → Gathers l.atoms o → IsSome o
  label-there is_mark l (Some g) e h = search rules
  label-there is_mark l None e h =
      let k = sym h ∙ (is-fit is_mark l e).0 in
      let z : ◌≡◌ {A = ℕ} 0 1 = cc in
      absurd (omega arith)

  module _ (bs : List ℕ) (p : ℕ) where
    pub node-reads : (w : Item L bs Nodes p) {b : BrokenAt} → ReadsNode bs p (Err b) → ⊥
    node-reads w x = node-unbroken bs w.at x

    pub edge-reads : (w : Item L bs Edges p) {b : BrokenAt} → ReadsEdge bs p (Err b) → ⊥
    edge-reads w x = edge-unbroken bs w.at x

    module _ (r : NodeAt) (reads : ReadsNode bs p (Ok r)) (w : Item L bs Nodes p) where
      is-node : IsNode bs p r w.item
      is-node = node-again bs r w.at reads

      pub node-there : IsSome r.label
      node-there = label-there is_node_mark w.item.label r.label w.fits is-node.gathers

      module _ (label : Gathered) (q : r.label ≡ Some label) where
        pub node-label : LabelHeld L w.item.label label
        node-label = label-held is_node_mark w.item.label label w.fits q is-node.gathers

        pub node-held : ◌≡◌ {A = Node} (record { mark = r.mark; root = r.root; label = atoms_in label }) (to_node w.item)
        unfolding to_node
        node-held = λ i. record { mark = sym is-node.mark i; root = sym is-node.root i; label = node-label.holds.atoms i }

    module _ (r : EdgeAt) (reads : ReadsEdge bs p (Ok r)) (w : Item L bs Edges p) where
      is-edge : IsEdge bs p r w.item
      is-edge = edge-again bs r w.at reads

      pub edge-there : IsSome r.label
      edge-there = label-there is_edge_mark w.item.label r.label w.fits is-edge.gathers

      module _ (label : Gathered) (q : r.label ≡ Some label) where
        pub edge-label : LabelHeld L w.item.label label
        edge-label = label-held is_edge_mark w.item.label label w.fits q is-edge.gathers

        pub edge-held : (names : List (List ℕ)) (source target : ℕ) → source ≡ index (name_at bs r.source) names
            → target ≡ index (name_at bs r.target) names
            → ◌≡◌ {A = Edge} (record { mark = r.mark; source = source; target = target; label = atoms_in label }) (to_edge names w.item)
        unfolding to_edge
        edge-held names source target s t =
            let s' = s ∙ ap (λ id. index id names) (sym is-edge.source) in
            let t' = t ∙ ap (λ id. index id names) (sym is-edge.target) in
            λ i. record { mark = sym is-edge.mark i; source = s' i; target = t' i; label = edge-label.holds.atoms i }
