-- The labels of a table: they all fit where each does, by slot number. Rests on specs/Tables.
use mathlib.Core.Path.{◌≡◌, refl, sym, ◌∙◌}
use mathlib.Core.Bool.{Bool, true, false}
use mathlib.Core.List.{List}
use Prim.Native.Nat.{ℕ, ◌<◌, ◌≤◌}
use native.Mathlib.Omega.{arith}
use borrow.Author.Tests.{leb-true, le-leb}
use lib.Dec.{leb}
use lib.ListN.{length}
use Rattle.meaning.specs.Layout.{Slot, free, live, Node, Edge, read_nodes, read_edges}
use Rattle.meaning.specs.Matching.{node_in, edge_in}
use Rattle.std.specs.Bool.{MatchBool}
use Rattle.meaning.specs.Carrying.{label_fits}
use Rattle.meaning.specs.Laws.Tests.{every_of}
use Rattle.meaning.specs.Laws.Every.{Every-true, Every-at}
use Rattle.meaning.specs.declared.Layout.{Layout}
use Rattle.meaning.specs.declared.Table.{Table}
use Rattle.meaning.specs.declared.Table.TheVariants.{Nodes, Edges}
use Rattle.graph.specs.Graph.{slots_in}
use Rattle.carrying.specs.Tables.{label_in, labels_fit_in}

-- A free slot has an empty label.

node-fits : (most : ℕ) (s : Slot Node) → label_fits most (λ (n : Node). n.label) s ≡ leb (length (node_in s).label) most
unfolding label_fits node_in
node-fits most free = sym (le-leb 0 most (omega arith))
node-fits most (live n) = refl

edge-fits : (most : ℕ) (s : Slot Edge) → label_fits most (λ (e : Edge). e.label) s ≡ leb (length (edge_in s).label) most
unfolding label_fits edge_in
edge-fits most free = sym (le-leb 0 most (omega arith))
edge-fits most (live e) = refl

module _ (L : Layout) (nodes edges : List ℕ) (most : ℕ) where
  pub fit_at : (t : Table) → labels_fit_in L nodes edges t most ≡ true → (x : ℕ) → length (label_in L nodes edges t x) ≤ most
  unfolding label_fits
  fit_at Nodes e x = leb-true _ _ (sym (node-fits most _) ∙ Every-at _ free refl (read_nodes L nodes) (Every-true _ _ (λ s q. q) (read_nodes L nodes) e) x)
  fit_at Edges e x = leb-true _ _ (sym (edge-fits most _) ∙ Every-at _ free refl (read_edges L edges) (Every-true _ _ (λ s q. q) (read_edges L edges) e) x)

  fit_of : (t : Table) → ((x : ℕ) → x < slots_in L nodes edges t → length (label_in L nodes edges t x) ≤ most)
      → labels_fit_in L nodes edges t most ≡ true
  fit_of Nodes f = every_of _ (read_nodes L nodes) free (λ x h. node-fits most _ ∙ le-leb _ _ (f x h))
  fit_of Edges f = every_of _ (read_edges L edges) free (λ x h. edge-fits most _ ∙ le-leb _ _ (f x h))

  fit-not : (t : Table) (x : ℕ) → x < slots_in L nodes edges t → most < length (label_in L nodes edges t x)
      → false ≡ labels_fit_in L nodes edges t most
  fit-not t x h k = at (labels_fit_in L nodes edges t most) refl
    where
      at : (b : Bool) → labels_fit_in L nodes edges t most ≡ b → false ≡ b
      at true e = absurd (omega (arith, fit_at t e x))
      at false e = refl

  -- what a test of each label says
  pub fit_told : (t : Table) (r : Bool)
      → MatchBool r ((x : ℕ) → x < slots_in L nodes edges t → length (label_in L nodes edges t x) ≤ most)
      ((x : ℕ) × (x < slots_in L nodes edges t) × (most < length (label_in L nodes edges t x)))
      → r ≡ labels_fit_in L nodes edges t most
  fit_told t true f = sym (fit_of t f)
  fit_told t false h = fit-not t h.0 h.1 h.2
