-- Laws of free slots as the code asks for them: the lowest free slot of a table.
-- Rests on the meaning's Applying and on slots' States.
use mathlib.Core.Path.{◌≡◌, sym, ◌∙◌, ap}
use mathlib.Core.List.{List}
use Prim.Native.Nat.{ℕ, ◌/◌, ◌<◌}
use native.Mathlib.Omega.{arith}
use lib.ListN.{length}
use Rattle.meaning.specs.Layout.{Sized, node_length, edge_length, read_node, read_edge, read_nodes, read_edges}
use Rattle.meaning.specs.Applying.{lowest_free, free_slots}
use Rattle.meaning.specs.Laws.Slots.{lowest_free_lt}
use Rattle.laws.specs.Pieces.{length-read}
use Rattle.meaning.specs.declared.Layout.{Layout}
use Rattle.slots.specs.Slots.{states}
use Rattle.slots.specs.States.{lowest-nodes, lowest-edges}

module _ (L : Layout) (sized : Sized L) (bs : List ℕ) where
  -- what a table says by its states, at the slot length of the layout
  pub node-lowest : (x : ℕ) → x ≡ lowest_free (states L.node bs) → x ≡ lowest_free (read_nodes L bs)
  node-lowest x e = e ∙ ap (λ (w : ℕ). lowest_free (states w bs)) sized.node ∙ sym (lowest-nodes L bs)

  pub edge-lowest : (x : ℕ) → x ≡ lowest_free (states L.edge bs) → x ≡ lowest_free (read_edges L bs)
  edge-lowest x e = e ∙ ap (λ (w : ℕ). lowest_free (states w bs)) sized.edge ∙ sym (lowest-edges L bs)

  -- the lowest free slot is one of the table, where one is free
  pub node-lowest_in : (x : ℕ) → x ≡ lowest_free (states L.node bs) → 0 < free_slots (read_nodes L bs) → x < length bs / node_length L
  node-lowest_in x e h =
      omega (arith, node-lowest x e, lowest_free_lt (read_nodes L bs) h, length-read (node_length L) read_node bs)

  pub edge-lowest_in : (x : ℕ) → x ≡ lowest_free (states L.edge bs) → 0 < free_slots (read_edges L bs) → x < length bs / edge_length L
  edge-lowest_in x e h =
      omega (arith, edge-lowest x e, lowest_free_lt (read_edges L bs) h, length-read (edge_length L) (read_edge L) bs)
