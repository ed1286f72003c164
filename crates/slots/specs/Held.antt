-- What the bytes of a live node's slot say of the node. Rests on the meaning's Layout and Matching, on its laws of slots, and on
-- laws' Pieces and Layout.
use Rattle.std.specs.Prelude.{ℕ, ◌/◌, ◌<◌, ◌≡◌, true, length}
use Rattle.std.proofs.Math.Path.{sym, ap}
use Rattle.std.proofs.Common.{◌∙◌, arith}
use mathlib.Core.List.{List, []}
use Rattle.std.proofs.Math.Decide.{ℕ_discrete}
use Rattle.std.proofs.Math.ListN.{get_or}
use Rattle.meaning.specs.Layout.{free, live, is_live, live_at, Sized, state_place, node_length, cut, read_node, read_nodes}
use Rattle.meaning.specs.Matching.{node_in}
use Rattle.meaning.specs.Laws.Slots.{live_at_lt}
use Rattle.laws.specs.Pieces.{get_or-map_in, length-pieces, length-read}
use Rattle.laws.specs.Layout.{node_of, read_node_free, read_node_live}
use Rattle.meaning.specs.declared.Layout.{Layout}

module _ {L : Layout} (sized : Sized L) (bs : List ℕ) (i : ℕ) (alive : live_at (read_nodes L bs) i ≡ true) where
  there : i < length bs / node_length L
  there = omega (arith, live_at_lt (read_nodes L bs) i alive, length-read (node_length L) read_node bs)

  pub node-held : (b : List ℕ) → b ≡ get_or (cut L.node bs) i [] → node_of b ≡ node_in (get_or (read_nodes L bs) i free)
  unfolding is_live node_in
  node-held b e = sym (ap node_in (is ∙ at (ℕ_discrete (get_or b state_place 0) 0)))
    where
      is : get_or (read_nodes L bs) i free ≡ read_node b
      is =
          get_or-map_in read_node (cut (node_length L) bs) i [] free (rw (length-pieces (node_length L) (length bs / node_length L) bs) there)
          ∙ ap read_node (sym (e ∙ ap (λ (n : ℕ). get_or (cut n bs) i []) sized.node))

      at : Dec (get_or b state_place 0 ≡ 0) → read_node b ≡ live (node_of b)
      at (yes k) = let r = ap is_live (is ∙ read_node_free b k) in let z : ◌≡◌ {A = ℕ} 0 1 = cc in absurd (omega arith)
      at (no k) = read_node_live b k
