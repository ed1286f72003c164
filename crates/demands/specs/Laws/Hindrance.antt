-- What hinders an application, check by check: the order of document 01 is 6, 3, 4, 5. Rests on the meaning's Applying.
use Rattle.std.specs.Prelude.{◌≡◌, List, ℕ, ◌+◌, ◌≤◌, ◌<◌, length}
use Rattle.std.proofs.Math.Option.{some, none}
use borrow.Author.Tests.{le-leb, lt-leb}
use Rattle.meaning.specs.Basics.{choose, is_some, first_failing}
use Rattle.meaning.specs.Image.{Rule}
use Rattle.meaning.specs.Matching.{left_edges}
use Rattle.meaning.specs.Applying.{Ledger, Right, right_side, hindrance, free_slots, new_nodes, gone_nodes, records_of}
use Rattle.meaning.specs.declared.Stop.TheVariants.{NoNodeRoom, NoEdgeRoom, NoRecordRoom, LabelTooLarge}

module _ (most room : ℕ) (r : Rule) (p : List ℕ) (g : Ledger) where
  -- 6 before all others
  pub labels-first : right_side most g.host r p ≡ none → hindrance most room r p g ≡ some LabelTooLarge
  unfolding hindrance first_failing choose is_some
  labels-first e = rw e

  module _ (right : Right) (held : right_side most g.host r p ≡ some right) where
    -- 3 where the labels can be held
    pub nodes-second : free_slots g.host.nodes + gone_nodes r < new_nodes r → hindrance most room r p g ≡ some NoNodeRoom
    unfolding hindrance first_failing choose is_some
    nodes-second h = rw (held, lt-leb _ _ h)

    module _ (nodes : new_nodes r ≤ free_slots g.host.nodes + gone_nodes r) where
      -- 4 where there is room for the nodes
      pub edges_third : free_slots g.host.edges + left_edges r < length r.right.edges → hindrance most room r p g ≡ some NoEdgeRoom
      unfolding hindrance first_failing choose is_some
      edges_third h = rw (held, le-leb _ _ nodes, lt-leb _ _ h)

      module _ (edges : length r.right.edges ≤ free_slots g.host.edges + left_edges r) where
        -- 5 where there is room for the edges
        pub records-last : room < length g.journal + records_of r → hindrance most room r p g ≡ some NoRecordRoom
        unfolding hindrance first_failing choose is_some
        records-last h = rw (held, le-leb _ _ nodes, le-leb _ _ edges, lt-leb _ _ h)

        -- nothing where there is room for the records
        pub unhindered-of : length g.journal + records_of r ≤ room → hindrance most room r p g ≡ none
        unfolding hindrance first_failing choose is_some
        unhindered-of h = rw (held, le-leb _ _ nodes, le-leb _ _ edges, le-leb _ _ h)
