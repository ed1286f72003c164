-- What the code knows of a text that is a graph, and of tables whose lengths are in order. Rests on items' Items and on the
-- text's Text.
use Rattle.std.specs.Prelude.{◌≡◌, Bool, true, List, ℕ, ◌≤◌, length}
use Rattle.std.proofs.Math.Option.{some}
use Rattle.meaning.specs.Layout.{Sized, most_atoms, node_length, edge_length, fits_table}
use Rattle.meaning.specs.declared.Layout.{Layout}
use Rattle.text.specs.Grammar.{Listed}
use Rattle.text.specs.Text.{graph_of, names_pass}
use Rattle.items.specs.Items.{IsGraph}
use Rattle.items.specs.declared.GraphAt.{GraphAt}

module _ (L : Layout) where
  -- what a text lists and where its items are, with places for as many as tables may have
  pub record Graph (bs node_places edge_places : List ℕ) (g : GraphAt) : Type 0 where
    pub listed : Listed
    pub found : graph_of bs ≡ some listed
    pub is : IsGraph bs L.atoms node_places edge_places g listed
    pub nodes_kept : L.nodes ≤ length node_places
    pub edges_kept : L.edges ≤ length edge_places

  -- what is found of its names
  abbrev pub NamesPass : (bs node_places edge_places : List ℕ) → GraphAt → Bool → Type 0
  NamesPass bs node_places edge_places g r = (w : Graph bs node_places edge_places g) → r ≡ names_pass L w.listed

  -- tables of the layout, whose labels code makes room for
  pub record Fitting (nodes edges : List ℕ) : Type 0 where
    pub sized : Sized L
    pub atoms : L.atoms ≤ most_atoms
    pub nodes_fit : fits_table (node_length L) L.nodes nodes ≡ true
    pub edges_fit : fits_table (edge_length L) L.edges edges ≡ true
