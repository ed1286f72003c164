-- What the code keeps of items, of rows of them and of the whole graph. The two kinds of items go by the table that they are of.
-- Rests on parsing's Reading and Labels and on the text's Grammar and Text.
use Rattle.std.specs.Prelude.{◌≡◌, Bool, Option, Result, Ok, Err, List, ℕ, ◌<◌, length, get_or, drop}
use Rattle.meaning.specs.Basics.{every}
use Rattle.meaning.specs.Layout.{is_node_mark, is_edge_mark}
use Rattle.meaning.specs.declared.Table.{Table}
use Rattle.meaning.specs.declared.Table.TheVariants.{Nodes, Edges}
use Rattle.labels.specs.declared.Label.{Label as Gathered}
use Rattle.text.specs.Words.{Word, words, left}
use Rattle.text.specs.Integers.{Integer}
use Rattle.text.specs.Grammar.{Label, NodeItem, EdgeItem, Listed, Parsed, gives, node_body, edge_body, node, edge, graph, ended}
use Rattle.text.specs.Text.{label_fits, labels_fit}
use Rattle.lexing.specs.Lexing.{name_at}
use Rattle.parsing.specs.Reading.{ahead, Reads, Breaks}
use Rattle.parsing.specs.Rows.{row}
use Rattle.parsing.specs.Labels.{Gathers}
use Rattle.parsing.specs.declared.BrokenAt.{BrokenAt}
use Rattle.items.specs.declared.NodeAt.{NodeAt}
use Rattle.items.specs.declared.EdgeAt.{EdgeAt}
use Rattle.items.specs.declared.ItemAt.{ItemAt}
use Rattle.items.specs.declared.ItemsAt.{ItemsAt}
use Rattle.items.specs.declared.GraphAt.{GraphAt}

-- The items of a table.

abbrev pub ItemOf : Table → Type 0
ItemOf Nodes = NodeItem
ItemOf Edges = EdgeItem

-- an item from its identifier on, and a whole one
abbrev pub body_of : (t : Table) → List Word → Parsed (ItemOf t)
body_of Nodes = node_body
body_of Edges = edge_body

abbrev pub item_of : (t : Table) → List Word → Parsed (ItemOf t)
item_of Nodes = node
item_of Edges = edge

abbrev pub id_of : (t : Table) → ItemOf t → List ℕ
id_of Nodes n = n.id
id_of Edges e = e.id

abbrev pub label_of : (t : Table) → ItemOf t → Label
label_of Nodes n = n.label
label_of Edges e = e.label

abbrev pub is_mark : Table → ℕ → Bool
is_mark Nodes = is_node_mark
is_mark Edges = is_edge_mark

abbrev pub fits_in : (t : Table) → ℕ → ItemOf t → Bool
fits_in t most a = label_fits (is_mark t) most (label_of t a)

-- a label that was gathered can be held
abbrev pub Fits : Table → ℕ → Option Gathered → ℕ → Bool → Type 0
Fits t mark g most r = (l : List Integer) → Gathers l g → r ≡ label_fits (is_mark t) most (record { atoms = l; mark = mark })

module _ (bs : List ℕ) where
  -- Single items.

  pub record IsNode (at : ℕ) (r : NodeAt) (n : NodeItem) : Type 0 where
    pub here : ahead bs at ≡ words (drop r.from bs)
    pub id : n.id ≡ name_at bs r.from
    pub root : n.root ≡ r.root
    pub mark : n.label.mark ≡ r.mark
    pub gathers : Gathers n.label.atoms r.label

  abbrev pub ReadsNode : ℕ → Result NodeAt BrokenAt → Type 0
  ReadsNode at (Ok r) = (item : NodeItem) × Reads bs at node_body r.next item × IsNode at r item
  ReadsNode at (Err b) = Breaks bs at node_body b

  pub record IsEdge (at : ℕ) (r : EdgeAt) (e : EdgeItem) : Type 0 where
    pub here : ahead bs at ≡ words (drop r.from bs)
    pub id : e.id ≡ name_at bs r.from
    pub source : e.source ≡ name_at bs r.source
    pub target : e.target ≡ name_at bs r.target
    pub mark : e.label.mark ≡ r.mark
    pub gathers : Gathers e.label.atoms r.label

  abbrev pub ReadsEdge : ℕ → Result EdgeAt BrokenAt → Type 0
  ReadsEdge at (Ok r) = (item : EdgeItem) × Reads bs at edge_body r.next item × IsEdge at r item
  ReadsEdge at (Err b) = Breaks bs at edge_body b

  -- an item's identifier begins at a place, from which the item can be read
  pub record At (t : Table) (p : ℕ) (a : ItemOf t) : Type 0 where
    pub rest : List Word
    pub body : body_of t (words (drop p bs)) ≡ gives a rest
    pub id : id_of t a ≡ name_at bs p

  -- each item's does, of those that places are kept for
  abbrev pub Places : (t : Table) → List (ItemOf t) → List ℕ → Type 0
  Places t l ps = (d : ItemOf t) (i : ℕ) → i < length l → i < length ps → At t (get_or ps i 0) (get_or l i d)

  module _ (t : Table) (most : ℕ) where
    pub record IsItem (r : ItemAt) (a : ItemOf t) : Type 0 where
      pub at : At t r.from a
      pub fits : r.fits ≡ fits_in t most a

    abbrev pub ReadsItem : ℕ → Result ItemAt BrokenAt → Type 0
    ReadsItem at (Ok r) = (item : ItemOf t) × Reads bs at (body_of t) r.next item × IsItem r item
    ReadsItem at (Err b) = Breaks bs at (body_of t) b

    -- Rows.

    pub record AreItems (ps : List ℕ) (r : ItemsAt) (l : List (ItemOf t)) : Type 0 where
      pub count : r.count ≡ length l
      pub fits : r.fits ≡ every (fits_in t most) l
      pub places : Places t l ps

    abbrev pub ReadsItems : ℕ → List ℕ → Result ItemsAt BrokenAt → Type 0
    ReadsItems at ps (Ok r) = (items : List (ItemOf t)) × Reads bs at (row left (item_of t)) r.next items × AreItems ps r items
    ReadsItems at ps (Err b) = Breaks bs at (row left (item_of t)) b

  -- The graph.

  abbrev pub Ends : ℕ → Result (Unit {0}) BrokenAt → Type 0
  Ends at (Ok r) = Reads bs at ended at tt
  Ends at (Err b) = Breaks bs at ended b

  pub record IsGraph (most : ℕ) (node_places edge_places : List ℕ) (r : GraphAt) (g : Listed) : Type 0 where
    pub nodes : r.nodes ≡ length g.nodes
    pub edges : r.edges ≡ length g.edges
    pub fits : r.fits ≡ labels_fit most g
    pub nodes_at : Places Nodes g.nodes node_places
    pub edges_at : Places Edges g.edges edge_places

  abbrev pub ReadsGraph : ℕ → (node_places edge_places : List ℕ) → Result GraphAt BrokenAt → Type 0
  ReadsGraph most node_places edge_places (Ok r) =
      (listed : Listed) × Reads bs 0 graph r.next listed × IsGraph most node_places edge_places r listed
  ReadsGraph most node_places edge_places (Err b) = Breaks bs 0 graph b
