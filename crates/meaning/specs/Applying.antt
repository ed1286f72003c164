-- Applying a rule at a match: the values of the right side, the checks before any change, and the changes with one record each.
-- Rests on Basics, Numbers, Tags, Layout, Image, Matching and Assigned, and on the code's Element and Stop.
use Rattle.std.specs.Prelude.{Bool, List, [], ◌∷◌, ◌++◌, map, ℕ, zero, suc, ◌+◌, ◌-◌, length, get_or, take, drop, eqb, leb, ltb}
use Rattle.std.proofs.Math.Option.{Option, some, none}
use Rattle.meaning.specs.Basics.{choose, both, concat, is_some, ensure, each, first_failing, ◌>>◌, ◌>>=◌}
use Rattle.meaning.specs.Numbers.{sum, difference}
use Rattle.meaning.specs.Layout.{Slot, free, live, Node, Edge, Host, Change, of_node, of_edge, put}
use Rattle.meaning.specs.Image.{RuleNode, RuleEdge, Rule}
use Rattle.meaning.specs.Tags.{any_mark}
use Rattle.meaning.specs.Matching.{node_at, left_node, left_nodes, left_edges, node_slot, Assignment, atom_of}
use Rattle.meaning.specs.Assigned.{assigned}
use Rattle.meaning.specs.declared.Element.{Element}
use Rattle.meaning.specs.declared.Element.TheVariants.{Constant, Variable, Sum, Difference}
use Rattle.meaning.specs.declared.Stop.{Stop}
use Rattle.meaning.specs.declared.Stop.TheVariants.{NoNodeRoom, NoEdgeRoom, NoRecordRoom, LabelTooLarge}

-- The right side under an assignment. A label that can't be held has no value; `most` is how many atoms a label holds.

unfoldable pub element_value : Assignment → Element → Option (List ℕ)
element_value α (Constant c) = some (c ∷ [])
element_value α (Variable v) = some (α v)
element_value α (Sum a b) = sum (atom_of α a) (atom_of α b) >>= λ n. some (n ∷ [])
element_value α (Difference a b) = difference (atom_of α a) (atom_of α b) >>= λ n. some (n ∷ [])

unfoldable pub label_value : ℕ → Assignment → List Element → Option (List ℕ)
label_value most α l = do
  parts ← each (element_value α) l
  ensure (leb (length (concat parts)) most)
  some (concat parts)

-- the root flag that an interface node takes: the right side's; one that is unrooted on both sides of a preserving rule keeps
-- the host's
unfoldable pub root_taken : Bool → ℕ → ℕ → ℕ → ℕ
root_taken preserving left right host = choose (both preserving (both (eqb left 0) (eqb right 0))) host right

-- right node j takes the right side's mark, root flag and label; any keeps the mark of its slot in the match p, and `root_taken` says
-- which flag a node of the interface takes
unfoldable pub right_node : ℕ → Rule → Assignment → Host → List ℕ → ℕ → RuleNode → Option Node
right_node most r α h p j n = do
  l ← label_value most α n.label
  some (record {
    mark = choose (eqb n.mark any_mark) (node_at h (node_slot p j)).mark n.mark;
    root = choose (ltb j r.interface) (root_taken r.preserving (left_node r j).root n.root (node_at h (node_slot p j)).root) n.root;
    label = l;
  })

-- right nodes, the first of them being node j
unfoldable pub right_nodes : ℕ → Rule → Assignment → Host → List ℕ → ℕ → List RuleNode → Option (List Node)
right_nodes most r α h p j [] = some []
right_nodes most r α h p j (n ∷ l) = do
  a ← right_node most r α h p j n
  m ← right_nodes most r α h p (suc j) l
  some (a ∷ m)

-- a right edge; its ends are still numbers of right nodes
unfoldable pub right_edge : ℕ → Assignment → RuleEdge → Option Edge
right_edge most α e = do
  l ← label_value most α e.label
  some (record { mark = e.mark; source = e.source; target = e.target; label = l })

pub record Right : Type 0 where
  pub nodes : List Node
  pub edges : List Edge

unfoldable pub right_side : ℕ → Host → Rule → List ℕ → Option Right
right_side most h r p = do
  n ← right_nodes most r (assigned h r p) h p 0 r.right.nodes
  e ← each (right_edge most (assigned h r p)) r.right.edges
  some (record { nodes = n; edges = e })

-- The host and the journal of its changes, the last record first.

pub record Ledger : Type 0 where
  pub host : Host
  pub journal : List (Change (Slot Node) (Slot Edge))

abbrev pub ledger_at : Host → List (Change (Slot Node) (Slot Edge)) → Ledger
ledger_at h journal = record { host = h; journal = journal }

-- the slot of a change, as it stands
unfoldable pub standing : Change (Slot Node) (Slot Edge) → Host → Change (Slot Node) (Slot Edge)
standing (of_node i s) h = of_node i (get_or h.nodes i free)
standing (of_edge i s) h = of_edge i (get_or h.edges i free)

-- one change with its record
unfoldable pub store : Change (Slot Node) (Slot Edge) → Ledger → Ledger
store c g = ledger_at (put c g.host) (standing c g.host ∷ g.journal)

-- changes in order
unfoldable pub stores : List (Change (Slot Node) (Slot Edge)) → Ledger → Ledger
stores [] g = g
stores (c ∷ cs) g = stores cs (store c g)

-- the lowest free slot
unfoldable pub lowest_free : {A : Type 0} → List (Slot A) → ℕ
lowest_free [] = zero
lowest_free (free ∷ l) = zero
lowest_free (live a ∷ l) = suc (lowest_free l)

unfoldable pub free_slots : {A : Type 0} → List (Slot A) → ℕ
free_slots [] = zero
free_slots (free ∷ l) = suc (free_slots l)
free_slots (live a ∷ l) = free_slots l

-- The changes, in document 01's order.

-- left edges go
abbrev pub edges_go : Rule → List ℕ → List (Change (Slot Node) (Slot Edge))
edges_go r p = map (λ x. of_edge x free) (drop (left_nodes r) p)

-- left nodes at the slots: those that have a right node take its values, the others go
unfoldable pub nodes_change : List Node → List ℕ → List (Change (Slot Node) (Slot Edge))
nodes_change [] [] = []
nodes_change [] (x ∷ l) = of_node x free ∷ nodes_change [] l
nodes_change (n ∷ ns) [] = []
nodes_change (n ∷ ns) (x ∷ l) = of_node x (live n) ∷ nodes_change ns l

pub record Added : Type 0 where
  pub ledger : Ledger
  pub slots : List ℕ

-- new nodes come, each in the lowest free slot
unfoldable pub add_nodes : List Node → Ledger → Added
add_nodes [] g = record { ledger = g; slots = [] }
add_nodes (n ∷ l) g =
    let x : ℕ = lowest_free g.host.nodes in
    let a : Added = add_nodes l (store (of_node x (live n)) g) in
    record { ledger = a.ledger; slots = x ∷ a.slots }

-- an edge between the slots of its ends
abbrev pub between : List ℕ → Edge → Edge
between slots e =
    record {
      mark = e.mark;
      source = get_or slots e.source 0;
      target = get_or slots e.target 0;
      label = e.label;
    }

-- right edges come, each in the lowest free slot; `slots` are the slots of the right nodes
unfoldable pub add_edges : List ℕ → List Edge → Ledger → Ledger
add_edges slots [] g = g
add_edges slots (e ∷ l) g = add_edges slots l (store (of_edge (lowest_free g.host.edges) (live (between slots e))) g)

unfoldable pub changed : Rule → List ℕ → Right → Ledger → Ledger
changed r p right g =
    let gone : Ledger = stores (edges_go r p ++ nodes_change (take r.interface right.nodes) (take (left_nodes r) p)) g in
    let new : Added = add_nodes (drop r.interface right.nodes) gone in
    add_edges (take r.interface p ++ new.slots) right.edges new.ledger

-- The checks before any change, in order: 6, 3, 4, 5. `room` is how many records the journal holds.

abbrev pub new_nodes : Rule → ℕ
new_nodes r = length r.right.nodes - r.interface

abbrev pub gone_nodes : Rule → ℕ
gone_nodes r = left_nodes r - r.interface

-- left edges, all left nodes, new nodes, right edges
abbrev pub records_of : Rule → ℕ
records_of r = left_edges r + left_nodes r + new_nodes r + length r.right.edges

unfoldable pub hindrance : ℕ → ℕ → Rule → List ℕ → Ledger → Option Stop
hindrance most room r p g =
    first_failing
    ((is_some (right_side most g.host r p), LabelTooLarge)
    ∷ (leb (new_nodes r) (free_slots g.host.nodes + gone_nodes r), NoNodeRoom)
    ∷ (leb (length r.right.edges) (free_slots g.host.edges + left_edges r), NoEdgeRoom)
    ∷ (leb (length g.journal + records_of r) room, NoRecordRoom)
    ∷ [])

pub data Applied : Type 0 where
  applied : Ledger → Applied
  hindered : Stop → Applied

unfoldable pub unhindered : Option Stop → Option Right → Rule → List ℕ → Ledger → Applied
unhindered (some w) right r p g = hindered w
unhindered none none r p g = hindered LabelTooLarge
unhindered none (some right) r p g = applied (changed r p right g)

unfoldable pub apply : ℕ → ℕ → Rule → List ℕ → Ledger → Applied
apply most room r p g = unhindered (hindrance most room r p g) (right_side most g.host r p) r p g
