-- Import and export, each a function from all its inputs to all its outputs, refusals in their order included. Rests on the meaning's
-- Layout, Calls and Carrying, on writing's Words, and on Words, Spacing, Integers and Grammar.
use Rattle.std.specs.Prelude.{◌≡◌, Bool, true, false, not, List, [], ◌∷◌, ◌++◌, map, ℕ, suc, ◌-◌, ◌/◌, length, drop, replicate, leb}
use Rattle.std.proofs.Math.Option.{Option, some, none}
use Rattle.meaning.specs.Basics.{both, either, clauses, every, first_failing}
use Rattle.meaning.specs.Layout.{Slot, free, live, Node, Edge, is_node_mark, is_edge_mark, node_length, edge_length, fits_table, read_nodes, read_edges, write_nodes, write_edges, keeps_layout}
use Rattle.meaning.specs.Calls.{answer_number}
use Rattle.meaning.specs.Carrying.{Carried}
use Rattle.meaning.specs.declared.Layout.{Layout}
use Rattle.meaning.specs.declared.Refusal.{Refusal}
use Rattle.meaning.specs.declared.Refusal.TheVariants.{NodeTableLength, EdgeTableLength, BadHost, BadText, BadNames, TextDoesNotFit, BufferTooShort}
use Rattle.meaning.specs.declared.Answer.{Answer}
use Rattle.meaning.specs.declared.Answer.TheVariants.{Result, Refused}
use Rattle.writing.specs.Words.{decimal}
use Rattle.text.specs.Words.{words}
use Rattle.text.specs.Spacing.{text}
use Rattle.text.specs.Integers.{integer_of, is_atom, atom}
use Rattle.text.specs.Grammar.{Label, NodeItem, EdgeItem, Listed, index, known, graph_words, Parsed, got, broke, graph}

-- What a text lists, as slots.

abbrev pub ids : List NodeItem → List (List ℕ)
ids l = map (λ n. n.id) l

unfoldable pub to_node : NodeItem → Node
to_node n = record { mark = n.label.mark; root = n.root; label = map atom n.label.atoms }

-- an end is the slot of the node with its identifier
unfoldable pub to_edge : List (List ℕ) → EdgeItem → Edge
to_edge names e =
    record { mark = e.label.mark; source = index e.source names; target = index e.target names; label = map atom e.label.atoms }

-- so many slots, the first ones live
unfoldable pub filled : {A : Type 0} → ℕ → List A → List (Slot A)
filled n l = map live l ++ replicate (n - length l) free

-- The slots of tables, as a text lists them: each live one under its number.

abbrev pub label_of : ℕ → List ℕ → Label
label_of mark label = record { atoms = map integer_of label; mark = mark }

unfoldable pub node_item : ℕ → Node → NodeItem
node_item i n = record { id = decimal i; root = n.root; label = label_of n.mark n.label; position = none; behind = none }

unfoldable pub edge_item : ℕ → Edge → EdgeItem
edge_item i e = record { id = decimal i; source = decimal e.source; target = decimal e.target; label = label_of e.mark e.label }

-- the live slots of a table, whose first has number i
unfoldable pub numbered : {A B : Type 0} → (ℕ → A → B) → ℕ → List (Slot A) → List B
numbered item i [] = []
numbered item i (free ∷ slots) = numbered item (suc i) slots
numbered item i (live a ∷ slots) = item i a ∷ numbered item (suc i) slots

abbrev pub listed : List (Slot Node) → List (Slot Edge) → Listed
listed nodes edges = record { nodes = numbered node_item 0 nodes; edges = numbered edge_item 0 edges }

-- The refusals of an import.

-- no name twice
unfoldable pub apart : List (List ℕ) → Bool
apart [] = true
apart (a ∷ l) = both (not (known a l)) (apart l)

-- both ends of a listed edge are among the names
abbrev pub ends_known : List (List ℕ) → EdgeItem → Bool
ends_known l e = both (known e.source l) (known e.target l)

-- no identifier twice among nodes or among edges, and each end exists
unfoldable pub names_hold : Listed → Bool
names_hold g =
    clauses
    (apart (ids g.nodes)
    ∷ apart (map (λ e. e.id) g.edges)
    ∷ every (λ e. both (known e.source (ids g.nodes)) (known e.target (ids g.nodes))) g.edges
    ∷ [])

-- at most so many nodes and edges
unfoldable pub at_most : ℕ → ℕ → Listed → Bool
at_most m n g = both (leb (length g.nodes) m) (leb (length g.edges) n)

-- a label with a mark that this kind of item has, of at most so many atoms
unfoldable pub label_fits : (ℕ → Bool) → ℕ → Label → Bool
label_fits is_mark most l = clauses (is_mark l.mark ∷ leb (length l.atoms) most ∷ every is_atom l.atoms ∷ [])

unfoldable pub labels_fit : ℕ → Listed → Bool
labels_fit most g =
    both (every (λ n. label_fits is_node_mark most n.label) g.nodes) (every (λ e. label_fits is_edge_mark most e.label) g.edges)

-- What is returned: the answer and both tables, as of a carrying; the answer, the length of the text, and the buffer.

abbrev pub Imported : Type 0
Imported = Carried

pub record Exported : Type 0 where
  pub answer : Answer
  pub length : ℕ
  pub buffer : List ℕ

-- the numbers and the buffer are those that an export returns
pub record Exports (x : Exported) (number length : ℕ) (buffer : List ℕ) : Type 0 where
  pub numbered : number ≡ answer_number x.answer
  pub measured : length ≡ x.length
  pub returned : buffer ≡ x.buffer

-- what a text lists, where it is in the grammar
unfoldable pub found : Parsed Listed → Option Listed
found (got r) = some r.value
found (broke ws) = none

abbrev pub graph_of : List ℕ → Option Listed
graph_of bs = found (graph (words bs))

-- the text is at the front of the buffer, and what is behind it stays; where the buffer is too short, it stays whole (25)
unfoldable pub placed : Bool → List ℕ → List ℕ → Exported
placed true bs buffer = record { answer = Result; length = length bs; buffer = bs ++ drop (length bs) buffer }
placed false bs buffer = record { answer = Refused BufferTooShort; length = length bs; buffer = buffer }

unfoldable pub export_on : Option Refusal → List ℕ → List ℕ → Exported
export_on (some w) bs buffer = record { answer = Refused w; length = 0; buffer = buffer }
export_on none bs buffer = placed (leb (length bs) (length buffer)) bs buffer

module _ (L : Layout) where
  abbrev pub length_checks : List ℕ → List ℕ → List (Bool × Refusal)
  length_checks nodes edges =
      (fits_table (node_length L) L.nodes nodes, NodeTableLength) ∷ (fits_table (edge_length L) L.edges edges, EdgeTableLength) ∷ []

  -- Import.

  abbrev pub node_slots : List ℕ → ℕ
  node_slots nodes = length nodes / node_length L

  abbrev pub edge_slots : List ℕ → ℕ
  edge_slots edges = length edges / edge_length L

  -- 23, asked of a text that lists no more than tables may have: identifiers are looked up one by one
  unfoldable pub names_pass : Listed → Bool
  names_pass g = either (not (at_most L.nodes L.edges g)) (names_hold g)

  -- 24, for tables of so many slots
  unfoldable pub fits : ℕ → ℕ → Listed → Bool
  fits m n g = both (labels_fit L.atoms g) (at_most m n g)

  -- the checks of a text, by what it lists
  unfoldable pub text_checks : ℕ → ℕ → Option Listed → List (Bool × Refusal)
  text_checks m n none = (false, BadText) ∷ []
  text_checks m n (some g) = (names_pass g, BadNames) ∷ (fits m n g, TextDoesNotFit) ∷ []

  unfoldable pub import_refusal : List ℕ → List ℕ → Option Listed → Option Refusal
  import_refusal nodes edges o = first_failing (length_checks nodes edges ++ text_checks (node_slots nodes) (edge_slots edges) o)

  -- the nodes and edges take slots in the order read, and the rest of each table is free
  unfoldable pub tables_of : List ℕ → List ℕ → Listed → Imported
  tables_of nodes edges g =
      record {
        answer = Result;
        nodes = write_nodes L (filled (node_slots nodes) (map to_node g.nodes));
        edges = write_edges L (filled (edge_slots edges) (map (to_edge (ids g.nodes)) g.edges));
      }

  -- a refused import leaves both tables as they were; a text that lists nothing is refused
  unfoldable pub import_on : Option Refusal → List ℕ → List ℕ → Option Listed → Imported
  import_on (some w) nodes edges o = record { answer = Refused w; nodes = nodes; edges = edges }
  import_on none nodes edges none = record { answer = Refused BadText; nodes = nodes; edges = edges }
  import_on none nodes edges (some g) = tables_of nodes edges g

  unfoldable pub import_text : List ℕ → List ℕ → List ℕ → Imported
  import_text bs nodes edges = let o = graph_of bs in import_on (import_refusal nodes edges o) nodes edges o

  -- Export.

  unfoldable pub text_of : List ℕ → List ℕ → List ℕ
  text_of nodes edges = text (graph_words (listed (read_nodes L nodes) (read_edges L edges)))

  -- the refusals that the tables alone decide
  unfoldable pub export_refusal : List ℕ → List ℕ → Option Refusal
  export_refusal nodes edges = first_failing (length_checks nodes edges ++ (keeps_layout L nodes edges, BadHost) ∷ [])

  unfoldable pub export_text : List ℕ → List ℕ → List ℕ → Exported
  export_text nodes edges buffer = export_on (export_refusal nodes edges) (text_of nodes edges) buffer
