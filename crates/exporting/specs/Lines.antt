-- The text of a host, byte by byte: each live slot on a line of its own. Rests on writing's Words and the text's Grammar.
use Rattle.std.specs.Prelude.{List, [], ◌∷◌, ◌++◌, ℕ, zero, suc, get_or}
use Rattle.meaning.specs.Layout.{Slot, free, live, Node, Edge}
use Rattle.writing.specs.Words.{letters, decimal, signed}
use Rattle.text.specs.Grammar.{marks}

-- atoms behind the first
unfoldable pub atoms_behind : List ℕ → List ℕ
atoms_behind [] = []
atoms_behind (a ∷ l) = letters ":" ++ signed a ++ atoms_behind l

unfoldable pub atoms_text : List ℕ → List ℕ
atoms_text [] = letters "empty"
atoms_text (a ∷ l) = signed a ++ atoms_behind l

unfoldable pub mark_text : ℕ → List ℕ
mark_text zero = []
mark_text (suc m) = letters " # " ++ get_or marks m []

unfoldable pub root_text : ℕ → List ℕ
root_text zero = []
root_text (suc r) = letters "(R)"

-- the beginning of an item's line, by the item's number
unfoldable pub id_text : ℕ → List ℕ
id_text i = letters "\n  (" ++ decimal i

-- an end of an edge
unfoldable pub end_text : ℕ → List ℕ
end_text n = letters ", " ++ decimal n

-- the end of an item's line
unfoldable pub label_text : List ℕ → ℕ → List ℕ
label_text label mark = letters ", " ++ atoms_text label ++ mark_text mark ++ letters ")"

unfoldable pub node_text : ℕ → Node → List ℕ
node_text i n = id_text i ++ root_text n.root ++ label_text n.label n.mark

unfoldable pub edge_text : ℕ → Edge → List ℕ
edge_text i e = id_text i ++ end_text e.source ++ end_text e.target ++ label_text e.label e.mark

-- the line of slot i, where it is live
unfoldable pub slot_text : {A : Type 0} → (ℕ → A → List ℕ) → ℕ → Slot A → List ℕ
slot_text item i free = []
slot_text item i (live a) = item i a

-- the lines of the live slots of a table, whose first has number i
unfoldable pub table_text : {A : Type 0} → (ℕ → A → List ℕ) → ℕ → List (Slot A) → List ℕ
table_text item i [] = []
table_text item i (s ∷ slots) = slot_text item i s ++ table_text item (suc i) slots

unfoldable pub host_text : List (Slot Node) → List (Slot Edge) → List ℕ
host_text nodes edges = letters "[" ++ table_text node_text 0 nodes ++ letters "\n|" ++ table_text edge_text 0 edges ++ letters "\n]\n"
