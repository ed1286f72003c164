-- The words of a host's slots, with what the spacing puts between them, are the host's text byte by byte. Rests on specs/Lines and on the
-- text's Spacing, Grammar and Text.
use mathlib.Core.Path.{◌≡◌, refl, ◌∙◌, ap}
use mathlib.Core.Bool.{Bool, true, false}
use mathlib.Core.List.{List, [], ◌∷◌, ◌++◌, map, append_assoc}
use Prim.Native.Nat.{ℕ, zero, suc, ◌-◌}
use lib.Dec.{ltb}
use Rattle.meaning.specs.Basics.{choose, either}
use Rattle.meaning.specs.Numbers.{half, whole}
use Rattle.meaning.specs.Layout.{Slot, free, live, Node, Edge}
use Rattle.writing.specs.Words.{letters, decimal, signed, minus as minus_byte}
use Rattle.text.specs.Words.{Word, name, sign, opening, closing, bar, left, right, comma, colon, minus}
use Rattle.text.specs.Spacing.{spell, opens, closes, before, gap, onward, text}
use Rattle.text.specs.Integers.{integer_of}
use Rattle.text.specs.Grammar.{all_then, maybe_then, integer_then, next_then, list_then, mark_then, label_then, root_then, node_then, edge_then, graph_words}
use Rattle.text.specs.Text.{node_item, edge_item, numbered, listed}
use Rattle.exporting.specs.Lines.{atoms_behind, atoms_text, mark_text, root_text, id_text, end_text, label_text, node_text, edge_text, slot_text, table_text, host_text}

-- what stands behind a name, whichever it is
abbrev behind : List Word → List ℕ
behind ws = onward (name []) ws

named : (r : List ℕ) (ws : List Word) → onward (name r) ws ≡ behind ws
unfolding onward gap
named r [] = refl
named r (name s ∷ ws) = refl
named r (sign d ∷ ws) = refl

-- Labels.

-- an integer behind a word that is as far from a minus as from a name
integer_spelled : (p : Word) (g : List ℕ) → gap p minus ≡ g → ((r : List ℕ) → gap p (name r) ≡ g) → (a : ℕ) (ws : List Word)
    → onward p (integer_then (integer_of a) ws) ≡ g ++ signed a ++ behind ws
unfolding onward gap opens either choose spell integer_then integer_of signed
integer_spelled p g e f a ws = at (ltb a half)
  where
    at : (b : Bool)
        → onward p (integer_then (choose b (record { negative = false; digits = decimal a }) (record { negative = true; digits = decimal (whole - a) })) ws)
        ≡ g ++ choose b (decimal a) (minus_byte ∷ decimal (whole - a)) ++ behind ws
    at true = rw (f (decimal a), named (decimal a) ws)
    at false = rw (e, named (decimal (whole - a)) ws) (simp append_assoc)

atoms_spelled : (l : List ℕ) (ws : List Word) → behind (all_then next_then (map integer_of l) ws) ≡ atoms_behind l ++ behind ws
unfolding all_then next_then atoms_behind onward gap before closes opens either choose spell letters
atoms_spelled [] ws = refl
atoms_spelled (a ∷ l) ws =
    rw (integer_spelled colon [] refl (λ r. refl) a (all_then next_then (map integer_of l) ws), atoms_spelled l ws) (simp append_assoc)

list_spelled : (l : List ℕ) (ws : List Word) → onward comma (list_then (map integer_of l) ws) ≡ letters " " ++ atoms_text l ++ behind ws
unfolding list_then atoms_text onward gap before closes opens either choose spell letters
list_spelled [] ws = rw (named (letters "empty") ws)
list_spelled (a ∷ l) ws =
    rw (integer_spelled comma (letters " ") refl (λ r. refl) a (all_then next_then (map integer_of l) ws), atoms_spelled l ws) (simp append_assoc)

mark_spelled : (m : ℕ) (ws : List Word) → behind (mark_then m (right ∷ ws)) ≡ mark_text m ++ letters ")" ++ onward right ws
unfolding mark_then mark_text onward gap before closes opens either choose spell letters
mark_spelled zero ws = refl
mark_spelled (suc m) ws = simp append_assoc

label_spelled : (l : List ℕ) (m : ℕ) (ws : List Word)
    → behind (comma ∷ label_then (record { atoms = map integer_of l; mark = m }) (right ∷ ws))
    ≡ label_text l m ++ onward right ws
unfolding label_then label_text onward gap before closes opens either choose spell letters
label_spelled l m ws = rw (list_spelled l (mark_then m (right ∷ ws)), mark_spelled m ws) (simp append_assoc)

-- Items.

root_spelled : (r : ℕ) (ws : List Word) → behind (root_then r (comma ∷ ws)) ≡ root_text r ++ behind (comma ∷ ws)
unfolding root_then root_text onward gap before closes opens either choose spell letters
root_spelled zero ws = refl
root_spelled (suc r) ws = refl

end_spelled : (n : ℕ) (ws : List Word) → behind (comma ∷ name (decimal n) ∷ ws) ≡ end_text n ++ behind ws
unfolding end_text onward gap before closes opens either choose spell letters
end_spelled n ws = rw (named (decimal n) ws)

-- behind the word an item begins a line of its own
abbrev Ends : Word → Type 0
Ends p = gap p left ≡ letters "\n  "

id_spelled : (p : Word) → Ends p → (i : ℕ) (ws : List Word) → onward p (left ∷ name (decimal i) ∷ ws) ≡ id_text i ++ behind ws
unfolding id_text onward gap opens either choose spell letters
id_spelled p e i ws = rw (e, named (decimal i) ws)

node_spelled : (p : Word) → Ends p → (i : ℕ) (n : Node) (ws : List Word)
    → onward p (node_then (node_item i n) ws) ≡ node_text i n ++ onward right ws
unfolding node_then node_item maybe_then node_text
node_spelled p e i n ws =
    rw (id_spelled p e i, root_spelled n.root, label_spelled n.label n.mark ws) (simp append_assoc)

edge_spelled : (p : Word) → Ends p → (i : ℕ) (e : Edge) (ws : List Word)
    → onward p (edge_then (edge_item i e) ws) ≡ edge_text i e ++ onward right ws
unfolding edge_then edge_item edge_text
edge_spelled p h i e ws =
    rw (id_spelled p h i, end_spelled e.source, end_spelled e.target, label_spelled e.label e.mark ws)
    (simp append_assoc)

-- Tables, and a word behind them that begins a line.

module _ {A B : Type 0} (item : ℕ → A → B) (item_then : B → List Word → List Word) (item_text : ℕ → A → List ℕ)
    (said : (p : Word) → Ends p → (i : ℕ) (a : A) (ws : List Word) → onward p (item_then (item i a) ws) ≡ item_text i a ++ onward right ws)
    (w : Word) (q : gap right w ≡ letters "\n") (ws : List Word)
  where
    table_spelled : (p : Word) → Ends p → gap p w ≡ letters "\n" → (i : ℕ) (slots : List (Slot A))
        → onward p (all_then item_then (numbered item i slots) (w ∷ ws)) ≡ table_text item_text i slots ++ letters "\n" ++ spell w ++ onward w ws
    unfolding all_then numbered table_text slot_text onward gap before closes opens either choose letters
    table_spelled p e f i [] = rw f
    table_spelled p e f i (free ∷ slots) = table_spelled p e f (suc i) slots
    table_spelled p e f i (live a ∷ slots) =
        said p e i a (all_then item_then (numbered item (suc i) slots) (w ∷ ws))
        ∙ ap (λ (l : List ℕ). item_text i a ++ l) (table_spelled right refl q (suc i) slots)
        ∙ simp append_assoc

-- a host
pub host_spelled : (nodes : List (Slot Node)) (edges : List (Slot Edge)) → text (graph_words (listed nodes edges)) ≡ host_text nodes edges
unfolding text graph_words host_text onward gap before closes opens either choose spell letters
host_spelled nodes edges =
    rw (
      table_spelled node_item node_then node_text node_spelled bar refl _ opening refl refl 0 nodes,
      table_spelled edge_item edge_then edge_text edge_spelled closing refl [] bar refl refl 0 edges,
    )
    (simp append_assoc)
