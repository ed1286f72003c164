-- What a writer leaves that counts every byte and writes those that the buffer has places for, and the most bytes of each part.
-- Rests on Lines and on writing's Words.
use Rattle.std.specs.Prelude.{◌≡◌, List, ℕ, ◌+◌, ◌*◌, ◌≤◌, length, get_or, drop}
use Rattle.std.proofs.lemmas.List.Edits.{sets}
use Rattle.meaning.specs.Layout.{free, most_atoms, read_nodes, read_edges}
use Rattle.meaning.specs.declared.Layout.{Layout}
use Rattle.meaning.specs.declared.Table.{Table}
use Rattle.meaning.specs.declared.Table.TheVariants.{Nodes, Edges}
use Rattle.writing.specs.Words.{most_digits}
use Rattle.exporting.specs.Lines.{node_text, edge_text, slot_text, table_text}

-- the buffer has the text from a place on, as far as it goes; the text, of at most so many bytes, ends at another place
pub record Puts (most : ℕ) (text before : List ℕ) (at : ℕ) (after : List ℕ) (end : ℕ) : Type 0 where
  pub written : after ≡ sets before at text
  pub ends : end ≡ at + length text
  pub short : end ≤ at + most

-- no text of a host is longer
abbrev pub most_text : ℕ
most_text = 0x40000000

-- The most bytes of each part. The numbers written out are the lengths of what is always the same.

abbrev pub digits_size : ℕ
digits_size = most_digits

-- with a minus
abbrev pub integer_size : ℕ
integer_size = 1 + digits_size

-- the first atom, and atoms with a colon before each
abbrev pub atoms_size : ℕ
atoms_size = integer_size + (1 + integer_size) * most_atoms

abbrev pub mark_size : ℕ
mark_size = 9

abbrev pub root_size : ℕ
root_size = 3

abbrev pub id_size : ℕ
id_size = 4 + digits_size

abbrev pub end_size : ℕ
end_size = 2 + digits_size

abbrev pub label_size : ℕ
label_size = 2 + atoms_size + mark_size + 1

abbrev pub node_size : ℕ
node_size = id_size + root_size + label_size

abbrev pub edge_size : ℕ
edge_size = id_size + end_size + end_size + label_size

abbrev pub item_size : Table → ℕ
item_size Nodes = node_size
item_size Edges = edge_size

-- as many slots as two bytes number
abbrev pub most_slots : ℕ
most_slots = 0x10000

-- few enough slots in a table, and atoms in a label, that no text is longer
pub record Few (L : Layout) : Type 0 where
  pub atoms : L.atoms ≤ most_atoms
  pub nodes : L.nodes ≤ most_slots
  pub edges : L.edges ≤ most_slots

module _ (L : Layout) (nodes edges : List ℕ) where
  -- the line of slot x, where it is live
  abbrev pub item_text : Table → ℕ → List ℕ
  item_text Nodes x = slot_text node_text x (get_or (read_nodes L nodes) x free)
  item_text Edges x = slot_text edge_text x (get_or (read_edges L edges) x free)

  -- the lines from slot x on
  abbrev pub items_from : Table → ℕ → List ℕ
  items_from Nodes x = table_text node_text x (drop x (read_nodes L nodes))
  items_from Edges x = table_text edge_text x (drop x (read_edges L edges))
