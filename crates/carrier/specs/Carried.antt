-- An input of two tables carried to as many slots of another layout: from the bytes that are read to the bytes that are printed. Rests
-- on the meaning's Basics, Layout, Image, Calls and Carrying, and ProvedSet for a field's bytes; on run_input's Input; on writing's
-- Words and Lines.
use Rattle.std.specs.Prelude.{List, [], ◌∷◌, ◌++◌, ℕ, ◌*◌, ◌/◌, min, length, replicate, eqb, leb}
use Rattle.std.proofs.Math.Option.{Option, some, none}
use Rattle.meaning.specs.Basics.{choose, is_empty, ensure, ◌>>◌, ◌>>=◌}
use Rattle.meaning.specs.Layout.{Tables, node_length, edge_length}
use Rattle.meaning.specs.Image.{expect}
use Rattle.meaning.specs.Calls.{answer_number}
use Rattle.meaning.specs.Carrying.{Carried, lending_tables, carry}
use Rattle.meaning.specs.ProvedSet.{field_bytes}
use Rattle.meaning.specs.declared.Layout.{Layout}
use Rattle.meaning.specs.declared.Manner.TheVariants.{Exact}
use Rattle.run_input.specs.Input.{nodes_tag, edges_tag, most_input}
use Rattle.writing.specs.Words.{letters, decimal}
use Rattle.writing.specs.Lines.{line}

-- the two fields, each once in this order, and nothing behind
unfoldable pub tables_in : List ℕ → Option (Tables ℕ ℕ)
tables_in bs = do
  ensure (leb (length bs) most_input)
  nodes ← expect nodes_tag bs
  edges ← expect edges_tag nodes.rest
  ensure (is_empty edges.rest)
  some (record { nodes = nodes.payload; edges = edges.payload })

-- the bytes that they are read from
abbrev pub table_fields : List ℕ → List ℕ → List ℕ
table_fields nodes edges = field_bytes nodes_tag nodes ++ field_bytes edges_tag edges

-- the length of the table that one of slots of w bytes is carried to: slots of v bytes, as many as it has whole ones, but at most
-- so many
abbrev pub length_for : ℕ → List ℕ → ℕ → ℕ → ℕ
length_for w table v most = min (length table / w) most * v

-- after answer 0 the tables, else a line with the number
unfoldable pub carried_text : Carried → List ℕ
carried_text c =
    choose (eqb (answer_number c.answer) 0) (table_fields c.nodes c.edges)
    (line (letters "refused") (decimal (answer_number c.answer) ∷ []))

-- From layout L to layout M.

module _ (L M : Layout) where
  -- the tables are carried to tables of zeros
  unfoldable pub carried_tables : List ℕ → List ℕ → Carried
  carried_tables nodes edges =
      carry Exact L M
      (lending_tables nodes edges (replicate (length_for (node_length L) nodes (node_length M) M.nodes) 0)
      (replicate (length_for (edge_length L) edges (edge_length M) M.edges) 0))

  unfoldable pub printed : Option (Tables ℕ ℕ) → List ℕ
  printed none = letters "input refused\n"
  printed (some t) = carried_text (carried_tables t.nodes t.edges)

  unfoldable pub carried_input : List ℕ → List ℕ
  carried_input bs = printed (tables_in bs)
