-- What the program text_graph prints of a text: the export of its import, which is the same graph in the one spacing, or the refusal; where
-- the text is outside the grammar, with the line and the column at which it breaks. Rests on the text's Text and Breaks and on writing's Lines.
use Rattle.std.specs.Prelude.{List, [], ◌∷◌, ℕ, ◌*◌, length, take, replicate, eqb, leb}
use Rattle.meaning.specs.Basics.{choose}
use Rattle.meaning.specs.Layout.{base, node_length, edge_length}
use Rattle.meaning.specs.Calls.{answer_number, refusal_number}
use Rattle.meaning.specs.declared.Refusal.TheVariants.{BadText}
use Rattle.writing.specs.Words.{letters, decimal}
use Rattle.writing.specs.Lines.{line}
use Rattle.text.specs.Text.{Imported, Exported, import_text, export_text}
use Rattle.text.specs.Breaks.{break_place, line_of, column_of}

-- the most bytes of a text that the program reads
abbrev pub most_read : ℕ
most_read = 1048576

-- the bytes of its output buffer
abbrev pub out_room : ℕ
out_room = 262144

-- free tables of as many slots as there may be
abbrev pub free_nodes : List ℕ
free_nodes = replicate (base.nodes * node_length base) 0

abbrev pub free_edges : List ℕ
free_edges = replicate (base.edges * edge_length base) 0

abbrev pub refused_line : ℕ → List ℕ
refused_line n = line (letters "refused") (decimal n ∷ [])

-- the line of a text that breaks at a place
abbrev pub broken_line : List ℕ → ℕ → List ℕ
broken_line bs place =
    line (letters "refused")
    (decimal (refusal_number BadText)
    ∷ letters "line"
    ∷ decimal (line_of bs place)
    ∷ letters "column"
    ∷ decimal (column_of bs place)
    ∷ [])

-- an import's refusal
unfoldable pub refusal_text : List ℕ → ℕ → List ℕ
refusal_text bs n = choose (eqb n (refusal_number BadText)) (broken_line bs (break_place bs)) (refused_line n)

unfoldable pub exported_text : Exported → List ℕ
exported_text x = choose (eqb (answer_number x.answer) 0) (take x.length x.buffer) (refused_line (answer_number x.answer))

unfoldable pub imported_text : List ℕ → Imported → List ℕ
imported_text bs i =
    choose (eqb (answer_number i.answer) 0) (exported_text (export_text base i.nodes i.edges (replicate out_room 0)))
    (refusal_text bs (answer_number i.answer))

unfoldable pub respaced : List ℕ → List ℕ
respaced bs = choose (leb (length bs) most_read) (imported_text bs (import_text base bs free_nodes free_edges)) (letters "input refused\n")
