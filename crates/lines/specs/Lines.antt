-- The lines of a listing: of an answer, of a live node and of a live edge, and those of an outcome. Rests on the meaning's Layout
-- and on writing's Words and Lines.
use Rattle.std.specs.Prelude.{List, [], ◌∷◌, ◌++◌, map, ℕ, suc, take, drop, eqb}
use Rattle.meaning.specs.Basics.{choose}
use Rattle.meaning.specs.Numbers.{number}
use Rattle.meaning.specs.Layout.{Slot, free, live, Node, Edge, read_nodes, read_edges}
use Rattle.meaning.specs.declared.Layout.{Layout}
use Rattle.writing.specs.Words.{letters, decimal, signed, mark_name, root_name}
use Rattle.writing.specs.Lines.{line}

-- answer, steps, records
abbrev pub answer_line : ℕ → ℕ → ℕ → List ℕ
answer_line answer steps records =
    line (letters "answer") (decimal answer ∷ letters "steps" ∷ decimal steps ∷ letters "records" ∷ decimal records ∷ [])

-- slot, mark, root or plain, atoms
unfoldable pub node_line : ℕ → Node → List ℕ
node_line slot n = line (letters "node") (decimal slot ∷ mark_name n.mark ∷ root_name n.root ∷ map signed n.label)

-- slot, source, target, mark, atoms
unfoldable pub edge_line : ℕ → Edge → List ℕ
edge_line slot e =
    line (letters "edge") (decimal slot ∷ decimal e.source ∷ decimal e.target ∷ mark_name e.mark ∷ map signed e.label)

-- the line of slot i of a table, where it is live
unfoldable pub slot_line : {A : Type 0} → (ℕ → A → List ℕ) → ℕ → Slot A → List ℕ
slot_line to_line i free = []
slot_line to_line i (live a) = to_line i a

-- the lines of the live slots of a table, whose first has number i
unfoldable pub live_lines : {A : Type 0} → (ℕ → A → List ℕ) → ℕ → List (Slot A) → List ℕ
live_lines to_line i [] = []
live_lines to_line i (slot ∷ slots) = slot_line to_line i slot ++ live_lines to_line (suc i) slots

-- live nodes, then live edges
abbrev pub graph_lines : Layout → List ℕ → List ℕ → List ℕ
graph_lines L nodes edges = live_lines node_line 0 (read_nodes L nodes) ++ live_lines edge_line 0 (read_edges L edges)

-- The outcome of a run: its answer and its report, and after answer 0 only the graph.

-- steps and records, four bytes each
abbrev pub report_size : ℕ
report_size = 8

unfoldable pub outcome : Layout → ℕ → List ℕ → List ℕ → List ℕ → List ℕ
outcome L answer report nodes edges =
    answer_line answer (number (take 4 report)) (number (take 4 (drop 4 report))) ++ choose (eqb answer 0) (graph_lines L nodes edges) []
