-- The words of a line, one writer after the other, are the line; and the lines, one after the other, are the outcome.
-- Rests on specs/Lines, specs/Rooms and writing's Laws/Rows.
use mathlib.Core.Path.{◌≡◌, sym}
use mathlib.Core.List.{List, [], ◌∷◌, append-nil, map}
use Prim.Native.Nat.{ℕ, ◌+◌, ◌≤◌}
use native.Mathlib.Omega.{arith}
use lib.ListN.{take, drop}
use Rattle.meaning.specs.Numbers.{number}
use Rattle.meaning.specs.Layout.{Node, Edge, read_nodes, read_edges}
use Rattle.meaning.specs.declared.Layout.{Layout}
use Rattle.meaning.specs.Laws.Tests.{choose_eq, choose_ne}
use Rattle.writing.specs.Words.{letters, line_feed, space, decimal, signed, mark_name, root_name, number_size, mark_size, root_size, label_size}
use Rattle.writing.specs.Lines.{onward}
use Rattle.writing.specs.Text.{Adds}
use Rattle.writing.specs.Laws.Rows.{within, saying, then, word}
use Rattle.lines.specs.Lines.{answer_line, node_line, edge_line, live_lines, graph_lines, outcome}
use Rattle.lines.specs.Rooms.{answer_size, node_size, edge_size, listing_room}

-- Lines.

module _ {b0 b1 b2 b3 b4 b5 : List ℕ} {at p1 p2 p3 p4 p5 : ℕ} where
  pub node-said : (x mark root : ℕ) (label : List ℕ) (n : Node) → mark ≡ n.mark → root ≡ n.root → label ≡ n.label
      → Adds 4 (letters "node") b0 at b1 p1
      → Adds number_size (space ∷ decimal x) b1 p1 b2 p2
      → Adds mark_size (space ∷ mark_name mark) b2 p2 b3 p3
      → Adds root_size (space ∷ root_name root) b3 p3 b4 p4
      → Adds label_size (onward (map signed label)) b4 p4 b5 p5
      → Adds node_size (node_line x n) b0 at b5 p5
  unfolding node_line
  node-said x mark root label n e f g a b c d l =
      rw (← e, ← f, ← g)
      (then a
      (word (mark_name mark ∷ root_name root ∷ map signed label) b (word (root_name root ∷ map signed label) c (word (map signed label) d l))))

  module _ {b6 : List ℕ} {p6 : ℕ} where
    pub edge-said : (x source target mark : ℕ) (label : List ℕ) (e : Edge) → source ≡ e.source → target ≡ e.target → mark ≡ e.mark → label ≡ e.label
        → Adds 4 (letters "edge") b0 at b1 p1
        → Adds number_size (space ∷ decimal x) b1 p1 b2 p2
        → Adds number_size (space ∷ decimal source) b2 p2 b3 p3
        → Adds number_size (space ∷ decimal target) b3 p3 b4 p4
        → Adds mark_size (space ∷ mark_name mark) b4 p4 b5 p5
        → Adds label_size (onward (map signed label)) b5 p5 b6 p6
        → Adds edge_size (edge_line x e) b0 at b6 p6
    unfolding edge_line
    edge-said x source target mark label e i j k g a b c d f l =
        rw (← i, ← j, ← k, ← g)
        (then a
        (word (decimal source ∷ decimal target ∷ mark_name mark ∷ map signed label) b
        (word (decimal target ∷ mark_name mark ∷ map signed label) c (word (mark_name mark ∷ map signed label) d (word (map signed label) f l)))))

    module _ {b7 : List ℕ} {p7 : ℕ} where
      pub answer-said : (answer steps records s r : ℕ) → steps ≡ s → records ≡ r
          → Adds 6 (letters "answer") b0 at b1 p1
          → Adds number_size (space ∷ decimal answer) b1 p1 b2 p2
          → Adds 6 (space ∷ letters "steps") b2 p2 b3 p3
          → Adds number_size (space ∷ decimal steps) b3 p3 b4 p4
          → Adds 8 (space ∷ letters "records") b4 p4 b5 p5
          → Adds number_size (space ∷ decimal records) b5 p5 b6 p6
          → Adds 1 (line_feed ∷ []) b6 p6 b7 p7
          → Adds answer_size (answer_line answer s r) b0 at b7 p7
      unfolding onward
      answer-said answer steps records s r i j a b c d e f g = rw (← i, ← j) (then a (then b (then c (then d (then e (then f g))))))

-- The outcome.

module _ (L : Layout) (answer : ℕ) (report nodes edges : List ℕ) {b0 b1 : List ℕ} {p1 : ℕ}
    (a : Adds answer_size (answer_line answer (number (take 4 report)) (number (take 4 (drop 4 report)))) b0 0 b1 p1)
  where
    pub outcome-other : (answer ≡ 0 → ⊥) → Adds listing_room (outcome L answer report nodes edges) b0 0 b1 p1
    unfolding outcome
    outcome-other e =
        rw (choose_ne answer 0 (graph_lines L nodes edges) [] e)
        (within answer_size listing_room (omega arith)
        (saying _ _ (sym (append-nil (answer_line answer (number (take 4 report)) (number (take 4 (drop 4 report)))))) a))

    pub outcome-result : {b2 b3 : List ℕ} {p2 p3 m n : ℕ} → answer ≡ 0 → Adds m (live_lines node_line 0 (read_nodes L nodes)) b1 p1 b2 p2
        → Adds n (live_lines edge_line 0 (read_edges L edges)) b2 p2 b3 p3 → answer_size + m + n ≤ listing_room
        → Adds listing_room (outcome L answer report nodes edges) b0 0 b3 p3
    unfolding outcome
    outcome-result {m = m} {n = n} e b c h =
        rw (choose_eq answer 0 (graph_lines L nodes edges) [] e) (within (answer_size + (m + n)) listing_room (omega arith) (then a (then b c)))
