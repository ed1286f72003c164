-- The invariant 'at most one edge leaves each node'. A rule keeps it if each of its right edges stands for a left one with the same
-- source, which the rule keeps. Two matches that agree on the source of a left edge agree on the edge. Rests on Isomorphism and
-- OneResult.
use Rattle.std.specs.Prelude.{◌≡◌, ℕ, ◌<◌, length}
use Rattle.meaning.specs.Image.{Rule}
use Rattle.published.specs.Graphs.{Graph, Edge}
use Rattle.published.specs.RuleApplication.{edge_of}

-- at most one edge leaves each node
abbrev pub OneOut : Graph → Type 0
OneOut G = (e f : ℕ) → Edge G e → Edge G f → G.source e ≡ G.source f → e ≡ f

-- right edge k stands for left edge k: its source is the same and stays
abbrev pub EdgesKept : Rule → Type 0
EdgesKept r =
    (k : ℕ) → k < length r.right.edges
    → (k < length r.left.edges) × ((edge_of r.right k).source ≡ (edge_of r.left k).source) × ((edge_of r.right k).source < r.interface)
