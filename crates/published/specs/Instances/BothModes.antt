-- Document 003's Figure 3, on the left: a rule that makes a node a root, in both modes. On a graph whose nodes are all roots it has no
-- match where it reflects roots; where it preserves them it has one, and its result is the graph that was there, as 3.3 says: its
-- effect could be to do nothing. Rests on OneResult, Existence and Unchanged, and for a graph of two roots on TwoRoots.
use Rattle.std.specs.Prelude.{◌≡◌, Bool, [], ◌∷◌}
use Prim.Native.Nat.{ℕ}
use Rattle.meaning.specs.Tags.{none_mark}
use Rattle.meaning.specs.Image.{Rule}
use Rattle.published.specs.Graphs.{Graph, Node}

-- an unmarked, unlabelled node becomes a root
abbrev pub makes_root : Bool → Rule
makes_root preserving =
    record {
      variables = [];
      left = record { nodes = record { mark = none_mark; root = 0; label = [] } ∷ []; edges = [] };
      right = record { nodes = record { mark = none_mark; root = 1; label = [] } ∷ []; edges = [] };
      interface = 1;
      tests = [];
      preserving = preserving;
    }

abbrev pub AllRoots : Graph → Type 0
AllRoots G = (v : ℕ) → Node G v → (G.node_label v).root ≡ 1
