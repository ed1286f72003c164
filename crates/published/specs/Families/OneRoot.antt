-- The invariant 'at most one root'. A rule keeps it if its right side has at most one root, and has none where its left side has none;
-- so roots may move, go, and come back under a new name. Two matches agree on a left root. Rests on Whence.
use Rattle.std.specs.Prelude.{◌≡◌, List, [], ◌∷◌, ℕ, ◌+◌, ◌<◌, ◌≤◌, length}
use Rattle.meaning.specs.Image.{RuleNode, Rule}
use Rattle.published.specs.Graphs.{Graph, Node}
use Rattle.published.specs.RuleApplication.{node_of, Applies}

-- there is at most one root
abbrev pub OneRoot : Graph → Type 0
OneRoot G = (v w : ℕ) → Node G v → Node G w → (G.node_label v).root ≡ 1 → (G.node_label w).root ≡ 1 → v ≡ w

-- Counting roots.

module _ {A : Type 0} (f : A → ℕ) (d : A) where
  abbrev pub total : List A → ℕ
  total [] = 0
  total (x ∷ l) = f x + total l

-- how many roots a side of a rule has
abbrev pub node₀ : RuleNode
node₀ = record { mark = 0; root = 0; label = [] }

abbrev pub roots : List RuleNode → ℕ
roots l = total (λ n. n.root) node₀ l

-- the right side has at most one root, and none where the left side has none
pub record RootsKept (r : Rule) : Type 0 where
  pub most : roots r.right.nodes ≤ 1
  pub old : roots r.right.nodes ≤ roots r.left.nodes

-- Where the roots of a result come from, whatever the mode: a right root, or a root that was one, on which no left root is placed.
module _ (r : Rule) (G H : Graph) (a : Applies r G H) where
  -- v is where a left root is placed
  abbrev pub UnderRoot : ℕ → Type 0
  UnderRoot v = (i : ℕ) × (i < length r.left.nodes) × ((node_of r.left i).root ≡ 1) × (a.match.g.node i ≡ v)
