-- Chains, for is-tree: at most one root, at most one edge out of each node, and at most one start, a grey node that no edge
-- reaches; none where there is a root. A rule whose right side has no grey node makes no start.
-- Rests on OneRoot, OneOut and Whence.
use Rattle.std.specs.Prelude.{◌≡◌, ℕ}
use Rattle.meaning.specs.Image.{Rule}
use Rattle.meaning.specs.Tags.{any_mark}
use Rattle.meaning.specs.Laws.Every.{Every}
use Rattle.published.specs.Graphs.{Graph, Node}
use Rattle.published.specs.RuleApplication.{Arrives}
use Rattle.published.specs.Families.OneRoot.{OneRoot}
use Rattle.published.specs.Families.OneOut.{OneOut}

-- v is grey, and no edge reaches it
pub record Start (G : Graph) (v : ℕ) : Type 0 where
  pub node : Node G v
  pub grey : (G.node_label v).mark ≡ 4
  pub first : (e : ℕ) → Arrives G v e → ⊥

pub record Chain (G : Graph) : Type 0 where
  pub one_root : OneRoot G
  pub one_out : OneOut G
  pub one_start : (v w : ℕ) → Start G v → Start G w → v ≡ w
  pub no_start : (v w : ℕ) → Start G v → Node G w → (G.node_label w).root ≡ 1 → ⊥

-- Rules.

-- no right node is grey
abbrev pub NoGrey : Rule → Type 0
NoGrey r = Every (λ n. (n.mark ≡ any_mark → ⊥) × (n.mark ≡ 4 → ⊥)) r.right.nodes
