-- Left sides that are determined from their root, step by step: the root is known; of a known edge both ends are; an edge is known where
-- one of its ends is and the rule deletes that end and has no other edge that leaves (or reaches) it, by the dangling condition; and
-- where the graph has one edge out of each node, an edge is known where its source is. A rule of such a left side has one match at
-- most in a graph of at most one root. Rests on OneRoot and OneOut.
use Rattle.std.specs.Prelude.{◌≡◌, Bool, true, ℕ, ◌<◌, ◌≤◌, length}
use Rattle.meaning.specs.Image.{Rule}
use Rattle.published.specs.Graphs.{Graph}
use Rattle.published.specs.RuleApplication.{node_of, edge_of}
use Rattle.published.specs.Families.OneRoot.{OneRoot}
use Rattle.published.specs.Families.OneOut.{OneOut}

module _ (r : Rule) where
  abbrev pub LeftEdge : ℕ → Type 0
  LeftEdge k = k < length r.left.edges

  -- the ends of left edge k
  abbrev pub source_of : ℕ → ℕ
  source_of k = (edge_of r.left k).source

  abbrev pub target_of : ℕ → ℕ
  target_of k = (edge_of r.left k).target

  -- the rule deletes left node i
  abbrev pub Gone : ℕ → Type 0
  Gone i = (r.interface ≤ i) × (i < length r.left.nodes)

  -- what is known; `out` says whether the graph is known to have one edge out of each node
  module _ (out : Bool) where
    mutual
      pub data KnownNode : ℕ → Type 0 where
        root : (i : ℕ) → i < length r.left.nodes → (node_of r.left i).root ≡ 1 → KnownNode i
        source : (i k : ℕ) → KnownEdge k → source_of k ≡ i → KnownNode i
        target : (i k : ℕ) → KnownEdge k → target_of k ≡ i → KnownNode i

      pub data KnownEdge : ℕ → Type 0 where
        leaving : (k : ℕ) → out ≡ true → LeftEdge k → KnownNode (source_of k) → KnownEdge k
        leaving_deleted : (k : ℕ) → LeftEdge k → Gone (source_of k) → ((j : ℕ) → LeftEdge j → source_of j ≡ source_of k → j ≡ k)
            → KnownNode (source_of k) → KnownEdge k
        reaching_deleted : (k : ℕ) → LeftEdge k → Gone (target_of k) → ((j : ℕ) → LeftEdge j → target_of j ≡ target_of k → j ≡ k)
            → KnownNode (target_of k) → KnownEdge k

    pub record Determined : Type 0 where
      pub nodes : (i : ℕ) → i < length r.left.nodes → KnownNode i
      pub edges : (k : ℕ) → LeftEdge k → KnownEdge k

-- and one that walks along edges is where one edge at most leaves each node
abbrev pub OneWay : Graph → Type 0
OneWay G = OneRoot G × OneOut G
