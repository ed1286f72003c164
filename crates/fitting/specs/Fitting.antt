-- What is known of a slot for a left item by the slot alone, which host edges can stand for a left edge, and the slots of nodes
-- that go. Rests on agreeing's Placed and Candidates and on the meaning's FirstMatch.
use Rattle.std.specs.Prelude.{◌≡◌, Bool, true, false, List, ℕ, ◌+◌, ◌<◌, ◌≤◌, length, get_or, eqb, leb}
use Rattle.meaning.specs.Basics.{both, either}
use Rattle.meaning.specs.Layout.{Host, live_at}
use Rattle.meaning.specs.Image.{Rule, most_items}
use Rattle.meaning.specs.Matching.{node_at, edge_at, left_nodes, left_edges, left_node, left_edge, roots_agree, edge_runs}
use Rattle.meaning.specs.FirstMatch.{marks_agree, node_fits}
use Rattle.plan.specs.Plan.{label_of, edges_at, interface_at, nodes_at, plan_length}
use Rattle.agreeing.specs.Placed.{Trial}
use Rattle.agreeing.specs.Candidates.{Guessed}

-- What callers must know.

-- the item tried is the last of the placement, and left edge k is there
pub record TriedEdge (h : Host) (bs plan at : List ℕ) (i c k : ℕ) : Type 0 where
  pub trial : Trial h bs plan at i c
  pub last : length trial.placed ≡ i + 1
  pub there : k < left_edges trial.rule

-- the plan's numbers are the rule's
pub record Numbers (plan : List ℕ) (r : Rule) : Type 0 where
  pub nodes : get_or plan nodes_at 0 ≡ left_nodes r
  pub edges : get_or plan edges_at 0 ≡ left_edges r
  pub interface : get_or plan interface_at 0 ≡ r.interface

-- there is room for a plan's numbers and for the slots of all its items
pub record HasRoom (plan at : List ℕ) : Type 0 where
  pub numbers : length plan ≡ plan_length
  pub slots : length at ≡ most_items
  pub items : get_or plan nodes_at 0 + get_or plan edges_at 0 ≤ most_items

-- Edges.

-- host edge x can stand for left edge k, whose ends are at slots s and t, as far as its mark and ends go
abbrev pub joins_at : Host → Rule → ℕ → ℕ → ℕ → ℕ → Bool
joins_at h r k s t x = both (edge_runs h s t x) (marks_agree (left_edge r k).mark (edge_at h x).mark)

-- slot s or slot t is that of item j, which is not one of the first k
abbrev pub gone_at : ℕ → List ℕ → ℕ → ℕ → ℕ → Bool
gone_at k at s t j = both (leb k j) (either (eqb s (get_or at j 0)) (eqb t (get_or at j 0)))

-- Nodes by the slot alone.

module _ (h : Host) (r : Rule) where
  -- what is known of slot c for left node i by the slot alone
  pub record NodeLike (sort i c : ℕ) (b : Bool) : Type 0 where
    pub no : b ≡ false → (p : List ℕ) → node_fits h r p i c ≡ false
    pub live : b ≡ true → live_at h.nodes c ≡ true
    pub marks : b ≡ true → marks_agree (left_node r i).mark (node_at h c).mark ≡ true
    pub roots : b ≡ true → roots_agree r.preserving (left_node r i).root (node_at h c).root ≡ true
    pub label : b ≡ true → Guessed r sort (label_of r i) (node_at h c).label true

  -- the first such slot from c to n, or n
  pub record NextLike (sort i c n y : ℕ) : Type 0 where
    pub onward : c ≤ n → c ≤ y
    pub inside : c ≤ n → y ≤ n
    pub passed : (x : ℕ) → c ≤ x → x < y → (p : List ℕ) → node_fits h r p i x ≡ false
    pub like : y < n → NodeLike sort i y true
