-- The rule that a plan is of, and the slots that its left items are placed at: those of the first items, with one item that is
-- tried at a slot. Rests on the plan's Plan and on the meaning's Matching.
use Rattle.std.specs.Prelude.{◌≡◌, List, ℕ, ◌+◌, ◌<◌, ◌≤◌, length, get_or, eqb, ltb}
use Rattle.meaning.specs.Basics.{choose}
use Rattle.meaning.specs.Layout.{Host}
use Rattle.meaning.specs.Image.{Rule, most_items}
use Rattle.meaning.specs.Matching.{node_at, edge_at, left_nodes, total}
use Rattle.plan.specs.Plan.{Planned}

-- a plan, and the rule that it is of
pub record Known (bs plan : List ℕ) : Type 0 where
  pub rule : Rule
  pub planned : Planned bs rule plan

-- Slots. The first n items are nodes.

-- how many slots there are for item j
abbrev pub slots : Host → ℕ → ℕ → ℕ
slots h n j = choose (ltb j n) (length h.nodes) (length h.edges)

-- the label in slot x, for item j
abbrev pub label_at : Host → ℕ → ℕ → ℕ → List ℕ
label_at h n j x = choose (ltb j n) (node_at h x).label (edge_at h x).label

-- the first i slots are inside the tables
abbrev pub Inside : Host → ℕ → List ℕ → ℕ → Type 0
Inside h n at i = (j : ℕ) → j < i → get_or at j 0 < slots h n j

-- the slot of item j, where item i is tried at slot c
abbrev pub slot_of : List ℕ → ℕ → ℕ → ℕ → ℕ
slot_of at i c j = choose (eqb j i) c (get_or at j 0)

-- Placements.

-- those of the first items: their slots are those in the array, but for item i, which is tried at slot c
pub record Trial (h : Host) (bs plan at : List ℕ) (i c : ℕ) : Type 0 where
  pub rule : Rule
  pub planned : Planned bs rule plan
  pub room : length at ≡ most_items
  pub placed : List ℕ
  pub few : length placed ≤ total rule
  pub slot : (j : ℕ) → j < length placed → slot_of at i c j ≡ get_or placed j 0
  pub inside : (j : ℕ) → j < length placed → get_or placed j 0 < slots h (left_nodes rule) j

module _ (h : Host) (bs plan at : List ℕ) (i c : ℕ) where
  -- the item tried is the last of the placement
  pub record Tried : Type 0 where
    pub trial : Trial h bs plan at i c
    pub last : length trial.placed ≡ i + 1

  -- all items are placed
  pub record Full : Type 0 where
    pub trial : Trial h bs plan at i c
    pub whole : length trial.placed ≡ total trial.rule
