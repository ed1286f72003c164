-- What the plan of a rule says of its left items.
use Prim.Native.Nat.{ℕ, ◌+◌, ◌-◌, ◌≤◌, ◌<◌}
use mathlib.Core.Path.{◌≡◌, sym}
use mathlib.Core.List.{List}
use native.Mathlib.Omega.{arith}
use lib.ListN.{length, take, get_or}
use lib.Seq.{get_or-take}
use Rattle.meaning.specs.Image.{limits}
use Rattle.meaning.specs.Matching.{left_nodes, left_edges, total, left_edge, node_slot}
use Rattle.laws.specs.References.{ends}
use Rattle.meaning.specs.declared.Layout.{Layout}
use Rattle.plan.specs.Plan.{HasItem, HasEdge, edges_at, nodes_at}
use Rattle.agreeing.specs.Placed.{Known}
use Rattle.matching.specs.Next.{Ready}

module _ (bs plan : List ℕ) (w : Known bs plan) where
  pub nodes-of : get_or plan nodes_at 0 ≡ left_nodes w.rule
  nodes-of = w.planned.laid.items.nodes

  pub edges-of : get_or plan edges_at 0 ≡ left_edges w.rule
  edges-of = w.planned.laid.items.edges

  pub few-each : (get_or plan nodes_at 0 ≤ limits.nodes) × (get_or plan edges_at 0 ≤ limits.edges)
  few-each = (
    omega (arith, nodes-of, w.planned.laid.items.few_nodes),
    omega (arith, edges-of, w.planned.laid.items.few_edges),
  )

  pub levels-of : get_or plan nodes_at 0 + get_or plan edges_at 0 ≡ total w.rule
  levels-of = omega (arith, nodes-of, edges-of)

  pub has-edge : (k : ℕ) → k < get_or plan edges_at 0 → HasEdge bs plan k
  has-edge k h = record { tree = w.rule; laid = w.planned.laid; there = omega (arith, edges-of) }

  pub has-item : (k : ℕ) → k < get_or plan edges_at 0 → HasItem bs plan (get_or plan nodes_at 0 + k)
  has-item k h = record { tree = w.rule; laid = w.planned.laid; there = omega (arith, nodes-of, edges-of) }

  -- the ends of a left edge are left nodes
  pub few-ends : (k : ℕ) → k < get_or plan edges_at 0
      → ((left_edge w.rule k).source < get_or plan nodes_at 0) × ((left_edge w.rule k).target < get_or plan nodes_at 0)
  few-ends k h =
      let e = ends w.rule w.planned.laid.holds k (omega (arith, edges-of)) in
      (omega (arith, e.0, nodes-of), omega (arith, e.1, nodes-of))

  -- the slots of the ends of the left edge that is item i
  module _ (at : List ℕ) (i : ℕ) (low : get_or plan nodes_at 0 ≤ i) (high : i < get_or plan nodes_at 0 + get_or plan edges_at 0) where
    pub source-slot : (a : ℕ) → a ≡ (left_edge w.rule (i - get_or plan nodes_at 0)).source
        → get_or at a 0 ≡ node_slot (take i at) (left_edge w.rule (i - left_nodes w.rule)).source
    source-slot a e =
        rw (e, ← nodes-of) (sym (get_or-take i at _ 0 (omega (arith, (few-ends (i - get_or plan nodes_at 0) (omega arith)).0))))

    pub target-slot : (a : ℕ) → a ≡ (left_edge w.rule (i - get_or plan nodes_at 0)).target
        → get_or at a 0 ≡ node_slot (take i at) (left_edge w.rule (i - left_nodes w.rule)).target
    target-slot a e =
        rw (e, ← nodes-of) (sym (get_or-take i at _ 0 (omega (arith, (few-ends (i - get_or plan nodes_at 0) (omega arith)).1))))

-- a level is inside the array
pub level-room : {L : Layout} {nodes edges bs plan at : List ℕ} {i : ℕ} → Ready L nodes edges bs plan at i
    → i < get_or plan nodes_at 0 + get_or plan edges_at 0 → i < length at
level-room r h = omega (arith, r.room, few-each _ _ r.known)
