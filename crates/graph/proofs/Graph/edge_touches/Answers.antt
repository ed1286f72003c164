-- `edge_touches` meets its contract: an edge touches a slot that it leaves or arrives at.
use Rattle.std.proofs.Common.{◌≡◌, refl, Bool, true, false, ℕ}
use Rattle.meaning.specs.Basics.{both, either}
use Rattle.meaning.specs.Layout.{Host, live_at}
use Rattle.meaning.specs.Matching.{edge_leaves, edge_arrives, edge_touches}
use Rattle.graph.proofs.Graph.edge_touches.Goals as goal

both-either : (live a b : Bool) → both live (either a b) ≡ either (both live a) (both live b)
unfolding both either
both-either true a b = refl
both-either false a b = refl

touches : (h : Host) (c x : ℕ) → edge_touches h c x ≡ either (edge_leaves h c x) (edge_arrives h c x)
unfolding edge_touches edge_leaves edge_arrives
touches h c x = both-either (live_at h.edges x) _ _

pub returns-then-edge_leaves : goal.returns-then-edge_leaves
unfolding either
returns-then-edge_leaves c = rw (touches, ← c.edge_leaves.ensures, c.if-edge_leaves.true)

pub returns-else-edge_leaves : goal.returns-else-edge_leaves
unfolding either
returns-else-edge_leaves c = rw (touches, ← c.edge_leaves.ensures, c.if-edge_leaves.false) c.edge_arrives.ensures
