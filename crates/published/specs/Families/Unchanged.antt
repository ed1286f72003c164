-- Rules that only test, and what stays in place. Where the right side of a rule is its left side and the interface all of its nodes, the graph itself is a
-- result of each match, so that every result is isomorphic to it. A set of such rules is steady relative to every invariant that
-- isomorphic graphs share. Rests on Steady and OneResult.
use Rattle.std.proofs.Math.Path.{◌≡◌}
use Rattle.std.specs.Prelude.{length}
use Rattle.meaning.specs.Image.{Rule}

-- the right side is the left side, and no node is deleted
pub record Unchanged (r : Rule) : Type 0 where
  pub same : r.right ≡ r.left
  pub whole : r.interface ≡ length r.left.nodes
