-- What the references say of a rule's interface and of the ends of its right edges. Rests on References.
use Rattle.std.specs.Prelude.{◌≡◌, true, ◌<◌, ◌≤◌, length}
use borrow.Author.Tests.{ltb-true, leb-true}
use Rattle.meaning.specs.Image.{Rule}
use Rattle.meaning.specs.References.{interface_fits, ends_exist, rule_holds}
use Rattle.meaning.specs.Matching.{left_nodes}
use Rattle.meaning.specs.Laws.Tests.{both_true, clauses-true}
use Rattle.meaning.specs.Laws.Every.{Every, Every-true}

module _ (r : Rule) (holds : rule_holds r ≡ true) where
  -- the interface is at most both node counts
  pub interface-left : r.interface ≤ left_nodes r
  unfolding rule_holds interface_fits
  interface-left = leb-true _ _ (both_true _ _ (clauses-true _ holds 4)).0

  pub interface-right : r.interface ≤ length r.right.nodes
  unfolding rule_holds interface_fits
  interface-right = leb-true _ _ (both_true _ _ (clauses-true _ holds 4)).1

  -- a right edge's ends are right nodes
  pub right-ends : Every (λ e. (e.source < length r.right.nodes) × (e.target < length r.right.nodes)) r.right.edges
  unfolding rule_holds ends_exist
  right-ends =
      Every-true _ _ (λ e q. let t = both_true _ _ q in (ltb-true _ _ t.0, ltb-true _ _ t.1)) r.right.edges
      (clauses-true _ holds 2)
