-- `first_with` meets its contract. The loop's invariant: no item before this one has the variable.
use Rattle.std.proofs.Common.{false, [], ◌≡◌, ℕ, ◌<◌, get_or}
use Rattle.meaning.specs.FirstMatch.{has}
use Rattle.meaning.specs.References.{labels}
use Rattle.plan.specs.Plan.{For}
use Rattle.planning.proofs.first_with.Given as goal

abbrev pub invariant-loop-item : goal.invariant-loop-item
invariant-loop-item l = For l.rule.bytes.now l.rule.plan.now (λ r. (i : ℕ) → i < l.item → has l.v (get_or (labels r.left) i []) ≡ false)
