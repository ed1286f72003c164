-- `plan_tests` meets its contract. The loop's invariant: the tests before number t are decided, and the others stand at the
-- place.
use Rattle.std.proofs.Common.{◌≡◌}
use Rattle.meaning.specs.Image.{Rule}
use Rattle.planning.specs.Planning.{AllLabelled}
use Rattle.planning.proofs.Deciding.{Deciding}
use Rattle.planning.proofs.plan_tests.Given as goal

abbrev pub invariant-loop-field : goal.invariant-loop-field
invariant-loop-field l = (l.field-iterator.bytes.now ≡ l.tests) × ((r : Rule) → AllLabelled l.rule r l.initial.plan → Deciding l.rule r l.plan l.tests l.field-iterator.place l.t)
