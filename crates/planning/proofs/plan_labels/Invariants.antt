-- `plan_labels` meets its contract. The loop's invariant: the labels before number j are labelled.
use Rattle.std.proofs.Common.{length}
use Rattle.meaning.specs.Image.{Rule}
use Rattle.planning.specs.Planning.{Named}
use Rattle.planning.proofs.Labelling.{Labelling}
use Rattle.planning.proofs.plan_labels.Given as goal

abbrev pub invariant-loop-j : goal.invariant-loop-j
invariant-loop-j l = (r : Rule) → Named l.rule r l.initial.plan (length r.variables) → Labelling l.rule r l.plan l.j
