-- `label_value` meets its contract. The loop's invariant: the elements passed have the atoms so far, and the rest spells the
-- others. The measure is the rest's length.
use Rattle.std.proofs.Common.{length}
use Rattle.meaning.specs.Image.{label}
use Rattle.labels.specs.Labels.{atoms_in}
use Rattle.parts.specs.Series.{For}
use Rattle.values.specs.Values.{values_of, Short}
use Rattle.values.specs.Laws.{Valuing}
use Rattle.values.proofs.label_value.Given as goal

abbrev pub invariant-loop-e : goal.invariant-loop-e
invariant-loop-e here =
    Short here.most here.so_far × For (label here.p) (λ l. Valuing here.most (values_of here.values.lens here.values.atoms) l here.rest (atoms_in here.so_far))

abbrev pub decreases-loop-e : goal.decreases-loop-e
decreases-loop-e l = length l.rest
