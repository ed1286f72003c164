-- `label_part` meets its contract.
use Rattle.parts.specs.Rows.{label-edge, label-node}
use Rattle.parts.proofs.label_part.Goals as goal
use Rattle.parts.proofs.label_part.Goals.{then-tag-eq-NODE, else-tag-eq-NODE}

pub returns : goal.returns
returns c =
    elim c.if-tag-eq-NODE.branch [
      | then-tag-eq-NODE w ↦ label-node _ _ _ w.if-tag-eq-NODE.true (rw w.behind-is at c.behind.ensures)
      | else-tag-eq-NODE w ↦ label-edge _ _ _ w.if-tag-eq-NODE.false (rw w.behind-is at c.behind.ensures)
    ]
