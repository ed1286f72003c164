-- `row_in` meets its contract.
use Rattle.commands.proofs.row_in.Goals as goal

pub returns-then-tag-eq-CALL : goal.returns-then-tag-eq-CALL
returns-then-tag-eq-CALL c = record { called = λ h. rw c.number_at.ensures.0 at c.procedure_part.ensures; itself = λ h. absurd (h c.if-tag-eq-CALL.true) }
