-- `node_like` meets its contract: each clause that the slot alone decides by one test.
use Rattle.std.proofs.Common.{sym, ◌∙◌}
use Rattle.fitting.proofs.Candidates.{left-node, node_candidate, marks-are, roots-are, free-slot, other-mark, other-root, like-label}
use Rattle.fitting.proofs.node_like.Goals as goal
use Rattle.fitting.proofs.node_like.Goals.{then-node_live, else-node_live, then-marks_agree, else-marks_agree}

pub label_likely-requires : goal.label_likely-requires
label_likely-requires c = node_candidate c.requires.known _ _ c.requires.i_bound.0 c.requires.i_bound.1

pub returns-then-roots_agree : goal.returns-then-roots_agree
returns-then-roots_agree c =
    λ w.
    elim c.if-marks_agree.branch [
      | then-marks_agree x ↦ elim c.if-node_live.branch [
        | then-node_live y ↦ like-label _ _ _ _ _ (left-node w c.requires.i_bound.0)
            (sym c.node_live.ensures ∙ y.if-node_live.true)
            (marks-are _ _ _ _ _ (c.requires.mark_value w).0 y.node_mark.ensures y.marks_agree.ensures ∙ sym y.value-is ∙ x.if-marks_agree.true)
            (roots-are _ _ _ _ _ _ _ (c.requires.mark_value w).2 (c.requires.mark_value w).1 x.node_root.ensures x.roots_agree.ensures ∙ sym x.value-is ∙ c.if-roots_agree.true)
            _ (c.label_likely.ensures w)
        | else-node_live y ↦ absurd (cc)
      ]
      | else-marks_agree x ↦ absurd (cc)
    ]

pub returns-else-roots_agree : goal.returns-else-roots_agree
returns-else-roots_agree c =
    λ w.
    rw c.if-roots_agree.false
    (elim c.if-marks_agree.branch [
      | then-marks_agree x ↦
          other-root _ _ _ _ _ (roots-are _ _ _ _ _ _ _ (c.requires.mark_value w).2 (c.requires.mark_value w).1 x.node_root.ensures x.roots_agree.ensures ∙ sym x.value-is ∙ c.if-roots_agree.false)
      | else-marks_agree x ↦ elim c.if-node_live.branch [
        | then-node_live y ↦ other-mark _ _ _ _ _ (marks-are _ _ _ _ _ (c.requires.mark_value w).0 y.node_mark.ensures y.marks_agree.ensures ∙ sym y.value-is ∙ x.if-marks_agree.false)
        | else-node_live y ↦ free-slot _ _ _ _ _ (sym c.node_live.ensures ∙ y.if-node_live.false)
      ]
    ])
