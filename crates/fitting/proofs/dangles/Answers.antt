-- `dangles` meets its contract.
use Rattle.std.proofs.Common.{sym, ◌∙◌}
use Rattle.fitting.proofs.Dangling.{dangles-free, dangles-far, dangles_near}
use Rattle.fitting.proofs.dangles.Goals as goal
use Rattle.fitting.proofs.dangles.Goals.{then-edge_live, else-edge_live}

pub returns-then-touches_gone : goal.returns-then-touches_gone
returns-then-touches_gone c =
    elim c.if-edge_live.branch [
      | then-edge_live y ↦ λ r e.
          dangles_near _ r _ _ _ e _ c.edge_live.ensures y.if-edge_live.true _ _ y.edge_source.ensures y.edge_target.ensures _ y.touches_gone.ensures (sym y.value-is ∙ c.if-touches_gone.true)
          _ c.absent.ensures
      | else-edge_live y ↦ cc
    ]

pub returns-else-touches_gone : goal.returns-else-touches_gone
returns-else-touches_gone c =
    λ r e.
    rw c.if-touches_gone.false
    (elim c.if-edge_live.branch [
      | then-edge_live y ↦
          dangles-far _ r _ _ _ e _ c.edge_live.ensures y.if-edge_live.true _ _ y.edge_source.ensures y.edge_target.ensures _ y.touches_gone.ensures (sym y.value-is ∙ c.if-touches_gone.false)
      | else-edge_live y ↦ dangles-free _ r _ _ _ e _ c.edge_live.ensures y.if-edge_live.false
    ])
