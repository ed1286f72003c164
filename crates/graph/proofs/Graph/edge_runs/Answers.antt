-- `edge_runs` meets its contract: what it tests of the edge, in the order of the definition.
use Rattle.std.proofs.Common.{sym, ◌∙◌}
use Rattle.std.proofs.lemmas.Bool.{false≢true}
use Rattle.meaning.specs.Basics.{both}
use Rattle.meaning.specs.Matching.{edge_runs}
use Rattle.graph.proofs.Graph.edge_runs.Goals as goal
use Rattle.graph.proofs.Graph.edge_runs.Goals.{then-edge_live, else-edge_live}

pub returns-then-edge_source-s : goal.returns-then-edge_source-s
unfolding edge_runs both
returns-then-edge_source-s c = elim c.if-edge_live.branch [
  | then-edge_live w ↦ rw (
    ← c.edge_live.ensures,
    ← w.edge_source.ensures,
    ← c.edge_target.ensures,
    w.if-edge_live.true,
    sym w.value-is ∙ c.if-edge_source-s.true,
  )
  | else-edge_live w ↦ absurd (false≢true (sym w.if-edge_live.false ∙ sym w.value-is ∙ c.if-edge_source-s.true))
]

pub returns-else-edge_source-s : goal.returns-else-edge_source-s
unfolding edge_runs both
returns-else-edge_source-s c = elim c.if-edge_live.branch [
  | then-edge_live w ↦ rw (
    c.if-edge_source-s.false,
    ← c.edge_live.ensures,
    ← w.edge_source.ensures,
    w.if-edge_live.true,
    sym w.value-is ∙ c.if-edge_source-s.false,
  )
  | else-edge_live w ↦ rw (c.if-edge_source-s.false, ← c.edge_live.ensures, w.if-edge_live.false)
]
