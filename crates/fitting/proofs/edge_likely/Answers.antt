-- `edge_likely` meets its contract: each clause of the definition but label and tests by one test, and what the label's length says.
use Rattle.std.proofs.Common.{◌<◌, ◌≤◌, ◌≡◌, sym, ◌∙◌, length, take, arith}
use Rattle.meaning.specs.Matching.{left_nodes, total}
use Rattle.agreeing.specs.Placed.{Known}
use Rattle.agreeing.specs.Trials.{before-length}
use Rattle.fitting.proofs.Candidates.{edge_candidate, joins-are, absent-is, unjoined, used-edge, likely_edge}
use Rattle.fitting.proofs.edge_likely.Goals as goal
use Rattle.fitting.proofs.edge_likely.Goals.{Start, then-joins, else-joins}

abbrev Rule : (s : Start) → Type 0
Rule s = Known s.args.rule.now.bytes.now s.args.rule.now.plan.now

high : (s : Start) (w : Rule s) → left_nodes w.rule ≤ s.args.trial.now.item
high s w = omega (arith, w.planned.laid.items.nodes, s.requires.nodes_at_bound.0)

there : (s : Start) (w : Rule s) → s.args.trial.now.item < total w.rule
there s w = let q = w.planned.laid.items in omega (arith, q.nodes, q.edges, s.requires.nodes_at_bound.1)

placed : (s : Start) → length (take s.args.trial.now.item s.args.trial.now.at.now) ≡ s.args.trial.now.item
placed s = let w = s.requires.known in before-length w s.args.trial.now.at.now s.args.trial.now.item s.requires.at_len.0 (there s w)

pub label_likely-requires : goal.label_likely-requires
label_likely-requires c =
    let k = c.requires.nodes_at_bound in
    edge_candidate c.requires.known _ _ k.0 k.1 k.2

pub returns-then-absent : goal.returns-then-absent
returns-then-absent c =
    let s = (goal.at.returns-then-absent c).Start in
    λ w.
    let e = c.requires.s_value w in
    elim c.if-joins.branch [
      | then-joins y ↦ likely_edge _ _ _ _ _ _ (placed s) (high s w) (there s w)
          (joins-are w _ _ _ _ _ _ _ e.0 e.1 (c.joins.ensures w.rule w.planned.laid) ∙ y.if-joins.true)
          (absent-is w _ _ _ y.absent.ensures ∙ sym y.value-is ∙ c.if-absent.true)
          _ (c.label_likely.ensures w)
      | else-joins y ↦ absurd (cc)
    ]

pub returns-else-absent : goal.returns-else-absent
returns-else-absent c =
    let s = (goal.at.returns-else-absent c).Start in
    λ w.
    let e = c.requires.s_value w in
    rw c.if-absent.false
    (elim c.if-joins.branch [
      | then-joins y ↦ used-edge _ _ _ _ _ _ (placed s) (high s w) (there s w) (absent-is w _ _ _ y.absent.ensures ∙ sym y.value-is ∙ c.if-absent.false)
      | else-joins y ↦ unjoined _ _ _ _ _ _ (placed s) (high s w) (there s w) (joins-are w _ _ _ _ _ _ _ e.0 e.1 (c.joins.ensures w.rule w.planned.laid) ∙ y.if-joins.false)
    ])
