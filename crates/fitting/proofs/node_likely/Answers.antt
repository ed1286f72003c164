-- `node_likely` meets its contract: each clause that hangs on the items placed by one test.
use Rattle.std.proofs.Common.{◌<◌, ◌≡◌, sym, ◌∙◌, length, take, arith}
use Rattle.meaning.specs.Layout.{Host, host_of}
use Rattle.meaning.specs.Matching.{left_nodes}
use Rattle.agreeing.specs.Placed.{Known, Tried}
use Rattle.fitting.proofs.Candidates.{left-node, node_candidate, used-node, unlinked, likely_node}
use Rattle.agreeing.specs.Trials.{before-length, tried_item}
use Rattle.fitting.proofs.node_likely.Goals as goal
use Rattle.fitting.proofs.node_likely.Goals.{Start, then-absent, else-absent}

abbrev host : (s : Start) → Host
host s = host_of s.args.host.now.layout s.args.host.now.nodes.now s.args.host.now.edges.now

abbrev Rule : (s : Start) → Type 0
Rule s = Known s.args.rule.now.bytes.now s.args.rule.now.plan.now

low : (s : Start) (w : Rule s) → s.args.trial.now.item < left_nodes w.rule
low s w = left-node w s.requires.i_bound.0

placed : (s : Start) → length (take s.args.trial.now.item s.args.trial.now.at.now) ≡ s.args.trial.now.item
placed s = let w = s.requires.known in before-length w s.args.trial.now.at.now s.args.trial.now.item s.requires.at_len.0 (omega (arith, low s w))

abbrev tried : (s : Start) → Rule s → Tried (host s) s.args.rule.now.bytes.now s.args.rule.now.plan.now s.args.trial.now.at.now s.args.trial.now.item s.args.trial.now.slot
tried s w =
    let k = s.requires.i_bound in
    tried_item _ _ _ _ w s.requires.at_len.0 _ _ s.requires.at_len.1 (node_candidate w _ _ k.0 k.1)

pub linked-requires : goal.linked-requires
linked-requires c = tried (goal.at.linked-requires c).Start c.requires.known

pub returns-then-linked : goal.returns-then-linked
returns-then-linked c =
    let s = (goal.at.returns-then-linked c).Start in
    λ w.
    elim c.if-absent.branch [
      | then-absent y ↦ likely_node _ _ _ _ _ _ (placed s) (low s w) (c.requires.node_like w)
          (sym c.absent.ensures ∙ y.if-absent.true)
          (sym (y.linked.ensures (tried s w)) ∙ sym y.value-is ∙ c.if-linked.true)
          _ (c.can_go.ensures w.rule w.planned.laid)
      | else-absent y ↦ absurd (cc)
    ]

pub returns-else-linked : goal.returns-else-linked
returns-else-linked c =
    let s = (goal.at.returns-else-linked c).Start in
    λ w.
    rw c.if-linked.false
    (elim c.if-absent.branch [
      | then-absent y ↦ unlinked _ _ _ _ _ _ (placed s) (low s w) (sym (y.linked.ensures (tried s w)) ∙ sym y.value-is ∙ c.if-linked.false)
      | else-absent y ↦ used-node _ _ _ _ _ _ (placed s) (low s w) (sym c.absent.ensures ∙ y.if-absent.false)
    ])
