-- `making::take_values` meets its contract.
use Rattle.std.proofs.Common.{◌≡◌, ◌∙◌, arith}
use Rattle.fields.specs.Parsed.{rule_node-is}
use Rattle.slots.specs.Held.{node-held}
use Rattle.making.specs.Making.{Takes}
use Rattle.making.proofs.Items.{node-there, node-fine, node-stored, mark-kept, mark-given, root-stays, root-given}
use Rattle.making.proofs.take_values.Goals as goal
use Rattle.making.proofs.take_values.Goals.{then-p-eq-ANY, else-p-eq-ANY, then-keeps, else-keeps, Joined-keeps}

pub unwrap-label-requires : goal.unwrap-label-requires
unwrap-label-requires c = node-there c.item_value.result c.item_value.ensures.1 c.requires.takes.made

pub bounds-p-0 : goal.bounds-p-0
bounds-p-0 c = omega (arith, (rule_node-is _ _ c.requires.takes.made.is).long)

pub bounds-p-0-else-p-eq-ANY : goal.bounds-p-0-else-p-eq-ANY
bounds-p-0-else-p-eq-ANY c = omega (arith, (rule_node-is _ _ c.requires.takes.made.is).long)

pub bounds-p-1 : goal.bounds-p-1
bounds-p-1 c = omega (arith, (rule_node-is _ _ c.requires.takes.made.is).long)

-- the mark and the root flag that the node takes
module _ (c : Joined-keeps) (w : Takes c.args.l c.args.nodes.now c.args.p.now c.args.keeps c.args.values.now.lens c.args.values.now.atoms c.args.x) where
  mark_is : c.if-p-eq-ANY.mark ≡ w.made.node.mark
  mark_is =
      let h = node-held c.requires.held.sized c.args.nodes.now c.args.x w.alive _ c.slot-before.ensures.0 in
      elim c.if-p-eq-ANY.branch [
        | then-p-eq-ANY b ↦ b.mark-is ∙ b.mark-mark.ensures ∙ mark-kept w h b.if-p-eq-ANY.true
        | else-p-eq-ANY b ↦ b.mark-is ∙ mark-given w h b.if-p-eq-ANY.false
      ]

  root_is : c.if-keeps.root ≡ w.made.node.root
  root_is =
      let h = node-held c.requires.held.sized c.args.nodes.now c.args.x w.alive _ c.slot-before.ensures.0 in
      elim c.if-keeps.branch [
        | then-keeps b ↦ b.root-is ∙ b.root-root.ensures ∙ root-stays w h b.if-keeps.true
        | else-keeps b ↦ b.root-is ∙ root-given w h b.if-keeps.false
      ]

pub store_node-requires-clause-legal_node : goal.store_node-requires-clause-legal_node
store_node-requires-clause-legal_node c =
    let j = (goal.at.store_node-requires-clause-legal_node c).Joined-keeps in
    node-fine c.item_value.result c.item_value.ensures.1 _ c.unwrap-label.ensures c.requires.takes.made _ _ (mark_is j c.requires.takes) (root_is j c.requires.takes)

pub returns : goal.returns
returns c = λ w.
    let j = (goal.at.returns c).Joined-keeps in
    node-stored c.item_value.result c.item_value.ensures.1 _ c.unwrap-label.ensures w.made _ _ (mark_is j w) (root_is j w) _ _ c.store_node.ensures
