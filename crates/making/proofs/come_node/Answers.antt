-- `making::come_node` meets its contract.
use Rattle.std.proofs.Common.{arith}
use Rattle.fields.specs.Parsed.{rule_node-is}
use Rattle.making.proofs.Items.{node-there, node-fine, node-stored, come-mark, come-root}
use Rattle.making.proofs.come_node.Goals as goal

pub unwrap-label-requires : goal.unwrap-label-requires
unwrap-label-requires c = node-there c.item_value.result c.item_value.ensures.1 c.requires.comes.made

pub bounds-p-0 : goal.bounds-p-0
bounds-p-0 c = omega (arith, (rule_node-is _ _ c.requires.comes.made.is).long)

pub bounds-p-1 : goal.bounds-p-1
bounds-p-1 c = omega (arith, (rule_node-is _ _ c.requires.comes.made.is).long)

pub add_node-requires-clause-legal_node : goal.add_node-requires-clause-legal_node
add_node-requires-clause-legal_node c =
    node-fine c.item_value.result c.item_value.ensures.1 _ c.unwrap-label.ensures c.requires.comes.made _ _ (come-mark c.requires.comes) (come-root c.requires.comes)

pub returns-clause-leads : goal.returns-clause-leads
returns-clause-leads c =
    λ w. node-stored c.item_value.result c.item_value.ensures.1 _ c.unwrap-label.ensures w.made _ _ (come-mark w) (come-root w) _ _ c.add_node.ensures.1
