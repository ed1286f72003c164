-- `making::come_edge` meets its contract.
use Rattle.std.proofs.Common.{arith}
use Rattle.fields.specs.Parsed.{rule_edge-is}
use Rattle.making.proofs.Items.{source_is, target_is, edge-there, edge-fine, edge-stored}
use Rattle.making.proofs.come_edge.Goals as goal

pub unwrap-label-requires : goal.unwrap-label-requires
unwrap-label-requires c = edge-there c.requires.joins c.item_value.result c.item_value.ensures.1

pub bounds-p-1 : goal.bounds-p-1
bounds-p-1 c = omega (arith, (rule_edge-is _ _ c.requires.joins.is).long)

pub bounds-places-from : goal.bounds-places-from
bounds-places-from c = let h = c.from.ensures in omega (arith, h, source_is c.requires.joins, c.requires.joins.inside.0)

pub bounds-p-2 : goal.bounds-p-2
bounds-p-2 c = omega (arith, (rule_edge-is _ _ c.requires.joins.is).long)

pub bounds-places-from-2 : goal.bounds-places-from-2
bounds-places-from-2 c = omega (arith, c.from-2.ensures, target_is c.requires.joins, c.requires.joins.inside.1)

pub bounds-p-0 : goal.bounds-p-0
bounds-p-0 c = omega (arith, (rule_edge-is _ _ c.requires.joins.is).long)

pub add_edge-requires-clause-legal_edge : goal.add_edge-requires-clause-legal_edge
add_edge-requires-clause-legal_edge c =
    edge-fine c.requires.joins c.item_value.result c.item_value.ensures.1 _ c.unwrap-label.ensures _ _ c.from.ensures c.from-2.ensures

pub returns-clause-leads : goal.returns-clause-leads
returns-clause-leads c =
    λ w. edge-stored w c.item_value.result c.item_value.ensures.1 _ c.unwrap-label.ensures _ _ c.from.ensures c.from-2.ensures _ _ c.add_edge.ensures.1
