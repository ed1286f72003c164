-- `value` meets its contract: the first item that has the variable gives it its value.
use Rattle.std.proofs.Common.{sym, ◌∙◌, ap, length, drop, length-take, arith}
use Rattle.slots.specs.Laid.{laid}
use Rattle.agreeing.proofs.Parts.{item-low}
use Rattle.agreeing.proofs.Values.{on-left, first-inside, part-value}
use Rattle.agreeing.proofs.value.Goals as goal

pub slot_of-requires : goal.slot_of-requires
slot_of-requires c = (c.requires.trial.room, item-low (on-left c.requires))

pub item_label-a-requires : goal.item_label-a-requires
item_label-a-requires c = ((omega (arith, c.requires.trial.planned.laid.items.size), first-inside c.requires _ c.slot_of.ensures))

pub part_of-t-requires : goal.part_of-t-requires
part_of-t-requires c = record {
  on_left = on-left c.requires;
  len_le_most_atoms = omega (arith, c.count.ensures, c.item_label-a.ensures.1);
}

pub returns : goal.returns
returns c = (
  omega (arith, ap length c.part.ensures, length-take c.part_of-t.result.n (drop c.part_of-t.result.from (laid c.item_label-a.result.now)), c.part_of-t.ensures.0, c.count.ensures, c.item_label-a.ensures.1),
  λ w. c.part.ensures ∙ part-value w _ c.slot_of.ensures _ _ c.part_of-t.result.from c.part_of-t.result.n c.item_label-a.ensures.0 (sym c.count.ensures) (c.part_of-t.ensures.1 (on-left w)),
)
