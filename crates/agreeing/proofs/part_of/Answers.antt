-- `part_of` meets its contract: the part is cut where the label ends.
use Rattle.std.proofs.Common.{refl, sym, arith}
use Rattle.agreeing.proofs.Parts.{item-low, item-counted, item-simple, place-low, takes-cut}
use Rattle.agreeing.proofs.part_of.Goals as goal

pub counts-requires : goal.counts-requires
counts-requires c = (c.requires.on_left.planned.laid.items.size, item-low c.requires.on_left)

pub spare-n-requires : goal.spare-n-requires
spare-n-requires c = item-simple c.requires.on_left _ c.counts.ensures.0 c.counts.ensures.1

pub overflow_mul-place : goal.overflow_mul-place
overflow_mul-place c = omega (arith, place-low c.requires.on_left c.spare-n.result (omega (arith, c.spare-n.ensures.0, c.requires.len_le_most_atoms)))

pub overflow_add-place-3 : goal.overflow_add-place-3
overflow_add-place-3 c = omega (arith, place-low c.requires.on_left c.spare-n.result (omega (arith, c.spare-n.ensures.0, c.requires.len_le_most_atoms)))

pub returns : goal.returns
returns c = (omega arith, λ w. takes-cut w _ _ _ _ (c.spare-n.ensures.1 w.rule _ (item-counted w _ c.counts.ensures.0 c.counts.ensures.1)) (c.share-k.ensures.1 w.rule (sym (c.types.ensures w.rule w.planned.laid))) refl _ _ c.min-from.ensures c.min.ensures)
