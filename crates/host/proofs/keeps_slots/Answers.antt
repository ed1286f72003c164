-- `keeps_slots` meets its contract: what the walk over the slots' numbers gives.
use Rattle.std.proofs.Common.{[], refl, ◌∙◌, ◌/◌, arith, get_or, length, rules, tests}
use Rattle.std.proofs.lemmas.Iterator.{YieldsList-from_range}
use Rattle.std.proofs.lemmas.Iterator.Search.{all_from_yields_List}
use Rattle.laws.specs.Pieces.{length-pieces}
use Rattle.meaning.specs.Layout.{read_nodes, cut}
use Rattle.laws.specs.Ranges.{every-below}
use Rattle.host.specs.Tables.{keeps_slot}
use Rattle.host.proofs.keeps_slots.Goals as goal

pub returns : goal.returns
returns c =
    let a = c.args in
    let w = c.slot_length-w.result in
    let f = keeps_slot a.l (read_nodes a.l a.nodes.now) a.which in
    let ps = cut w a.table.now in
    let n = length a.table.now / w in
    rw (← c.slot_length-w.ensures)
    (all_from_yields_List (λ i. f (get_or ps i [])) _ _ c.all.result c.all.ensures.ran (YieldsList-from_range 0 n n refl (omega arith)) (λ x b q k. search (rules, tests))
    ∙ every-below f (λ i. get_or ps i []) ps n [] (length-pieces w n a.table.now) (λ k h. refl))
