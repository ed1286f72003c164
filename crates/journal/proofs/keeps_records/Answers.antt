-- `keeps_records` meets its contract: what the walk over the counted records' numbers gives.
use Rattle.std.proofs.Common.{◌/◌, [], refl, sym, ◌∙◌, arith, rules, tests, length, get_or}
use Rattle.std.proofs.lemmas.Bool.{lt-leb}
use Rattle.std.proofs.lemmas.Iterator.{YieldsList-from_range}
use Rattle.std.proofs.lemmas.Iterator.Search.{all_from_yields_List}
use Rattle.laws.specs.Pieces.{length-pieces}
use Rattle.meaning.specs.Layout.{keeps_record, pieces, cut}
use Rattle.laws.specs.Ranges.{every-below}
use Rattle.journal.proofs.Records.{counted-at, records-over, records-kept}
use Rattle.journal.proofs.keeps_records.Goals as goal

pub returns-then-count-journal : goal.returns-then-count-journal
returns-then-count-journal c =
    let a = c.args in
    let w = a.l.change in
    let f = keeps_record a.l (length a.nodes.now / a.l.node) (length a.edges.now / a.l.edge) in
    let p = pieces w a.count a.journal.now in
    records-kept a.l c.requires a.nodes.now a.edges.now a.journal.now a.count c.all.result c.if-count-journal.true
    (sym (all_from_yields_List (λ i. f (get_or (cut w a.journal.now) i [])) _ _ c.all.result c.all.ensures.ran (YieldsList-from_range 0 a.count a.count refl (omega arith)) (λ x b q k. search (rules, tests))
    ∙ every-below f (λ i. get_or (cut w a.journal.now) i []) p a.count [] (length-pieces w a.count a.journal.now) (λ k h. sym (counted-at w a.count k a.journal.now h c.if-count-journal.true))))

pub returns-else-count-journal : goal.returns-else-count-journal
returns-else-count-journal c =
    lt-leb _ _ c.if-count-journal.false
    ∙ records-over c.args.l c.requires c.args.nodes.now c.args.edges.now c.args.journal.now c.args.count c.if-count-journal.false
