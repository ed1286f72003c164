use Rattle.std.proofs.Common.{sym, ◌∙◌, arith}
use Rattle.meaning.specs.declared.Table.TheVariants.{Edges}
use Rattle.importing.proofs.Places.{listed_at, every_more, every-found, every-all}
use Rattle.importing.proofs.names.all_ends_known.Goals as goal

pub returns-then-not-ends_known : goal.returns-then-not-ends_known
returns-then-not-ends_known c =
    let a = c.args in
    let i = c.loop-at.at-index in
    λ l w.
    every-found a.text.now Edges _ l a.edge_places.now w i (c.loop-at.invariant l w) (omega arith)
    (sym (c.ends_known.ensures _ (listed_at a.text.now Edges l a.edge_places.now w i (omega arith))) ∙ c.if-not-ends_known.true)

pub loop-at-preserved : goal.loop-at-preserved
loop-at-preserved c =
    let a = c.args in
    let i = c.loop-at.at-index in
    λ l w.
    every_more a.text.now Edges _ l a.edge_places.now w i (c.loop-at.invariant l w) (omega arith)
    (sym (c.ends_known.ensures _ (listed_at a.text.now Edges l a.edge_places.now w i (omega arith))) ∙ c.if-not-ends_known.false)

pub returns : goal.returns
returns c =
    let a = c.args in
    λ l w. every-all a.text.now Edges _ l a.edge_places.now w c.loop-at.at-index (c.loop-at.invariant l w) (omega arith)
