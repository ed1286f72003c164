-- `check` meets its contract: the first check that fails.
use Rattle.std.proofs.Common.{sym, ◌∙◌}
use Rattle.answers.specs.Answers.{refusal_of}
use Rattle.exporting.proofs.Checks.{nodes-told, edges-told, other-nodes, other-edges, damaged, fine}
use Rattle.exporting.proofs.check.Goals as goal

pub returns-then-not-fits_table : goal.returns-then-not-fits_table
unfolding refusal_of
returns-then-not-fits_table c =
    let a = c.args in
    other-nodes a.l a.nodes.now a.edges.now (nodes-told a.l a.nodes.now a.edges.now c.requires _ _ c.fits_table.ensures c.if-not-fits_table.true)

pub returns-then-not-fits_table-2 : goal.returns-then-not-fits_table-2
unfolding refusal_of
returns-then-not-fits_table-2 c =
    let a = c.args in
    let n = nodes-told a.l a.nodes.now a.edges.now c.requires _ _ c.fits_table.ensures c.if-not-fits_table.false in
    other-edges a.l a.nodes.now a.edges.now n (edges-told a.l a.nodes.now a.edges.now c.requires _ _ c.fits_table-2.ensures c.if-not-fits_table-2.true)

pub returns-then-not-keeps_layout : goal.returns-then-not-keeps_layout
unfolding refusal_of
returns-then-not-keeps_layout c =
    let a = c.args in
    let n = nodes-told a.l a.nodes.now a.edges.now c.requires _ _ c.fits_table.ensures c.if-not-fits_table.false in
    let e = edges-told a.l a.nodes.now a.edges.now c.requires _ _ c.fits_table-2.ensures c.if-not-fits_table-2.false in
    damaged a.l a.nodes.now a.edges.now n e (sym c.keeps_layout.ensures ∙ c.if-not-keeps_layout.true)

pub returns : goal.returns
unfolding refusal_of
returns c =
    let a = c.args in
    let n = nodes-told a.l a.nodes.now a.edges.now c.requires _ _ c.fits_table.ensures c.if-not-fits_table.false in
    let e = edges-told a.l a.nodes.now a.edges.now c.requires _ _ c.fits_table-2.ensures c.if-not-fits_table-2.false in
    fine a.l a.nodes.now a.edges.now n e (sym c.keeps_layout.ensures ∙ c.if-not-keeps_layout.false)
