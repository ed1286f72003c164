-- `label_likely` meets its contract.
use Rattle.std.proofs.Common.{sym, ◌∙◌, ap, length, arith}
use Rattle.meaning.specs.Layout.{host_of}
use Rattle.agreeing.proofs.Agreeing.{constant-one, guessed_no, guessed_constant, candidate_inside, candidate_known, candidate_simple, known-fits, known_constant, planned-label}
use Rattle.agreeing.proofs.label_likely.Goals as goal

pub item_label-a-requires : goal.item_label-a-requires
item_label-a-requires c = ((omega (arith, c.requires.planned.laid.items.size), candidate_inside c.requires))

pub length_fits-requires : goal.length_fits-requires
length_fits-requires c = candidate_simple c.requires _ c.counts.ensures.0 c.counts.ensures.1

pub atom-requires : goal.atom-requires
atom-requires c =
    let w = candidate_known c.requires in
    let e = constant-one _ _ _ _ (known_constant c.requires w c.if-rule-i-ne-CONSTANT.false) (sym c.if-length_fits.true ∙ known-fits c.requires w _ _ _ c.counts.ensures.0 c.counts.ensures.1 (c.count.ensures ∙ ap length c.item_label-a.ensures.0) c.length_fits.ensures) in
    rw (c.item_label-a.ensures.0, planned-label w.planned (host_of c.args.host.now.layout c.args.host.now.nodes.now c.args.host.now.edges.now) c.args.i c.args.c) (omega arith)

pub returns-else-rule-i-ne-CONSTANT : goal.returns-else-rule-i-ne-CONSTANT
returns-else-rule-i-ne-CONSTANT c =
    λ w.
    guessed_constant _ _ _ _ (known_constant c.requires w c.if-rule-i-ne-CONSTANT.false) (sym c.if-length_fits.true ∙ known-fits c.requires w _ _ _ c.counts.ensures.0 c.counts.ensures.1 (c.count.ensures ∙ ap length c.item_label-a.ensures.0) c.length_fits.ensures) _ _ (rw (c.atom.ensures, c.item_label-a.ensures.0, planned-label w.planned (host_of c.args.host.now.layout c.args.host.now.nodes.now c.args.host.now.edges.now) c.args.i c.args.c))

pub returns-else-length_fits : goal.returns-else-length_fits
returns-else-length_fits c = λ w. rw c.if-length_fits.false (guessed_no _ _ _ _ (sym c.if-length_fits.false ∙ known-fits c.requires w _ _ _ c.counts.ensures.0 c.counts.ensures.1 (c.count.ensures ∙ ap length c.item_label-a.ensures.0) c.length_fits.ensures))
