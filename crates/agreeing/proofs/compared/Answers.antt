-- `compared` meets its contract.
use Rattle.std.proofs.Common.{◌∙◌, arith}
use Rattle.meaning.specs.Layout.{host_of}
use Rattle.agreeing.proofs.Agreeing.{planned-label, last-inside, last-there, spelt-last}
use Rattle.agreeing.proofs.compared.Goals as goal

pub item_label-a-requires : goal.item_label-a-requires
item_label-a-requires c = ((omega (arith, c.requires.trial.planned.laid.items.size), last-inside c.requires))

pub pattern-p-requires : goal.pattern-p-requires
pattern-p-requires c = let w = c.requires in record { tree = w.trial.rule; laid = w.trial.planned.laid; there = last-there w }

pub elements_agree-requires : goal.elements_agree-requires
elements_agree-requires c = let w = c.requires in (spelt-last w _ (c.pattern-p.ensures w.trial.rule w.trial.planned.laid))

pub returns : goal.returns
returns c = λ w. rw (c.item_label-a.ensures.0 ∙ planned-label w.trial.planned (host_of c.args.host.now.layout c.args.host.now.nodes.now c.args.host.now.edges.now) c.args.trial.now.item c.args.trial.now.slot) at (c.elements_agree.ensures (spelt-last w _ (c.pattern-p.ensures w.trial.rule w.trial.planned.laid)))
