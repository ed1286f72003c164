-- `element_agrees` meets its contract, kind by kind.
use Rattle.std.proofs.Common.{arith}
use Rattle.meaning.specs.Layout.{host_of}
use Rattle.meaning.specs.Assigned.{assigned}
use Rattle.slots.specs.Laid.{laid}
use Rattle.agreeing.proofs.Elements.{constant-laid, variable-agrees, nothing-agrees, of-element}
use Rattle.agreeing.proofs.element_agrees.Goals as goal

pub returns-in-48 : goal.returns-in-48
returns-in-48 c = λ w. rw (constant-laid _ _ _ _ w.spelt c.in-48.is) c.part_agrees.ensures

pub value-requires : goal.value-requires
value-requires c = (of-element c.requires.has_element c.in-49.is c.number_at-v.result c.number_at-v.ensures.0)

pub returns-in-49 : goal.returns-in-49
returns-in-49 c = λ w. variable-agrees (assigned (host_of c.args.host.now.layout c.args.host.now.nodes.now c.args.host.now.edges.now) w.trial.rule w.trial.placed) _ _ _ w.spelt (laid c.args.a.now) c.args.from c.part_agrees-in-49.result c.number_at-v.result (laid c.value.result.now) c.in-49.is c.number_at-v.ensures.0 (c.value.ensures.1 (of-element w c.in-49.is c.number_at-v.result c.number_at-v.ensures.0)) c.part_agrees-in-49.ensures

pub returns-in_default : goal.returns-in_default
returns-in_default c = λ w. nothing-agrees _ _ _ _ w.spelt _ _ (λ e. omega arith) (λ e. omega arith) c.requires.from_in_bounds
