-- `linked` meets its contract.
use Rattle.std.proofs.Common.{rules, tests}
use Rattle.std.proofs.lemmas.Iterator.{serves_from_Range}
use Rattle.meaning.specs.FirstMatch.{linked}
use Rattle.meaning.specs.Layout.{host_of}
use Rattle.meaning.specs.Matching.{left_edges}
use Rattle.fitting.proofs.Joining.{tried_edge}
use Rattle.laws.specs.Ranges.{all-is}
use Rattle.fitting.proofs.linked.Goals as goal

pub all-requires-clause-callable : goal.all-requires-clause-callable
all-requires-clause-callable c =
    serves_from_Range (λ x q k. search (rules, tests)) (λ x low high. let h = tried_edge c.requires high in search (rules, h))

pub returns : goal.returns
returns c =
    λ w. let h = host_of c.args.host.now.layout c.args.host.now.nodes.now c.args.host.now.edges.now in
    all-is (linked h w.trial.rule w.trial.placed c.args.trial.now.item) (left_edges w.trial.rule) _ _ _ w.trial.planned.laid.items.edges (λ x b f k. search (rules, tests)) c.all.ensures.ran
