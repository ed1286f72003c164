-- `left_degree` meets its contract.
use Rattle.std.proofs.Common.{rules, tests}
use Rattle.meaning.specs.FirstMatch.{left_touches}
use Rattle.meaning.specs.Matching.{left_edges}
use Rattle.laws.specs.Ranges.{count-is}
use Rattle.fitting.proofs.left_degree.Goals as goal

pub returns : goal.returns
returns c =
    λ r q h.
    count-is (left_touches h r c.args.i) (left_edges r) _ _ c.filter.ensures.source c.filter.ensures.closure q.items.edges (λ x b f k. search (rules, tests)) c.count.ensures.ran
