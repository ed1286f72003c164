-- `rule_match` meets its contract: where a run would start, the search may be asked.
use Rattle.pairs.proofs.Starting.{legal, is-rule, answers}
use Rattle.pairs.proofs.rule_match.Goals as goal

pub invariant_of-host : goal.invariant_of-host
invariant_of-host c = record { legal = legal _ _ _ c.requires.image_value _ c.base.ensures }

pub first_match-requires : goal.first_match-requires
first_match-requires c =
    record {
      rule = is-rule _ _ _ c.requires.image_value _ c.requires.fact _ c.rule_part-rule.ensures;
      plan_len = c.requires.plan_len;
    }

pub returns : goal.returns
returns c =
    let first = c.first_match.ensures in (
      first.0,
      answers _ _ _ c.requires.image_value _ c.requires.fact _ c.rule_part-rule.ensures _ c.base.ensures _ _ _ first.1,
    )
