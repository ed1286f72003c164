-- `match_rule` lends room of zeros.
use Rattle.std.proofs.Common.{refl}
use Rattle.values.specs.Zeros.{stored-none}
use Rattle.match_cases.proofs.match_rule.Goals as goal

pub invariant_of-values : goal.invariant_of-values
invariant_of-values c = record { stored = stored-none }

pub rule_match-found-requires : goal.rule_match-found-requires
rule_match-found-requires c =
    record {
      image_value = c.requires.image_value;
      fact = c.requires.fact;
      plan_len = refl;
    }
