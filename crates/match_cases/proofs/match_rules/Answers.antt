-- `match_rules` asks for rules that there are.
use Rattle.std.proofs.Common.{arith}
use Rattle.match_cases.proofs.match_rules.Goals as goal

pub match_rule-requires : goal.match_rule-requires
match_rule-requires c = record {
  image_value = c.requires;
  fact = λ p e. omega (arith, c.rule_count-i-end.ensures p e);
}
