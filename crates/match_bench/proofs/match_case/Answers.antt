-- `match_case` asks for a match where a run would start and there is a rule.
use Rattle.std.proofs.Common.{sym, ◌∙◌, arith}
use Rattle.match_bench.proofs.match_case.Goals as goal

pub match_first-requires : goal.match_first-requires
match_first-requires c = record {
  image_value = sym c.starts.ensures ∙ c.if-starts.true;
  fact = λ p e. omega (arith, c.rule_count.ensures p e);
}
