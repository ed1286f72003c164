-- `match_case` asks for matches where a run would start.
use Rattle.std.proofs.Common.{sym, ◌∙◌}
use Rattle.match_cases.proofs.match_case.Goals as goal

pub match_rules-requires : goal.match_rules-requires
match_rules-requires c = sym c.starts.ensures ∙ c.if-starts.true
