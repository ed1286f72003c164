-- `pairs::write_match` meets its contract.
use Rattle.std.proofs.Common.{rules}
use Rattle.pairs.specs.Pairs.{is_match}
use Rattle.pairs.proofs.write_match.Goals as goal

pub returns : goal.returns
unfolding is_match
returns c = search rules

pub returns-in_default : goal.returns-in_default
unfolding is_match
returns-in_default c = search rules
