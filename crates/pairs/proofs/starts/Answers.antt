-- `starts` meets its contract.
use Rattle.std.proofs.Common.{◌∙◌}
use Rattle.meaning.specs.Numbers.{bytes}
use Rattle.pairs.proofs.Starting.{starts-is}
use Rattle.pairs.proofs.starts.Goals as goal

pub returns : goal.returns
unfolding bytes
returns c = c.is_ok.ensures.value ∙ starts-is _ _ _ _ c.run_refusal.ensures
