-- `parts::main_part` meets its contract.
use Rattle.std.proofs.Common.{◌∙◌, ap, ℕ}
use Rattle.parts.specs.Series.{nth_part}
use Rattle.parts.proofs.main_part.Goals as goal

pub returns : goal.returns
returns c p e = c.nth_part.ensures ∙ ap (λ (n : ℕ). nth_part n c.args.image.now) (c.main_number.ensures p e)
