-- `parts::main_tag` meets its contract.
use Rattle.std.proofs.Common.{◌∙◌, ap, ℕ}
use Rattle.parts.specs.Series.{nth_tag}
use Rattle.parts.proofs.main_tag.Goals as goal

pub returns : goal.returns
returns c p e = c.nth_tag.ensures ∙ ap (λ (n : ℕ). nth_tag n c.args.image.now) (c.main_number.ensures p e)
