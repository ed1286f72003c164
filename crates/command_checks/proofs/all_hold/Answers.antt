-- `all_hold` meets its contract.
use Rattle.std.proofs.Common.{◌∙◌, rules, sym}
use Rattle.parts.specs.Images.{image_part, image_parts, image-series}
use Rattle.parts.specs.Walked.{every_answers}
use Rattle.command_checks.specs.Asked.{part_asked}
use Rattle.command_checks.proofs.Parts.{parts-asked}
use Rattle.command_checks.proofs.all_hold.Goals as goal

pub returns : goal.returns
returns c p e =
    let t = image-series _ p e in
    every_answers image_part (part_asked c.args.demand c.args.heights.now) (λ tag part r q i k. search rules) c.every_field.ensures (image_parts t.0 p) t.2
    ∙ sym (parts-asked _ _ t.0 p)
