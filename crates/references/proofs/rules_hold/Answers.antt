-- `rules_hold` meets its contract.
use Rattle.std.proofs.Common.{◌∙◌, rules, sym}
use Rattle.parts.specs.Images.{image_part, image_parts, image-series}
use Rattle.references.specs.Asked.{part_holds}
use Rattle.references.proofs.Ties.{parts_hold}
use Rattle.parts.specs.Walked.{every_answers}
use Rattle.references.proofs.rules_hold.Goals as goal

pub returns : goal.returns
returns c p e =
    let t = image-series _ p e in
    every_answers image_part part_holds (λ tag part r q i k. search rules) c.every_field.ensures (image_parts t.0 p) t.2 ∙ sym (parts_hold t.0 p)
