-- `payload` meets its contract: it is a part of an image.
use Rattle.std.proofs.Common.{◌+◌}
use Rattle.run_input.specs.Reading.{field_head}
use Rattle.run_input.proofs.Inputs.{part-read}
use Rattle.run_input.proofs.payload.Goals as goal

pub returns : goal.returns
returns c =
    part-read c.args.image.now (c.args.at + field_head) c.args.end _ c.requires.image_len_bound c.part.ensures
