-- `list_image` meets its contract: the input is what the definition reads, and it is run in the layout of its core.
use Rattle.std.proofs.Common.{arith}
use Rattle.writing.specs.Words.{letters}
use Rattle.listing.specs.Rooms.{core_listable}
use Rattle.listing.proofs.Finished.{reading-inside, image-listed, image-refused}
use Rattle.listing.proofs.list_image.Goals as goal

pub list_parts-requires : goal.list_parts-requires
list_parts-requires c =
    let read-input = c.read_input in
    record {
      listable = rw c.of.ensures (core_listable c.args.core);
      listing_room_in_bounds = omega (arith, c.requires);
      inside = reading-inside c.args.image.now read-input.result _ c.in-Some.is read-input.ensures;
    }

pub returns-in-Some : goal.returns-in-Some
returns-in-Some c =
    let read-input = c.read_input in
    image-listed c.args.core c.args.image.now read-input.result read-input.ensures _ c.of.ensures _ c.in-Some.is c.list_parts.ensures

pub returns-in-None : goal.returns-in-None
unfolding letters
returns-in-None c =
    let read-input = c.read_input in
    let put = c.put in
    image-refused c.args.core c.args.image.now read-input.result read-input.ensures c.in-None.is put.ensures (omega arith) (omega (arith, c.requires, put.auto.out))
