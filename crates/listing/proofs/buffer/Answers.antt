-- `buffer` meets its contract.
use Rattle.listing.proofs.Journals.{zeros-are}
use Rattle.lines.specs.Rooms.{listing_room}
use Rattle.listing.proofs.buffer.Goals as goal

pub returns : goal.returns
returns c = zeros-are listing_room
