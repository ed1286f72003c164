-- `empty_journal` meets its contract.
use Rattle.listing.proofs.Journals.{zeros-are}
use Rattle.listing.specs.Rooms.{full_journal}
use Rattle.listing.proofs.empty_journal.Goals as goal

pub returns : goal.returns
returns c = zeros-are full_journal
