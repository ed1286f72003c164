-- A run after an undo after a run leaves what the first run left, for every interpreter that meets demands 1 and 2.
-- Rests on OneOutcome.
use Rattle.meaning.specs.Calls.{Lent}
use Rattle.demands.specs.Demands.{Outcome}

-- what run is lent after an undo: what that left, and the image and the fuel of before
abbrev pub again : Lent → Outcome → Lent
again x u =
    record { nodes = u.nodes; edges = u.edges; journal = u.journal; image = x.image; fuel = x.fuel; report = u.report }
