-- A program run in lent bytes: what is known of it before, and what is left after.
-- Rests on calling's Called and on the meaning's Procedures and Commands.
use Rattle.std.specs.Prelude.{◌≡◌, true, List, ℕ}
use Rattle.std.proofs.Math.Option.{some}
use Rattle.meaning.specs.References.{references}
use Rattle.meaning.specs.Procedures.{Program, program}
use Rattle.meaning.specs.Commands.{exec}
use Rattle.meaning.specs.Calls.{journal_room}
use Rattle.meaning.specs.declared.Layout.{Layout}
use Rattle.meaning.specs.declared.Tally.{Tally}
use Rattle.ledger.specs.Running.{state_of, Running, out_of}
use Rattle.calling.specs.Called.{Programmed}
use Rattle.meaning.specs.declared.Ran.{Ran}

-- the image is a program whose references hold, and stands for a whole one, with procedures put in
pub record Runnable (image : List ℕ) : Type 0 where
  pub programmed : Programmed image
  pub exist : references programmed.tree ≡ true
  pub whole : Program
  pub is : program image ≡ some whole

module _ (L : Layout) where
  -- what a run of the program leaves: the definition's end and state, and bytes that run on
  pub record RunsProgram (image nodes edges journal : List ℕ) (t : Tally) (r : Ran) (nodes' edges' journal' : List ℕ) : Type 0 where
    pub right : (p : Program) → program image ≡ some p
        → out_of L r nodes' edges' journal'
        ≡ exec L.atoms (journal_room L journal) p.rules p.main (state_of L nodes edges journal t)
    pub running : Running L nodes' edges' journal' r.tally.records
