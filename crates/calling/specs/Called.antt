-- A call of a rule set in lent bytes: what is known of the program before, and what is left after.
-- Rests on ledger's Running and on the meaning's Commands.
use Rattle.std.specs.Prelude.{◌≡◌, true, List, ℕ, length, ltb}
use Rattle.std.proofs.Math.Option.{some}
use Rattle.meaning.specs.Basics.{every}
use Rattle.meaning.specs.Image.{RawProgram, raw_program}
use Rattle.meaning.specs.Commands.{first_rule, rule_call}
use Rattle.meaning.specs.Calls.{journal_room}
use Rattle.laws.specs.LegalCommands.{LegalRules}
use Rattle.meaning.specs.declared.Layout.{Layout}
use Rattle.meaning.specs.declared.Tally.{Tally}
use Rattle.meaning.specs.Layout.{host_of}
use Rattle.ledger.specs.Running.{state_of, out_of, Running}
use Rattle.meaning.specs.declared.Ran.{Ran}

-- the image is a program whose rules are legal
pub record Programmed (image : List ℕ) : Type 0 where
  pub tree : RawProgram
  pub is : raw_program image ≡ some tree
  pub legal : LegalRules tree.rules

-- and the numbers are those of its rules
pub record Listed (image numbers : List ℕ) : Type 0 where
  pub programmed : Programmed image
  pub exist : every (λ i. ltb i (length programmed.tree.rules)) numbers ≡ true

module _ (L : Layout) where
  -- what a call of the rules of these numbers leaves: the definition's end and state, and bytes that run on
  pub record Called (image numbers nodes edges journal : List ℕ) (t : Tally) (r : Ran) (nodes' edges' journal' : List ℕ) : Type 0 where
    pub right : (p : RawProgram) → raw_program image ≡ some p
        → out_of L r nodes' edges' journal'
        ≡ rule_call L.atoms (journal_room L journal) p.rules (first_rule p.rules (host_of L nodes edges) numbers) (state_of L nodes edges journal t)
    pub running : Running L nodes' edges' journal' r.tally.records
