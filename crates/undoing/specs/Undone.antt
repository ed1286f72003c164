-- Undoing in lent bytes: a ledger that the bytes have come from by recorded changes is there again.
-- Rests on ledger's Running and on laws' Restoring.
use Rattle.std.specs.Prelude.{◌≡◌, List, ℕ, length}
use Rattle.meaning.specs.Applying.{Ledger}
use Rattle.laws.specs.Hosts.{LegalHost}
use Rattle.laws.specs.Restoring.{From}
use Rattle.meaning.specs.declared.Layout.{Layout}
use Rattle.ledger.specs.Running.{ledger_of, Running}

module _ (L : Layout) where
  -- the bytes before hold `used` records; those after hold any legal ledger of `mark` records that they came from, and run on
  pub record Undone (nodes edges journal : List ℕ) (used mark : ℕ) (nodes' edges' journal' : List ℕ) : Type 0 where
    pub again : (g : Ledger) → LegalHost L g.host → From g (ledger_of L nodes edges journal used) → length g.journal ≡ mark
        → (ledger_of L nodes' edges' journal' mark ≡ g) × Running L nodes' edges' journal' mark
