-- An application of a rule at its first match in lent bytes: what is known of the match before, and what is left after.
-- Rests on ledger's Running, on values' Values and on the meaning's Applying.
use Rattle.std.specs.Prelude.{◌≡◌, false, List, ℕ, ◌/◌, length, take, Result, Ok, Err}
use Rattle.std.proofs.Math.Option.{some}
use Rattle.meaning.specs.Basics.{absent}
use Rattle.meaning.specs.Layout.{record_length, host_of}
use Rattle.meaning.specs.Image.{Rule, rule, most_items}
use Rattle.meaning.specs.References.{names}
use Rattle.meaning.specs.Assigned.{assigned}
use Rattle.meaning.specs.FirstMatch.{first_match}
use Rattle.meaning.specs.Applying.{Ledger, Applied, applied, hindered, apply}
use Rattle.laws.specs.Values.{LegalRule}
use Rattle.meaning.specs.declared.Layout.{Layout}
use Rattle.meaning.specs.declared.Stop.{Stop}
use Rattle.meaning.specs.Matching.{total}
use Rattle.values.specs.Values.{values_of, Stored}
use Rattle.ledger.specs.Running.{ledger_of, Running}

-- what an application came to, with the ledger that the bytes hold after it
unfoldable pub applied_of : Result ℕ Stop → Ledger → Applied
applied_of (Ok n) g = applied g
applied_of (Err w) g = hindered w

-- the records used after it, where so many were used before: those that it says, or where it stopped the same
abbrev pub records_after : ℕ → Result ℕ Stop → ℕ
records_after used (Ok n) = n
records_after used (Err w) = used

module _ (L : Layout) where
  -- the bytes are a legal rule, the slots are its first match, and the arrays hold the values of its variables
  pub record AtMatch (nodes edges bs slots lens atoms : List ℕ) : Type 0 where
    pub room : length slots ≡ most_items
    pub arrays : Stored lens atoms
    pub tree : Rule
    pub is : rule bs ≡ some tree
    pub legal : LegalRule tree
    pub first : first_match (host_of L nodes edges) tree ≡ some (take (total tree) slots)
    pub values : (v : ℕ) → absent v (names tree.left) ≡ false
        → values_of lens atoms v ≡ assigned (host_of L nodes edges) tree (take (total tree) slots) v

  -- what applying leaves: the definition's answer and ledger, and bytes that run on; where it stopped, the ledger as it was
  pub record Applies (nodes edges journal : List ℕ) (used : ℕ) (bs slots : List ℕ) (a : Result ℕ Stop) (nodes' edges' journal' : List ℕ) : Type 0 where
    pub right : (r : Rule) → rule bs ≡ some r
        → applied_of a (ledger_of L nodes' edges' journal' (records_after used a))
        ≡ apply L.atoms (length journal / record_length L) r (take (total r) slots) (ledger_of L nodes edges journal used)
    pub kept : (w : Stop) → a ≡ Err w
        → ledger_of L nodes' edges' journal' used ≡ ledger_of L nodes edges journal used
    pub running : Running L nodes' edges' journal' (records_after used a)
