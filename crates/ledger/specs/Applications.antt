-- An application in lent bytes: what hinders it is its answer, and else the changed ledger is, from which the state runs on.
-- Rests on Running and Whole, and on laws' Legality.
use Rattle.std.specs.Prelude.{◌≡◌, List, ℕ, ◌/◌, length}
use Rattle.std.proofs.Math.Option.{some, none}
use borrow.Author.Tests.{leb-true}
use Rattle.meaning.specs.Layout.{node_length, edge_length, record_length}
use Rattle.meaning.specs.Image.{Rule}
use Rattle.meaning.specs.Matching.{Match}
use Rattle.meaning.specs.Applying.{Right, right_side, Ledger, changed, hindrance, applied, hindered, unhindered, apply}
use Rattle.meaning.specs.Laws.Checks.{first_failing-none}
use Rattle.laws.specs.Values.{LegalRule}
use Rattle.laws.specs.Legality.{LegalLedger, Ready, changed-legal}
use Rattle.meaning.specs.declared.Layout.{Layout}
use Rattle.meaning.specs.declared.Stop.{Stop}
use Rattle.ledger.specs.Running.{ledger_of, Running, Leads}
use Rattle.ledger.specs.Whole.{running-legal, few-nodes, few-edges, leads-running}

-- What hinders an application is its answer.
pub stopped-is : (most room : ℕ) (r : Rule) (p : List ℕ) (g : Ledger) (w : Stop) → hindrance most room r p g ≡ some w
    → apply most room r p g ≡ hindered w
unfolding apply unhindered
stopped-is most room r p g w e = rw e

module _ (L : Layout) (nodes edges journal : List ℕ) (used : ℕ) (run : Running L nodes edges journal used) (r : Rule) (rule : LegalRule r)
    (p : List ℕ)
    (match : Match (ledger_of L nodes edges journal used).host r p)
    (right : Right)
    (values : right_side L.atoms (ledger_of L nodes edges journal used).host r p ≡ some right)
    (fine : hindrance L.atoms (length journal / record_length L) r p (ledger_of L nodes edges journal used) ≡ none)
  where
    abbrev before : Ledger
    before = ledger_of L nodes edges journal used

    pub ready : Ready L.atoms r p before right
    unfolding hindrance
    ready =
        let s = first_failing-none _ _ _ fine in
        let t = first_failing-none _ _ _ s.1 in
        let u = first_failing-none _ _ _ t.1 in
        record { match = match; values = values; node_room = leb-true _ _ t.0; edge_room = leb-true _ _ u.0 }

    pub after-legal : LegalLedger L (length nodes / node_length L) (length edges / edge_length L) (changed r p right before)
    after-legal =
        changed-legal L (length nodes / node_length L) (length edges / edge_length L) (few-nodes L nodes edges journal used run)
        (few-edges L nodes edges journal used run) r rule p before (running-legal L nodes edges journal used run) right ready

    -- or else the changed ledger is
    pub applied-is : apply L.atoms (length journal / record_length L) r p before ≡ applied (changed r p right before)
    unfolding apply unhindered
    applied-is = rw (fine, values)

    -- bytes that hold the changed ledger run on
    pub runs_on : (nodes' edges' journal' : List ℕ) (used' : ℕ) → Leads L (changed r p right before) nodes' edges' journal' used'
        → Running L nodes' edges' journal' used'
    runs_on nodes' edges' journal' used' l = leads-running L nodes' edges' journal' used' (changed r p right before) l after-legal.host
