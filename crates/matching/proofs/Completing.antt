-- A full placement: what its items and the plan's numbers are, and that nothing dangles where no node goes. Rests on Plans, on
-- agreeing's Trials and on the meaning's FirstMatch.
use mathlib.Core.Path.{◌≡◌}
use mathlib.Core.Bool.{false}
use mathlib.Core.List.{List}
use Prim.Native.Nat.{ℕ, ◌+◌, ◌≤◌}
use native.Mathlib.Omega.{arith}
use borrow.Author.Tests.{lt-leb}
use lib.ListN.{length, get_or}
use Rattle.meaning.specs.Basics.{exists}
use Rattle.meaning.specs.Layout.{Host}
use Rattle.meaning.specs.Image.{Rule, most_items}
use Rattle.meaning.specs.Matching.{left_nodes}
use Rattle.meaning.specs.FirstMatch.{touches_gone, dangles}
use Rattle.meaning.specs.Laws.Tests.{both-no, exists-no}
use Rattle.agreeing.specs.Placed.{Known, Inside, Full}
use Rattle.agreeing.specs.Trials.{few-items, full}
use Rattle.fitting.specs.Fitting.{Numbers}
use Rattle.matching.proofs.Plans.{nodes-of, edges-of}
use Rattle.plan.specs.Plan.{edges_at, nodes_at}

abbrev pub all_placed : (h : Host) (bs plan at : List ℕ) (w : Known bs plan) → length at ≡ most_items
    → Inside h (get_or plan nodes_at 0) at (get_or plan nodes_at 0 + get_or plan edges_at 0) → Full h bs plan at most_items 0
all_placed h bs plan at w room inside = full h bs plan at w room most_items 0 (few-items w) (rw (nodes-of _ _ w, edges-of _ _ w) at inside)

abbrev pub numbers : {bs plan : List ℕ} (w : Known bs plan) → Numbers plan w.rule
numbers w = record { nodes = nodes-of _ _ w; edges = edges-of _ _ w; interface = w.planned.laid.interface }

-- where no node goes, no edge dangles
pub none-dangles : (h : Host) (r : Rule) (p : List ℕ) (n : ℕ) → left_nodes r ≤ r.interface → exists (dangles h r p) n ≡ false
unfolding dangles touches_gone
none-dangles h r p n k =
    exists-no (dangles h r p) n (λ x l. both-no _ _ (exists-no (touches_gone h r p x) (left_nodes r) (λ j m. both-no _ _ (lt-leb r.interface j (omega arith)))))
