-- What the functions of the search are handed, and what they answer. Rests on the meaning's FirstMatch.
use Rattle.std.specs.Prelude.{ℕ, ◌<◌, ◌≤◌, ◌≡◌, ◌⊎◌, Bool, true, false, not, Option, Some, None, List, length, get_or, take}
use Rattle.std.proofs.Math.Option as math
use Rattle.meaning.specs.Layout.{Host, live_at, host_of}
use Rattle.meaning.specs.Image.{Rule, most_items}
use Rattle.meaning.specs.Matching.{edge_at, total}
use Rattle.meaning.specs.FirstMatch.{marks_agree, fits, candidates, complete}
use Rattle.meaning.specs.declared.Layout.{Layout}
use Rattle.graph.specs.Graph.{Legal}
use Rattle.agreeing.specs.Placed.{Known, Inside}
use Rattle.agreeing.specs.Candidates.{Likely}
use Rattle.matching.specs.declared.Step.{Step}
use Rattle.matching.specs.declared.Step.TheVariants.{Full, Take, Back}
use Rattle.plan.specs.Plan.{nodes_at}

-- What is handed.

-- legal tables, and a rule with its plan
pub record Handed (L : Layout) (nodes edges bs plan : List ℕ) : Type 0 where
  pub legal : Legal L nodes edges
  pub known : Known bs plan

-- and the slots of the first i items
pub record Ready (L : Layout) (nodes edges bs plan at : List ℕ) (i : ℕ) : Type 0 where
  pub legal : Legal L nodes edges
  pub known : Known bs plan
  pub room : length at ≡ most_items
  pub inside : Inside (host_of L nodes edges) (get_or plan nodes_at 0) at i

-- What is answered, of whichever rule the plan is.

abbrev pub Of : List ℕ → List ℕ → (Rule → Type 0) → Type 0
Of bs plan P = (w : Known bs plan) → P w.rule

-- the source of edge x, or else its target
abbrev pub end_of : Host → Bool → ℕ → ℕ
end_of h true x = (edge_at h x).source
end_of h false x = (edge_at h x).target

-- edge x joins slot p, which it leaves or else arrives at, to slot y, and can stand for a left edge of the mark
pub record Meets (h : Host) (mark p : ℕ) (leaving : Bool) (x y : ℕ) : Type 0 where
  pub live : live_at h.edges x ≡ true
  pub here : end_of h leaving x ≡ p
  pub marks : marks_agree mark (edge_at h x).mark ≡ true
  pub there : end_of h (not leaving) x ≡ y

-- the lowest number of c .. b that passes the test, or none
abbrev pub IsNext : (ℕ → Bool) → ℕ → ℕ → Option ℕ → Type 0
IsNext test b c (Some x) = (c ≤ x) × (x < b) × (test x ≡ true) × ((y : ℕ) → c ≤ y → y < x → test y ≡ false)
IsNext test b c None = (y : ℕ) → c ≤ y → y < b → test y ≡ false

-- the lowest slot at c or above that fits behind the prefix p, or none
abbrev pub NextSlot : Host → Rule → List ℕ → ℕ → Option ℕ → Type 0
NextSlot h r p c x = IsNext (fits h r p) (candidates h r p) c x

-- the lowest slot at c or above that is likely for item i behind the prefix p, or none: those passed over do not fit
abbrev pub NextLikely : Host → Rule → ℕ → List ℕ → ℕ → ℕ → Option ℕ → Type 0
NextLikely h r sort p i c (Some x) =
    (c ≤ x) × (x < candidates h r p) × Likely h r sort p i x true × ((y : ℕ) → c ≤ y → y < x → fits h r p y ≡ false)
NextLikely h r sort p i c None = (y : ℕ) → c ≤ y → y < candidates h r p → fits h r p y ≡ false

-- what there is to do behind the prefix p, at level i
abbrev pub IsStep : Host → Rule → List ℕ → ℕ → ℕ → Step → Type 0
IsStep h r p i c Full = (i ≡ total r) × (complete h r p ≡ true)
IsStep h r p i c (Take x) = (i < total r) × NextSlot h r p c (Some x)
IsStep h r p i c Back = ((i < total r) × NextSlot h r p c None) ⊎ ((i ≡ total r) × (complete h r p ≡ false))

-- the slots of the n items of a placement, where there is one
abbrev pub slots_at : ℕ → Option (List ℕ) → math.Option (List ℕ)
slots_at n (Some slots) = math.some (take n slots)
slots_at n None = math.none
