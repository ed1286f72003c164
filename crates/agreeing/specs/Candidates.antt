-- Candidates in two steps: what is known of a slot for an item before its label is compared and its tests are tried.
-- Rests on Placed and on the meaning's FirstMatch.
use Rattle.std.specs.Prelude.{◌≡◌, Bool, true, false, List, [], ◌∷◌, ◌++◌, ℕ, ◌<◌}
use Rattle.meaning.specs.Basics.{both}
use Rattle.meaning.specs.Layout.{Host}
use Rattle.meaning.specs.Image.{Rule}
use Rattle.meaning.specs.Matching.{left_nodes, total, Assignment}
use Rattle.meaning.specs.FirstMatch.{length_fits, label_agrees, tests_so_far, fits}
use Rattle.meaning.specs.Assigned.{assigned}
use Rattle.meaning.specs.declared.Element.{Element}
use Rattle.plan.specs.Plan.{Planned, label_of}
use Rattle.agreeing.specs.Placed.{slots, label_at}

-- item i is one of the rule's, and slot c is in its table
pub record Candidate (h : Host) (bs plan : List ℕ) (i c : ℕ) : Type 0 where
  pub rule : Rule
  pub planned : Planned bs rule plan
  pub there : i < total rule
  pub inside : c < slots h (left_nodes rule) i

-- what is known of a label by its length and, for a label of sort 2, by its atom
pub record Guessed (r : Rule) (sort : ℕ) (l : List Element) (m : List ℕ) (b : Bool) : Type 0 where
  pub no : b ≡ false → (α : Assignment) → label_agrees r α l m ≡ false
  pub length : b ≡ true → length_fits r l m ≡ true
  pub constant : b ≡ true → sort ≡ 2 → (α : Assignment) → label_agrees r α l m ≡ true

-- slot c cannot stand for item i behind the prefix p, or it can if label and tests agree
pub record Likely (h : Host) (r : Rule) (sort : ℕ) (p : List ℕ) (i c : ℕ) (b : Bool) : Type 0 where
  pub no : b ≡ false → fits h r p c ≡ false
  pub rest : b ≡ true → fits h r p c
      ≡ both (label_agrees r (assigned h r (p ++ c ∷ [])) (label_of r i) (label_at h (left_nodes r) i c)) (tests_so_far h r (p ++ c ∷ []))
  pub label : b ≡ true → Guessed r sort (label_of r i) (label_at h (left_nodes r) i c) true
