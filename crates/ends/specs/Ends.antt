-- What follows a command: its kind by its tag and payload, whether a row goes on, the part after a guard, and what undoing after
-- a guard or after a loop's last round leaves. Rests on ledger's Running, on fields' Parsed and on the meaning's Commands.
use Rattle.std.specs.Prelude.{◌≡◌, refl, Bool, true, false, ◌⊎◌, List, ℕ, eqb, length, get_or, Option, Some, None}
use Rattle.std.proofs.Common.{inl, inr}
use Rattle.meaning.specs.Basics.{choose}
use Rattle.meaning.specs.Tags.{rule_set_tag, sequence_tag, loop_tag, skip_tag, fail_tag, break_tag, call_tag, guarded_tag}
use Rattle.meaning.specs.Image.{Raw, rule_set, sequence, guarded, loop, skip, fail, break, call}
use Rattle.meaning.specs.Commands.{State, Out, ends, back}
use Rattle.fields.specs.Parsed.{tag_of}
use Rattle.laws.specs.Hosts.{LegalHost}
use Rattle.laws.specs.Restoring.{From}
use Rattle.meaning.specs.declared.Layout.{Layout}
use Rattle.meaning.specs.declared.Tally.{Tally}
use Rattle.meaning.specs.declared.Ran.{Ran}
use Rattle.meaning.specs.declared.End.{End}
use Rattle.meaning.specs.declared.End.TheVariants.{Done, Failed, Broke, Stopped}
use Rattle.ledger.specs.Running.{ledger_of, state_of, out_of, Running}
use Rattle.ends.specs.declared.Kind.{Kind}
use Rattle.ends.specs.declared.Kind.TheVariants.{InRow, Guarded, Loop, Leaf}

-- the tag of a command that ends at once
abbrev pub LeafTag : ℕ → End → Type 0
LeafTag tag Done = tag ≡ skip_tag
LeafTag tag Failed = tag ≡ fail_tag
LeafTag tag Broke = tag ≡ break_tag
LeafTag tag (Stopped w) = ⊥

-- the tag of a command that is run as a row of commands
abbrev pub RowTag : ℕ → Type 0
RowTag tag = (tag ≡ sequence_tag) ⊎ (tag ≡ call_tag)

-- the tag and the payload of each kind
abbrev pub Tagged : ℕ → List ℕ → Kind → Type 0
Tagged tag bs InRow = RowTag tag
Tagged tag bs (Guarded keep) = (tag ≡ guarded_tag) × (keep ≡ eqb (get_or bs 0 0) 1)
Tagged tag bs Loop = tag ≡ loop_tag
Tagged tag bs (Leaf e) = LeafTag tag e

-- the kind that a tag and a payload say; a tag that is none of these counts as a break's
unfoldable pub kind_of : ℕ → List ℕ → Kind
kind_of tag bs =
    choose (eqb tag sequence_tag) InRow
    (choose (eqb tag call_tag) InRow
    (choose (eqb tag guarded_tag) (Guarded (eqb (get_or bs 0 0) 1))
    (choose (eqb tag loop_tag) Loop
    (choose (eqb tag skip_tag) (Leaf Done)
    (choose (eqb tag fail_tag) (Leaf Failed) (Leaf Broke))))))

-- the tag of a command other than a rule set is its kind's
pub kind_tagged : (c : Raw) (bs : List ℕ) → (tag_of c ≡ rule_set_tag → ⊥) → Tagged (tag_of c) bs (kind_of (tag_of c) bs)
unfolding kind_of choose
kind_tagged (rule_set l) bs h = absurd (h refl)
kind_tagged (sequence cs) bs h = inl refl
kind_tagged (guarded keep a b c) bs h = (refl, refl)
kind_tagged (loop c) bs h = refl
kind_tagged skip bs h = refl
kind_tagged fail bs h = refl
kind_tagged break bs h = refl
kind_tagged (call i) bs h = inr refl

unfoldable pub is_done : End → Bool
is_done Done = true
is_done Failed = false
is_done Broke = false
is_done (Stopped w) = false

-- the part of a guarded command that follows its guard, if one does
unfoldable pub part_after : End → Option ℕ
part_after Done = Some 1
part_after Failed = Some 2
part_after Broke = None
part_after (Stopped w) = None

-- the state that it begins in, after a guard that began at s
unfoldable pub settled : End → Bool → State → State → State
settled Done keep s t = choose keep t (back s t)
settled Failed keep s t = back s t
settled Broke keep s t = t
settled (Stopped w) keep s t = t

-- how a loop ends with a round whose body began at s
unfoldable pub closed : End → State → State → Out
closed Done s t = ends Done t
closed Failed s t = ends Done (back s t)
closed Broke s t = ends Done t
closed (Stopped w) s t = ends (Stopped w) t

module _ (L : Layout) where
  -- a state that the bytes have come from, with so many records
  pub record Earlier (s : State) (nodes edges journal : List ℕ) (used mark : ℕ) : Type 0 where
    pub legal : LegalHost L s.ledger.host
    pub from : From s.ledger (ledger_of L nodes edges journal used)
    pub count : length s.ledger.journal ≡ mark

  -- what undoing leaves: that state, with the fuel and the steps of now
  pub record Restored (nodes edges journal : List ℕ) (t : Tally) (mark : ℕ) (r : Tally) (nodes' edges' journal' : List ℕ) : Type 0 where
    pub again : (s : State) → Earlier s nodes edges journal t.records mark
        → (state_of L nodes' edges' journal' r ≡ back s (state_of L nodes edges journal t)) × Running L nodes' edges' journal' r.records

  -- the state in which the part after a guard begins
  pub record Settled (keep : Bool) (nodes edges journal : List ℕ) (ran : Ran) (mark : ℕ) (r : Tally) (nodes' edges' journal' : List ℕ) : Type 0 where
    pub again : (s : State) → Earlier s nodes edges journal ran.tally.records mark
        → (state_of L nodes' edges' journal' r ≡ settled ran.end keep s (state_of L nodes edges journal ran.tally)) × Running L nodes' edges' journal' r.records

  -- how a loop ends
  pub record Closed (nodes edges journal : List ℕ) (ran : Ran) (mark : ℕ) (r : Ran) (nodes' edges' journal' : List ℕ) : Type 0 where
    pub again : (s : State) → Earlier s nodes edges journal ran.tally.records mark
        → (out_of L r nodes' edges' journal' ≡ closed ran.end s (state_of L nodes edges journal ran.tally)) × Running L nodes' edges' journal' r.tally.records
