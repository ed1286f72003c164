-- Undoing after a guard and after a loop's last round, by how each ended. Rests on Ends and on undoing's Undone.
use mathlib.Core.Path.{◌≡◌, ◌∙◌, ap}
use mathlib.Core.Bool.{Bool, true, false}
use mathlib.Core.List.{List}
use Prim.Native.Nat.{ℕ}
use Rattle.meaning.specs.Basics.{choose}
use Rattle.meaning.specs.Commands.{State, ends, back}
use Rattle.meaning.specs.declared.Layout.{Layout}
use Rattle.meaning.specs.declared.Stop.{Stop}
use Rattle.meaning.specs.declared.Tally.{Tally}
use Rattle.meaning.specs.declared.End.{End}
use Rattle.meaning.specs.declared.End.TheVariants.{Done, Failed, Broke, Stopped}
use Rattle.ledger.specs.Running.{state_of, Running}
use Rattle.meaning.specs.declared.Ran.{Ran}
use Rattle.ends.specs.Ends.{settled, closed, Restored, Settled, Closed}

module _ (L : Layout) {nodes edges journal : List ℕ} {mark : ℕ} {nodes' edges' journal' : List ℕ} where
  -- what was undone, for an end after which it is
  module _ {ran : Ran} {r : Tally} (u : Restored L nodes edges journal ran.tally mark r nodes' edges' journal') where
    settled_back : {keep : Bool} → ((s : State) → back s (state_of L nodes edges journal ran.tally) ≡ settled ran.end keep s (state_of L nodes edges journal ran.tally))
        → Settled L keep nodes edges journal ran mark r nodes' edges' journal'
    settled_back e = record { again = λ s w. let a = u.again s w in (a.0 ∙ e s, a.1) }

    pub settled-undone : {keep : Bool} → ran.end ≡ Done → keep ≡ false → Settled L keep nodes edges journal ran mark r nodes' edges' journal'
    unfolding settled choose
    settled-undone h k = settled_back (λ s. rw (h, k))

    pub settled-failed : {keep : Bool} → ran.end ≡ Failed → Settled L keep nodes edges journal ran mark r nodes' edges' journal'
    unfolding settled
    settled-failed h = settled_back (λ s. rw h)

    pub closed-failed : ran.end ≡ Failed → Closed L nodes edges journal ran mark (record { end = Done; tally = r }) nodes' edges' journal'
    unfolding closed
    closed-failed h = record { again = λ s w. let a = u.again s w in (ap (ends Done) a.0 ∙ rw h, a.1) }

-- bytes that are left as they were
module _ (L : Layout) {nodes edges journal : List ℕ} {ran : Ran} {mark : ℕ} (run : Running L nodes edges journal ran.tally.records) where
  settled_same : {keep : Bool} → ((s : State) → state_of L nodes edges journal ran.tally ≡ settled ran.end keep s (state_of L nodes edges journal ran.tally))
      → Settled L keep nodes edges journal ran mark ran.tally nodes edges journal
  settled_same e = record { again = λ s w. (e s, run) }

  pub settled-kept : {keep : Bool} → ran.end ≡ Done → keep ≡ true → Settled L keep nodes edges journal ran mark ran.tally nodes edges journal
  unfolding settled choose
  settled-kept h k = settled_same (λ s. rw (h, k))

  pub settled-broke : {keep : Bool} → ran.end ≡ Broke → Settled L keep nodes edges journal ran mark ran.tally nodes edges journal
  unfolding settled
  settled-broke h = settled_same (λ s. rw h)

  pub settled-stopped : {keep : Bool} {why : Stop} → ran.end ≡ Stopped why → Settled L keep nodes edges journal ran mark ran.tally nodes edges journal
  unfolding settled
  settled-stopped h = settled_same (λ s. rw h)

  pub closed-done : ran.end ≡ Done → Closed L nodes edges journal ran mark ran nodes edges journal
  unfolding closed
  closed-done h = record { again = λ s w. (ap (λ (e : End). ends e (state_of L nodes edges journal ran.tally)) h ∙ rw h, run) }

  pub closed-broke : ran.end ≡ Broke → Closed L nodes edges journal ran mark (record { end = Done; tally = ran.tally }) nodes edges journal
  unfolding closed
  closed-broke h = record { again = λ s w. (rw h, run) }

  pub closed-stopped : {why : Stop} → ran.end ≡ Stopped why → Closed L nodes edges journal ran mark ran nodes edges journal
  unfolding closed
  closed-stopped h = record { again = λ s w. (ap (λ (e : End). ends e (state_of L nodes edges journal ran.tally)) h ∙ rw h, run) }
