-- What commands mean, as rules of inference over command trees: `Executes c s e t` says that command c, met at s, ends in e at t.
-- A rule call goes by what a match is, and not by a search; nothing here computes. Rests on the meaning's Layout, Image, Procedures,
-- Matching and Applying, on Commands for its states alone (`State`, `state_at`, `back`, `rule_at`), and on the code's Stop and End.
use Rattle.std.specs.Prelude.{◌≡◌, Bool, true, false, List, ℕ, suc, ◌<◌, length, get_or}
use Rattle.meaning.specs.Layout.{Host}
use Rattle.meaning.specs.Image.{Rule}
use Rattle.meaning.specs.Procedures.{Command, rule_set, sequence, guarded, loop, skip, fail, break, called, Commands, no_more, then}
use Rattle.meaning.specs.Matching.{Match, Before}
use Rattle.meaning.specs.Applying.{Ledger, applied, hindered, apply}
use Rattle.meaning.specs.Commands.{State, back, rule_at, state_at}
use Rattle.meaning.specs.declared.Stop.{Stop}
use Rattle.meaning.specs.declared.Stop.TheVariants.{OutOfFuel}
use Rattle.meaning.specs.declared.End.{End}
use Rattle.meaning.specs.declared.End.TheVariants.{Done, Failed, Broke, Stopped}

-- Rule calls.

-- none of the listed rules has a match
abbrev pub NoMatch : List Rule → Host → List ℕ → Type 0
NoMatch rules h l = (i : ℕ) → i < length l → (p : List ℕ) → Match h (rule_at rules (get_or l i 0)) p → ⊥

-- r is the first listed rule that has a match, and p its first match in document 01's order
pub record FirstCalled (rules : List Rule) (h : Host) (l : List ℕ) (r : Rule) (p : List ℕ) : Type 0 where
  pub place : ℕ
  pub listed : place < length l
  pub rule : r ≡ rule_at rules (get_or l place 0)
  pub earlier : (i : ℕ) → i < place → (q : List ℕ) → Match h (rule_at rules (get_or l i 0)) q → ⊥
  pub match : Match h r p
  pub first : (q : List ℕ) → Match h r q → Before q p → ⊥

-- the same state with another host and journal
abbrev pub holding : Ledger → State → State
holding g s = state_at g s.fuel s.steps

-- one fuel less, one step more
abbrev pub stepped : ℕ → State → State
stepped f s = state_at s.ledger f (suc s.steps)

-- most: the atoms that a label holds; room: the records that the journal holds
module _ (most room : ℕ) (rules : List Rule) where
  mutual
    -- entering a command costs one fuel and is one step; with none left the run is out of fuel
    pub data Executes : Command → State → End → State → Type 0 where
      dry : {c : Command} {s : State} → s.fuel ≡ 0 → Executes c s (Stopped OutOfFuel) s
      enters : {c : Command} {s t : State} {e : End} → (f : ℕ) → s.fuel ≡ suc f → Does c (stepped f s) e t → Executes c s e t

    -- what a command does once it is entered
    pub data Does : Command → State → End → State → Type 0 where
      skips : {s : State} → Does skip s Done s
      fails : {s : State} → Does fail s Failed s
      breaks : {s : State} → Does break s Broke s
      -- a rule set fails where none of its rules has a match; else the first match of the first that has one is applied
      no_match : {l : List ℕ} {s : State} → NoMatch rules s.ledger.host l → Does (rule_set l) s Failed s
      applies : {l : List ℕ} {s t : State} (r : Rule) (p : List ℕ) (g : Ledger) → FirstCalled rules s.ledger.host l r p
          → apply most room r p s.ledger ≡ applied g → t ≡ holding g s → Does (rule_set l) s Done t
      hinders : {l : List ℕ} {s : State} (r : Rule) (p : List ℕ) (w : Stop) → FirstCalled rules s.ledger.host l r p
          → apply most room r p s.ledger ≡ hindered w → Does (rule_set l) s (Stopped w) s
      in_sequence : {cs : Commands} {s t : State} {e : End} → Follows cs s e t → Does (sequence cs) s e t
      -- a call means its procedure's command, which is entered in its turn
      calls : {c : Command} {s t : State} {e : End} → Executes c s e t → Does (called c) s e t
      -- if: the guard's changes are undone; try: a successful guard's changes stay
      then_if : {g a b : Command} {s u : State} {e : End} (t : State) → Executes g s Done t → Executes a (back s t) e u
          → Does (guarded false g a b) s e u
      then_try : {g a b : Command} {s u : State} {e : End} (t : State) → Executes g s Done t → Executes a t e u
          → Does (guarded true g a b) s e u
      elses : {keep : Bool} {g a b : Command} {s u : State} {e : End} (t : State) → Executes g s Failed t → Executes b (back s t) e u
          → Does (guarded keep g a b) s e u
      guard_stops : {keep : Bool} {g a b : Command} {s t : State} (w : Stop) → Executes g s (Stopped w) t
          → Does (guarded keep g a b) s (Stopped w) t
      -- a loop repeats; a failing body is undone, a break keeps the graph, and the loop succeeds
      repeats : {c : Command} {s u : State} {e : End} (t : State) → Executes c s Done t → Does (loop c) t e u → Does (loop c) s e u
      body_fails : {c : Command} {s u : State} (t : State) → Executes c s Failed t → u ≡ back s t → Does (loop c) s Done u
      body_breaks : {c : Command} {s t : State} → Executes c s Broke t → Does (loop c) s Done t
      body_stops : {c : Command} {s t : State} (w : Stop) → Executes c s (Stopped w) t → Does (loop c) s (Stopped w) t

    -- commands in order: each is entered where the one before succeeded, and another end is the end of all
    pub data Follows : Commands → State → End → State → Type 0 where
      nothing : {s : State} → Follows no_more s Done s
      goes_on : {c : Command} {cs : Commands} {s u : State} {e : End} (t : State) → Executes c s Done t → Follows cs t e u
          → Follows (then c cs) s e u
      ends_there : {c : Command} {cs : Commands} {s t : State} (e : End) → (e ≡ Done → ⊥) → Executes c s e t → Follows (then c cs) s e t
