-- Laws of Commands: whatever the parts of commands keep, commands keep; so from before to after a command the ledger is
-- restorable, the tables have their lengths, and the records stay within the room. Rests on Restoring.
use Prim.Native.Nat.{ℕ, zero, suc, ◌+◌, ◌<◌, ◌≤◌}
use Rattle.std.specs.Prelude.{◌≡◌, List, [], ◌∷◌, Bool, length, get_or}
use Rattle.std.proofs.Math.Path.{refl}
use Rattle.std.proofs.Common.{◌∙◌, ap, arith}
use Rattle.std.proofs.Math.Bool.{true, false}
use Rattle.std.proofs.Math.Option.{Option, some, none}
use Rattle.meaning.specs.Basics.{choose}
use Rattle.meaning.specs.Layout.{Host}
use Rattle.meaning.specs.Image.{Rule}
use Rattle.meaning.specs.Procedures.{Command, rule_set, sequence, guarded, loop, skip, fail, break, called, Commands, no_more, then}
use Rattle.meaning.specs.Matching.{left_nodes, left_edges}
use Rattle.meaning.specs.FirstMatch.{candidates, fits, complete, first_match}
use Rattle.meaning.specs.Applying.{Ledger, Applied, applied, hindered, apply}
use Rattle.meaning.specs.Commands.{State, Out, back, enter_at, enter, Chosen, or_later, rule_at, first_rule, after_applying, next, decide, again, rounds, rule_call, work, works, exec, state_at}
use Rattle.laws.specs.Search.{Low, deep-low}
use Rattle.meaning.specs.Laws.Applying.{apply-applied, apply-room}
use Rattle.laws.specs.Restoring.{From, from-same, from-trans, apply-from}
use Rattle.meaning.specs.declared.End.{End}
use Rattle.meaning.specs.declared.End.TheVariants.{Done, Failed, Broke, Stopped}

-- The rule that a rule set applies.

-- a match has a slot for each left node and each left edge
pub first_match-size : (h : Host) (r : Rule) (p : List ℕ) → first_match h r ≡ some p
    → length p ≡ left_nodes r + left_edges r
unfolding first_match
first_match-size h r p e =
    let n : ℕ = left_nodes r + left_edges r in
    let l : Low (candidates h r) (fits h r) (complete h r) n [] 0 (some p) =
    rw e at (deep-low (candidates h r) (fits h r) (complete h r) n [] 0) in
    ap length l.1 ∙ l.2.size

-- the first listed rule that has a match, and that match
pub record First (rules : List Rule) (h : Host) (l : List ℕ) (c : Chosen) : Type 0 where
  pub place : ℕ
  pub listed : place < length l
  pub number : c.number ≡ get_or l place 0
  pub rule : c.rule ≡ rule_at rules (get_or l place 0)
  pub match : first_match h c.rule ≡ some c.slots
  pub before : (i : ℕ) → i < place → first_match h (rule_at rules (get_or l i 0)) ≡ none

pub first_rule-some : (rules : List Rule) (h : Host) (l : List ℕ) (c : Chosen) → first_rule rules h l ≡ some c
    → First rules h l c
unfolding first_rule or_later
first_rule-some rules h [] c e = let z : ◌≡◌ {A = ℕ} 0 1 = cc in absurd (omega arith)
first_rule-some rules h (i ∷ l) c e = at (first_match h (rule_at rules i)) refl e (first_rule-some rules h l c)
  where
    at : (o : Option (List ℕ)) → first_match h (rule_at rules i) ≡ o
        → or_later i (rule_at rules i) o (first_rule rules h l) ≡ some c
        → (first_rule rules h l ≡ some c → First rules h l c) → First rules h (i ∷ l) c
    at none q e k =
        let f = k e in
        record {
          place = suc f.place;
          listed = omega (arith, f.listed);
          number = f.number;
          rule = f.rule;
          match = f.match;
          before = earlier f.before;
        }
      where
        earlier : {n : ℕ} → ((j : ℕ) → j < n → first_match h (rule_at rules (get_or l j 0)) ≡ none)
            → (j : ℕ) → j < suc n → first_match h (rule_at rules (get_or (i ∷ l) j 0)) ≡ none
        earlier b zero g = q
        earlier b (suc j) g = b j (omega arith)
    at (some p) q e k = let z : c ≡ record { number = i; rule = rule_at rules i; slots = p } = cc in
        record { place = 0; listed = omega arith; number = rw z; rule = rw z; match = rw z q; before = λ j g. absurd (omega arith) }

pub first_rule-none : (rules : List Rule) (h : Host) (l : List ℕ) → first_rule rules h l ≡ none
    → (i : ℕ) → i < length l → first_match h (rule_at rules (get_or l i 0)) ≡ none
unfolding first_rule or_later
first_rule-none rules h [] e i k = absurd (omega arith)
first_rule-none rules h (j ∷ l) e i k = at (first_match h (rule_at rules j)) refl e i k (first_rule-none rules h l)
  where
    at : (o : Option (List ℕ)) → first_match h (rule_at rules j) ≡ o
        → or_later j (rule_at rules j) o (first_rule rules h l) ≡ none
        → (i : ℕ) → i < suc (length l)
        → (first_rule rules h l ≡ none → (i : ℕ) → i < length l → first_match h (rule_at rules (get_or l i 0)) ≡ none)
        → first_match h (rule_at rules (get_or (j ∷ l) i 0)) ≡ none
    at none q e zero k r = q
    at none q e (suc i) k r = r e i (omega arith)
    at (some p) q e i k r = let z : ◌≡◌ {A = ℕ} 0 1 = cc in absurd (omega arith)

-- What commands keep.

-- the state that a command entered at s begins in, f being the fuel that is left
abbrev pub entered : ℕ → State → State
entered f s = state_at s.ledger f (suc s.steps)

-- a command that can be entered does its work
pub exec-entered : (most room : ℕ) (rules : List Rule) (c : Command) (s : State) (f : ℕ) → s.fuel ≡ suc f
    → exec most room rules c s ≡ work most room rules c (entered f s)
unfolding enter_at
exec-entered most room rules c s f e = ap (λ (n : ℕ). enter_at n (λ t. work most room rules c t) s) e

module _ (most room : ℕ) (rules : List Rule) where
  -- a relation of the states before and after that the parts of commands keep
  pub record Kept (R : State → State → Type 0) : Type 0 where
    pub same : (s : State) → R s s
    pub trans : (s t u : State) → R s t → R t u → R s u
    pub enters : (s : State) (f : ℕ) → s.fuel ≡ suc f → R s (entered f s)
    pub undoes : (s t : State) → R s t → R s (back s t)
    pub calls : (l : List ℕ) (s : State) → R s (rule_call most room rules (first_rule rules s.ledger.host l) s).state

  module _ (R : State → State → Type 0) (κ : Kept R) where
    enter_at-kept : (f : ℕ) (k : State → Out) → ((t : State) → R t (k t).state) → (s : State) → s.fuel ≡ f
        → R s (enter_at f k s).state
    unfolding enter_at
    enter_at-kept zero k h s e = κ.same s
    enter_at-kept (suc f) k h s e = κ.trans s (entered f s) _ (κ.enters s f e) (h (entered f s))

    pub enter-kept : (k : State → Out) → ((t : State) → R t (k t).state) → (s : State) → R s (enter k s).state
    enter-kept k h s = enter_at-kept s.fuel k h s refl

    next-kept : (e : End) (s t : State) (k : State → Out) → R s t → ((u : State) → R u (k u).state)
        → R s (next e t k).state
    unfolding next
    next-kept Done s t k r h = κ.trans s t _ r (h t)
    next-kept Failed s t k r h = r
    next-kept Broke s t k r h = r
    next-kept (Stopped w) s t k r h = r

    decide-kept : (e : End) (keep : Bool) (s t : State) (a b : State → Out) → R s t → ((u : State) → R u (a u).state)
        → ((u : State) → R u (b u).state) → R s (decide e keep s t a b).state
    unfolding decide choose
    decide-kept Done true s t a b r h k = κ.trans s t _ r (h t)
    decide-kept Done false s t a b r h k = κ.trans s (back s t) _ (κ.undoes s t r) (h (back s t))
    decide-kept Failed keep s t a b r h k = κ.trans s (back s t) _ (κ.undoes s t r) (k (back s t))
    decide-kept Broke keep s t a b r h k = r
    decide-kept (Stopped w) keep s t a b r h k = r

    again_kept : (e : End) (s t : State) (k : State → Out) → R s t → ((u : State) → R u (k u).state)
        → R s (again e s t k).state
    unfolding again
    again_kept Done s t k r h = κ.trans s t _ r (h t)
    again_kept Failed s t k r h = κ.undoes s t r
    again_kept Broke s t k r h = r
    again_kept (Stopped w) s t k r h = r

    pub rounds-kept : (n : ℕ) (body : State → Out) → ((t : State) → R t (body t).state) → (s : State)
        → R s (rounds n body s).state
    unfolding rounds
    rounds-kept zero body h s = κ.same s
    rounds-kept (suc n) body h s = again_kept _ s _ _ (h s) (rounds-kept n body h)

    mutual
      unfolding work works

      pub work-kept : (c : Command) (s : State) → R s (work most room rules c s).state
      work-kept (rule_set l) s = κ.calls l s
      work-kept (sequence cs) s = works-kept cs s
      work-kept (guarded keep g a b) s =
          decide-kept _ keep s _ _ _ (enter-kept _ (λ t. work-kept g t) s) (λ u. enter-kept _ (λ t. work-kept a t) u)
          (λ u. enter-kept _ (λ t. work-kept b t) u)
      work-kept (loop c) s = rounds-kept s.fuel _ (λ u. enter-kept _ (λ t. work-kept c t) u) s
      work-kept skip s = κ.same s
      work-kept fail s = κ.same s
      work-kept break s = κ.same s
      work-kept (called c) s = enter-kept _ (λ t. work-kept c t) s

      pub works-kept : (cs : Commands) (s : State) → R s (works most room rules cs s).state
      works-kept no_more s = κ.same s
      works-kept (then c cs) s = next-kept _ s _ _ (enter-kept _ (λ t. work-kept c t) s) (λ u. works-kept cs u)

    pub exec_kept : (c : Command) (s : State) → R s (exec most room rules c s).state
    exec_kept c s = enter-kept _ (work-kept c) s

  -- what holds at s and after each application that can follow holds after the call
  pub call-either : (o : Option Chosen) (s : State) (P : State → Type 0) → P s
      → ((c : Chosen) (g : Ledger) → o ≡ some c → apply most room c.rule c.slots s.ledger ≡ applied g
      → P (state_at g s.fuel s.steps))
      → P (rule_call most room rules o s).state
  unfolding rule_call after_applying
  call-either none s P p k = p
  call-either (some c) s P p k = at (apply most room c.rule c.slots s.ledger) refl
    where
      at : (a : Applied) → apply most room c.rule c.slots s.ledger ≡ a → P (after_applying a s).state
      at (applied g) e = k c g refl e
      at (hindered w) e = p

  -- Restoring, whatever the end.

  pub from-kept : Kept (λ s t. From s.ledger t.ledger)
  from-kept =
      record {
        same = λ s. from-same s.ledger;
        trans = λ s t u f g. from-trans _ _ _ f g;
        enters = λ s f e. from-same s.ledger;
        undoes = λ s t f. from-same s.ledger;
        calls = λ l s. call-either _ s (λ t. From s.ledger t.ledger) (from-same _)
            (λ c g e a. apply-from most room _ _ _ _ (apply-applied most room _ _ _ _ a));
      }

  pub exec-from : (c : Command) (s : State) → From s.ledger (exec most room rules c s).state.ledger
  exec-from c s = exec_kept _ from-kept c s

  -- The records stay within the room.

  pub room-kept : Kept (λ s t. length s.ledger.journal ≤ room → length t.ledger.journal ≤ room)
  room-kept =
      record {
        same = λ s h. h;
        trans = λ s t u f g h. g (f h);
        enters = λ s f e h. h;
        undoes = λ s t f h. h;
        calls = λ l s h. call-either _ s (λ t. length t.ledger.journal ≤ room) h
            (λ c g e a. apply-room most room c.rule c.slots s.ledger g
            (first_match-size s.ledger.host c.rule c.slots (first_rule-some rules s.ledger.host l c e).match)
            (apply-applied most room _ _ _ _ a));
      }

  pub exec-room : (c : Command) (s : State) → length s.ledger.journal ≤ room
      → length (exec most room rules c s).state.ledger.journal ≤ room
  exec-room c s h = exec_kept _ room-kept c s h
