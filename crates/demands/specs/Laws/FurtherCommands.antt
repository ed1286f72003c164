-- Commands with more room: a command that does not stop for want of slots, records or atoms does the same with further free slots behind
-- both tables, room for more records and labels of more atoms, and the further slots stay free. Where labels hold as many atoms as
-- before, that a label can't be held is the same end too. Rests on Laws/Further.
use Prim.Native.Nat.{ℕ, zero, suc, ◌≤◌}
use Rattle.std.specs.Prelude.{◌≡◌, Bool, get_or}
use Rattle.std.proofs.Math.Path.{refl}
use mathlib.Core.List.{List, [], ◌∷◌}
use Rattle.std.proofs.Math.Bool.{true, false}
use Rattle.std.proofs.Math.Option.{Option, some, none}
use Rattle.meaning.specs.Basics.{choose}
use Rattle.meaning.specs.Layout.{Host}
use Rattle.meaning.specs.Image.{Rule}
use Rattle.meaning.specs.Procedures.{Command, rule_set, sequence, guarded, loop, skip, fail, break, called, Commands, no_more, then}
use Rattle.meaning.specs.Matching.{Match}
use Rattle.meaning.specs.Applying.{Applied, applied, hindered, apply}
use Rattle.meaning.specs.Commands.{State, Out, ends, back, enter_at, Chosen, rule_at, first_rule, after_applying, next, decide, again, rounds, rule_call, work, works, exec, state_at}
use Rattle.laws.specs.FirstMatch.{found-match}
use Rattle.laws.specs.Commands.{first_rule-some, entered}
use Rattle.laws.specs.References.{Sound}
use Rattle.demands.specs.Laws.Alike.{first_match-alike}
use Rattle.demands.specs.Laws.Further.{roomier, roomier_ledger, roomier-alike, roomier_applied, HasRoom, AppliedWithRoom, apply-roomier}
use Rattle.meaning.specs.declared.End.{End}
use Rattle.meaning.specs.declared.End.TheVariants.{Done, Failed, Broke, Stopped}

-- the end is no want of slots or records, nor of atoms where labels hold more of them
abbrev pub EndsWithRoom : ℕ → ℕ → End → Type 0
EndsWithRoom most most' Done = Unit {0}
EndsWithRoom most most' Failed = Unit {0}
EndsWithRoom most most' Broke = Unit {0}
EndsWithRoom most most' (Stopped w) = HasRoom most most' w

module _ (a b : ℕ) where
  abbrev pub roomier_state : State → State
  roomier_state s = state_at (roomier_ledger a b s.ledger) s.fuel s.steps

  abbrev pub roomier_out : Out → Out
  roomier_out o = ends o.end (roomier_state o.state)

  after-roomier : (x : Applied) (s : State)
      → after_applying (roomier_applied a b x) (roomier_state s) ≡ roomier_out (after_applying x s)
  unfolding after_applying
  after-roomier (applied g) s = refl
  after-roomier (hindered w) s = refl

  module _ (rules : List Rule) (sound : (i : ℕ) → Sound (rule_at rules i)) where
    first_rule-roomier : (h : Host) (l : List ℕ) → first_rule rules (roomier a b h) l ≡ first_rule rules h l
    unfolding first_rule
    first_rule-roomier h [] = refl
    first_rule-roomier h (i ∷ l) =
        let q = sound i in
        rw (first_rule-roomier h l, first_match-alike h (roomier a b h) (rule_at rules i) q.holds q.types (roomier-alike a b h))

    -- the rule that a rule set applies has the match
    chosen-match : (h : Host) (l : List ℕ) (c : Chosen) → first_rule rules h l ≡ some c → Match h c.rule c.slots
    chosen-match h l c e =
        let f = first_rule-some rules h l c e in
        let q : Sound c.rule = rw f.rule (sound (get_or l f.place 0)) in
        found-match h c.rule q.holds q.types c.slots f.match

  -- labels of at most `most` atoms, and of at most `most'`
  module _ (most most' : ℕ) where
    abbrev Roomy : End → Type 0
    Roomy = EndsWithRoom most most'

    -- l does in a roomier state what k does
    abbrev Roomier : (State → Out) → (State → Out) → Type 0
    Roomier k l = (s : State) → Roomy (k s).end → l (roomier_state s) ≡ roomier_out (k s)

    enter-roomier : (f : ℕ) (k l : State → Out) → Roomier k l → (s : State) → Roomy (enter_at f k s).end
        → enter_at f l (roomier_state s) ≡ roomier_out (enter_at f k s)
    unfolding enter_at
    enter-roomier zero k l h s e = refl
    enter-roomier (suc f) k l h s e = h (entered f s) e

    next-room : (e : End) (t : State) (k : State → Out) → Roomy (next e t k).end → Roomy e
    unfolding next
    next-room Done t k h = tt
    next-room Failed t k h = tt
    next-room Broke t k h = tt
    next-room (Stopped w) t k h = h

    next-roomier : (e : End) (t : State) (k l : State → Out) → Roomier k l → Roomy (next e t k).end
        → next e (roomier_state t) l ≡ roomier_out (next e t k)
    unfolding next
    next-roomier Done t k l m h = m t h
    next-roomier Failed t k l m h = refl
    next-roomier Broke t k l m h = refl
    next-roomier (Stopped w) t k l m h = refl

    -- after a command that ended in o, and in o' with more room
    then-roomier : (o o' : Out) (k l : State → Out) → (Roomy o.end → o' ≡ roomier_out o) → Roomier k l
        → Roomy (next o.end o.state k).end
        → next o'.end o'.state l ≡ roomier_out (next o.end o.state k)
    then-roomier o o' k l e m h =
        rw (e (next-room o.end o.state k h)) (next-roomier o.end o.state k l m h)

    decide-room : (e : End) (keep : Bool) (s t : State) (y n : State → Out) → Roomy (decide e keep s t y n).end
        → Roomy e
    unfolding decide
    decide-room Done keep s t y n h = tt
    decide-room Failed keep s t y n h = tt
    decide-room Broke keep s t y n h = tt
    decide-room (Stopped w) keep s t y n h = h

    decide-roomier : (e : End) (keep : Bool) (s t : State) (y n y' n' : State → Out) → Roomier y y' → Roomier n n'
        → Roomy (decide e keep s t y n).end
        → decide e keep (roomier_state s) (roomier_state t) y' n' ≡ roomier_out (decide e keep s t y n)
    unfolding decide choose
    decide-roomier Done true s t y n y' n' i j h = i t h
    decide-roomier Done false s t y n y' n' i j h = i (back s t) h
    decide-roomier Failed keep s t y n y' n' i j h = j (back s t) h
    decide-roomier Broke keep s t y n y' n' i j h = refl
    decide-roomier (Stopped w) keep s t y n y' n' i j h = refl

    guard-roomier : (o o' : Out) (keep : Bool) (s : State) (y n y' n' : State → Out)
        → (Roomy o.end → o' ≡ roomier_out o)
        → Roomier y y' → Roomier n n' → Roomy (decide o.end keep s o.state y n).end
        → decide o'.end keep (roomier_state s) o'.state y' n' ≡ roomier_out (decide o.end keep s o.state y n)
    guard-roomier o o' keep s y n y' n' e i j h =
        rw (e (decide-room o.end keep s o.state y n h)) (decide-roomier o.end keep s o.state y n y' n' i j h)

    again-room : (e : End) (s t : State) (k : State → Out) → Roomy (again e s t k).end → Roomy e
    unfolding again
    again-room Done s t k h = tt
    again-room Failed s t k h = tt
    again-room Broke s t k h = tt
    again-room (Stopped w) s t k h = h

    again-roomier : (e : End) (s t : State) (k l : State → Out) → Roomier k l → Roomy (again e s t k).end
        → again e (roomier_state s) (roomier_state t) l ≡ roomier_out (again e s t k)
    unfolding again
    again-roomier Done s t k l m h = m t h
    again-roomier Failed s t k l m h = refl
    again-roomier Broke s t k l m h = refl
    again-roomier (Stopped w) s t k l m h = refl

    rounds-roomier : (n : ℕ) (k l : State → Out) → Roomier k l → Roomier (rounds n k) (rounds n l)
    unfolding rounds
    rounds-roomier zero k l m s h = refl
    rounds-roomier (suc n) k l m s h =
        rw (m s (again-room (k s).end s (k s).state (rounds n k) h))
        (again-roomier (k s).end s (k s).state (rounds n k) (rounds n l) (rounds-roomier n k l m) h)

    after-room : (x : Applied) (s : State) → Roomy (after_applying x s).end → AppliedWithRoom most most' x
    unfolding after_applying
    after-room (applied g) s h = tt
    after-room (hindered w) s h = h

    module _ (larger : most ≤ most') (room room' : ℕ) (more : room ≤ room') (rules : List Rule) (sound : (i : ℕ) → Sound (rule_at rules i))
      where
        call-roomier : (o : Option Chosen) (s : State) → ((c : Chosen) → o ≡ some c → Match s.ledger.host c.rule c.slots)
            → Roomy (rule_call most room rules o s).end
            → rule_call most' room' rules o (roomier_state s) ≡ roomier_out (rule_call most room rules o s)
        unfolding rule_call
        call-roomier none s m h = refl
        call-roomier (some c) s m h =
            rw (apply-roomier most most' room room' a b larger more c.rule c.slots s.ledger (m c refl) (after-room _ s h))
            (after-roomier (apply most room c.rule c.slots s.ledger) s)

        mutual
          unfolding work works

          work-roomier : (c : Command) → Roomier (work most room rules c) (work most' room' rules c)
          work-roomier (rule_set l) s h =
              rw (first_rule-roomier rules sound s.ledger.host l)
              (call-roomier (first_rule rules s.ledger.host l) s (chosen-match rules sound s.ledger.host l) h)
          work-roomier (sequence cs) s h = works-roomier cs s h
          work-roomier (guarded keep g x y) s h =
              guard-roomier _ _ keep s _ _ _ _ (enter-roomier s.fuel _ _ (λ t i. work-roomier g t i) s)
              (λ u e. enter-roomier u.fuel _ _ (λ t i. work-roomier x t i) u e)
              (λ u e. enter-roomier u.fuel _ _ (λ t i. work-roomier y t i) u e) h
          work-roomier (loop c) s h =
              rounds-roomier s.fuel _ _ (λ u e. enter-roomier u.fuel _ _ (λ t i. work-roomier c t i) u e) s h
          work-roomier skip s h = refl
          work-roomier fail s h = refl
          work-roomier break s h = refl
          work-roomier (called c) s h = enter-roomier s.fuel _ _ (λ t i. work-roomier c t i) s h

          works-roomier : (cs : Commands) → Roomier (works most room rules cs) (works most' room' rules cs)
          works-roomier no_more s h = refl
          works-roomier (then c cs) s h =
              then-roomier _ _ _ _ (enter-roomier s.fuel _ _ (λ t i. work-roomier c t i) s) (λ t e. works-roomier cs t e) h

        pub exec-roomier : (c : Command) (s : State) → Roomy (exec most room rules c s).end
            → exec most' room' rules c (roomier_state s) ≡ roomier_out (exec most room rules c s)
        exec-roomier c s h = enter-roomier s.fuel _ _ (λ t i. work-roomier c t i) s h
