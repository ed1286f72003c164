-- The allowance of fuel: a command that did not run out of fuel does the same with more of it, and leaves so much more.
-- Rests on laws' Fuel.
use Rattle.std.specs.Prelude.{ℕ, zero, suc, ◌+◌, ◌≡◌, List, Bool, true, false}
use Rattle.std.proofs.Math.Path.{refl}
use Rattle.std.proofs.Math.Option.{Option, some, none}
use Rattle.std.proofs.Common.{suc-add}
use Rattle.meaning.specs.Basics.{choose}
use Rattle.meaning.specs.Image.{Rule}
use Rattle.meaning.specs.Procedures.{Command, rule_set, sequence, guarded, loop, skip, fail, break, called, Commands, no_more, then}
use Rattle.meaning.specs.Applying.{Applied, applied, hindered}
use Rattle.meaning.specs.Commands.{State, Out, ends, back, enter_at, Chosen, after_applying, next, decide, again, rounds, rule_call, work, works, exec, state_at}
use Rattle.laws.specs.Commands.{entered}
use Rattle.laws.specs.Fuel.{AtOut, at_out_of}
use Rattle.meaning.specs.declared.Stop.TheVariants.{OutOfFuel}
use Rattle.meaning.specs.declared.End.{End}
use Rattle.meaning.specs.declared.End.TheVariants.{Done, Failed, Broke, Stopped}

-- the state with d more fuel
abbrev pub more : ℕ → State → State
more d s = state_at s.ledger (s.fuel + d) s.steps

-- the same end, with d more fuel left
abbrev pub more_left : ℕ → Out → Out
more_left d o = ends o.end (more d o.state)

-- it did not run out of fuel
abbrev pub Enough : Out → Type 0
Enough o = AtOut o.end ⊥

abbrev pub More : (State → Out) → Type 0
More k = (d : ℕ) (s : State) → Enough (k s) → k (more d s) ≡ more_left d (k s)

enter-more : (f : ℕ) (k : State → Out) → More k → (d : ℕ) (s : State) → Enough (enter_at f k s)
    → enter_at (f + d) k (more d s) ≡ more_left d (enter_at f k s)
unfolding enter_at
enter-more zero k h d s e = absurd e
enter-more (suc f) k h d s e = rw suc-add (h d (entered f s) e)

next-enough : (e : End) (t : State) (k : State → Out) → Enough (next e t k) → Enough (ends e t)
unfolding next
next-enough Done t k h = tt
next-enough Failed t k h = tt
next-enough Broke t k h = tt
next-enough (Stopped w) t k h = h

next_more : (e : End) (t : State) (k : State → Out) → More k → (d : ℕ) → Enough (next e t k)
    → next e (more d t) k ≡ more_left d (next e t k)
unfolding next
next_more Done t k m d h = m d t h
next_more Failed t k m d h = refl
next_more Broke t k m d h = refl
next_more (Stopped w) t k m d h = refl

-- after a command that ended in o, and in o' with d more fuel
then-more : (d : ℕ) (o o' : Out) (k : State → Out) → (Enough o → o' ≡ more_left d o) → More k
    → Enough (next o.end o.state k) → next o'.end o'.state k ≡ more_left d (next o.end o.state k)
then-more d o o' k e m h =
    rw (e (next-enough o.end o.state k h)) (next_more o.end o.state k m d h)

decide-enough : (e : End) (keep : Bool) (s t : State) (a b : State → Out) → Enough (decide e keep s t a b)
    → Enough (ends e t)
unfolding decide
decide-enough Done keep s t a b h = tt
decide-enough Failed keep s t a b h = tt
decide-enough Broke keep s t a b h = tt
decide-enough (Stopped w) keep s t a b h = h

decide-more : (e : End) (keep : Bool) (s t : State) (a b : State → Out) → More a → More b → (d : ℕ)
    → Enough (decide e keep s t a b) → decide e keep (more d s) (more d t) a b ≡ more_left d (decide e keep s t a b)
unfolding decide choose
decide-more Done true s t a b m n d h = m d t h
decide-more Done false s t a b m n d h = m d (back s t) h
decide-more Failed keep s t a b m n d h = n d (back s t) h
decide-more Broke keep s t a b m n d h = refl
decide-more (Stopped w) keep s t a b m n d h = refl

guard-more : (d : ℕ) (o o' : Out) (keep : Bool) (s : State) (a b : State → Out) → (Enough o → o' ≡ more_left d o)
    → More a
    → More b → Enough (decide o.end keep s o.state a b)
    → decide o'.end keep (more d s) o'.state a b ≡ more_left d (decide o.end keep s o.state a b)
guard-more d o o' keep s a b e m n h =
    rw (e (decide-enough o.end keep s o.state a b h)) (decide-more o.end keep s o.state a b m n d h)

again-enough : (e : End) (s t : State) (k : State → Out) → Enough (again e s t k) → Enough (ends e t)
unfolding again
again-enough Done s t k h = tt
again-enough Failed s t k h = tt
again-enough Broke s t k h = tt
again-enough (Stopped w) s t k h = h

again-more : (e : End) (s t : State) (k l : State → Out) (d : ℕ) → (Enough (k t) → l (more d t) ≡ more_left d (k t))
    → Enough (again e s t k) → again e (more d s) (more d t) l ≡ more_left d (again e s t k)
unfolding again
again-more Done s t k l d m h = m h
again-more Failed s t k l d m h = refl
again-more Broke s t k l d m h = refl
again-more (Stopped w) s t k l d m h = refl

rounds-more : (n : ℕ) (body : State → Out) → More body → (d : ℕ) (s : State) → Enough (rounds n body s)
    → rounds (n + d) body (more d s) ≡ more_left d (rounds n body s)
unfolding rounds
rounds-more zero body m d s h = absurd h
rounds-more (suc n) body m d s h =
    rw (suc-add, m d s (again-enough (body s).end s _ _ h))
    (again-more (body s).end s (body s).state (rounds n body) (rounds (n + d) body) d
    (rounds-more n body m d (body s).state) h)

after_more : (a : Applied) (d : ℕ) (s : State) → after_applying a (more d s) ≡ more_left d (after_applying a s)
unfolding after_applying
after_more (applied g) d s = refl
after_more (hindered w) d s = refl

module _ (most room : ℕ) (rules : List Rule) where
  call-more : (o : Option Chosen) (d : ℕ) (s : State)
      → rule_call most room rules o (more d s) ≡ more_left d (rule_call most room rules o s)
  unfolding rule_call
  call-more none d s = refl
  call-more (some c) d s = after_more _ d s

  mutual
    unfolding work works

    work-more : (c : Command) → More (work most room rules c)
    work-more (rule_set l) d s h = call-more _ d s
    work-more (sequence cs) d s h = works-more cs d s h
    work-more (guarded keep g a b) d s h =
        guard-more d _ _ keep s _ _ (enter-more s.fuel _ (λ d t e. work-more g d t e) d s)
        (λ d u h. enter-more u.fuel _ (λ d t e. work-more a d t e) d u h)
        (λ d u h. enter-more u.fuel _ (λ d t e. work-more b d t e) d u h) h
    work-more (loop c) d s h =
        rounds-more s.fuel _ (λ d u h. enter-more u.fuel _ (λ d t e. work-more c d t e) d u h) d s h
    work-more skip d s h = refl
    work-more fail d s h = refl
    work-more break d s h = refl
    work-more (called c) d s h = enter-more s.fuel _ (λ d t e. work-more c d t e) d s h

    works-more : (cs : Commands) → More (works most room rules cs)
    works-more no_more d s h = refl
    works-more (then c cs) d s h =
        then-more d _ _ _ (enter-more s.fuel _ (λ d t e. work-more c d t e) d s) (λ d t e. works-more cs d t e) h

  pub exec-grows : (c : Command) → More (exec most room rules c)
  exec-grows c d s h = enter-more s.fuel _ (λ d t e. work-more c d t e) d s h

  pub exec-more : (c : Command) (d : ℕ) (s : State) → ((exec most room rules c s).end ≡ Stopped OutOfFuel → ⊥)
      → exec most room rules c (more d s) ≡ more_left d (exec most room rules c s)
  exec-more c d s h = exec-grows c d s (at_out_of _ ⊥ h)
