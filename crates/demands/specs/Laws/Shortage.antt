-- Any allowance of fuel: a command does the same with every allowance that is at least what it spends, and runs out of fuel
-- with every smaller one. Rests on Laws/Allowance.
use Rattle.std.specs.Prelude.{ℕ, zero, suc, ◌+◌, ◌-◌, ◌<◌, ◌≤◌, ◌≡◌, refl, List, Bool, true, false}
use Rattle.std.proofs.Common.{◌∙◌, ap, arith, suc-add, le_refl}
use Rattle.std.proofs.Math.Decide.{dec_le}
use Rattle.meaning.specs.Basics.{choose}
use Rattle.meaning.specs.Image.{Rule}
use Rattle.meaning.specs.Procedures.{Command, rule_set, sequence, guarded, loop, skip, fail, break, called, Commands, no_more, then}
use Rattle.meaning.specs.Commands.{State, Out, ends, back, enter_at, next, decide, again, rounds, work, works, exec, state_at}
use Rattle.laws.specs.Commands.{entered}
use Rattle.demands.specs.Laws.Allowance.{more, more_left, Enough, More, exec-grows}
use Rattle.laws.specs.Fuel.{exec-counted, work-counted, works-counted, Spending, enter_at-spends, exec_spending, IfOut, AtOut, at_out_of, call-enough}
use Rattle.meaning.specs.declared.Stop.{Stop}
use Rattle.meaning.specs.declared.Stop.TheVariants.{OutOfFuel, NoNodeRoom, NoEdgeRoom, NoRecordRoom, LabelTooLarge}
use Rattle.meaning.specs.declared.End.{End}
use Rattle.meaning.specs.declared.End.TheVariants.{Done, Failed, Broke, Stopped}

-- With too little fuel for a command, d more are spent too, at least one of them.

abbrev Short : (State → Out) → Type 0
Short k = (d : ℕ) (s : State) → AtOut (k s).end ((k (more d s)).state.fuel ≤ d - 1)

-- it leaves no more fuel than it is given
abbrev Falling : (State → Out) → Type 0
Falling k = (s : State) → (k s).state.fuel ≤ s.fuel

if_out_map : (w : Stop) (P Q : Type 0) → (P → Q) → IfOut w P → IfOut w Q
if_out_map OutOfFuel P Q f h = f h
if_out_map NoNodeRoom P Q f h = tt
if_out_map NoEdgeRoom P Q f h = tt
if_out_map NoRecordRoom P Q f h = tt
if_out_map LabelTooLarge P Q f h = tt

enter-short : (f : ℕ) (k : State → Out) → Falling k → Short k → (d : ℕ) (s : State) → s.fuel ≡ f
    → AtOut (enter_at f k s).end ((enter_at (f + d) k (more d s)).state.fuel ≤ d - 1)
unfolding enter_at
enter-short zero k l h d s e = let q = enter_at-spends (0 + d) k l (more d s) (omega arith) in omega arith
enter-short (suc f) k l h d s e = rw suc-add (h d (entered f s))

next-falls : (e : End) (t : State) (k : State → Out) → Falling k → (next e t k).state.fuel ≤ t.fuel
unfolding next
next-falls Done t k l = l t
next-falls Failed t k l = le_refl _
next-falls Broke t k l = le_refl _
next-falls (Stopped w) t k l = le_refl _

then-short : (d : ℕ) (e : End) (t : State) (o' : Out) (k : State → Out)
    → (Enough (ends e t) → o' ≡ more_left d (ends e t))
    → AtOut e (o'.state.fuel ≤ d - 1) → Falling k → Short k
    → AtOut (next e t k).end ((next o'.end o'.state k).state.fuel ≤ d - 1)
unfolding next
then-short d Done t o' k m h l u = rw (m tt) (u d t)
then-short d Failed t o' k m h l u = tt
then-short d Broke t o' k m h l u = tt
then-short d (Stopped w) t o' k m h l u =
    if_out_map w _ _ (λ q. omega (arith, q, next-falls o'.end o'.state k l)) h

decide-falls : (e : End) (keep : Bool) (s t : State) (a b : State → Out) → Falling a → Falling b
    → (decide e keep s t a b).state.fuel ≤ t.fuel
unfolding decide choose
decide-falls Done true s t a b l m = l t
decide-falls Done false s t a b l m = l (back s t)
decide-falls Failed keep s t a b l m = m (back s t)
decide-falls Broke keep s t a b l m = le_refl _
decide-falls (Stopped w) keep s t a b l m = le_refl _

guard-short : (d : ℕ) (e : End) (t : State) (o' : Out) (keep : Bool) (s : State) (a b : State → Out)
    → (Enough (ends e t) → o' ≡ more_left d (ends e t)) → AtOut e (o'.state.fuel ≤ d - 1) → Falling a → Falling b
    → Short a → Short b
    → AtOut (decide e keep s t a b).end ((decide o'.end keep (more d s) o'.state a b).state.fuel ≤ d - 1)
unfolding decide choose
guard-short d Done t o' true s a b m h l n u v = rw (m tt) (u d t)
guard-short d Done t o' false s a b m h l n u v = rw (m tt) (u d (back s t))
guard-short d Failed t o' keep s a b m h l n u v = rw (m tt) (v d (back s t))
guard-short d Broke t o' keep s a b m h l n u v = tt
guard-short d (Stopped w) t o' keep s a b m h l n u v =
    if_out_map w _ _ (λ q. omega (arith, q, decide-falls o'.end keep (more d s) o'.state a b l n)) h

again-falls : (e : End) (s t : State) (k : State → Out) → (k t).state.fuel ≤ t.fuel
    → (again e s t k).state.fuel ≤ t.fuel
unfolding again
again-falls Done s t k l = l
again-falls Failed s t k l = le_refl _
again-falls Broke s t k l = le_refl _
again-falls (Stopped w) s t k l = le_refl _

rounds-falls : (n : ℕ) (body : State → Out) → Spending body → Falling (rounds n body)
unfolding rounds
rounds-falls zero body b s = le_refl _
rounds-falls (suc n) body b s =
    let h = again-falls (body s).end s (body s).state (rounds n body) (rounds-falls n body b (body s).state) in
    omega (arith, b.spends s)

rounds-spends : (n : ℕ) (body : State → Out) → Spending body → (s : State) → s.fuel ≤ n
    → (rounds n body s).state.fuel ≤ s.fuel - 1
unfolding rounds
rounds-spends zero body b s k = omega arith
rounds-spends (suc n) body b s k =
    let h = again-falls (body s).end s (body s).state (rounds n body) (rounds-falls n body b (body s).state) in
    omega (arith, b.spends s)

again-short : (d : ℕ) (e : End) (s t : State) (o' : Out) (k l : State → Out)
    → (Enough (ends e t) → o' ≡ more_left d (ends e t))
    → AtOut e (o'.state.fuel ≤ d - 1) → Falling l → AtOut (k t).end ((l (more d t)).state.fuel ≤ d - 1)
    → AtOut (again e s t k).end ((again o'.end (more d s) o'.state l).state.fuel ≤ d - 1)
unfolding again
again-short d Done s t o' k l m h f u = rw (m tt) u
again-short d Failed s t o' k l m h f u = tt
again-short d Broke s t o' k l m h f u = tt
again-short d (Stopped w) s t o' k l m h f u =
    if_out_map w _ _ (λ q. omega (arith, q, again-falls o'.end (more d s) o'.state l (f o'.state))) h

rounds-short : (n : ℕ) (body : State → Out) → Spending body → More body → Short body → (d : ℕ) (s : State) → s.fuel ≤ n
    → AtOut (rounds n body s).end ((rounds (n + d) body (more d s)).state.fuel ≤ d - 1)
unfolding rounds
rounds-short zero body b m h d s k = let q = rounds-spends (0 + d) body b (more d s) (omega arith) in omega arith
rounds-short (suc n) body b m h d s k =
    rw suc-add
    (again-short d (body s).end s (body s).state (body (more d s)) (rounds n body) (rounds (n + d) body) (m d s)
    (h d s)
    (rounds-falls (n + d) body b) (rounds-short n body b m h d (body s).state (omega (arith, b.spends s))))

module _ (most room : ℕ) (rules : List Rule) where
  work-falls : (c : Command) → Falling (work most room rules c)
  work-falls c s = (work-counted most room rules c s).less

  exec-falls : (c : Command) → Falling (exec most room rules c)
  exec-falls c s = (exec-counted most room rules c s).less

  mutual
    unfolding work works

    work-short : (c : Command) → Short (work most room rules c)
    work-short (rule_set l) d s = call-enough most room rules _ s _
    work-short (sequence cs) d s = works-short cs d s
    work-short (guarded keep g a b) d s =
        guard-short d _ _ _ keep s _ _ (exec-grows most room rules g d s)
        (enter-short s.fuel _ (work-falls g) (λ d t. work-short g d t) d s refl) (exec-falls a) (exec-falls b)
        (λ d u. enter-short u.fuel _ (work-falls a) (λ d t. work-short a d t) d u refl)
        (λ d u. enter-short u.fuel _ (work-falls b) (λ d t. work-short b d t) d u refl)
    work-short (loop c) d s =
        rounds-short s.fuel _ (exec_spending most room rules c) (exec-grows most room rules c)
        (λ d u. enter-short u.fuel _ (work-falls c) (λ d t. work-short c d t) d u refl) d s (le_refl _)
    work-short skip d s = tt
    work-short fail d s = tt
    work-short break d s = tt
    work-short (called c) d s = enter-short s.fuel _ (work-falls c) (λ d t. work-short c d t) d s refl

    works-short : (cs : Commands) → Short (works most room rules cs)
    works-short no_more d s = tt
    works-short (then c cs) d s =
        then-short d _ _ _ _ (exec-grows most room rules c d s)
        (enter-short s.fuel _ (work-falls c) (λ d t. work-short c d t) d s refl)
        (λ t. (works-counted most room rules cs t).less) (λ d t. works-short cs d t)

  exec-short : (c : Command) → Short (exec most room rules c)
  exec-short c d s = enter-short s.fuel _ (work-falls c) (work-short c) d s refl

-- Any allowance: where it is at least what the command spends the result is the same, and below that fuel runs out.

-- the state with fuel f
abbrev pub fuelled : ℕ → State → State
fuelled f s = state_at s.ledger f s.steps

-- o, which a command at s ended in, as it is with fuel f: what is spent is the same
abbrev pub ends_with : ℕ → State → Out → Out
ends_with f s o = ends o.end (fuelled (f + o.state.fuel - s.fuel) o.state)

stop_is : (w : Stop) → Dec (w ≡ OutOfFuel)
stop_is OutOfFuel = yes refl
stop_is NoNodeRoom = no (λ e. let z : ◌≡◌ {A = ℕ} 0 1 = cc in omega arith)
stop_is NoEdgeRoom = no (λ e. let z : ◌≡◌ {A = ℕ} 0 1 = cc in omega arith)
stop_is NoRecordRoom = no (λ e. let z : ◌≡◌ {A = ℕ} 0 1 = cc in omega arith)
stop_is LabelTooLarge = no (λ e. let z : ◌≡◌ {A = ℕ} 0 1 = cc in omega arith)

end_is : (e : End) → Dec (e ≡ Stopped OutOfFuel)
end_is Done = no (λ e. let z : ◌≡◌ {A = ℕ} 0 1 = cc in omega arith)
end_is Failed = no (λ e. let z : ◌≡◌ {A = ℕ} 0 1 = cc in omega arith)
end_is Broke = no (λ e. let z : ◌≡◌ {A = ℕ} 0 1 = cc in omega arith)
end_is (Stopped w) = at (stop_is w)
  where
    at : Dec (w ≡ OutOfFuel) → Dec (◌≡◌ {A = End} (Stopped w) (Stopped OutOfFuel))
    at (yes e) = yes (ap {B = End} Stopped e)
    at (no h) = no (λ e. h (cc))

module _ (k : State → Out) (grows : More k) (short : Short k) (s : State) (f : ℕ) where
  -- where f is less than s has: from k at s with fuel f to k at s
  less-fuel : f < s.fuel → ((k (fuelled f s)).end ≡ Stopped OutOfFuel → ⊥)
      → k s ≡ more_left (s.fuel - f) (k (fuelled f s))
  less-fuel l h =
      let e : s.fuel ≡ f + (s.fuel - f) = omega arith in
      ap (λ (n : ℕ). k (fuelled n s)) e ∙ grows (s.fuel - f) (fuelled f s) (at_out_of _ ⊥ h)

  short-fuel : f < s.fuel → (k (fuelled f s)).end ≡ Stopped OutOfFuel → (k s).state.fuel ≤ s.fuel - f - 1
  short-fuel l q =
      let e : s.fuel ≡ f + (s.fuel - f) = omega arith in
      let h = rw q at (short (s.fuel - f) (fuelled f s)) in
      omega (arith, h, ap (λ (n : ℕ). (k (fuelled n s)).state.fuel) e)

  at_fuel : ((k s).end ≡ Stopped OutOfFuel → ⊥) → s.fuel ≤ f + (k s).state.fuel
      → k (fuelled f s) ≡ ends_with f s (k s)
  at_fuel h g = at (dec_le s.fuel f)
    where
      under : f < s.fuel → Dec ((k (fuelled f s)).end ≡ Stopped OutOfFuel)
          → k (fuelled f s) ≡ ends_with f s (k s)
      under l (yes q) = absurd (omega (arith, short-fuel l q))
      under l (no q) =
          rw (less-fuel l q) (ap (λ (n : ℕ). ends (k (fuelled f s)).end (fuelled n (k (fuelled f s)).state)) (omega arith))

      at : Dec (s.fuel ≤ f) → k (fuelled f s) ≡ ends_with f s (k s)
      at (yes l) =
          let e : f ≡ s.fuel + (f - s.fuel) = omega arith in
          ap (λ (n : ℕ). k (fuelled n s)) e ∙ grows (f - s.fuel) s (at_out_of _ ⊥ h)
          ∙ ap (λ (n : ℕ). ends (k s).end (fuelled n (k s).state)) (omega arith)
      at (no l) = under (omega arith) (end_is _)

  no_fuel : f + (k s).state.fuel < s.fuel → (k (fuelled f s)).end ≡ Stopped OutOfFuel
  no_fuel g = at (end_is _)
    where
      at : Dec ((k (fuelled f s)).end ≡ Stopped OutOfFuel) → (k (fuelled f s)).end ≡ Stopped OutOfFuel
      at (yes e) = e
      at (no h) = absurd (omega (arith, ap (λ (o : Out). o.state.fuel) (less-fuel (omega arith) h)))

module _ (most room : ℕ) (rules : List Rule) (c : Command) (s : State) (f : ℕ) where
  pub exec_fuel : ((exec most room rules c s).end ≡ Stopped OutOfFuel → ⊥)
      → s.fuel ≤ f + (exec most room rules c s).state.fuel
      → exec most room rules c (fuelled f s) ≡ ends_with f s (exec most room rules c s)
  exec_fuel = at_fuel (exec most room rules c) (exec-grows most room rules c) (exec-short most room rules c) s f

  pub exec_shortage : f + (exec most room rules c s).state.fuel < s.fuel
      → (exec most room rules c (fuelled f s)).end ≡ Stopped OutOfFuel
  exec_shortage = no_fuel (exec most room rules c) (exec-grows most room rules c) (exec-short most room rules c) s f
