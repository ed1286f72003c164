-- Laws of the meaning's commands as the code runs them: entering, the next command of a row, the part after a guard, the rounds
-- of a loop. Rests on the meaning's Commands and on laws' Commands and Fuel.
use mathlib.Core.Path.{◌≡◌, refl, sym, ◌∙◌, ap}
use mathlib.Core.Bool.{Bool, true, false}
use mathlib.Core.List.{List, [], ◌∷◌}
use Prim.Native.Nat.{ℕ, suc, ◌+◌, ◌-◌, ◌<◌, ◌≤◌}
use native.Mathlib.Omega.{arith}
use native.Mathlib.Numerals.{add-one}
use lib.ListN.{get_or}
use Rattle.meaning.specs.Basics.{choose}
use Rattle.meaning.specs.Image.{Rule}
use Rattle.meaning.specs.Procedures.{Command, guarded, loop, skip, fail, break, called}
use Rattle.meaning.specs.Commands.{State, Out, ends, next, decide, again, rounds, work, works, exec, state_at}
use Rattle.laws.specs.Commands.{exec-entered}
use Rattle.laws.specs.Fuel.{exec_spending, rounds_bound}
use Rattle.meaning.specs.declared.Stop.TheVariants.{OutOfFuel}
use Rattle.meaning.specs.declared.End.{End}
use Rattle.meaning.specs.declared.End.TheVariants.{Done, Failed, Broke, Stopped}
use Rattle.std.specs.Prelude.{Some, None}
use Rattle.ends.specs.Ends.{LeafTag, is_done, part_after, settled, closed}
use Rattle.commands.specs.Cycle.{in_order}

-- the command of an end that comes at once
abbrev pub leaf_of : End → Command
leaf_of Done = skip
leaf_of Failed = fail
leaf_of Broke = break
leaf_of (Stopped w) = skip

-- Ends.

pub done-is : (e : End) → is_done e ≡ true → e ≡ Done
unfolding is_done
done-is Done h = refl
done-is Failed h = let z : ◌≡◌ {A = ℕ} 0 1 = cc in absurd (omega arith)
done-is Broke h = let z : ◌≡◌ {A = ℕ} 0 1 = cc in absurd (omega arith)
done-is (Stopped w) h = let z : ◌≡◌ {A = ℕ} 0 1 = cc in absurd (omega arith)

next-not : (e : End) (t : State) (k : State → Out) → is_done e ≡ false → ends e t ≡ next e t k
unfolding is_done next
next-not Done t k h = let z : ◌≡◌ {A = ℕ} 0 1 = cc in absurd (omega arith)
next-not Failed t k h = refl
next-not Broke t k h = refl
next-not (Stopped w) t k h = refl

-- nothing is next
next-none : (e : End) (t : State) → next e t (λ u. ends Done u) ≡ ends e t
unfolding next
next-none Done t = refl
next-none Failed t = refl
next-none Broke t = refl
next-none (Stopped w) t = refl

again-not : (e : End) (s t : State) (k : State → Out) → is_done e ≡ false → closed e s t ≡ again e s t k
unfolding is_done again closed
again-not Done s t k h = let z : ◌≡◌ {A = ℕ} 0 1 = cc in absurd (omega arith)
again-not Failed s t k h = refl
again-not Broke s t k h = refl
again-not (Stopped w) s t k h = refl

pub settled-fuel : (e : End) (keep : Bool) (s t : State) → (settled e keep s t).fuel ≡ t.fuel
unfolding settled choose
settled-fuel Done true s t = refl
settled-fuel Done false s t = refl
settled-fuel Failed keep s t = refl
settled-fuel Broke keep s t = refl
settled-fuel (Stopped w) keep s t = refl

pub settled-steps : (e : End) (keep : Bool) (s t : State) → (settled e keep s t).steps ≡ t.steps
unfolding settled choose
settled-steps Done true s t = refl
settled-steps Done false s t = refl
settled-steps Failed keep s t = refl
settled-steps Broke keep s t = refl
settled-steps (Stopped w) keep s t = refl

module _ (most room : ℕ) (rules : List Rule) where
  -- Entering.

  pub enter-none : (c : Command) (s : State) → s.fuel ≡ 0 → ends (Stopped OutOfFuel) s ≡ exec most room rules c s
  enter-none c s h = sym ((exec_spending most room rules c).empty s h)

  pub enter-paid : (c : Command) (s : State) → (s.fuel ≡ 0 → ⊥) → work most room rules c (state_at s.ledger (s.fuel - 1) (s.steps + 1)) ≡ exec most room rules c s
  enter-paid c s h =
      let z : s.fuel ≡ suc (s.fuel - 1) = omega arith in
      rw (add-one s.steps) (sym (exec-entered most room rules c s (s.fuel - 1) z))

  pub called-work : (c : Command) (s : State) → works most room rules (in_order (c ∷ [])) s ≡ work most room rules (called c) s
  unfolding work works in_order
  called-work c s = let o = exec most room rules c s in next-none o.end o.state

  pub leaf-work : (tag : ℕ) (e : End) (s : State) → LeafTag tag e → ends e s ≡ work most room rules (leaf_of e) s
  unfolding work
  leaf-work tag Done s h = refl
  leaf-work tag Failed s h = refl
  leaf-work tag Broke s h = refl
  leaf-work tag (Stopped w) s h = absurd h

  -- Rows: the first command came to o.

  module _ (c : Command) (l : List Command) (s : State) (o : Out) (p : o ≡ exec most room rules c s) where
    pub row_more : o.end ≡ Done → works most room rules (in_order l) o.state ≡ works most room rules (in_order (c ∷ l)) s
    unfolding works in_order next
    row_more h = rw (← p) (ap (λ (e : End). next e o.state (λ t. works most room rules (in_order l) t)) (sym h))

    pub row_ends : is_done o.end ≡ false → o ≡ works most room rules (in_order (c ∷ l)) s
    unfolding works in_order
    row_ends h = rw (← p) (next-not o.end o.state _ h)

  pub row_done : (s : State) → ends Done s ≡ works most room rules (in_order []) s
  unfolding works in_order
  row_done s = refl

  -- Guarded commands: the guard came to o.

  module _ (keep : Bool) (l : List Command) (s : State) where
    decide-runs : (e : End) (t u : State) (which : ℕ) → part_after e ≡ Some which → u ≡ settled e keep s t
        → exec most room rules (get_or l which skip) u ≡ decide e keep s t (exec most room rules (get_or l 1 skip)) (exec most room rules (get_or l 2 skip))
    unfolding part_after settled decide
    decide-runs Done t u which q h = let z : ◌≡◌ {A = ℕ} 1 which = cc in rw (← z, h)
    decide-runs Failed t u which q h = let z : ◌≡◌ {A = ℕ} 2 which = cc in rw (← z, h)
    decide-runs Broke t u which q h = let z : ◌≡◌ {A = ℕ} 0 1 = cc in absurd (omega arith)
    decide-runs (Stopped w) t u which q h = let z : ◌≡◌ {A = ℕ} 0 1 = cc in absurd (omega arith)

    decide-stops : (e : End) (t : State) (a b : State → Out) → part_after e ≡ None → ends e t ≡ decide e keep s t a b
    unfolding part_after decide
    decide-stops Done t a b q = let z : ◌≡◌ {A = ℕ} 0 1 = cc in absurd (omega arith)
    decide-stops Failed t a b q = let z : ◌≡◌ {A = ℕ} 0 1 = cc in absurd (omega arith)
    decide-stops Broke t a b q = refl
    decide-stops (Stopped w) t a b q = refl

    module _ (o : Out) (p : o ≡ exec most room rules (get_or l 0 skip) s) where
      pub guarded-runs : (u : State) (which : ℕ) → part_after o.end ≡ Some which → u ≡ settled o.end keep s o.state
          → exec most room rules (get_or l which skip) u ≡ work most room rules (guarded keep (get_or l 0 skip) (get_or l 1 skip) (get_or l 2 skip)) s
      unfolding work
      guarded-runs u which q h = rw (← p) (decide-runs o.end o.state u which q h)

      pub guarded-stops : part_after o.end ≡ None → o ≡ work most room rules (guarded keep (get_or l 0 skip) (get_or l 1 skip) (get_or l 2 skip)) s
      unfolding work
      guarded-stops q = rw (← p) (decide-stops o.end o.state _ _ q)

  -- Loops: the body came to o.

  module _ (c : Command) (s : State) where
    pub loop-out : s.fuel ≤ 0 → ends (Stopped OutOfFuel) s ≡ work most room rules (loop c) s
    unfolding work rounds
    loop-out h = let z : s.fuel ≡ 0 = omega arith in rw z

    module _ (o : Out) (p : o ≡ exec most room rules c s) (h : 0 < s.fuel) where
      one-round : work most room rules (loop c) s ≡ again o.end s o.state (λ t. rounds (s.fuel - 1) (exec most room rules c) t)
      unfolding work rounds
      one-round = let z : s.fuel ≡ suc (s.fuel - 1) = omega arith in ap (λ (n : ℕ). rounds n (exec most room rules c) s) z ∙ rw (← p)

      pub loop-more : o.end ≡ Done → work most room rules (loop c) o.state ≡ work most room rules (loop c) s
      unfolding work again
      loop-more e =
          let b = exec_spending most room rules c in
          let f : o.state.fuel ≤ s.fuel - 1 = rw p (b.spends s) in
          rounds_bound o.state.fuel (s.fuel - 1) (exec most room rules c) b o.state (omega arith) f
          ∙ ap (λ (x : End). again x s o.state (λ t. rounds (s.fuel - 1) (exec most room rules c) t)) (sym e)
          ∙ sym one-round

      pub loop-closes : is_done o.end ≡ false → closed o.end s o.state ≡ work most room rules (loop c) s
      loop-closes e = again-not o.end s o.state _ e ∙ sym one-round
