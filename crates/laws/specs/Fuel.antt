-- Laws of fuel and steps: what is spent is counted, a command spends, it runs out of fuel only where none is left, and the
-- rounds of a loop do not depend on their bound. Rests on the meaning's Commands and on Commands.
use Rattle.std.specs.Prelude.{ℕ, zero, suc, ◌+◌, ◌-◌, ◌≤◌, ◌≡◌, List, Bool}
use Rattle.std.proofs.Math.Path.{refl}
use Rattle.std.proofs.Common.{◌∙◌, ap, arith, le_refl}
use Rattle.std.proofs.Math.Option.{Option, some, none}
use Rattle.meaning.specs.Image.{Rule}
use Rattle.meaning.specs.Procedures.{Command, rule_set, sequence, guarded, loop, skip, fail, break, called, Commands, no_more, then}
use Rattle.meaning.specs.Applying.{Applied, applied, hindered, apply}
use Rattle.meaning.specs.Commands.{State, Out, ends, enter_at, enter, Chosen, after_applying, next, decide, again, rounds, rule_call, work, works, exec}
use Rattle.meaning.proofs.Laws.Applying.{apply-hindered}
use Rattle.laws.specs.Commands.{entered, Kept, call-either, work-kept, works-kept, exec_kept}
use Rattle.meaning.specs.declared.Stop.{Stop}
use Rattle.meaning.specs.declared.Stop.TheVariants.{OutOfFuel, NoNodeRoom, NoEdgeRoom, NoRecordRoom, LabelTooLarge}
use Rattle.meaning.specs.declared.End.{End}
use Rattle.meaning.specs.declared.End.TheVariants.{Done, Failed, Broke, Stopped}

-- What is spent is counted.

-- from s to t as many steps were counted as fuel was spent
pub record Counted (s t : State) : Type 0 where
  pub total : t.fuel + t.steps ≡ s.fuel + s.steps
  pub less : t.fuel ≤ s.fuel

module _ (most room : ℕ) (rules : List Rule) where
  pub counted-kept : Kept most room rules Counted
  counted-kept =
      record {
        same = λ s. record { total = refl; less = le_refl _ };
        trans = λ s t u a b. record { total = b.total ∙ a.total; less = omega (arith, a.less, b.less) };
        enters = λ s f e. record { total = omega arith; less = omega arith };
        undoes = λ s t a. record { total = a.total; less = a.less };
        calls = λ l s. call-either most room rules _ s (Counted s) (record { total = refl; less = le_refl _ })
            (λ c g e a. record { total = refl; less = le_refl _ });
      }

  pub exec-counted : (c : Command) (s : State) → Counted s (exec most room rules c s).state
  exec-counted c s = exec_kept most room rules Counted counted-kept c s

  pub work-counted : (c : Command) (s : State) → Counted s (work most room rules c s).state
  work-counted c s = work-kept most room rules Counted counted-kept c s

  pub works-counted : (cs : Commands) (s : State) → Counted s (works most room rules cs s).state
  works-counted cs s = works-kept most room rules Counted counted-kept cs s

-- A command spends: it stops at once with no fuel, and else at least one is gone.

pub record Spending (body : State → Out) : Type 0 where
  pub empty : (s : State) → s.fuel ≡ 0 → body s ≡ ends (Stopped OutOfFuel) s
  pub spends : (s : State) → (body s).state.fuel ≤ s.fuel - 1

enter_at-empty : (f : ℕ) (k : State → Out) (s : State) → f ≡ 0 → enter_at f k s ≡ ends (Stopped OutOfFuel) s
unfolding enter_at
enter_at-empty zero k s e = refl
enter_at-empty (suc f) k s e = absurd (omega arith)

pub enter_at-spends : (f : ℕ) (k : State → Out) → ((t : State) → (k t).state.fuel ≤ t.fuel) → (s : State) → s.fuel ≡ f
    → (enter_at f k s).state.fuel ≤ f - 1
unfolding enter_at
enter_at-spends zero k h s e = omega arith
enter_at-spends (suc f) k h s e = omega (arith, h (entered f s))

enter_spending : (k : State → Out) → ((s : State) → (k s).state.fuel ≤ s.fuel) → Spending (enter k)
enter_spending k h =
    record { empty = λ s e. enter_at-empty s.fuel k s e; spends = λ s. enter_at-spends s.fuel k h s refl }

pub exec_spending : (most room : ℕ) (rules : List Rule) (c : Command) → Spending (exec most room rules c)
exec_spending most room rules c = enter_spending _ (λ s. (work-counted most room rules c s).less)

-- Out of fuel.

-- P, where the reason or the end is that fuel ran out
abbrev pub IfOut : Stop → Type 0 → Type 0
IfOut OutOfFuel P = P
IfOut NoNodeRoom P = Unit {0}
IfOut NoEdgeRoom P = Unit {0}
IfOut NoRecordRoom P = Unit {0}
IfOut LabelTooLarge P = Unit {0}

abbrev pub AtOut : End → Type 0 → Type 0
AtOut Done P = Unit {0}
AtOut Failed P = Unit {0}
AtOut Broke P = Unit {0}
AtOut (Stopped w) P = IfOut w P

if_out_of : (w : Stop) (P : Type 0) → (w ≡ OutOfFuel → P) → IfOut w P
if_out_of OutOfFuel P h = h refl
if_out_of NoNodeRoom P h = tt
if_out_of NoEdgeRoom P h = tt
if_out_of NoRecordRoom P h = tt
if_out_of LabelTooLarge P h = tt

pub at_out_of : (e : End) (P : Type 0) → (e ≡ Stopped OutOfFuel → P) → AtOut e P
at_out_of Done P h = tt
at_out_of Failed P h = tt
at_out_of Broke P h = tt
at_out_of (Stopped w) P h = if_out_of w P (λ e. h (ap {B = End} Stopped e))

-- Where fuel ran out, none is left.

abbrev Spent : Out → Type 0
Spent o = AtOut o.end (o.state.fuel ≡ 0)

enter-spent : (f : ℕ) (k : State → Out) → ((t : State) → Spent (k t)) → (s : State) → s.fuel ≡ f
    → Spent (enter_at f k s)
unfolding enter_at
enter-spent zero k h s e = e
enter-spent (suc f) k h s e = h _

next-spent : (e : End) (t : State) (k : State → Out) → Spent (ends e t) → Spent (k t) → Spent (next e t k)
unfolding next
next-spent Done t k h u = u
next-spent Failed t k h u = tt
next-spent Broke t k h u = tt
next-spent (Stopped w) t k h u = h

decide-spent : (e : End) (keep : Bool) (s t : State) (a b : State → Out) → Spent (ends e t)
    → ((u : State) → Spent (a u))
    → ((u : State) → Spent (b u)) → Spent (decide e keep s t a b)
unfolding decide
decide-spent Done keep s t a b h u v = u _
decide-spent Failed keep s t a b h u v = v _
decide-spent Broke keep s t a b h u v = tt
decide-spent (Stopped w) keep s t a b h u v = h

again-spent : (e : End) (s t : State) (k : State → Out) → Spent (ends e t) → Spent (k t) → Spent (again e s t k)
unfolding again
again-spent Done s t k h u = u
again-spent Failed s t k h u = tt
again-spent Broke s t k h u = tt
again-spent (Stopped w) s t k h u = h

rounds-spent : (n : ℕ) (body : State → Out) → Spending body → ((t : State) → Spent (body t)) → (s : State) → s.fuel ≤ n
    → Spent (rounds n body s)
unfolding rounds
rounds-spent zero body b h s k = omega arith
rounds-spent (suc n) body b h s k =
    again-spent (body s).end s _ _ (h s) (rounds-spent n body b h (body s).state (omega (arith, b.spends s)))

module _ (most room : ℕ) (rules : List Rule) where
  -- a rule set does not run out of fuel
  pub call-enough : (o : Option Chosen) (s : State) (P : Type 0) → AtOut (rule_call most room rules o s).end P
  unfolding rule_call after_applying
  call-enough none s P = tt
  call-enough (some c) s P = at (apply most room c.rule c.slots s.ledger) refl
    where
      at : (a : Applied) → apply most room c.rule c.slots s.ledger ≡ a → AtOut (after_applying a s).end P
      at (applied g) e = tt
      at (hindered w) e = if_out_of w _ (λ q. absurd (apply-hindered most room _ _ _ w e q))

  mutual
    unfolding work works

    work-spent : (c : Command) (s : State) → Spent (work most room rules c s)
    work-spent (rule_set l) s = call-enough _ s _
    work-spent (sequence cs) s = works-spent cs s
    work-spent (guarded keep g a b) s =
        decide-spent _ keep s _ _ _ (enter-spent s.fuel _ (λ t. work-spent g t) s refl)
        (λ u. enter-spent u.fuel _ (λ t. work-spent a t) u refl)
        (λ u. enter-spent u.fuel _ (λ t. work-spent b t) u refl)
    work-spent (loop c) s =
        rounds-spent s.fuel _ (exec_spending most room rules c)
        (λ u. enter-spent u.fuel _ (λ t. work-spent c t) u refl) s (le_refl _)
    work-spent skip s = tt
    work-spent fail s = tt
    work-spent break s = tt
    work-spent (called c) s = enter-spent s.fuel _ (λ t. work-spent c t) s refl

    works-spent : (cs : Commands) (s : State) → Spent (works most room rules cs s)
    works-spent no_more s = tt
    works-spent (then c cs) s = next-spent _ _ _ (enter-spent s.fuel _ (λ t. work-spent c t) s refl) (works-spent cs _)

-- The rounds of a loop do not depend on their bound where that is at least the fuel.

pub again-same : (e : End) (s t : State) (k l : State → Out) → k t ≡ l t → again e s t k ≡ again e s t l
unfolding again
again-same Done s t k l h = h
again-same Failed s t k l h = refl
again-same Broke s t k l h = refl
again-same (Stopped w) s t k l h = refl

pub rounds_bound : (n m : ℕ) (body : State → Out) → Spending body → (s : State) → s.fuel ≤ n → s.fuel ≤ m
    → rounds n body s ≡ rounds m body s
unfolding rounds again
rounds_bound zero zero body b s h k = refl
rounds_bound zero (suc m) body b s h k = rw (b.empty s (omega arith))
rounds_bound (suc n) zero body b s h k = rw (b.empty s (omega arith))
rounds_bound (suc n) (suc m) body b s h k =
    let q = b.spends s in
    again-same (body s).end s _ _ _ (rounds_bound n m body b (body s).state (omega arith) (omega arith))
