-- From what commands come to back to the meaning: what a command comes to, it comes to with as much fuel as commands are entered, and with
-- more. Rests on Coming and laws' Fuel.
use Rattle.std.specs.Prelude.{◌≡◌, Bool, List}
use Rattle.std.proofs.Math.Path.{refl, ap}
use Rattle.std.proofs.Common.{◌∙◌, arith, le_refl}
use Rattle.std.proofs.Math.Bool.{true, false}
use Prim.Native.Nat.{ℕ, zero, suc, ◌+◌, ◌-◌, ◌≤◌}
use Rattle.meaning.specs.Basics.{choose}
use Rattle.meaning.specs.Image.{Rule}
use Rattle.meaning.specs.Procedures.{Command, rule_set, sequence, guarded, loop, skip, fail, break, called, Commands, no_more, then}
use Rattle.meaning.specs.Applying.{Ledger}
use Rattle.meaning.specs.Commands.{State, state_at, Out, ends, enter_at, first_rule, next, decide, again, rounds, work, works, exec}
use Rattle.laws.specs.Fuel.{exec_spending, again-same, rounds_bound}
use Rattle.wrapping.specs.Coming.{nothing, Use, whole, sequel, branches, further, Task, halts, enters, follows, resume, rule-frame, does, Comes, halted, goes}
use Rattle.meaning.specs.declared.End.{End}
use Rattle.meaning.specs.declared.End.TheVariants.{Done, Failed, Broke, Stopped}

module _ (most room : ℕ) (rules : List Rule) where
  -- what is done with the end of a command that was entered at s
  abbrev used : Use → Command → State → Out → Out
  used whole c s o = o
  used (sequel cs) c s o = next o.end o.state (λ t. works most room rules cs t)
  used (branches keep a b) c s o = decide o.end keep s o.state (exec most room rules a) (exec most room rules b)
  used further c s o = again o.end s o.state (λ t. rounds t.fuel (exec most room rules c) t)

  -- a task done with fuel f, after k steps
  abbrev doing : Task → ℕ → ℕ → Out
  doing (halts e g) f k = ends e (state_at g f k)
  doing (enters c g u) f k = used u c (state_at g f k) (exec most room rules c (state_at g f k))

  looping : (c : Command) (g : Ledger) (f k : ℕ) → rounds f (exec most room rules c) (state_at g f k) ≡ doing (enters c g further) f k
  unfolding rounds again enter_at
  looping c g zero k = refl
  looping c g (suc f) k =
      let b = exec_spending most room rules c in
      let o = exec most room rules c (state_at g (suc f) k) in
      again-same o.end _ o.state _ _
      (rounds_bound f o.state.fuel (exec most room rules c) b o.state (omega (arith, b.spends (state_at g (suc f) k))) (le_refl _))

  following : (cs : Commands) (g : Ledger) (f k : ℕ) → works most room rules cs (state_at g f k) ≡ doing (follows cs g) f k
  unfolding works
  following no_more g f k = refl
  following (then c cs) g f k = refl

  choosing : (keep : Bool) (a : Command) (g h : Ledger) (f k : ℕ)
      → exec most room rules a (choose keep (state_at h f k) (state_at g f k)) ≡ exec most room rules a (state_at (choose keep h g) f k)
  unfolding choose
  choosing true a g h f k = refl
  choosing false a g h f k = refl

  resuming : (u : Use) (c : Command) (g : Ledger) (e : End) (h : Ledger) (f k f' k' : ℕ)
      → used u c (state_at g f k) (ends e (state_at h f' k')) ≡ doing (resume u c g e h) f' k'
  unfolding next decide again
  resuming whole c g e h f k f' k' = refl
  resuming (sequel cs) c g Done h f k f' k' = following cs h f' k'
  resuming (sequel cs) c g Failed h f k f' k' = refl
  resuming (sequel cs) c g Broke h f k f' k' = refl
  resuming (sequel cs) c g (Stopped w) h f k f' k' = refl
  resuming (branches keep a b) c g Done h f k f' k' = choosing keep a g h f' k'
  resuming (branches keep a b) c g Failed h f k f' k' = refl
  resuming (branches keep a b) c g Broke h f k f' k' = refl
  resuming (branches keep a b) c g (Stopped w) h f k f' k' = refl
  resuming further c g Done h f k f' k' = looping c h f' k'
  resuming further c g Failed h f k f' k' = refl
  resuming further c g Broke h f k f' k' = refl
  resuming further c g (Stopped w) h f k f' k' = refl

  working : (c : Command) (g : Ledger) (f k : ℕ) → work most room rules c (state_at g f k) ≡ doing (does most room rules c g) f k
  unfolding work
  working (rule_set l) g f k = rule-frame most room rules (first_rule rules g.host l) g f k 0 0
  working (sequence cs) g f k = following cs g f k
  working (guarded keep x a b) g f k = refl
  working (loop c) g f k = looping c g f k
  working skip g f k = refl
  working fail g f k = refl
  working break g f k = refl
  working (called c) g f k = refl

  -- with s fuel or more the task ends in e at h, and s of it is gone
  abbrev pub Takes : Task → End → Ledger → ℕ → Type 0
  Takes t e h s = (f k : ℕ) → s ≤ f → doing t f k ≡ ends e (state_at h (f - s) (k + s))

  at : (e : End) (h : Ledger) (f k f' k' : ℕ) → f ≡ f' → k ≡ k' → ends e (state_at h f k) ≡ ends e (state_at h f' k')
  at e h f k f' k' p q = rw (p, q)

  goes-takes : (c : Command) (g : Ledger) (u : Use) (e : End) (h : Ledger) (e' : End) (h' : Ledger) (s s' n : ℕ)
      → Takes (does most room rules c g) e h s → Takes (resume u c g e h) e' h' s' → n ≡ suc (s + s') → Takes (enters c g u) e' h' n
  unfolding enter_at
  goes-takes c g u e h e' h' s s' n a r q zero k p = absurd (omega arith)
  goes-takes c g u e h e' h' s s' n a r q (suc f) k p =
      ap (used u c (state_at g (suc f) k)) (working c g f (suc k) ∙ a f (suc k) (omega arith))
      ∙ resuming u c g e h (suc f) k (f - s) (suc k + s)
      ∙ r (f - s) (suc k + s) (omega arith)
      ∙ at e' h' _ _ _ _ (omega arith) (omega arith)

  -- where each command is counted, the count is the steps
  pub comes-takes : {t : Task} {e : End} {h : Ledger} {n : ℕ} → Comes nothing most room rules t e h n → Takes t e h n
  unfolding choose
  comes-takes (halted {e = e} {g = g} z) = λ f k p. at e g _ _ _ _ (omega arith) (omega arith)
  comes-takes (goes {c = c} {g = g} {u = u} {e = e} {e' = e'} {h = h} {h' = h'} {m = m} {m' = m'} {n = n} a r q) =
      goes-takes c g u e h e' h' m m' n (comes-takes a) (comes-takes r) (omega arith)
