-- What commands come to, whatever the fuel: a relation of what is left to do and how it ends, with the commands counted that are
-- entered, but for those that a test names silent. It has one outcome. Rests on Entering.
use Rattle.std.specs.Prelude.{◌≡◌, refl, Bool, true, false, List, ◌∷◌, ℕ, suc, ◌+◌}
use Rattle.std.proofs.Common.{sym, ◌∙◌, subst, arith}
use Rattle.std.proofs.Math.Option.{Option, some, none}
use Rattle.meaning.specs.Basics.{choose}
use Rattle.meaning.specs.Image.{Rule}
use Rattle.meaning.specs.Procedures.{Command, rule_set, sequence, guarded, loop, skip, fail, break, called, Commands, no_more, then}
use Rattle.meaning.specs.Applying.{Ledger, Applied, applied, hindered}
use Rattle.meaning.specs.Commands.{state_at, Out, ends, Chosen, first_rule, after_applying, rule_call}
use Rattle.wrapping.specs.Entering.{passing}
use Rattle.meaning.specs.declared.End.{End}
use Rattle.meaning.specs.declared.End.TheVariants.{Done, Failed, Broke, Stopped}

-- Which commands are counted.

-- 0 for a silent command, 1 for another
abbrev pub counted : (Command → Bool) → Command → ℕ
counted silent c = choose (silent c) 0 1

-- no command is silent: each is counted
abbrev pub nothing : Command → Bool
nothing c = false

-- each command is counted here or there
pub counted-passing : (silent : Command → Bool) (c : Command) (l : List Command)
    → counted silent c + passing silent (c ∷ l) ≡ suc (passing silent l)
unfolding passing choose
counted-passing silent c l = at (silent c)
  where
    at : (b : Bool) → choose b 0 1 + choose b (suc (passing silent l)) (passing silent l) ≡ suc (passing silent l)
    at true = omega arith
    at false = omega arith

-- What is left to do.

-- What is done with the end of a command: nothing, the commands behind it, the branches whose guard it is, another round.
pub data Use : Type 0 where
  whole : Use
  sequel : Commands → Use
  branches : Bool → Command → Command → Use
  further : Use

-- what is left to do: nothing, or a command to enter and a use of its end
pub data Task : Type 0 where
  halts : End → Ledger → Task
  enters : Command → Ledger → Use → Task

abbrev pub follows : Commands → Ledger → Task
follows no_more g = halts Done g
follows (then c cs) g = enters c g (sequel cs)

-- what is behind a command that ended in e at h
abbrev pub onward : Commands → End → Ledger → Task
onward cs Done h = follows cs h
onward cs Failed h = halts Failed h
onward cs Broke h = halts Broke h
onward cs (Stopped w) h = halts (Stopped w) h

-- the branch behind a guard that began at g
abbrev pub decided : Bool → Command → Command → Ledger → End → Ledger → Task
decided keep a b g Done h = enters a (choose keep h g) whole
decided keep a b g Failed h = enters b g whole
decided keep a b g Broke h = halts Broke h
decided keep a b g (Stopped w) h = halts (Stopped w) h

-- the round behind one that began at g
abbrev pub repeated : Command → Ledger → End → Ledger → Task
repeated c g Done h = enters c h further
repeated c g Failed h = halts Done g
repeated c g Broke h = halts Done h
repeated c g (Stopped w) h = halts (Stopped w) h

-- command c began at g and ended in e at h
abbrev pub resume : Use → Command → Ledger → End → Ledger → Task
resume whole c g e h = halts e h
resume (sequel cs) c g e h = onward cs e h
resume (branches keep a b) c g e h = decided keep a b g e h
resume further c g e h = repeated c g e h

-- a rule set changes neither fuel nor steps, and does not look at them
after_frame : (a : Applied) (g : Ledger) (f n f' n' : ℕ)
    → after_applying a (state_at g f n)
    ≡ ends (after_applying a (state_at g f' n')).end (state_at (after_applying a (state_at g f' n')).state.ledger f n)
unfolding after_applying
after_frame (applied x) g f n f' n' = refl
after_frame (hindered w) g f n f' n' = refl

pub rule-frame : (most room : ℕ) (rules : List Rule) (o : Option Chosen) (g : Ledger) (f n f' n' : ℕ)
    → rule_call most room rules o (state_at g f n)
    ≡ ends (rule_call most room rules o (state_at g f' n')).end (state_at (rule_call most room rules o (state_at g f' n')).state.ledger f n)
unfolding rule_call
rule-frame most room rules none g f n f' n' = refl
rule-frame most room rules (some c) g f n f' n' = after_frame _ g f n f' n'

module _ (most room : ℕ) (rules : List Rule) where
  -- what a rule set does at g
  abbrev pub matched : List ℕ → Ledger → Out
  matched l g = rule_call most room rules (first_rule rules g.host l) (state_at g 0 0)

  -- what an entered command leaves to do
  abbrev pub does : Command → Ledger → Task
  does (rule_set l) g = halts (matched l g).end (matched l g).state.ledger
  does (sequence cs) g = follows cs g
  does (guarded keep x a b) g = enters x g (branches keep a b)
  does (loop c) g = enters c g further
  does skip g = halts Done g
  does fail g = halts Failed g
  does break g = halts Broke g
  does (called c) g = enters c g whole

-- What it comes to.

module _ (silent : Command → Bool) (most room : ℕ) (rules : List Rule) where
  -- what is left comes to end e at h, and n commands are entered that are not silent
  pub data Comes : Task → End → Ledger → ℕ → Type 0 where
    halted : {e : End} {g : Ledger} {n : ℕ} → n ≡ 0 → Comes (halts e g) e g n
    goes : {c : Command} {g : Ledger} {u : Use} {e e' : End} {h h' : Ledger} {m m' n : ℕ} → Comes (does most room rules c g) e h m
        → Comes (resume u c g e h) e' h' m' → n ≡ counted silent c + m + m' → Comes (enters c g u) e' h' n

  pub comes-one : {t : Task} {e e' : End} {h h' : Ledger} {n n' : ℕ} → Comes t e h n → Comes t e' h' n'
      → (e ≡ e') × (h ≡ h') × (n ≡ n')
  comes-one (halted z) (halted z') = (refl, refl, z ∙ sym z')
  comes-one (goes {c = c} {g = g} {u = u} {e = e} {h = h} d r q) (goes {e = x} {e' = x'} {h = y} {h' = y'} {m' = k} d' r' q') =
      let i = comes-one d d' in
      let s : Comes (resume u c g e y) x' y' k = subst (λ (w : End). Comes (resume u c g w y) x' y' k) (sym i.0) r' in
      let t : Comes (resume u c g e h) x' y' k = subst (λ (w : Ledger). Comes (resume u c g e w) x' y' k) (sym i.1) s in
      let j = comes-one r t in
      (j.0, j.1, omega (arith, i.2, j.2))

  -- A command with whose end nothing is done.

  abbrev pub Idle : Use → Type 0
  Idle u = (c : Command) (g : Ledger) (e : End) (h : Ledger) → Comes (resume u c g e h) e h 0

  pub idle_whole : Idle whole
  idle_whole c g e h = halted refl

  pub idle_last : Idle (sequel no_more)
  idle_last c g Done h = halted refl
  idle_last c g Failed h = halted refl
  idle_last c g Broke h = halted refl
  idle_last c g (Stopped w) h = halted refl

  pub idle_comes : (u : Use) → Idle u → {c : Command} {g : Ledger} {e : End} {h : Ledger} {n : ℕ} → Comes (enters c g u) e h n
      → (m : ℕ) × Comes (does most room rules c g) e h m × (n ≡ counted silent c + m)
  idle_comes u idle (goes {c = c} {g = g} {e = e} {h = h} {m = m} d r q) =
      let i = comes-one (idle c g e h) r in
      (m, rw (← i.0, ← i.1) d, omega (arith, i.2))

-- with all commands counted it comes to the same
pub comes-counted : (silent : Command → Bool) (most room : ℕ) (rules : List Rule) {t : Task} {e : End} {h : Ledger} {n : ℕ}
    → Comes silent most room rules t e h n → (s : ℕ) × Comes nothing most room rules t e h s
comes-counted silent most room rules (halted z) = (0, halted refl)
comes-counted silent most room rules (goes a r q) =
    let i = comes-counted silent most room rules a in
    let j = comes-counted silent most room rules r in
    (_, goes i.1 j.1 refl)
