-- The meaning of commands with the commands noted that are entered: Commands.antt of the meaning, clause by clause, with one list more.
-- How many of them pass a test. Rests on the meaning's Basics, Image, Procedures and Commands.
use Rattle.std.specs.Prelude.{Bool, List, [], ◌∷◌, ℕ, zero, suc}
use Rattle.meaning.specs.Basics.{choose}
use Rattle.meaning.specs.Image.{Rule}
use Rattle.meaning.specs.Procedures.{Command, rule_set, sequence, guarded, loop, skip, fail, break, called, Commands, no_more, then}
use Rattle.meaning.specs.Commands.{State, state_at, Out, back, first_rule, rule_call}
use Rattle.meaning.specs.declared.Stop.TheVariants.{OutOfFuel}
use Rattle.meaning.specs.declared.End.{End}
use Rattle.meaning.specs.declared.End.TheVariants.{Done, Failed, Broke, Stopped}

-- how many of the commands pass the test
unfoldable pub passing : (Command → Bool) → List Command → ℕ
passing test [] = 0
passing test (c ∷ l) = let n = passing test l in choose (test c) (suc n) n

-- a state, and the commands that have been entered on the way to it, the last first
pub record Noted : Type 0 where
  pub state : State
  pub entered : List Command

pub record NotedOut : Type 0 where
  pub end : End
  pub noted : Noted

abbrev pub ends : End → Noted → NotedOut
ends e s = record { end = e; noted = s }

-- what was changed is undone, but what was entered has been entered
abbrev pub back_to : Noted → Noted → Noted
back_to s t = record { state = back s.state t.state; entered = t.entered }

unfoldable pub enter_at : Command → ℕ → (Noted → NotedOut) → Noted → NotedOut
enter_at c zero k s = ends (Stopped OutOfFuel) s
enter_at c (suc f) k s = k (record { state = state_at s.state.ledger f (suc s.state.steps); entered = c ∷ s.entered })

abbrev pub enter : Command → (Noted → NotedOut) → Noted → NotedOut
enter c k s = enter_at c s.state.fuel k s

unfoldable pub next : End → Noted → (Noted → NotedOut) → NotedOut
next Done t k = k t
next Failed t k = ends Failed t
next Broke t k = ends Broke t
next (Stopped w) t k = ends (Stopped w) t

unfoldable pub decide : End → Bool → Noted → Noted → (Noted → NotedOut) → (Noted → NotedOut) → NotedOut
decide Done keep s t yes' no' = yes' (choose keep t (back_to s t))
decide Failed keep s t yes' no' = no' (back_to s t)
decide Broke keep s t yes' no' = ends Broke t
decide (Stopped w) keep s t yes' no' = ends (Stopped w) t

unfoldable pub again : End → Noted → Noted → (Noted → NotedOut) → NotedOut
again Done s t k = k t
again Failed s t k = ends Done (back_to s t)
again Broke s t k = ends Done t
again (Stopped w) s t k = ends (Stopped w) t

unfoldable pub rounds : ℕ → (Noted → NotedOut) → Noted → NotedOut
rounds zero body s = ends (Stopped OutOfFuel) s
rounds (suc n) body s = let o = body s in again o.end s o.noted (λ t. rounds n body t)

-- a rule set enters no command
abbrev pub unnoted : Out → Noted → NotedOut
unnoted o s = ends o.end (record { state = o.state; entered = s.entered })

module _ (most room : ℕ) (rules : List Rule) where
  unfoldable mutual
    pub work : Command → Noted → NotedOut
    work (rule_set l) s = unnoted (rule_call most room rules (first_rule rules s.state.ledger.host l) s.state) s
    work (sequence cs) s = works cs s
    work (guarded keep g a b) s =
        let o = enter g (λ t. work g t) s in
        decide o.end keep s o.noted (enter a (λ t. work a t)) (enter b (λ t. work b t))
    work (loop c) s = rounds s.state.fuel (enter c (λ t. work c t)) s
    work skip s = ends Done s
    work fail s = ends Failed s
    work break s = ends Broke s
    work (called c) s = enter c (λ t. work c t) s

    pub works : Commands → Noted → NotedOut
    works no_more s = ends Done s
    works (then c cs) s = let o = enter c (λ t. work c t) s in next o.end o.noted (λ t. works cs t)

  abbrev pub exec : Command → Noted → NotedOut
  exec c s = enter c (λ t. work c t) s
