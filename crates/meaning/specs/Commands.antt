-- Commands: what each does to the host, the journal, the fuel and the steps, and what each end does to a sequence, a guard
-- and a loop body. Rests on Basics, Layout, Image, Procedures, Applying and, for the first match alone, FirstMatch, and on the code's Stop
-- and End.
use Rattle.std.specs.Prelude.{Bool, false, List, [], ◌∷◌, ℕ, zero, suc, get_or}
use Rattle.std.proofs.Math.Option.{Option, some, none}
use Rattle.meaning.specs.Basics.{choose}
use Rattle.meaning.specs.Layout.{Host}
use Rattle.meaning.specs.Image.{Rule}
use Rattle.meaning.specs.Procedures.{Command, rule_set, sequence, guarded, loop, skip, fail, break, called, Commands, no_more, then}
use Rattle.meaning.specs.FirstMatch.{first_match}
use Rattle.meaning.specs.Applying.{Ledger, ledger_at, Applied, applied, hindered, apply}
use Rattle.meaning.specs.declared.Stop.TheVariants.{OutOfFuel}
use Rattle.meaning.specs.declared.End.{End}
use Rattle.meaning.specs.declared.End.TheVariants.{Done, Failed, Broke, Stopped}

pub record State : Type 0 where
  pub ledger : Ledger
  pub fuel : ℕ
  pub steps : ℕ

abbrev pub state_at : Ledger → ℕ → ℕ → State
state_at g fuel steps = record { ledger = g; fuel = fuel; steps = steps }

-- the state that a run begins in
abbrev pub beginning : Host → ℕ → State
beginning h fuel = state_at (ledger_at h []) fuel 0

pub record Out : Type 0 where
  pub end : End
  pub state : State

abbrev pub ends : End → State → Out
ends e s = record { end = e; state = s }

-- host and journal as at s, fuel and steps as at t: what was changed from s to t is undone
abbrev pub back : State → State → State
back s t = state_at s.ledger t.fuel t.steps

-- Entering a command costs one fuel and is one step.
unfoldable pub enter_at : ℕ → (State → Out) → State → Out
enter_at zero k s = ends (Stopped OutOfFuel) s
enter_at (suc f) k s = k (state_at s.ledger f (suc s.steps))

abbrev pub enter : (State → Out) → State → Out
enter k s = enter_at s.fuel k s

-- Rule sets: the first listed rule that has a match.

-- a rule of the image by its number, and the slots of its match
pub record Chosen : Type 0 where
  pub number : ℕ
  pub rule : Rule
  pub slots : List ℕ

unfoldable pub or_later : ℕ → Rule → Option (List ℕ) → Option Chosen → Option Chosen
or_later i r none later = later
or_later i r (some p) later = some (record { number = i; rule = r; slots = p })

abbrev pub rule_at : List Rule → ℕ → Rule
rule_at rules i =
    get_or rules i
    (record { variables = []; left = record { nodes = []; edges = [] }; right = record { nodes = []; edges = [] }; interface = 0; tests = []; preserving = false })

unfoldable pub first_rule : List Rule → Host → List ℕ → Option Chosen
first_rule rules h [] = none
first_rule rules h (i ∷ l) =
    let later = first_rule rules h l in
    or_later i (rule_at rules i) (first_match h (rule_at rules i)) later

unfoldable pub after_applying : Applied → State → Out
after_applying (applied g) s = ends Done (state_at g s.fuel s.steps)
after_applying (hindered w) s = ends (Stopped w) s

-- What follows, by how a command ended. Nothing catches `Stopped`.

-- the next command of a sequence
unfoldable pub next : End → State → (State → Out) → Out
next Done t k = k t
next Failed t k = ends Failed t
next Broke t k = ends Broke t
next (Stopped w) t k = ends (Stopped w) t

-- the second or the third command after a guard that began at s; `keep` is whether a successful guard's changes stay
unfoldable pub decide : End → Bool → State → State → (State → Out) → (State → Out) → Out
decide Done keep s t yes' no' = yes' (choose keep t (back s t))
decide Failed keep s t yes' no' = no' (back s t)
decide Broke keep s t yes' no' = ends Broke t
decide (Stopped w) keep s t yes' no' = ends (Stopped w) t

-- the next round after a loop body that began at s
unfoldable pub again : End → State → State → (State → Out) → Out
again Done s t k = k t
again Failed s t k = ends Done (back s t)
again Broke s t k = ends Done t
again (Stopped w) s t k = ends (Stopped w) t

-- at most n rounds of a loop; each enters its body, so that n can be the fuel left
unfoldable pub rounds : ℕ → (State → Out) → State → Out
rounds zero body s = ends (Stopped OutOfFuel) s
rounds (suc n) body s = let o = body s in again o.end s o.state (λ t. rounds n body t)

-- most: the atoms that a label holds; room: the records that the journal holds
module _ (most room : ℕ) (rules : List Rule) where
  unfoldable pub rule_call : Option Chosen → State → Out
  rule_call none s = ends Failed s
  rule_call (some c) s = after_applying (apply most room c.rule c.slots s.ledger) s

  unfoldable mutual
    -- what a command does once it is entered
    pub work : Command → State → Out
    work (rule_set l) s = rule_call (first_rule rules s.ledger.host l) s
    work (sequence cs) s = works cs s
    work (guarded keep g a b) s =
        let o = enter (λ t. work g t) s in
        decide o.end keep s o.state (enter (λ t. work a t)) (enter (λ t. work b t))
    work (loop c) s = rounds s.fuel (enter (λ t. work c t)) s
    work skip s = ends Done s
    work fail s = ends Failed s
    work break s = ends Broke s
    work (called c) s = enter (λ t. work c t) s

    -- commands in order
    pub works : Commands → State → Out
    works no_more s = ends Done s
    works (then c cs) s = let o = enter (λ t. work c t) s in next o.end o.state (λ t. works cs t)

  abbrev pub exec : Command → State → Out
  exec c s = enter (λ t. work c t) s
