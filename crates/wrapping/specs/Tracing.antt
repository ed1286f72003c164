-- From the meaning to what commands come to: a command that did not run out of fuel comes to its end; each step is a command noted; and
-- the steps are the commands entered that are counted and the silent ones. Rests on Entering, Coming and laws' Fuel.
use Rattle.std.specs.Prelude.{◌≡◌, Bool, List, length}
use Prim.Native.Nat.{ℕ, ◌+◌}
use Rattle.meaning.specs.Image.{Rule}
use Rattle.meaning.specs.Procedures.{Command}
use Rattle.laws.specs.Fuel.{AtOut}
use Rattle.wrapping.specs.Entering.{passing, Noted, NotedOut}
use Rattle.wrapping.specs.Coming.{Task, Comes}

-- it did not run out of fuel
abbrev pub Enough : NotedOut → Type 0
Enough o = AtOut o.end ⊥

module _ (silent : Command → Bool) (most room : ℕ) (rules : List Rule) where
  -- from s on, task t comes to o
  pub record Trace (t : Task) (s : Noted) (o : NotedOut) : Type 0 where
    pub counts : ℕ
    pub comes : Comes silent most room rules t o.end o.noted.state.ledger counts
    pub total : o.noted.state.steps + passing silent s.entered ≡ counts + s.state.steps + passing silent o.noted.entered
    pub each : o.noted.state.steps + length s.entered ≡ s.state.steps + length o.noted.entered
