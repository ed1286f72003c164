-- What a run of an interpreter that meets demands 1 and 2 leaves, by the meaning with notes: it comes to its end, and its steps are the
-- commands counted and the silent ones noted; and what is known to come to an end takes as many steps as it enters commands. Rests on
-- Agreement, Forgetting, Coming, Fuelling and Tracing, on the demands' Ours and OneOutcome, and on laws' Numbers and Fuel.
use Rattle.std.specs.Prelude.{◌≡◌, Bool, List, ℕ, ◌+◌}
use Rattle.meaning.specs.Image.{Rule}
use Rattle.meaning.specs.Procedures.{Program, Command}
use Rattle.meaning.specs.Applying.{Ledger}
use Rattle.meaning.specs.Calls.{Lent, journal_room}
use Rattle.laws.specs.Undoing.{Numbered}
use Rattle.demands.specs.Demands.{Interpreter, start, Demand1, Demand2}
use Rattle.wrapping.specs.Entering.{passing, NotedOut}
use Rattle.wrapping.specs.Agreement.{Starts, Fuelled, noting, steps_in}
use Rattle.wrapping.specs.Coming.{whole, enters, Comes}
use Rattle.meaning.specs.declared.Layout.{Layout}
use Rattle.meaning.specs.declared.End.{End}

-- What commands come to on the tables that are lent.

-- on what x lends, command c comes to end e at h, and n commands are entered that are not silent
abbrev pub ComesOn : (Command → Bool) → Layout → Lent → List Rule → Command → End → Ledger → ℕ → Type 0
ComesOn silent L x rules c e h n = Comes silent L.atoms (journal_room L x.journal) rules (enters c (start L x).ledger whole) e h n

module _ (L : Layout) (numbered : Numbered L) (I : Interpreter) (first : Demand1 L I) (second : Demand2 L I) where
  -- A run.

  module _ (x : Lent) (p : Program) (a : Starts L x p) where
    abbrev pub last : NotedOut
    last = noting L x p

    module _ (fuelled : Fuelled I x) where
      -- the run comes to its end, and its steps are the commands counted and the silent ones
      pub record Traced (silent : Command → Bool) : Type 0 where
        pub counts : ℕ
        pub comes : ComesOn silent L x p.rules p.main last.end last.noted.state.ledger counts
        pub steps : steps_in (I.run x) ≡ counts + passing silent last.noted.entered
