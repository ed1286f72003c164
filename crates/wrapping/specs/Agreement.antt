-- What is said of runs of programs that differ in wrapping alone, or in that calls are written out: what they are lent, in what they
-- agree, and how many steps they take. Rests on Wrapping, WrittenOut and Entering, on the meaning's Commands and on the demands' Demands.
use Rattle.std.specs.Prelude.{◌≡◌, [], ℕ, ◌+◌, ◌<◌, ◌≤◌, length, take}
use Rattle.std.proofs.Math.Option.{some, none}
use Rattle.meaning.specs.Numbers.{number}
use Rattle.meaning.specs.Layout.{host_of}
use Rattle.meaning.specs.Procedures.{Program, program}
use Rattle.meaning.specs.Commands as Plain
use Rattle.meaning.specs.Commands.{beginning}
use Rattle.meaning.specs.Calls.{Lent, journal_room}
use Rattle.demands.specs.Demands.{Lendable, Outcome, Interpreter, records_in, run_refused_with, start}
use Rattle.wrapping.specs.Wrapping.{wraps}
use Rattle.wrapping.specs.WrittenOut.{is_call}
use Rattle.wrapping.specs.Entering.{passing, NotedOut, exec}
use Rattle.meaning.specs.declared.Layout.{Layout}
use Rattle.meaning.specs.declared.Stop.TheVariants.{OutOfFuel}
use Rattle.meaning.specs.declared.End.TheVariants.{Stopped}

-- What is lent.

-- x and y lend the same tables, and journals of one length
pub record SameTables (x y : Lent) : Type 0 where
  pub nodes : x.nodes ≡ y.nodes
  pub edges : x.edges ≡ y.edges
  pub journal : length x.journal ≡ length y.journal

-- x lends an image of p, and nothing that it lends is refused
pub record Starts (L : Layout) (x : Lent) (p : Program) : Type 0 where
  pub lendable : Lendable x
  pub reads : program x.image ≡ some p
  pub accepted : run_refused_with L x ≡ none

-- the run is not out of fuel
abbrev pub Fuelled : Interpreter → Lent → Type 0
Fuelled I x = (I.run x).answer ≡ 2 → ⊥

-- The commands entered.

module _ (L : Layout) (x : Lent) (p : Program) where
  -- what p does on what x lends, with the commands noted that are entered
  abbrev pub noting : NotedOut
  noting = exec L.atoms (journal_room L x.journal) p.rules p.main (record { state = start L x; entered = [] })

  -- the sequence, skip and call commands entered
  abbrev pub wraps_in : ℕ
  wraps_in = passing wraps noting.noted.entered

  -- the calls entered
  abbrev pub calls_in : ℕ
  calls_in = passing is_call noting.noted.entered

-- In what two runs agree.

-- the steps that a report states
abbrev pub steps_in : Outcome → ℕ
steps_in o = number (take 4 o.report)

-- all is the same but the steps
pub record SameButSteps (o q : Outcome) : Type 0 where
  pub answer : o.answer ≡ q.answer
  pub nodes : o.nodes ≡ q.nodes
  pub edges : o.edges ≡ q.edges
  pub journal : o.journal ≡ q.journal
  pub records : records_in o ≡ records_in q

-- the same but for the steps; w of the one's and v of the other's only wrap, and the other commands entered are as many
pub record Agree (o q : Outcome) (w v : ℕ) : Type 0 where
  pub same : SameButSteps o q
  pub others : ℕ
  pub steps : steps_in o ≡ others + w
  pub steps' : steps_in q ≡ others + v

-- How many steps a run takes.

-- p takes s steps on the tables that x lends. By the meaning it comes to its end with s fuel or more, however much that is; and a run with
-- s fuel or more comes to its end, while one with less is out of fuel.
pub record Needs (L : Layout) (I : Interpreter) (x : Lent) (p : Program) (s : ℕ) : Type 0 where
  pub ends : (fuel : ℕ) → s ≤ fuel
      → let o = Plain.exec L.atoms (journal_room L x.journal) p.rules p.main (beginning (host_of L x.nodes x.edges) fuel) in
      (o.end ≡ Stopped OutOfFuel → ⊥) × (o.state.steps ≡ s)
  pub enough : (y : Lent) → Starts L y p → SameTables x y → s ≤ y.fuel → Fuelled I y × (steps_in (I.run y) ≡ s)
  pub short : (y : Lent) → Starts L y p → SameTables x y → y.fuel < s → (I.run y).answer ≡ 2
