-- Our two calls as an interpreter, and what it leaves by whether its input is refused. Rests on Demands and laws' Calls.
use Rattle.std.specs.Prelude.{ℕ, Bool}
use Rattle.std.proofs.Math.Option.{Option, some, none}
use Rattle.meaning.specs.Procedures.{Program}
use Rattle.meaning.specs.Commands.{Out}
use Rattle.meaning.specs.Calls.{Returned, answer_number, refusal_number, run_refusal, run, undo_refusal as undo_refused, undo, Lent, LentUndo}
use Rattle.demands.specs.Demands.{Outcome, Interpreter}
use Rattle.laws.specs.Calls.{Accepted, ending}
use Rattle.meaning.specs.declared.Layout.{Layout}
use Rattle.meaning.specs.declared.Refusal.{Refusal}

abbrev pub outcome : Returned → Outcome
outcome l =
    record { answer = answer_number l.answer; nodes = l.nodes; edges = l.edges; journal = l.journal; report = l.report }

abbrev pub ours : Layout → Interpreter
ours L =
    record {
      run = λ x. outcome (run L x);
      undo = λ y. outcome (undo L y);
    }

-- The number of what goes with the first failing test.

abbrev pub numbered : Option Refusal → Option ℕ
numbered none = none
numbered (some w) = some (refusal_number w)

abbrev pub with_number : Bool × Refusal → Bool × ℕ
with_number c = (c.0, refusal_number c.1)

module _ (L : Layout) (x : Lent) where
  abbrev pub refusing : Option Refusal
  refusing = run_refusal L x

  abbrev pub end : Program → Out
  end p = ending L x p

  abbrev pub Good : Type 0
  Good = Accepted L x

module _ (L : Layout) (y : LentUndo) where
  abbrev pub undoing : Option Refusal
  undoing = undo_refused L y
