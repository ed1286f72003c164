-- Our two calls as an interpreter, and what it leaves by whether its input is refused. Rests on Demands and laws' Calls.
use Rattle.std.specs.Prelude.{ℕ, ◌≡◌, Bool, true, false, List, [], ◌∷◌, map}
use Rattle.std.proofs.Math.Path.{refl, ap}
use Rattle.std.proofs.Common.{sym, ◌∙◌, arith}
use Rattle.std.proofs.Math.Option.{Option, some, none}
use Rattle.meaning.specs.Basics.{choose, first_failing}
use Rattle.meaning.specs.Procedures.{Program, program}
use Rattle.meaning.specs.Commands.{Out}
use Rattle.meaning.specs.Calls.{stop_number, answer_number, refusal_number, refused, refusal_as, finished, undo_refusal as undo_refused, undo_on, undo, Lent, LentUndo}
use Rattle.demands.specs.Demands.{stop_answer, run_refused_with, undo_refused_with, as_it_came, outcome_at}
use Rattle.laws.specs.Calls.{accepted, accepts, run-refused, run-started, undo-refused}
use Rattle.meaning.specs.declared.Layout.{Layout}
use Rattle.meaning.specs.declared.Refusal.{Refusal}
use Rattle.meaning.specs.declared.Stop.{Stop}
use Rattle.meaning.specs.declared.Stop.TheVariants.{OutOfFuel, NoNodeRoom, NoEdgeRoom, NoRecordRoom, LabelTooLarge}
use Rattle.meaning.specs.declared.End.{End}
use Rattle.meaning.specs.declared.End.TheVariants.{Done, Failed, Broke, Stopped}
use Rattle.demands.specs.Ours.{outcome, ours, numbered, with_number}
use Rattle.demands.specs.Ours as Defs

failing-number : (l : List (Bool × Refusal)) → first_failing (map with_number l) ≡ numbered (first_failing l)
unfolding first_failing choose
failing-number [] = refl
failing-number (c ∷ l) = at c.0 (failing-number l)
  where
    at : (b : Bool) → first_failing (map with_number l) ≡ numbered (first_failing l)
        → choose b (first_failing (map with_number l)) (some (refusal_number c.1)) ≡ numbered (choose b (first_failing l) (some c.1))
    at true h = h
    at false h = refl

numbered-none : (o : Option Refusal) → numbered o ≡ none → o ≡ none
numbered-none none e = refl
numbered-none (some w) e = let z : ◌≡◌ {A = ℕ} 0 1 = cc in absurd (omega arith)

numbered-some : (o : Option Refusal) (n : ℕ) → numbered o ≡ some n → (w : Refusal) × (o ≡ some w) × (refusal_number w ≡ n)
numbered-some none n e = let z : ◌≡◌ {A = ℕ} 0 1 = cc in absurd (omega arith)
numbered-some (some w) n e = (w, refl, cc)

module _ (L : Layout) (x : Lent) where
  abbrev refusing : Option Refusal
  refusing = Defs.refusing L x

  refusal-number : run_refused_with L x ≡ numbered refusing
  unfolding refusal_as refusal_number
  refusal-number = failing-number _

  pub refusing-none : run_refused_with L x ≡ none → refusing ≡ none
  refusing-none e = numbered-none refusing (sym refusal-number ∙ e)

  pub refusing-some : (n : ℕ) → run_refused_with L x ≡ some n → (w : Refusal) × (refusing ≡ some w) × (refusal_number w ≡ n)
  refusing-some n e = numbered-some refusing n (sym refusal-number ∙ e)

  pub refusal-none : refusing ≡ none → run_refused_with L x ≡ none
  refusal-none e = refusal-number ∙ ap numbered e

  stop-number : (w : Stop) → stop_number w ≡ stop_answer w
  unfolding stop_number
  stop-number OutOfFuel = refl
  stop-number NoNodeRoom = refl
  stop-number NoEdgeRoom = refl
  stop-number NoRecordRoom = refl
  stop-number LabelTooLarge = refl

  -- what a started run leaves is what its program's end and last state say
  finished-outcome : (e : End) (o : Out) → outcome (finished L e o x.nodes x.edges x.journal) ≡ outcome_at L x e o.state
  unfolding finished answer_number
  finished-outcome Done o = refl
  finished-outcome Failed o = refl
  finished-outcome Broke o = refl
  finished-outcome (Stopped w) o = ap (λ (n : ℕ). as_it_came L x n o.state.steps) (stop-number w)

  abbrev end : Program → Out
  end = Defs.end L x

  pub ours-outcome : (p : Program) → run_refused_with L x ≡ none → program x.image ≡ some p
      → (ours L).run x ≡ outcome_at L x (end p).end (end p).state
  ours-outcome p e q =
      ap outcome (run-started L x p (refusing-none e) q)
      ∙ finished-outcome (end p).end (end p)

  abbrev Good : Type 0
  Good = Defs.Good L x

  pub good : run_refused_with L x ≡ none → Good
  good e = accepted L x (refusing-none e)

  pub good-starts : Good → run_refused_with L x ≡ none
  good-starts a = refusal-none (accepts L x a)

  pub ours-refused : (w : Refusal) → refusing ≡ some w → (ours L).run x ≡ outcome (refused w x.nodes x.edges x.journal x.report)
  ours-refused w e = ap outcome (run-refused L x w e)

module _ (L : Layout) (y : LentUndo) where
  abbrev undoing : Option Refusal
  undoing = Defs.undoing L y

  undo-number : undo_refused_with L y ≡ numbered undoing
  unfolding undo_refused refusal_number
  undo-number = failing-number _

  pub undoing-none : undo_refused_with L y ≡ none → undoing ≡ none
  undoing-none e = numbered-none undoing (sym undo-number ∙ e)

  pub undoing-some : (n : ℕ) → undo_refused_with L y ≡ some n → (w : Refusal) × (undoing ≡ some w) × (refusal_number w ≡ n)
  undoing-some n e = numbered-some undoing n (sym undo-number ∙ e)

  pub undo-outcome : undoing ≡ none
      → undo L y ≡ undo_on L none y
  unfolding undo
  undo-outcome e = rw e

  pub undo-left : (w : Refusal) → undoing ≡ some w
      → (ours L).undo y ≡ outcome (refused w y.nodes y.edges y.journal y.report)
  undo-left w e = ap outcome (undo-refused L y w e)
