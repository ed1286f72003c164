-- From the contracts of the exported calls to the demands. An interpreter is `Exported L` if what it leaves of all that can be lent keeps
-- the promises `RunPromise L` and `UndoPromise L`. At `base` these are all that the contracts of nhiemavut_run and nhiemavut_undo say,
-- at `small` all that those of nhiemavut_small_run and nhiemavut_small_undo say. Each promise admits one outcome and no other; an
-- exported interpreter meets all three demands, and one that meets demands 1 and 2 is exported. It holds over every layout whose numbers
-- fit their bytes (`Numbered`). Rests on Met, OneOutcome, Lending and Again.
use Rattle.meaning.specs.Calls.{Lent, LentUndo, Returned, Yields, RunPromise, UndoPromise}
use Rattle.demands.specs.Demands.{Lendable, LendableUndo, Outcome, Interpreter}
use Rattle.meaning.specs.declared.Layout.{Layout}

pub record Exported (L : Layout) (I : Interpreter) : Type 0 where
  pub run : (x : Lent) → Lendable x
      → let o : Outcome = I.run x in RunPromise L x o.answer o.nodes o.edges o.journal o.report
  pub undo : (y : LentUndo) → LendableUndo y
      → let o : Outcome = I.undo y in UndoPromise L y o.answer o.nodes o.edges o.journal o.report

-- A promise admits one outcome, and there is one.

-- the outcome is what a call leaves, as the promises say it
abbrev pub Promised : Returned → Outcome → Type 0
Promised l o = Yields l o.answer o.nodes o.edges o.journal o.report
