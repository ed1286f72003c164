-- `interpreter::nhiemavut_small_undo` meets its contract: the small core's layout is a layout, and the call leaves what the definition says.
use Rattle.laws.specs.Layout.{small-sized}
use Rattle.interpreter.proofs.nhiemavut_small_undo.Goals as goal

pub undo_call-requires : goal.undo_call-requires
undo_call-requires c = rw c.small.ensures small-sized

pub returns : goal.returns
returns c = rw (← c.small.ensures, c.from.ensures) c.undo_call.ensures
