-- `interpreter::nhiemavut_undo` meets its contract: the layout of document 01 is a layout, and the call leaves what the definition says.
use Rattle.laws.specs.Layout.{base-sized}
use Rattle.interpreter.proofs.nhiemavut_undo.Goals as goal

pub undo_call-requires : goal.undo_call-requires
undo_call-requires c = rw c.base.ensures base-sized

pub returns : goal.returns
returns c = rw (← c.base.ensures, c.from.ensures) c.undo_call.ensures
