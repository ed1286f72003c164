-- `interpreter::nhiemavut_run` meets its contract: programs run in document 01's layout, and the call leaves what the definition says.
use Rattle.interpreter.specs.Run.{base-runs}
use Rattle.interpreter.proofs.nhiemavut_run.Goals as goal

pub run_call-requires : goal.run_call-requires
run_call-requires c = rw c.base.ensures base-runs

pub returns : goal.returns
returns c = rw (← c.base.ensures, c.from.ensures) c.run_call.ensures
