-- `interpreter::nhiemavut_small_run` meets its contract: programs run in the small core's layout, and the call leaves what the definition says.
use Rattle.interpreter.specs.Run.{small-runs}
use Rattle.interpreter.proofs.nhiemavut_small_run.Goals as goal

pub run_call-requires : goal.run_call-requires
run_call-requires c = rw c.small.ensures small-runs

pub returns : goal.returns
returns c = rw (← c.small.ensures, c.from.ensures) c.run_call.ensures
