-- `refusal::run_refusal` meets its contract: document 01's layout is a layout.
use Rattle.laws.specs.Layout.{base-sized}
use Rattle.refusal.proofs.run_refusal.Goals as goal

pub run_check-requires : goal.run_check-requires
run_check-requires c = rw c.base.ensures base-sized

pub returns : goal.returns
returns c = rw (← c.base.ensures) c.run_check.ensures
