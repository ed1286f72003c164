-- `run_set` meets its contract.
use Rattle.std.proofs.Common.{refl}
use Rattle.commands.proofs.Parts.{listed}
use Rattle.commands.proofs.Turns.{out-of-fuel, begun-spent, paid-set}
use Rattle.commands.proofs.run_set.Goals as goal

pub returns-then-t-eq0 : goal.returns-then-t-eq0
returns-then-t-eq0 c = out-of-fuel _ c.if-t-eq0.true c.requires.begun

pub call-requires : goal.call-requires
call-requires c = record {
  running = (begun-spent _ c.entered.ensures c.if-t-eq0.false c.requires.begun).running;
  listed = listed c.requires.known refl;
}

pub returns : goal.returns
returns c = paid-set _ c.entered.ensures c.if-t-eq0.false refl c.call.ensures
