-- `close` meets its contract.
use Rattle.std.proofs.Common.{inl, inr}
use Rattle.ends.proofs.Ending.{closed-done, closed-failed, closed-broke, closed-stopped}
use Rattle.ends.proofs.close.Goals as goal

pub returns-in-Failed : goal.returns-in-Failed
returns-in-Failed c = closed-failed _ c.back.ensures c.in-Failed.is

pub returns-in-Broke : goal.returns-in-Broke
returns-in-Broke c = closed-broke _ c.requires.running c.in-Broke.is

pub returns-in-Done : goal.returns-in-Done
returns-in-Done c =
    elim c.in-Done.is [
      | inl e ↦ closed-done _ c.requires.running e
      | inr e ↦ closed-stopped _ c.requires.running e.1
    ]
