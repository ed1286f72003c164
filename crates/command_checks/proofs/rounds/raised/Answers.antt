-- `raised` meets its contract.
use Rattle.std.proofs.Common.{◌-◌, sym, arith}
use Rattle.meaning.specs.Image.{skip}
use Rattle.command_checks.proofs.Demands.{put-asked}
use Rattle.command_checks.proofs.Raising.{asked-height, still-known}
use Rattle.command_checks.proofs.rounds.raised.Goals as goal

pub returns-in-None : goal.returns-in-None
returns-in-None c p e w h =
    let a = c.args in
    rw c.then_some.ensures
    (asked-height p.procedures (a.n - 1) a.n _ _ (sym c.in-None.ensures) (omega arith) (w.height a.i) _
    (put-asked p.procedures (a.n - 1) a.heights.now w c.from.result a.n (omega arith) (omega arith) _ _ (c.procedure_holds.ensures p e h skip)))

pub returns-in_default : goal.returns-in_default
returns-in_default c p e w h = still-known p.procedures (c.args.n - 1) c.args.n _ _ c.in_default.not-None (rw c.height.ensures (w.height c.args.i))
