-- `variable_atom` meets its contract.
use Rattle.std.proofs.Common.{sym, arith}
use lib.ListN.{get_or-eq_default}
use Rattle.slots.specs.Laid.{laid}
use Rattle.agreeing.proofs.variable_atom.Goals as goal

pub returns-then-count-eq0 : goal.returns-then-count-eq0
returns-then-count-eq0 c = λ w. rw (← (c.value-b.ensures.1 w)) (sym (get_or-eq_default (laid c.value-b.result.now) 0 {n = 0} (omega (arith, c.count.ensures, c.if-count-eq0.true))))
