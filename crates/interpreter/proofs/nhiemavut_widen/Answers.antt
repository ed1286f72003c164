-- `interpreter::nhiemavut_widen` meets its contract: the old layout and document 01's are layouts, and the call leaves what the definition says.
use Rattle.std.proofs.Common.{arith}
use Rattle.laws.specs.Layout.{base-sized, four-sized}
use Rattle.interpreter.proofs.nhiemavut_widen.Goals as goal

pub carry_tables-requires : goal.carry_tables-requires
carry_tables-requires c =
    record {
      sized = rw c.four.ensures four-sized;
      sized_2 = rw c.base.ensures base-sized;
      atoms_le_most_atoms = rw c.four.ensures (omega arith);
    }

pub returns : goal.returns
returns c =
    rw (← c.four.ensures, ← c.base.ensures, c.from.ensures) c.carry_tables.ensures
