-- `interpreter::nhiemavut_narrow` meets its contract: document 01's layout and the old one are layouts, and the call leaves what the definition says.
use Rattle.std.proofs.Common.{arith}
use Rattle.laws.specs.Layout.{base-sized, four-sized}
use Rattle.interpreter.proofs.nhiemavut_narrow.Goals as goal

pub carry_tables-requires : goal.carry_tables-requires
carry_tables-requires c =
    record {
      sized = rw c.base.ensures base-sized;
      sized_2 = rw c.four.ensures four-sized;
      atoms_le_most_atoms = rw c.base.ensures (omega arith);
    }

pub returns : goal.returns
returns c =
    rw (← c.base.ensures, ← c.four.ensures, c.from.ensures) c.carry_tables.ensures
