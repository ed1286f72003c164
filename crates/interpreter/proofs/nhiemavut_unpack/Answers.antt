-- `interpreter::nhiemavut_unpack` meets its contract: the small core's layout and document 01's are layouts, and the call leaves what the definition says.
use Rattle.std.proofs.Common.{arith}
use Rattle.laws.specs.Layout.{base-sized, small-sized}
use Rattle.interpreter.proofs.nhiemavut_unpack.Goals as goal

pub carry_tables-requires : goal.carry_tables-requires
carry_tables-requires c =
    record {
      sized = rw c.small.ensures small-sized;
      sized_2 = rw c.base.ensures base-sized;
      atoms_le_most_atoms = rw c.small.ensures (omega arith);
    }

pub returns : goal.returns
returns c =
    rw (← c.small.ensures, ← c.base.ensures, c.from.ensures) c.carry_tables.ensures
