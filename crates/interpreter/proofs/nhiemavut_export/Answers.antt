-- `interpreter::nhiemavut_export` meets its contract: the wide core's layout is a layout, and the call leaves what the definition says.
use Rattle.std.proofs.Common.{arith}
use Rattle.laws.specs.Layout.{base-sized}
use Rattle.interpreter.proofs.nhiemavut_export.Goals as goal

pub export_tables-requires : goal.export_tables-requires
export_tables-requires c =
    record {
      sized = rw c.base.ensures base-sized;
      few = rw c.base.ensures (record { atoms = omega arith; nodes = omega arith; edges = omega arith });
    }

pub returns : goal.returns
returns c = rw (← c.base.ensures, c.from.ensures) c.export_tables.ensures
