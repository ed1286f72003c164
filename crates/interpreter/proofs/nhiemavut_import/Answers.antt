-- `interpreter::nhiemavut_import` meets its contract: the wide core's layout is a layout, and the call leaves what the definition says.
use Rattle.std.proofs.Common.{arith}
use Rattle.laws.specs.Layout.{base-sized}
use Rattle.interpreter.proofs.nhiemavut_import.Goals as goal

pub import_text-requires : goal.import_text-requires
import_text-requires c =
    record {
      sized = rw c.base.ensures base-sized;
      atoms_le_most_atoms = rw c.base.ensures (omega arith);
      nodes_bound = rw c.base.ensures (omega arith, omega arith);
    }

pub returns : goal.returns
returns c = rw (← c.base.ensures, c.from.ensures) c.import_text.ensures
