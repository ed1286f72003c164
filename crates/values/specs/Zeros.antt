-- Arrays of zeros hold values. Rests on Values and on laws' Layout.
use Rattle.std.specs.Prelude.{refl, replicate}
use Rattle.std.proofs.Common.{arith}
use Rattle.meaning.specs.Image.{limits}
use Rattle.meaning.specs.Laws.Tests.{zeros_of}
use Rattle.laws.specs.Layout.{get_or-zeros}
use Rattle.values.specs.Values.{Stored, values_room}

pub stored-none : Stored (replicate limits.variables 0) (replicate values_room 0)
stored-none =
    record {
      variables = refl;
      room = refl;
      few = λ v. omega (arith, get_or-zeros (replicate limits.variables 0) v (zeros_of limits.variables));
      words = λ i. omega (arith, get_or-zeros (replicate values_room 0) i (zeros_of values_room));
    }
