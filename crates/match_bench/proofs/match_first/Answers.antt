-- `match_first` lends room of zeros.
use Rattle.std.proofs.Common.{refl}
use Rattle.values.specs.Zeros.{stored-none}
use Rattle.match_bench.proofs.match_first.Goals as goal

pub invariant_of-values : goal.invariant_of-values
invariant_of-values c = record { stored = stored-none }

pub repeated-found-requires : goal.repeated-found-requires
repeated-found-requires c =
    record {
      image_value = c.requires.image_value;
      fact = c.requires.fact;
      plan_len = refl;
    }
