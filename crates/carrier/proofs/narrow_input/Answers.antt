-- `narrow_input` meets its contract: inputs are carried between these two layouts.
use Rattle.carrier.specs.Laws.{narrowing}
use Rattle.carrier.proofs.narrow_input.Goals as goal

pub carry_input-requires : goal.carry_input-requires
carry_input-requires c = record {
  between = rw (c.base.ensures, c.four.ensures) narrowing;
  most_input_in_bounds = c.requires;
}

pub returns : goal.returns
returns c =
    rw (← c.base.ensures, ← c.four.ensures) c.carry_input.ensures
