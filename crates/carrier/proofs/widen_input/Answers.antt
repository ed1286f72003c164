-- `widen_input` meets its contract: inputs are carried between these two layouts.
use Rattle.carrier.specs.Laws.{widening}
use Rattle.carrier.proofs.widen_input.Goals as goal

pub carry_input-requires : goal.carry_input-requires
carry_input-requires c = record {
  between = rw (c.four.ensures, c.base.ensures) widening;
  most_input_in_bounds = c.requires;
}

pub returns : goal.returns
returns c =
    rw (← c.four.ensures, ← c.base.ensures) c.carry_input.ensures
