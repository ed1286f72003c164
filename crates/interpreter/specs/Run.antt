-- The layouts that programs run in. Rests on the meaning's Layout and laws' Undoing.
use Rattle.std.specs.Prelude.{◌≤◌}
use Rattle.std.proofs.Common.{arith}
use Rattle.meaning.specs.Layout.{Sized, base, small, layout_of, most_atoms}
use Rattle.laws.specs.Undoing.{Numbered, base-numbered, small-numbered}
use Rattle.meaning.specs.declared.Layout.{Layout}
use Rattle.meaning.specs.declared.Core.{Core}
use Rattle.meaning.specs.declared.Core.TheVariants.{Wide, Small}
use Rattle.laws.specs.Layout.{base-sized, small-sized}

-- the sizes are those of atoms and width, code has room for a label's atoms, and slot numbers and counts fit their bytes
pub record RunLayout (L : Layout) : Type 0 where
  pub sized : Sized L
  pub few : L.atoms ≤ most_atoms
  pub numbered : Numbered L

-- document 01's layout is one, and so is that of the small core
pub base-runs : RunLayout base
base-runs = record { sized = base-sized; few = omega arith; numbered = base-numbered }

pub small-runs : RunLayout small
small-runs = record { sized = small-sized; few = omega arith; numbered = small-numbered }

pub core_runs : (c : Core) → RunLayout (layout_of c)
core_runs Wide = base-runs
core_runs Small = small-runs
