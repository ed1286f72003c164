-- The layouts whose runs are listed, the bytes of the longest journal that such a run is lent, and arrays of zeros. Rests on the
-- meaning's Layout and interpreter's Run.
use Rattle.std.specs.Prelude.{◌≡◌, List, ℕ, ◌*◌, ◌≤◌, length, get_or}
use Rattle.std.proofs.Common.{arith}
use Rattle.meaning.specs.Layout.{base, layout_of, record_length}
use Rattle.meaning.specs.declared.Layout.{Layout}
use Rattle.meaning.specs.declared.Core.{Core}
use Rattle.meaning.specs.declared.Core.TheVariants.{Wide, Small}
use Rattle.interpreter.specs.Run.{RunLayout, core_runs}

-- programs run in the layout, and there is room: it has no more slots than document 01's, and no longer records
pub record Listable (L : Layout) : Type 0 where
  pub runs : RunLayout L
  pub nodes : L.nodes ≤ base.nodes
  pub edges : L.edges ≤ base.edges
  pub change : L.change ≤ base.change

pub core_listable : (c : Core) → Listable (layout_of c)
core_listable Wide = record { runs = core_runs Wide; nodes = omega arith; edges = omega arith; change = omega arith }
core_listable Small = record { runs = core_runs Small; nodes = omega arith; edges = omega arith; change = omega arith }

-- the bytes of the longest journal
abbrev pub full_journal : ℕ
full_journal = base.records * record_length base

-- so many zeros
pub record Zeros (n : ℕ) (l : List ℕ) : Type 0 where
  pub long : length l ≡ n
  pub zero : (i : ℕ) → get_or l i 0 ≡ 0
