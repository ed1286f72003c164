-- Our two calls meet all three demands, over every layout whose numbers fit their bytes; so do the calls of both cores.
-- Rests on First, Second and Third.
use Rattle.meaning.specs.Layout.{layout_of}
use Rattle.demands.specs.Demands.{Demand1, Demand2, Demand3}
use Rattle.demands.specs.Ours.{ours}
use Rattle.demands.proofs.First.{demand1}
use Rattle.laws.specs.Undoing.{Numbered, core_numbered}
use Rattle.demands.proofs.Second.{demand2}
use Rattle.demands.proofs.Third.{demand3}
use Rattle.meaning.specs.declared.Layout.{Layout}
use Rattle.meaning.specs.declared.Core.{Core}

pub met : (L : Layout) → Numbered L → Demand1 L (ours L) × Demand2 L (ours L) × Demand3 L (ours L)
met L numbered = (demand1 L, demand2 L numbered, demand3 L numbered)

pub cores_met : (c : Core)
    → Demand1 (layout_of c) (ours (layout_of c)) × Demand2 (layout_of c) (ours (layout_of c)) × Demand3 (layout_of c) (ours (layout_of c))
cores_met c = met (layout_of c) (core_numbered c)
