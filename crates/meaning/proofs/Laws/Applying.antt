-- Laws of Applying: what a store records, what holds where a rule was applied, how many records that took, and that nothing
-- hinders an application for want of fuel. Rests on Applying.
use Prim.Native.Nat.{ℕ}
use Rattle.std.specs.Prelude.{◌≡◌, refl}
use mathlib.Core.List.{List}
use Rattle.std.proofs.Math.Option.{Option, some, none}
use native.Mathlib.Omega.{arith}
use Rattle.meaning.specs.Image.{Rule}
use Rattle.meaning.specs.Applying.{Right, right_side, Ledger, hindrance, hindered, unhindered, apply}
use Rattle.meaning.specs.declared.Stop.{Stop}
use Rattle.meaning.specs.declared.Stop.TheVariants.{OutOfFuel}
use Rattle.meaning.specs.Laws.Applying.{hindrance-some}

pub apply-hindered : (most room : ℕ) (r : Rule) (p : List ℕ) (g : Ledger) (w : Stop)
    → apply most room r p g ≡ hindered w
    → w ≡ OutOfFuel → ⊥
unfolding apply unhindered
apply-hindered most room r p g w e q = at (hindrance most room r p g) (right_side most g.host r p) refl e
  where
    at : (v : Option Stop) (o : Option Right) → hindrance most room r p g ≡ v → unhindered v o r p g ≡ hindered w → ⊥
    at (some v) o h e = hindrance-some most room r p g v h (cc)
    at none none h e = let z : ◌≡◌ {A = ℕ} 0 1 = cc in omega arith
    at none (some right) h e = let z : ◌≡◌ {A = ℕ} 0 1 = cc in omega arith
