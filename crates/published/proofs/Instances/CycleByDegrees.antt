-- The published program is-cycle-by-degrees (programs/is-cycle-by-degrees): its rules are those of is-cycle, with the degrees as
-- conditions that a deleted node has in the left graph, and each matches where that of is-cycle does and nowhere else.
-- Rests on RootedCycle and Degrees.
use Rattle.std.specs.Prelude.{◌≡◌, refl, ◌↔◌, ℕ, zero, suc, ◌<◌, length}
use Rattle.std.proofs.Math.Option.{some}
use Rattle.std.proofs.Common.{arith}
use Rattle.meaning.specs.Procedures.{program}
use Rattle.meaning.specs.Commands.{rule_at}
use Rattle.meaning.specs.Computing.{computing}
use Rattle.published.specs.Graphs.{Graph}
use Rattle.published.specs.RuleApplication.{Matches}
use Rattle.published.specs.Degrees.{asking}
use Rattle.published.proofs.Degrees.{asking-same}
use Rattle.published.specs.Instances.RootedCycle.{red1, red2, red3}
use Rattle.published.specs.Instances.CycleByDegrees.{image, plain, asked, tree}

pub by_degrees_is : program image ≡ some tree
unfolding computing
by_degrees_is = refl

pub same-matches : (i : ℕ) → i < length plain → (G : Graph) → Matches (rule_at plain i) G ↔ Matches (rule_at asked i) G
unfolding computing
same-matches zero k G = (λ m. m, λ m. m)
same-matches (suc zero) k G = asking-same red1 refl 0 (omega arith) (omega arith) G
same-matches (suc (suc zero)) k G =
    let one = asking-same red2 refl 1 (omega arith) (omega arith) G in
    let other = asking-same (asking red2 1) refl 0 (omega arith) (omega arith) G in
    (λ m. other.0 (one.0 m), λ m. one.1 (other.1 m))
same-matches (suc (suc (suc zero))) k G = asking-same red3 refl 2 (omega arith) (omega arith) G
same-matches (suc (suc (suc (suc zero)))) k G = (λ m. m, λ m. m)
same-matches (suc (suc (suc (suc (suc i))))) k G = absurd (omega arith)
