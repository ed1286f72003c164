-- Interpreters with a worthless undo at document 01's layout, each with the demand that it does not meet: one that empties every buffer
-- where the tables break the layout, which no run leaves; one that stores the records back from first to last; one that leaves the
-- journal. Rests on Cases.
use Rattle.std.specs.Prelude.{ℕ, refl, List, length, get_or}
use Rattle.std.proofs.Common.{ap, arith}
use Rattle.meaning.specs.Layout.{base}
use Rattle.meaning.specs.Computing.{computing}
use Rattle.demands.specs.Demands.{stored_back, Demand1}
use Rattle.demands.proofs.Cases.{lendable_undo}
use Rattle.demands.specs.WorthlessUndo.{empties_rest, broken, twice, first_to_last, keeps_journal}

pub emptying_rest : Demand1 base empties_rest → ⊥
unfolding computing stored_back
emptying_rest d = let z = ap length (d.undoes broken (lendable_undo broken refl) refl).nodes in omega arith

pub first-to-last : Demand1 base first_to_last → ⊥
unfolding computing stored_back
first-to-last d =
    let z = ap (λ (l : List ℕ). get_or l 0 0) (d.undoes twice (lendable_undo twice refl) refl).nodes in omega arith

pub keeping_journal : Demand1 base keeps_journal → ⊥
unfolding computing stored_back
keeping_journal d =
    let z = ap (λ (l : List ℕ). get_or l 0 0) (d.undoes twice (lendable_undo twice refl) refl).journal in omega arith
