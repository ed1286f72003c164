-- Computed cases: tables that are widened and narrowed, and that are refused; a program that can't hold a label with four atoms and can
-- with eight; and one for which all that `widened-run` asks is met. Rests on Widening and ExampleTables, on the demands' First, Second and
-- Cases, and on the meaning's ProvedSet and Computing.
use Rattle.std.specs.Prelude.{◌≡◌, refl, [], ◌∷◌}
use Rattle.std.proofs.Common.{arith, leb-true}
use Rattle.meaning.specs.Layout.{base, four}
use Rattle.meaning.specs.Calls.{report_of}
use Rattle.meaning.specs.Carrying.{lending_tables, widen, narrow}
use Rattle.meaning.specs.Computing.{computing}
use Rattle.demands.specs.Ours.{ours}
use Rattle.demands.proofs.First.{demand1}
use Rattle.demands.proofs.Second.{demand2}
use Rattle.demands.proofs.Cases.{lendable}
use Rattle.meaning.specs.declared.Manner.TheVariants.{Exact}
use Rattle.meaning.specs.declared.Refusal.TheVariants.{NodeTableLength, EdgeTableLength, BadHost, LabelDoesNotFit}
use Rattle.layouts.specs.Carried.{arriving}
use Rattle.layouts.specs.ExampleTables.{node, bad_root, seven_nodes, seven_edges, leaves, lent, seen}
use Rattle.layouts.specs.LargerRuns.{RunsAs}
use Rattle.layouts.proofs.LargerRuns.{same-fuel}
use Rattle.layouts.specs.CarriedRuns.{CarriedLent, CarriedRun}
use Rattle.laws.specs.Undoing.{base-numbered, four-numbered}
use Rattle.layouts.proofs.Widening.{widened-run}
use Rattle.layouts.specs.WideningExamples.{loop_edge, four_atoms, five_times, x, y}

-- Widened and back, over sevens; the atoms lie where they lay, and there are zeros behind.

pub widened : widen (lending_tables (node four 0 four_atoms) (loop_edge four four_atoms) (seven_nodes base 1) (seven_edges base 1))
    ≡ arriving (node base 0 four_atoms) (loop_edge base four_atoms)
unfolding computing
widened = refl

pub narrowed : narrow (lending_tables (node base 0 four_atoms) (loop_edge base four_atoms) (seven_nodes four 1) (seven_edges four 1))
    ≡ arriving (node four 0 four_atoms) (loop_edge four four_atoms)
unfolding computing
narrowed = refl

-- Refused: five atoms do not fit; a root flag of 2; one slot to two, of nodes and of edges. The lowest number is answered, and the tables
-- are as they were.

pub five-atoms : narrow (lending_tables (node base 0 (5 ∷ four_atoms)) [] (seven_nodes four 1) [])
    ≡ leaves LabelDoesNotFit (seven_nodes four 1) []
unfolding computing
five-atoms = refl

pub damaged : widen (lending_tables (bad_root four) [] (seven_nodes base 1) []) ≡ leaves BadHost (seven_nodes base 1) []
unfolding computing
damaged = refl

pub other-nodes : widen (lending_tables (bad_root four) [] (seven_nodes base 2) []) ≡ leaves NodeTableLength (seven_nodes base 2) []
unfolding computing
other-nodes = refl

pub other-edges : narrow (lending_tables (node base 0 (5 ∷ four_atoms)) [] (seven_nodes four 1) (seven_edges four 1))
    ≡ leaves EdgeTableLength (seven_nodes four 1) (seven_edges four 1)
unfolding computing
other-edges = refl

-- five atoms are too many of four, and not of eight
pub too_large : seen ((ours four).run (lent four 8 five_times (node four 0 (9 ∷ [])))) ≡ (6, node four 0 (9 ∷ []), report_of 1 0)
unfolding computing
too_large = refl

pub large-enough : seen ((ours base).run (lent base 8 five_times (node base 0 (9 ∷ []))))
    ≡ (0, node base 0 (9 ∷ 9 ∷ 9 ∷ 9 ∷ 9 ∷ []), report_of 1 1)
unfolding computing
large-enough = refl

x-red : seen ((ours four).run x) ≡ (0, node four 1 four_atoms, report_of 1 1)
unfolding computing
x-red = refl

y-red : seen ((ours base).run y) ≡ (0, node base 1 four_atoms, report_of 1 1)
unfolding computing
y-red = refl

x-to-y : CarriedLent Exact four base x y
unfolding computing
x-to-y =
    record {
      lendable = lendable y refl;
      to_nodes = seven_nodes base 1;
      to_edges = [];
      carried = refl;
      nodes_many = tt;
      edges_many = tt;
      records = leb-true 8 8 refl;
      journal_fits = refl;
      image = refl;
      fuel_fits = leb-true 10 1000000 refl;
      report_fits = refl;
    }

x-runs : RunsAs four (ours four) (ours base) x (CarriedLent Exact four base x)
    (λ y c. CarriedRun Exact four base x y ((ours four).run x) ((ours base).run y))
unfolding computing
x-runs =
    widened-run (ours four) (ours base) (demand1 four) (demand2 four four-numbered) (demand1 base) (demand2 base base-numbered) x
    (lendable x refl) (omega arith)

-- both have fuel 10
pub same-red : CarriedRun Exact four base x y ((ours four).run x) ((ours base).run y)
same-red = same-fuel four (ours four) (ours base) x _ _ x-runs y x-to-y refl
