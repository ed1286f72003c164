-- Worthless interpreters at document 01's layout, each with the demand that it does not meet and an input that shows it: a case of
-- document 01, or of our own where document 01 names none. At every layout demands 1 and 2 leave one outcome (OneOutcome).
-- Rests on Cases.
use Rattle.std.specs.Prelude.{ℕ, refl, List, [], get_or}
use Rattle.std.proofs.Common.{ap, arith}
use Rattle.meaning.specs.Layout.{base}
use Rattle.meaning.specs.Computing.{computing}
use Rattle.meaning.specs.ProvedSet.{plain_node, on_plain_node, results, skip_field}
use Rattle.demands.specs.Demands.{Outcome, Roomier, Demand1, Demand2, Demand3}
use Rattle.demands.proofs.First.{run_settled}
use Rattle.demands.specs.Cases.{lent, case_at, runs_on}
use Rattle.demands.proofs.Cases.{lendable, breaks2, at_case, breaks3}
use Rattle.laws.specs.Undoing.{base-numbered}
use Rattle.demands.proofs.Third.{entered-is}
use Rattle.laws.specs.Procedures.{written, all_written}
use Rattle.demands.specs.Worthless.{refuses_all, fails_always, never_changes, first_only, only_first, runs_first, calls_freely, call_of_skip, made_done, answers_anyway, with_mark, with_marks, after_guard, keeps_marks, failed_try, invents_steps, counts_twice, leaves_half, cut_short, carelessly, all_carelessly}

pub refusing-all : Demand2 base refuses_all → ⊥
unfolding computing
refusing-all = at_case 0 refl (omega arith) refuses_all (λ e. let z = ap (λ (o : Outcome). o.answer) e in omega arith)

pub failing_always : Demand2 base fails_always → ⊥
unfolding computing
failing_always = at_case 0 refl (omega arith) fails_always (λ e. let z = ap (λ (o : Outcome). o.answer) e in omega arith)

pub never_changing : Demand2 base never_changes → ⊥
unfolding computing
never_changing = at_case 6 refl (omega arith) never_changes (λ e. let z = ap (λ (o : Outcome). get_or o.nodes 0 0) e in omega arith)

pub running-first : Demand2 base runs_first → ⊥
unfolding computing runs_on first_only only_first
running-first = at_case 10 refl (omega arith) runs_first (λ e. let z = ap (λ (o : Outcome). get_or o.nodes 1 0) e in omega arith)

pub calling_freely : Demand2 base calls_freely → ⊥
unfolding computing runs_on written all_written
calling_freely =
    breaks2 base base-numbered calls_freely (lent call_of_skip) refl (omega arith)
    (λ e. let z = ap (λ (o : Outcome). get_or o.report 3 0) e in omega arith)

pub answering_anyway : Demand2 base answers_anyway → ⊥
unfolding computing runs_on made_done
answering_anyway = at_case 1 refl (omega arith) answers_anyway (λ e. let z = ap (λ (o : Outcome). o.answer) e in omega arith)

pub keeping_marks : Demand2 base keeps_marks → ⊥
unfolding computing runs_on carelessly all_carelessly after_guard with_mark with_marks
keeping_marks =
    breaks2 base base-numbered keeps_marks (lent failed_try) refl (omega arith)
    (λ e. let z = ap (λ (o : Outcome). get_or o.nodes 1 0) e in omega arith)

pub inventing_steps : Demand3 base invents_steps → ⊥
unfolding computing
inventing_steps =
    breaks3 base base-numbered invents_steps (lent (case_at 0)) refl (omega arith) refl
    (λ e. let z = ap (λ (l : List ℕ). get_or l 3 0) e in omega arith)

pub counting-twice : Demand3 base counts_twice → ⊥
unfolding computing
counting-twice =
    breaks3 base base-numbered counts_twice (lent (on_plain_node 2 skip_field (results 1 0 plain_node [] []))) refl (omega arith) refl
    (λ e. let z = ap (λ (l : List ℕ). get_or l 3 0) e in omega arith)

-- One that answers 0 with what it had when the fuel ran out breaks demand 3 too: case 2 is case 1 with less fuel.

pub answering_short : Demand3 base answers_anyway → ⊥
unfolding computing runs_on made_done
answering_short d =
    let x = lent (case_at 0) in
    let y = lent (case_at 1) in
    let b = lendable x refl in
    let n = d.settled x b refl in
    let t = entered-is base base-numbered x b (run_settled base x (omega arith)) n.s n.entered in
    let one = ap (λ (l : List ℕ). get_or l 3 0) t in
    let more : Roomier base x y =
    record {
      lendable = lendable y refl;
      nodes_more = 0;
      edges_more = 0;
      nodes = refl;
      edges = refl;
      journal = omega arith;
      image = refl;
      nodes_fit = refl;
      edges_fit = refl;
      journal_fits = refl;
      fuel_fits = omega arith;
      report_fits = refl;
    } in
    let two = n.short y more (omega arith) in
    omega arith

pub leaving-half : Demand1 base leaves_half → ⊥
unfolding computing runs_on made_done
leaving-half d =
    let b = d.gives_back (lent cut_short) (lendable (lent cut_short) refl) (omega arith) (omega arith) in
    let z = ap (λ (l : List ℕ). get_or l 1 0) b.nodes in
    omega arith
