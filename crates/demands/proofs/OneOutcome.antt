-- The demands leave one outcome of each call for all that can be lent: every interpreter that meets demands 1 and 2 leaves what ours
-- leaves of a run, and every one that meets demand 1 what ours leaves of an undo. Rests on First and Second.
use Rattle.std.specs.Prelude.{ℕ, ◌≡◌, refl, List}
use Rattle.std.proofs.Common.{sym, ◌∙◌, arith}
use Rattle.std.proofs.Math.Option.{Option, some, none}
use Rattle.std.proofs.Math.Decide.{ℕ_discrete}
use Rattle.meaning.specs.Calls.{Lent, LentUndo}
use Rattle.demands.specs.Demands.{Outcome, Interpreter, Lendable, LendableUndo, Untouched, run_refused_with, undo_refused_with, Demand1, Demand2}
use Rattle.demands.specs.Ours.{ours}
use Rattle.demands.proofs.First.{refusal-answer, undo-answer, demand1}
use Rattle.laws.specs.Undoing.{Numbered}
use Rattle.demands.proofs.Second.{one-outcome}
use Rattle.meaning.specs.declared.Layout.{Layout}

-- what leaves all untouched with one answer leaves the same report
untouched-same : (ns es js rs : List ℕ) (o q : Outcome) → o.answer ≡ q.answer → Untouched ns es js rs o → Untouched ns es js rs q
    → o ≡ q
untouched-same ns es js rs o q e u v =
    let n = u.nodes ∙ sym v.nodes in
    let d = u.edges ∙ sym v.edges in
    let j = u.journal ∙ sym v.journal in
    let r = report (ℕ_discrete o.answer 9) in
    λ i. record { answer = e i; nodes = n i; edges = d i; journal = j i; report = r i }
  where
    report : Dec (o.answer ≡ 9) → o.report ≡ q.report
    report (yes k) = u.nine k ∙ sym (v.nine (sym e ∙ k))
    report (no k) = u.others k ∙ sym (v.others (λ i. k (e ∙ i)))

pub run-one : (L : Layout) → Numbered L → (I : Interpreter) → Demand1 L I → Demand2 L I → (x : Lent) → Lendable x
    → I.run x ≡ (ours L).run x
run-one L k I d d' x b = at (run_refused_with L x) refl
  where
    at : (o : Option ℕ) → run_refused_with L x ≡ o → I.run x ≡ (ours L).run x
    at none e = one-outcome L k I d' x b e
    at (some n) e =
        let i : (I.run x).answer ≡ n = d.refuses x b n e in
        let j : ((ours L).run x).answer ≡ n = (demand1 L).refuses x b n e in
        let r = refusal-answer L x n e in
        untouched-same x.nodes x.edges x.journal x.report (I.run x) ((ours L).run x) (i ∙ sym j)
        (d.untouched x b (omega arith)) ((demand1 L).untouched x b (omega arith))

pub undo-one : (L : Layout) (I : Interpreter) → Demand1 L I → (y : LentUndo) → LendableUndo y → I.undo y ≡ (ours L).undo y
undo-one L I d y b = at (undo_refused_with L y) refl
  where
    at : (o : Option ℕ) → undo_refused_with L y ≡ o → I.undo y ≡ (ours L).undo y
    at none e =
        let s = d.undoes y b e in
        let t = (demand1 L).undoes y b e in
        let a = s.answer ∙ sym t.answer in
        let n = s.nodes ∙ sym t.nodes in
        let g = s.edges ∙ sym t.edges in
        let j = s.journal ∙ sym t.journal in
        let r = s.report ∙ sym t.report in
        λ i. record { answer = a i; nodes = n i; edges = g i; journal = j i; report = r i }
    at (some n) e =
        let i : (I.undo y).answer ≡ n = d.undo_refuses y b n e in
        let j : ((ours L).undo y).answer ≡ n = (demand1 L).undo_refuses y b n e in
        let r = undo-answer L y n e in
        untouched-same y.nodes y.edges y.journal y.report (I.undo y) ((ours L).undo y) (i ∙ sym j)
        (d.undo_untouched y b (omega arith)) ((demand1 L).undo_untouched y b (omega arith))
