-- From the contracts of the exported calls to the demands. An interpreter is `Exported L` if what it leaves of all that can be lent keeps
-- the promises `RunPromise L` and `UndoPromise L`. At `base` these are all that the contracts of nhiemavut_run and nhiemavut_undo say,
-- at `small` all that those of nhiemavut_small_run and nhiemavut_small_undo say. Each promise admits one outcome and no other; an
-- exported interpreter meets all three demands, and one that meets demands 1 and 2 is exported. It holds over every layout whose numbers
-- fit their bytes (`Numbered`). Rests on Met, OneOutcome, Lending and Again.
use Rattle.std.specs.Prelude.{◌≡◌, refl, ◌↔◌, List, [], ◌∷◌, ℕ, length}
use Rattle.std.proofs.Common.{sym, ◌∙◌, ap, subst}
use Rattle.meaning.specs.Layout.{layout_of}
use Rattle.meaning.specs.Calls.{Lent, LentUndo, Returned, run, undo}
use Rattle.demands.specs.Demands.{Buffer, Lendable, LendableUndo, Outcome, Interpreter, In, lent_after, SameWithRoom, Demand1, Demand2, Demand3}
use Rattle.demands.specs.Ours.{outcome, ours}
use Rattle.demands.proofs.OneOutcome.{run-one, undo-one}
use Rattle.demands.proofs.DemandsMet.{met}
use Rattle.demands.proofs.Lending.{left-lendable}
use Rattle.demands.specs.Again.{again}
use Rattle.demands.proofs.Again.{run-again}
use Rattle.meaning.specs.Laws.Promises.{yields_one}
use Rattle.laws.specs.Undoing.{Numbered, core_numbered}
use Rattle.meaning.specs.declared.Layout.{Layout}
use Rattle.meaning.specs.declared.Core.{Core}
use Rattle.demands.specs.Exported.{Exported, Promised}

pub promise_one : (l : Returned) (o q : Outcome) → Promised l o → Promised l q → o ≡ q
promise_one l o q h k =
    let e = yields_one l _ _ _ _ _ _ _ _ _ _ h k in
    λ i. record { answer = e.0 i; nodes = e.1 i; edges = e.2 i; journal = e.3 i; report = e.4 i }

pub promise_some : (l : Returned) → Promised l (outcome l)
promise_some l = record { numbered = refl; nodes_returned = refl; edges_returned = refl; journal_returned = refl; report_returned = refl }

promise_is : (l : Returned) (o : Outcome) → Promised l o → o ≡ outcome l
promise_is l o k = promise_one l o (outcome l) k (promise_some l)

pub ours-exported : (L : Layout) → Exported L (ours L)
ours-exported L = record { run = λ x b. promise_some (run L x); undo = λ y b. promise_some (undo L y) }

-- An exported interpreter leaves what ours does.

module _ (L : Layout) (I : Interpreter) (e : Exported L I) where
  pub exported-run : (x : Lent) → Lendable x → I.run x ≡ (ours L).run x
  exported-run x b = promise_is (run L x) (I.run x) (e.run x b)

  pub exported-undo : (y : LentUndo) → LendableUndo y → I.undo y ≡ (ours L).undo y
  exported-undo y b = promise_is (undo L y) (I.undo y) (e.undo y b)

-- The demands.

module _ (L : Layout) (numbered : Numbered L) where
  module _ (I : Interpreter) (e : Exported L I) where
    same-run : (x : Lent) → Lendable x → I.run x ≡ (ours L).run x
    same-run = exported-run L I e

    same-undo : (y : LentUndo) → LendableUndo y → I.undo y ≡ (ours L).undo y
    same-undo = exported-undo L I e

    -- undo after a run that came to a result
    after-result : (x : Lent) → Lendable x → (report : List ℕ) → Buffer report → (I.run x).answer ≡ 0
        → I.undo (lent_after (I.run x) report) ≡ (ours L).undo (lent_after ((ours L).run x) report)
    after-result x b report r z =
        let q = same-run x b in
        let c : ((ours L).run x).answer ≡ 0 = ap (λ (o : Outcome). o.answer) (sym q) ∙ z in
        ap (λ (o : Outcome). I.undo (lent_after o report)) q ∙ same-undo _ (left-lendable L numbered x b c report r)

    exported_1 : Demand1 L I
    exported_1 =
        let d = (met L numbered).0 in
        record {
          answers = λ x b. rw (same-run x b) (d.answers x b);
          refuses = λ x b. rw (same-run x b) (d.refuses x b);
          starts = λ x b. rw (same-run x b) (d.starts x b);
          untouched = λ x b. rw (same-run x b) (d.untouched x b);
          gives_back = λ x b. rw (same-run x b) (d.gives_back x b);
          undo_answers = λ y b. rw (same-undo y b) (d.undo_answers y b);
          undo_refuses = λ y b. rw (same-undo y b) (d.undo_refuses y b);
          undo_untouched = λ y b. rw (same-undo y b) (d.undo_untouched y b);
          undoes = λ y b. rw (same-undo y b) (d.undoes y b);
        }

    exported_2 : Demand2 L I
    exported_2 =
        let d = (met L numbered).1 in
        record {
          means = λ x b. rw (same-run x b) (d.means x b);
          restores = λ x b report r l z.
              let q = same-run x b in
              let c : ((ours L).run x).answer ≡ 0 = ap (λ (o : Outcome). o.answer) (sym q) ∙ z in
              rw (after-result x b report r z, q) (d.restores x b report r l c);
        }

    exported_3 : Demand3 L I
    exported_3 =
        record {
          settled = λ x b a.
              let q = same-run x b in
              let n = (met L numbered).2.settled x b (subst (λ (o : Outcome). In o.answer (0 ∷ 1 ∷ 6 ∷ [])) q a) in
              record {
                s = n.s;
                records = n.records;
                report = ap (λ (o : Outcome). o.report) q ∙ n.report;
                entered = n.entered;
                enough = λ y more h.
                    subst (λ (o : Outcome). SameWithRoom L x y more o (I.run y)) (sym q)
                    (subst (SameWithRoom L x y more ((ours L).run x)) (sym (same-run y more.lendable)) (n.enough y more h));
                short = λ y more h. ap (λ (o : Outcome). o.answer) (same-run y more.lendable) ∙ n.short y more h;
              };
        }

    pub exported-met : Demand1 L I × Demand2 L I × Demand3 L I
    exported-met = (exported_1, exported_2, exported_3)

    -- running again after an undo leaves what the first run left
    pub exported-again : (x : Lent) → Lendable x → (report : List ℕ) → Buffer report → length report ≡ 8 → (I.run x).answer ≡ 0
        → I.run (again x (I.undo (lent_after (I.run x) report))) ≡ I.run x
    exported-again = run-again L numbered I exported_1 exported_2

  -- so the contracts say what demands 1 and 2 say
  pub exported-exactly : (I : Interpreter) → Exported L I ↔ (Demand1 L I × Demand2 L I)
  exported-exactly I = (
    λ e. ((exported-met I e).0, (exported-met I e).1),
    λ d.
        record {
          run = λ x b. subst (Promised (run L x)) (sym (run-one L numbered I d.0 d.1 x b)) (promise_some (run L x));
          undo = λ y b. subst (Promised (undo L y)) (sym (undo-one L I d.0 y b)) (promise_some (undo L y));
        },
  )

-- Both cores.

pub cores_exported-met : (c : Core) (I : Interpreter) → Exported (layout_of c) I
    → Demand1 (layout_of c) I × Demand2 (layout_of c) I × Demand3 (layout_of c) I
cores_exported-met c = exported-met (layout_of c) (core_numbered c)
