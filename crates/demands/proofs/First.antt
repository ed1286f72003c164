-- Our two calls meet demand 1. Rests on Ours and Undone.
use Rattle.std.specs.Prelude.{ℕ, ◌≤◌, ◌≡◌, ◌⊎◌, Bool, true, false, List, ◌∷◌, length, eqb}
use Rattle.std.proofs.Math.Path.{refl}
use Rattle.std.proofs.Common.{sym, ◌∙◌, ap, inl, inr, arith}
use Rattle.std.proofs.Math.Option.{Option, some, none}
use Rattle.meaning.specs.Basics.{choose, absent, both, first_failing}
use Rattle.meaning.specs.Commands.{State}
use Rattle.meaning.specs.Calls.{answer_number, refusal_number, refused, Lent, LentUndo}
use Rattle.demands.specs.Demands.{Outcome, In, run_table, undo_table, stop_answer, Untouched, GivenBack, run_refused_with, undo_refused_with, outcome_at, Demand1}
use Rattle.demands.specs.Ours.{outcome, ours, end}
use Rattle.demands.proofs.Ours.{refusing-some, ours-outcome, good, ours-refused, undoing-some, undo-left}
use Rattle.demands.proofs.Undone.{ours-undoes}
use Rattle.meaning.specs.Laws.Tests.{some_inj}
use Rattle.meaning.specs.Laws.Every.{Every}
use Rattle.meaning.specs.Laws.Checks.{failing-of}
use Rattle.laws.specs.Calls.{refused-report}
use Rattle.meaning.specs.declared.Layout.{Layout}
use Rattle.meaning.specs.declared.Stop.{Stop}
use Rattle.meaning.specs.declared.Stop.TheVariants.{OutOfFuel, NoNodeRoom, NoEdgeRoom, NoRecordRoom, LabelTooLarge}
use Rattle.meaning.specs.declared.Refusal.{Refusal}
use Rattle.meaning.specs.declared.End.{End}
use Rattle.meaning.specs.declared.End.TheVariants.{Done, Failed, Broke, Stopped}
use Rattle.demands.specs.First.{Told}

-- What started leaves has an answer from 0 to 6, and gives all back unless it is 0.

pub stop-answer : (w : Stop) → (In (stop_answer w) run_table) × (2 ≤ stop_answer w) × (stop_answer w ≤ 6)
unfolding absent both
stop-answer OutOfFuel = (refl, omega arith, omega arith)
stop-answer NoNodeRoom = (refl, omega arith, omega arith)
stop-answer NoEdgeRoom = (refl, omega arith, omega arith)
stop-answer NoRecordRoom = (refl, omega arith, omega arith)
stop-answer LabelTooLarge = (refl, omega arith, omega arith)

module _ (L : Layout) (x : Lent) where
  left-answer : (e : End) (t : State) → (In (outcome_at L x e t).answer run_table) × ((outcome_at L x e t).answer ≤ 6)
  unfolding absent both
  left-answer Done t = (refl, omega arith)
  left-answer Failed t = (refl, omega arith)
  left-answer Broke t = (refl, omega arith)
  left-answer (Stopped w) t = let a = stop-answer w in (a.0, a.2)

  left_back : (e : End) (t : State) → 1 ≤ (outcome_at L x e t).answer → GivenBack x (outcome_at L x e t)
  left_back Done t k = absurd (omega arith)
  left_back Failed t k = record { nodes = refl; edges = refl; journal = refl; steps = t.steps; report = refl }
  left_back Broke t k = record { nodes = refl; edges = refl; journal = refl; steps = t.steps; report = refl }
  left_back (Stopped w) t k = record { nodes = refl; edges = refl; journal = refl; steps = t.steps; report = refl }

told : (report : List ℕ) (l : List (Bool × ℕ)) → Every (λ c. 10 ≤ c.1) l → (n : ℕ)
    → first_failing ((eqb (length report) 8, 9) ∷ l) ≡ some n
    → Told n report
unfolding first_failing choose
told report l h n e = at (eqb (length report) 8) e
  where
    at : (b : Bool) → choose b (first_failing l) (some 9) ≡ some n → ((b ≡ true) × (n ≡ 9 → ⊥)) ⊎ ((b ≡ false) × (n ≡ 9))
    at true q = let k = failing-of (λ n. 10 ≤ n) l h n q in inl (refl, λ i. omega arith)
    at false q = inr (refl, some_inj n 9 (sym q))

module _ (L : Layout) (ns es js rs : List ℕ) (w : Refusal) where
  untouched : Told (refusal_number w) rs → Untouched ns es js rs (outcome (refused w ns es js rs))
  unfolding refused choose answer_number
  untouched (inl k) =
      record { nodes = refl; edges = refl; journal = refl; nine = λ e. absurd (k.1 e); others = λ e. rw k.0 }
  untouched (inr k) =
      record { nodes = refl; edges = refl; journal = refl; nine = λ e. refused-report w ns es js rs k.0; others = λ e. absurd (e k.1) }

  refused-answer : (outcome (refused w ns es js rs)).answer ≡ refusal_number w
  unfolding refused answer_number
  refused-answer = refl

module _ (L : Layout) (x : Lent) where
  -- the numbers of what is refused
  pub refusal-answer : (n : ℕ) → run_refused_with L x ≡ some n → (In n run_table) × (9 ≤ n)
  unfolding absent both
  refusal-answer n e =
      let k : (n : ℕ) → Type 0 = λ n. (In n run_table) × (9 ≤ n) in
      failing-of k _ (
        (refl, omega arith),
        (
          (refl, omega arith),
          (
            (refl, omega arith),
            (
              (refl, omega arith),
              (
                (refl, omega arith),
                ((refl, omega arith), ((refl, omega arith), ((refl, omega arith), ((refl, omega arith), ((refl, omega arith), ((refl, omega arith), tt)))))),
              ),
            ),
          ),
        ),
      )
      n e

  refusal-told : (n : ℕ) → run_refused_with L x ≡ some n → Told n x.report
  refusal-told n e =
      told x.report _ (
        omega arith,
        (
          omega arith,
          (
            omega arith,
            (
              omega arith,
              (
                omega arith,
                (omega arith, (omega arith, (omega arith, (omega arith, (omega arith, tt))))),
              ),
            ),
          ),
        ),
      )
      n e

  -- a run is refused or starts
  cases : (P : Outcome → Type 0)
      → ((w : Refusal) (n : ℕ) → run_refused_with L x ≡ some n → refusal_number w ≡ n
      → P (outcome (refused w x.nodes x.edges x.journal x.report)))
      → ((e : End) (t : State) → run_refused_with L x ≡ none → P (outcome_at L x e t))
      → P ((ours L).run x)
  cases P r s = at (run_refused_with L x) refl
    where
      at : (o : Option ℕ) → run_refused_with L x ≡ o → P ((ours L).run x)
      at (some n) e = let w = refusing-some L x n e in rw (ours-refused L x w.0 w.1) (r w.0 n e w.2)
      at none e =
          let a = good L x e in rw (ours-outcome L x a.tree e a.form) (s (end L x a.tree).end (end L x a.tree).state e)

  -- what answers below 9 has started
  pub run_settled : ((ours L).run x).answer ≤ 6 → run_refused_with L x ≡ none
  run_settled = at (run_refused_with L x) refl
    where
      at : (o : Option ℕ) → run_refused_with L x ≡ o → ((ours L).run x).answer ≤ 6 → run_refused_with L x ≡ none
      at none e k = e
      at (some n) e k =
          let w = refusing-some L x n e in
          let r = refusal-answer n e in
          let q = ap (λ (o : Outcome). o.answer) (ours-refused L x w.0 w.1) in
          let i = refused-answer L x.nodes x.edges x.journal x.report w.0 in
          absurd (omega (arith, w.2))

module _ (L : Layout) (y : LentUndo) where
  pub undo-answer : (n : ℕ) → undo_refused_with L y ≡ some n → (In n undo_table) × (9 ≤ n)
  unfolding absent both
  undo-answer n e =
      let k : (n : ℕ) → Type 0 = λ n. (In n undo_table) × (9 ≤ n) in
      failing-of k _
      ((refl, omega arith), ((refl, omega arith), ((refl, omega arith), ((refl, omega arith), ((refl, omega arith), tt)))))
      n e

  undo-told : (n : ℕ) → undo_refused_with L y ≡ some n → Told n y.report
  undo-told n e = told y.report _ (omega arith, (omega arith, (omega arith, (omega arith, tt)))) n e

  undo-cases : (P : Outcome → Type 0)
      → ((w : Refusal) (n : ℕ) → undo_refused_with L y ≡ some n → refusal_number w ≡ n
      → P (outcome (refused w y.nodes y.edges y.journal y.report)))
      → (((ours L).undo y).answer ≡ 0 → P ((ours L).undo y)) → P ((ours L).undo y)
  undo-cases P r s = at (undo_refused_with L y) refl
    where
      at : (o : Option ℕ) → undo_refused_with L y ≡ o → P ((ours L).undo y)
      at (some n) e = let w = undoing-some L y n e in rw (undo-left L y w.0 w.1) (r w.0 n e w.2)
      at none e = s (ours-undoes L y e).answer

zero-answer : In 0 undo_table
unfolding absent both
zero-answer = refl

pub demand1 : (L : Layout) → Demand1 L (ours L)
demand1 L =
    record {
      answers = λ x l. cases L x (λ o. In o.answer run_table)
          (λ w n e q. rw (refused-answer L x.nodes x.edges x.journal x.report w, q) (refusal-answer L x n e).0)
          (λ e t k. (left-answer L x e t).0);
      refuses = λ x l n e.
          let w = refusing-some L x n e in
          ap (λ (o : Outcome). o.answer) (ours-refused L x w.0 w.1)
          ∙ refused-answer L x.nodes x.edges x.journal x.report w.0 ∙ w.2;
      starts = λ x l e. cases L x (λ o. o.answer ≤ 6)
          (λ w n q i. let z : ◌≡◌ {A = ℕ} 0 1 = cc in absurd (omega arith))
          (λ e t k. (left-answer L x e t).1);
      untouched = λ x l.
          cases L x (λ o. 9 ≤ o.answer → Untouched x.nodes x.edges x.journal x.report o)
          (λ w n e q k. untouched L x.nodes x.edges x.journal x.report w (rw q (refusal-told L x n e)))
          (λ e t k j. absurd (omega (arith, (left-answer L x e t).1)));
      gives_back = λ x l. cases L x (λ o. 1 ≤ o.answer → o.answer ≤ 6 → GivenBack x o)
          (λ w n e q i j.
          absurd (omega (arith, refused-answer L x.nodes x.edges x.journal x.report w, (refusal-answer L x n e).1)))
          (λ e t k i j. left_back L x e t i);
      undo_answers = λ y l. undo-cases L y (λ o. In o.answer undo_table)
          (λ w n e q. rw (refused-answer L y.nodes y.edges y.journal y.report w, q) (undo-answer L y n e).0)
          (λ e. rw e zero-answer);
      undo_refuses = λ y l n e.
          let w = undoing-some L y n e in
          ap (λ (o : Outcome). o.answer) (undo-left L y w.0 w.1)
          ∙ refused-answer L y.nodes y.edges y.journal y.report w.0 ∙ w.2;
      undo_untouched = λ y l.
          undo-cases L y (λ o. 9 ≤ o.answer → Untouched y.nodes y.edges y.journal y.report o)
          (λ w n e q k. untouched L y.nodes y.edges y.journal y.report w (rw q (undo-told L y n e)))
          (λ e k. absurd (omega arith));
      undoes = λ y l. ours-undoes L y;
    }
