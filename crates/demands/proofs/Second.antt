-- Our two calls meet demand 2, and demand 2 leaves one outcome of run where it starts. Rests on Started and
-- laws' Undoing.
use Rattle.std.specs.Prelude.{ℕ, ◌/◌, ◌≡◌, refl, List, length}
use Rattle.std.proofs.Common.{sym, ◌∙◌, arith}
use Rattle.std.proofs.Math.Path.{ap}
use Rattle.std.proofs.Math.Option.{some, none}
use Rattle.meaning.specs.Layout.{record_length}
use Rattle.meaning.specs.Procedures.{Program, program}
use Rattle.meaning.specs.Commands.{State}
use Rattle.meaning.specs.Calls.{Returned, answer_number, finished, run, Lent}
use Rattle.demands.specs.Demands.{Outcome, Interpreter, Lendable, run_refused_with, outcome_at, Means, records_in, lent_after, Restored, Demand2}
use Rattle.demands.specs.Ours.{ours}
use Rattle.demands.proofs.Ours.{refusing-none, ours-outcome, good}
use Rattle.demands.proofs.First.{stop-answer, run_settled}
use Rattle.demands.specs.Started.{last}
use Rattle.demands.proofs.Started.{rules-sound, last-means}
use Rattle.meaning.specs.Laws.Tests.{some_inj}
use Rattle.demands.proofs.Laws.Inference.{executes_one}
use Rattle.laws.specs.Calls.{run-started}
use Rattle.laws.specs.Undoing.{Numbered, run-undo}
use Rattle.meaning.specs.declared.Layout.{Layout}
use Rattle.meaning.specs.declared.Answer.TheVariants.{Result}
use Rattle.meaning.specs.declared.End.{End}
use Rattle.meaning.specs.declared.End.TheVariants.{Done, Failed, Broke, Stopped}

module _ (L : Layout) (k : Numbered L) (x : Lent) (b : Lendable x) where
  meant : (p : Program) → run_refused_with L x ≡ none → program x.image ≡ some p
      → (e : End) × (t : State) × Means L x p e t × ((ours L).run x ≡ outcome_at L x e t)
  meant p e q =
      let a = good L x e in
      let i : p ≡ a.tree = some_inj p a.tree (sym q ∙ a.form) in
      rw i ((last L k x b a).end, (last L k x b a).state, last-means L k x b a, ours-outcome L x a.tree e a.form)

  -- a result ends in Done
  zero-done : (e : End) (t : State) → (outcome_at L x e t).answer ≡ 0 → e ≡ Done
  zero-done Done t q = refl
  zero-done Failed t q = absurd (omega arith)
  zero-done Broke t q = absurd (omega arith)
  zero-done (Stopped w) t q = absurd (omega (arith, (stop-answer w).1))

  answers-result : ((ours L).run x).answer ≡ 0
      → (run L x).answer ≡ Result
  unfolding finished
  answers-result q =
      let e = run_settled L x (omega arith) in
      let a = good L x e in
      let o = last L k x b a in
      let l = ours-outcome L x a.tree e a.form in
      let d = zero-done o.end o.state (sym (ap (λ (y : Outcome). y.answer) l) ∙ q) in
      ap (λ (y : Returned). y.answer)
      (run-started L x a.tree (refusing-none L x e) a.form)
      ∙ ap (λ (y : End). (finished L y o x.nodes x.edges x.journal).answer) d

  restored : (report : List ℕ) → length report ≡ 8 → ((ours L).run x).answer ≡ 0
      → Restored x (records_in ((ours L).run x)) ((ours L).undo (lent_after ((ours L).run x) report))
  unfolding answer_number
  restored report e q =
      let r = answers-result q in
      let u =
      run-undo L k x.nodes x.edges x.journal x.image x.fuel x.report b.nodes.bytewise b.edges.bytewise b.image.bytewise report e r in
      record {
        answer = ap (λ (l : Returned). answer_number l.answer) u;
        nodes = ap (λ (l : Returned). l.nodes) u;
        edges = ap (λ (l : Returned). l.edges) u;
        journal = ap (λ (l : Returned). l.journal) u;
        report = ap (λ (l : Returned). l.report) u;
      }

pub demand2 : (L : Layout) → Numbered L → Demand2 L (ours L)
demand2 L k = record { means = λ x b p. meant L k x b p; restores = λ x b report r. restored L k x b report }

-- Two interpreters that meet demand 2 leave the same of each input that is accepted.
pub one-outcome : (L : Layout) → Numbered L → (I : Interpreter) → Demand2 L I → (x : Lent) → Lendable x → run_refused_with L x ≡ none
    → I.run x ≡ (ours L).run x
one-outcome L k I d x b e =
    let a = good L x e in
    let m = d.means x b a.tree e a.form in
    let n = meant L k x b a.tree e a.form in
    let q =
    executes_one L.atoms (length x.journal / record_length L) a.tree.rules (rules-sound L k x b a) m.2 n.2 in
    m.3 ∙ (λ i. outcome_at L x (q.0 i) (q.1 i)) ∙ sym n.3
