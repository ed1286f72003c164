-- A run after an undo after a run leaves what the first run left, for every interpreter that meets demands 1 and 2.
-- Rests on OneOutcome.
use Rattle.std.specs.Prelude.{ℕ, ◌/◌, ◌≡◌, List, length, replicate}
use Rattle.std.proofs.Common.{sym, ◌∙◌, ap, arith, length-append}
use Rattle.std.proofs.Math.Option.{none}
use Rattle.std.proofs.lemmas.List.{length-replicate}
use Rattle.meaning.specs.Layout.{record_length}
use Rattle.meaning.specs.Commands.{State, Out, exec}
use Rattle.meaning.specs.Calls.{Lent}
use Rattle.demands.specs.Demands.{Buffer, Lendable, Outcome, Interpreter, run_refused_with, start, outcome_at, reporting, records_in, lent_after, Restored, Demand1, Demand2}
use Rattle.demands.specs.Ours.{ours, Good, end}
use Rattle.demands.proofs.Ours.{good, good-starts, ours-outcome}
use Rattle.demands.proofs.First.{run_settled}
use Rattle.demands.proofs.OneOutcome.{run-one}
use Rattle.meaning.specs.Numbers.{bytes}
use Rattle.laws.specs.Numbers.{length-bytes}
use Rattle.demands.specs.Laws.Written.{Bytes-bytes, Bytes-append, Bytes-zeros}
use Rattle.laws.specs.Pieces.{fits-same}
use Rattle.laws.specs.Undoing.{Numbered}
use Rattle.meaning.specs.declared.Layout.{Layout}
use Rattle.meaning.specs.declared.End.{End}
use Rattle.meaning.specs.declared.End.TheVariants.{Done, Failed, Broke, Stopped}
use Rattle.demands.specs.Again.{again}

-- it can be lent
again-lendable : (x : Lent) → Lendable x → (n : ℕ) (u : Outcome) → Restored x n u → Lendable (again x u)
again-lendable x k n u r =
    record {
      nodes = rw r.nodes k.nodes;
      edges = rw r.edges k.edges;
      journal =
          rw r.journal (record { bytewise = Bytes-zeros (length x.journal); fits = rw (length-replicate {A = ℕ} (length x.journal) 0) k.journal.fits });
      image = k.image;
      fuel = k.fuel;
      report =
          rw r.report
          (record { bytewise = Bytes-append (bytes 4 0) (bytes 4 n) (Bytes-bytes 4 0) (Bytes-bytes 4 n); fits = simp (length-append, length-bytes) (omega arith) });
    }

module _ (L : Layout) (x : Lent) (js rs : List ℕ) (size : length js ≡ length x.journal) (eight : length rs ≡ 8) where
  -- x with another journal and report
  abbrev with : Lent
  with = record { nodes = x.nodes; edges = x.edges; journal = js; image = x.image; fuel = x.fuel; report = rs }

  accepted-with : Good L x → Good L with
  accepted-with a =
      record {
        report_size = eight;
        nodes_fit = a.nodes_fit;
        edges_fit = a.edges_fit;
        journal_fits = fits-same _ _ x.journal js size a.journal_fits;
        fuel_fits = a.fuel_fits;
        image_fits = a.image_fits;
        layout = a.layout;
        raw = a.raw;
        read = a.read;
        references = a.references;
        placement = a.placement;
        depth = a.depth;
        tree = a.tree;
        whole = a.whole;
        form = a.form;
      }

  leaves-with : (e : End) (t : State) → outcome_at L with e t ≡ outcome_at L x e t
  leaves-with Done t = rw size
  leaves-with Failed t = rw size
  leaves-with Broke t = rw size
  leaves-with (Stopped w) t = rw size

  -- a started run of ours does not look at what journal and report held
  ours-with : run_refused_with L x ≡ none → (ours L).run with ≡ (ours L).run x
  ours-with e =
      let a = good L x e in
      let b = accepted-with a in
      let q : end L with a.tree ≡ end L x a.tree =
      ap (λ (n : ℕ). exec L.atoms (n / record_length L) a.tree.rules a.tree.main (start L x)) size in
      ours-outcome L with a.tree (good-starts L with b) a.form
      ∙ leaves-with (end L with a.tree).end (end L with a.tree).state
      ∙ ap (λ (o : Out). outcome_at L x o.end o.state) q
      ∙ sym (ours-outcome L x a.tree e a.form)

pub run-again : (L : Layout) → Numbered L → (I : Interpreter) → Demand1 L I → Demand2 L I → (x : Lent) → Lendable x → (report : List ℕ)
    → Buffer report → length report ≡ 8 → (I.run x).answer ≡ 0
    → I.run (again x (I.undo (lent_after (I.run x) report))) ≡ I.run x
run-again L k I d d' x b report c l z =
    let o = run-one L k I d d' x b in
    let r = d'.restores x b report c l z in
    let n = records_in (I.run x) in
    let js : List ℕ = replicate (length x.journal) 0 in
    let e = run_settled L x (omega (arith, ap (λ (q : Outcome). q.answer) o)) in
    let i : again x (I.undo (lent_after (I.run x) report)) ≡ with L x js (reporting 0 n) (length-replicate _ _) (stated n) =
    λ i. record { nodes = r.nodes i; edges = r.edges i; journal = r.journal i; image = x.image; fuel = x.fuel; report = r.report i } in
    run-one L k I d d' _ (again-lendable x b n _ r) ∙ ap (ours L).run i
    ∙ ours-with L x js (reporting 0 n) (length-replicate _ _) (stated n) e ∙ sym o
  where
    stated : (n : ℕ) → length (reporting 0 n) ≡ 8
    stated n = simp (length-append, length-bytes)
