-- What a run of an interpreter that meets demands 1 and 2 leaves, by the meaning with notes: it comes to its end, and its steps are the
-- commands counted and the silent ones noted; and what is known to come to an end takes as many steps as it enters commands. Rests on
-- Agreement, Forgetting, Coming, Fuelling and Tracing, on the demands' Ours and OneOutcome, and on laws' Numbers and Fuel.
use Rattle.std.specs.Prelude.{◌≡◌, refl, Bool, List, [], map, reverse, ℕ, ◌+◌, ◌-◌, ◌/◌, ◌≤◌, length, take, drop, replicate}
use Rattle.std.proofs.Common.{sym, ◌∙◌, ap, arith, take_at, drop_at}
use Rattle.std.proofs.Math.Decide.{ℕ_discrete}
use Rattle.meaning.specs.Basics.{concat, padded}
use Rattle.meaning.specs.Numbers.{number, bytes}
use Rattle.meaning.specs.Layout.{record_length, host_of, write_nodes, write_edges, write_record}
use Rattle.meaning.specs.Image.{Rule}
use Rattle.meaning.specs.Procedures.{Program, Command}
use Rattle.meaning.specs.Applying.{Ledger, ledger_at}
use Rattle.meaning.specs.Commands.{State, state_at, Out}
use Rattle.meaning.specs.Calls.{Lent, most_fuel, journal_room}
use Rattle.laws.specs.Numbers.{length-bytes, number-bytes}
use Rattle.laws.specs.Fuel.{AtOut, at_out_of, exec-counted}
use Rattle.laws.specs.Undoing.{Numbered}
use Rattle.demands.specs.Demands.{Outcome, Interpreter, stop_answer, reporting, start, as_it_came, outcome_at, Demand1, Demand2}
use Rattle.demands.specs.Ours.{end}
use Rattle.demands.proofs.Ours.{good, ours-outcome}
use Rattle.demands.proofs.OneOutcome.{run-one}
use Rattle.wrapping.specs.Entering.{passing, NotedOut}
use Rattle.wrapping.specs.Agreement.{SameTables, Starts, Fuelled, steps_in, SameButSteps, Needs}
use Rattle.wrapping.specs.Forgetting.{plain}
use Rattle.wrapping.proofs.Forgetting.{exec_plain}
use Rattle.wrapping.specs.Coming.{nothing, comes-one}
use Rattle.wrapping.specs.Fuelling.{comes-takes}
use Rattle.wrapping.specs.Tracing.{Enough}
use Rattle.wrapping.proofs.Tracing.{exec_trace}
use Rattle.meaning.specs.declared.Layout.{Layout}
use Rattle.meaning.specs.declared.Stop.TheVariants.{OutOfFuel, NoNodeRoom, NoEdgeRoom, NoRecordRoom, LabelTooLarge}
use Rattle.meaning.specs.declared.End.{End}
use Rattle.meaning.specs.declared.End.TheVariants.{Done, Failed, Broke, Stopped}
use Rattle.wrapping.specs.Running.{ComesOn}
use Rattle.wrapping.specs.Running as Defs

pub moved : (silent : Command → Bool) (L : Layout) (x y : Lent) → SameTables x y → {rules : List Rule} {c : Command} {e : End} {h : Ledger} {n : ℕ}
    → ComesOn silent L x rules c e h n → ComesOn silent L y rules c e h n
moved silent L x y tables k =
    let room : journal_room L x.journal ≡ journal_room L y.journal = ap (λ (n : ℕ). n / record_length L) tables.journal in
    let begun : (start L x).ledger ≡ (start L y).ledger = λ i. ledger_at (host_of L (tables.nodes i) (tables.edges i)) [] in
    rw (← room, ← begun) k

-- Reports.

steps-stated : (n m : ℕ) → n ≤ most_fuel → number (take 4 (reporting n m)) ≡ n
steps-stated n m h = rw (take_at (bytes 4 n) (bytes 4 m) 4 (length-bytes 4 n)) (number-bytes 4 n (omega arith))

records-stated : (n n' m m' : ℕ) → m ≡ m' → number (drop 4 (reporting n m)) ≡ number (drop 4 (reporting n' m'))
records-stated n n' m m' e =
    ap number (drop_at (bytes 4 n) (bytes 4 m) 4 (length-bytes 4 n) ∙ ap (bytes 4) e ∙ sym (drop_at (bytes 4 n') (bytes 4 m') 4 (length-bytes 4 n')))

steps-left : (L : Layout) (x : Lent) (e : End) (t : State) → t.steps ≤ most_fuel → steps_in (outcome_at L x e t) ≡ t.steps
steps-left L x Done t h = steps-stated t.steps _ h
steps-left L x Failed t h = steps-stated t.steps 0 h
steps-left L x Broke t h = steps-stated t.steps 0 h
steps-left L x (Stopped w) t h = steps-stated t.steps 0 h

-- out of fuel is an end, and the one that answers 2
out-no : (e : End) → AtOut e ⊥ → e ≡ Stopped OutOfFuel → ⊥
out-no e h z = rw z at h

no-two : (L : Layout) (x : Lent) (e : End) (t : State) → AtOut e ⊥ → (outcome_at L x e t).answer ≡ 2 → ⊥
no-two L x Done t h z = omega arith
no-two L x Failed t h z = omega arith
no-two L x Broke t h z = omega arith
no-two L x (Stopped OutOfFuel) t h z = h
no-two L x (Stopped NoNodeRoom) t h z = omega arith
no-two L x (Stopped NoEdgeRoom) t h z = omega arith
no-two L x (Stopped NoRecordRoom) t h z = omega arith
no-two L x (Stopped LabelTooLarge) t h z = omega arith

-- Two ends at one ledger.

module _ (L : Layout) (x y : Lent) (tables : SameTables x y) (n m : ℕ) where
  came_same : (a : ℕ) → SameButSteps (as_it_came L x a n) (as_it_came L y a m)
  came_same a =
      record {
        answer = refl;
        nodes = tables.nodes;
        edges = tables.edges;
        journal = ap (λ (k : ℕ). replicate k 0) tables.journal;
        records = records-stated n m 0 0 refl;
      }

  pub ends_same : (e : End) (g h : Ledger) (f k : ℕ) → g ≡ h → SameButSteps (outcome_at L x e (state_at g f n)) (outcome_at L y e (state_at h k m))
  ends_same Done g h f k q =
      record {
        answer = refl;
        nodes = ap (λ (l : Ledger). write_nodes L l.host.nodes) q;
        edges = ap (λ (l : Ledger). write_edges L l.host.edges) q;
        journal = ap (λ (l : Ledger). padded (length x.journal) (concat (map (write_record L) (reverse l.journal)))) q
            ∙ ap (λ (j : ℕ). padded j (concat (map (write_record L) (reverse h.journal)))) tables.journal;
        records = records-stated n m _ _ (ap (λ (l : Ledger). length l.journal) q);
      }
  ends_same Failed g h f k q = came_same 1
  ends_same Broke g h f k q = came_same 1
  ends_same (Stopped z) g h f k q = came_same (stop_answer z)

module _ (L : Layout) (numbered : Numbered L) (I : Interpreter) (first : Demand1 L I) (second : Demand2 L I) where
  -- A run.

  module _ (x : Lent) (p : Program) (a : Starts L x p) where
    abbrev last : NotedOut
    last = Defs.last L numbered I first second x p a

    last-plain : plain last ≡ end L x p
    last-plain = exec_plain L.atoms (journal_room L x.journal) p.rules p.main _

    run-plain : I.run x ≡ outcome_at L x (end L x p).end (end L x p).state
    run-plain = run-one L numbered I first second x a.lendable ∙ ours-outcome L x p a.accepted a.reads

    pub run-noted : I.run x ≡ outcome_at L x last.end last.noted.state
    run-noted = run-plain ∙ ap (λ (o : Out). outcome_at L x o.end o.state) (sym last-plain)

    within : last.noted.state.steps ≤ x.fuel
    within =
        let h = exec-counted L.atoms (journal_room L x.journal) p.rules p.main (start L x) in
        let e = ap (λ (o : Out). o.state.steps) last-plain in
        omega (arith, h.total, e)

    run-steps : steps_in (I.run x) ≡ last.noted.state.steps
    run-steps =
        ap steps_in run-noted
        ∙ steps-left L x last.end last.noted.state (omega (arith, within, (good L x a.accepted).fuel_fits))

    module _ (fuelled : Fuelled I x) where
      pub enough : Enough last
      enough =
          at_out_of last.end ⊥
          (λ e. fuelled (ap (λ (o : Outcome). o.answer) run-noted ∙ ap (λ (z : End). (outcome_at L x z last.noted.state).answer) e))

      abbrev Traced : (silent : Command → Bool) → Type 0
      Traced = Defs.Traced L numbered I first second x p a fuelled

      pub traced : (silent : Command → Bool) → Traced silent
      unfolding passing
      traced silent =
          let i = exec_trace silent L.atoms (journal_room L x.journal) p.rules p.main _ enough in
          record { counts = i.counts; comes = i.comes; steps = run-steps ∙ omega (arith, i.total) }

      -- the steps that a run reports are the commands noted
      pub noted-steps : steps_in (I.run x) ≡ length last.noted.entered
      noted-steps =
          let i = exec_trace nothing L.atoms (journal_room L x.journal) p.rules p.main _ enough in
          run-steps ∙ omega (arith, i.each)

  -- A program of which is known what it comes to.

  module _ (x : Lent) (p : Program) (e : End) (h : Ledger) (s : ℕ) (comes : ComesOn nothing L x p.rules p.main e h s) (enough-fuel : AtOut e ⊥)
    where
      module _ (y : Lent) (b : Starts L y p) (tables : SameTables x y) where
        run-enough : s ≤ y.fuel → Fuelled I y × (steps_in (I.run y) ≡ s)
        run-enough f =
            let t = state_at h (y.fuel - s) (0 + s) in
            let r = comes-takes L.atoms _ p.rules (moved nothing L x y tables comes) y.fuel 0 f in
            let o : I.run y ≡ outcome_at L y e t = run-plain y p b ∙ ap (λ (o : Out). outcome_at L y o.end o.state) r in (
              λ z. no-two L y e t enough-fuel (ap (λ (q : Outcome). q.answer) (sym o) ∙ z),
              ap steps_in o ∙ steps-left L y e t (omega (arith, (good L y b.accepted).fuel_fits)) ∙ omega arith,
            )

        run_fits : Fuelled I y → s ≤ y.fuel
        run_fits f =
            let i = traced y p b f nothing in
            let j = comes-one nothing L.atoms _ p.rules (moved nothing L x y tables comes) i.comes in
            omega (arith, j.2, i.steps, run-steps y p b, within y p b)

      -- it takes as many steps as commands are entered
      pub needs : Needs L I x p s
      needs =
          record {
            ends = λ f k.
                let r = comes-takes L.atoms _ p.rules comes f 0 k in
                (λ z. out-no e enough-fuel (ap (λ (o : Out). o.end) (sym r) ∙ z), ap (λ (o : Out). o.state.steps) r ∙ omega arith);
            enough = run-enough;
            short = λ y b tables k. stopped y (ℕ_discrete (I.run y).answer 2) (λ f. let i = run_fits y b tables f in omega arith);
          }
        where
          stopped : (y : Lent) → Dec ((I.run y).answer ≡ 2) → (Fuelled I y → ⊥) → (I.run y).answer ≡ 2
          stopped y (yes e) f = e
          stopped y (no n) f = absurd (f n)
