-- Runs at two layouts, by interpreters that meet demands 1 and 2 there: what ends with a result or a fail at the one ends so at the other,
-- where the tables hold the same graph, with room for as many atoms, slots and records or more. Answer, steps, live slots and records
-- are the same; and what is out of fuel at the one is so at the other with the same fuel. Rests on demands' Larger and OneOutcome.
use Rattle.std.specs.Prelude.{ℕ, ◌-◌, ◌*◌, ◌/◌, ◌≤◌, ◌≡◌, refl, [], map, reverse, length, replicate}
use Rattle.std.proofs.Common.{sym, ◌∙◌, ap, subst, arith}
use Rattle.meaning.specs.Basics.{concat, padded}
use Rattle.meaning.specs.Layout.{Host, node_length, edge_length, host_of, write_nodes, write_edges, write_record}
use Rattle.meaning.specs.Procedures.{Program}
use Rattle.meaning.specs.Commands.{State, Out, exec, beginning}
use Rattle.meaning.specs.Calls.{Lent, journal_room}
use Rattle.laws.specs.Pieces.{fits-length, fits_whole}
use Rattle.laws.specs.Layout.{write_read-nodes, write_read-edges}
use Rattle.laws.specs.Hosts.{LegalHost, legal-host, read_write_nodes, read_write_edges, length-write_nodes, length-write_edges, keeps_layout_write}
use Rattle.laws.specs.Legality.{LegalLedger}
use Rattle.laws.specs.Undoing.{Numbered}
use Rattle.laws.specs.Fuel.{exec-counted}
use Rattle.demands.specs.Demands.{Lendable, Outcome, Interpreter, stop_answer, start, as_it_came, outcome_at, Demand1, Demand2}
use Rattle.demands.specs.Ours.{ours, end, Good}
use Rattle.demands.proofs.Ours.{ours-outcome, good, good-starts}
use Rattle.demands.proofs.First.{stop-answer, run_settled}
use Rattle.demands.specs.Started.{last}
use Rattle.demands.proofs.Started.{rules-sound, last-legal, last-left, last-stated, last-entered}
use Rattle.demands.proofs.OneOutcome.{run-one}
use Rattle.demands.specs.Larger.{Larger, starts-there, Settling}
use Rattle.demands.proofs.Larger.{enough-y, larger_left, larger_short}
use Rattle.demands.specs.Laws.Further.{roomier}
use Rattle.demands.specs.Laws.Shortage.{fuelled}
use Rattle.demands.specs.Laws.FurtherCommands.{roomier_state, exec-roomier}
use Rattle.meaning.specs.declared.Layout.{Layout}
use Rattle.meaning.specs.declared.Stop.{Stop}
use Rattle.meaning.specs.declared.Stop.TheVariants.{OutOfFuel, NoNodeRoom, NoEdgeRoom, NoRecordRoom, LabelTooLarge}
use Rattle.meaning.specs.declared.End.{End}
use Rattle.meaning.specs.declared.End.TheVariants.{Done, Failed, Broke, Stopped}
use Rattle.layouts.specs.LargerRuns.{Left, SameRun, RunsAs}

-- the host that is read where a legal one is written
written-host : (L : Layout) (h : Host) → LegalHost L h → host_of L (write_nodes L h.nodes) (write_edges L h.edges) ≡ h
written-host L h legal = λ i. record { nodes = read_write_nodes L h legal i; edges = read_write_edges L h legal i }

module _ (L : Layout) (x : Lent) (b : Lendable x) (a : Good L x) where
  as_it-came : (answer steps : ℕ) → Left L x (as_it_came L x answer steps)
  as_it-came answer steps =
      record {
        nodes_length = refl;
        edges_length = refl;
        layout = a.layout;
        legal = legal-host L x.nodes x.edges b.nodes.bytewise b.edges.bytewise a.layout;
        nodes_written =
            write_read-nodes L x.nodes x.edges a.layout b.nodes.bytewise (fits-length _ _ x.nodes a.nodes_fit).0;
        edges_written =
            write_read-edges L x.nodes x.edges a.layout b.edges.bytewise (fits-length _ _ x.edges a.edges_fit).0;
      }

  left_at : (e : End) (t : State) → LegalLedger L (length x.nodes / node_length L) (length x.edges / edge_length L) t.ledger
      → Left L x (outcome_at L x e t)
  left_at Done t l =
      let h : Host = t.ledger.host in
      let w = written-host L h l.host in
      record {
        nodes_length =
            length-write_nodes L h l.host ∙ ap (λ (n : ℕ). n * node_length L) l.nodes ∙ fits_whole _ _ x.nodes a.nodes_fit;
        edges_length =
            length-write_edges L h l.host ∙ ap (λ (n : ℕ). n * edge_length L) l.edges ∙ fits_whole _ _ x.edges a.edges_fit;
        layout = keeps_layout_write L h l.host;
        legal = subst (LegalHost L) (sym w) l.host;
        nodes_written = ap (λ (g : Host). write_nodes L g.nodes) w;
        edges_written = ap (λ (g : Host). write_edges L g.edges) w;
      }
  left_at Failed t l = as_it-came 1 t.steps
  left_at Broke t l = as_it-came 1 t.steps
  left_at (Stopped w) t l = as_it-came _ t.steps

-- no records
cleared : (L : Layout) (n : ℕ) → replicate n 0 ≡ padded n (concat (map (write_record L) []))
unfolding concat
cleared L n = let e : n ≡ n - 0 = omega arith in ap (λ (m : ℕ). replicate m 0) e

module _ (L M : Layout) (x y : Lent) (b : Lendable x) (a : Good L x) (more : Larger L M x y) (there : Good M y) where
  same-came : (answer steps : ℕ) → SameRun L M x y more (as_it_came L x answer steps) (as_it_came M y answer steps)
  same-came answer steps =
      record {
        answer = refl;
        report = refl;
        host = more.host;
        changes = [];
        recorded = cleared L (length x.journal);
        recorded_there = cleared M (length y.journal);
        left = as_it-came L x b a answer steps;
        left_there = as_it-came M y more.lendable there answer steps;
      }

  abbrev roomier_there : State → State
  roomier_there = roomier_state more.nodes_more more.edges_more

  same_at : (e : End) (t : State) (f : ℕ)
      → LegalLedger L (length x.nodes / node_length L) (length x.edges / edge_length L) t.ledger
      → LegalLedger M (length y.nodes / node_length M) (length y.edges / edge_length M) (roomier_there t).ledger
      → SameRun L M x y more (outcome_at L x e t) (outcome_at M y e (fuelled f (roomier_there t)))
  same_at Done t f l m =
      let h : Host = t.ledger.host in
      record {
        answer = refl;
        report = refl;
        host =
            written-host M (roomier more.nodes_more more.edges_more h) m.host
            ∙ ap (roomier more.nodes_more more.edges_more) (sym (written-host L h l.host));
        changes = reverse t.ledger.journal;
        recorded = refl;
        recorded_there = refl;
        left = left_at L x b a Done t l;
        left_there = left_at M y more.lendable there Done (fuelled f (roomier_there t)) m;
      }
  same_at Failed t f l m = same-came 1 t.steps
  same_at Broke t f l m = same-came 1 t.steps
  same_at (Stopped w) t f l m = same-came _ t.steps

-- a result or a fail is for no want of room or fuel
settling : (L M : Layout) (x : Lent) (e : End) (t : State) → (outcome_at L x e t).answer ≤ 1 → Settling L M e
settling L M x Done t h = (tt, λ q. let z : ◌≡◌ {A = ℕ} 0 1 = cc in omega arith)
settling L M x Failed t h = (tt, λ q. let z : ◌≡◌ {A = ℕ} 0 1 = cc in omega arith)
settling L M x Broke t h = (tt, λ q. let z : ◌≡◌ {A = ℕ} 0 1 = cc in omega arith)
settling L M x (Stopped w) t h = absurd (omega (arith, (stop-answer w).1))

-- with the fuel of x it is the same, since a run takes no more steps than it has fuel
pub same-fuel : (L : Layout) (I J : Interpreter) (x : Lent) (Given : Lent → Type 0) (Same : (y : Lent) → Given y → Type 0)
    → RunsAs L I J x Given Same → (y : Lent) (given : Given y) → y.fuel ≡ x.fuel → Same y given
same-fuel L I J x Given Same r y given e = r.enough y given (omega (arith, r.within))

-- Out of fuel.

stop-out : (w : Stop) → stop_answer w ≡ 2 → w ≡ OutOfFuel
stop-out OutOfFuel e = refl
stop-out NoNodeRoom e = absurd (omega arith)
stop-out NoEdgeRoom e = absurd (omega arith)
stop-out NoRecordRoom e = absurd (omega arith)
stop-out LabelTooLarge e = absurd (omega arith)

-- answer 2 is of fuel that ran out
end-out : (L : Layout) (x : Lent) (e : End) (t : State) → (outcome_at L x e t).answer ≡ 2 → e ≡ Stopped OutOfFuel
end-out L x Done t h = absurd (omega arith)
end-out L x Failed t h = absurd (omega arith)
end-out L x Broke t h = absurd (omega arith)
end-out L x (Stopped w) t h = ap {B = End} Stopped (stop-out w h)

module _ (L M : Layout) (kl : Numbered L) (labels : L.atoms ≤ M.atoms) (x : Lent) (b : Lendable x) (y : Lent) (more : Larger L M x y) where
  module _ (a : Good L x) (out : (last L kl x b a).end ≡ Stopped OutOfFuel) (fuel : y.fuel ≡ x.fuel) where
    abbrev p : Program
    p = a.tree

    end-there : (end M y p).end ≡ Stopped OutOfFuel
    end-there =
        ap (λ (q : Out). q.end)
        ((λ i. exec M.atoms (journal_room M y.journal) p.rules p.main (beginning (more.host i) (fuel i)))
        ∙ exec-roomier more.nodes_more more.edges_more L.atoms M.atoms labels (journal_room L x.journal)
        (journal_room M y.journal) more.records p.rules (rules-sound L kl x b a) p.main (start L x) (rw out tt))
        ∙ out

    out-there : ((ours M).run y).answer ≡ 2
    out-there =
        let there = starts-there L M x y more a in
        ap (λ (o : Outcome). o.answer) (ours-outcome M y p (good-starts M y there) there.form)
        ∙ ap (λ (e : End). (outcome_at M y e (end M y p).state).answer) end-there

  ours-out : ((ours L).run x).answer ≡ 2 → y.fuel ≡ x.fuel → ((ours M).run y).answer ≡ 2
  ours-out h =
      let a = good L x (run_settled L x (omega arith)) in
      out-there a (end-out L x _ _ (sym (ap (λ (o : Outcome). o.answer) (last-left L kl x b a)) ∙ h))

-- A result or a fail.

module _ (L M : Layout) (kl : Numbered L) (km : Numbered M) (labels : L.atoms ≤ M.atoms) (x : Lent) (b : Lendable x) where
  module _ (h : ((ours L).run x).answer ≤ 1) where
    abbrev started : Good L x
    started = good L x (run_settled L x (omega arith))

    abbrev o : Out
    o = last L kl x b started

    ended : Settling L M o.end
    ended = settling L M x o.end o.state (subst (λ (q : Outcome). q.answer ≤ 1) (last-left L kl x b started) h)

    module _ (y : Lent) (more : Larger L M x y) where
      abbrev started_there : Good M y
      started_there = starts-there L M x y more started

      same : o.state.steps ≤ y.fuel → SameRun L M x y more ((ours L).run x) ((ours M).run y)
      same l =
          let t = enough-y L M kl labels x b started ended y more l in
          subst (λ (z : Outcome). SameRun L M x y more z ((ours M).run y)) (sym (last-left L kl x b started))
          (subst (SameRun L M x y more (outcome_at L x o.end o.state))
          (sym (larger_left L M kl labels x b started ended y more l))
          (same_at L M x y b started more started_there o.end o.state t.0 (last-legal L kl x b started)
          (subst (λ (q : Out). LegalLedger M (length y.nodes / node_length M) (length y.edges / edge_length M) q.state.ledger) t.1
          (last-legal M km y more.lendable started_there))))

    steps-within : o.state.steps ≤ x.fuel
    steps-within =
        omega (arith, (exec-counted L.atoms (journal_room L x.journal) started.tree.rules started.tree.main (start L x)).total)

    ours_larger : RunsAs L (ours L) (ours M) x (Larger L M x) (λ y more. SameRun L M x y more ((ours L).run x) ((ours M).run y))
    ours_larger =
        let r = last-stated L kl x b started in
        record {
          s = o.state.steps;
          records = r.0;
          report = r.1;
          entered = last-entered L kl x b started;
          within = steps-within;
          enough = same;
          short = larger_short L M kl labels x b started ended;
        }

  module _ (I J : Interpreter) (first : Demand1 L I) (second : Demand2 L I) (first_there : Demand1 M J) (second_there : Demand2 M J) where
    is_ours : I.run x ≡ (ours L).run x
    is_ours = run-one L kl I first second x b

    there-ours : (y : Lent) → Larger L M x y → J.run y ≡ (ours M).run y
    there-ours y more = run-one M km J first_there second_there y more.lendable

    pub run_larger : (I.run x).answer ≤ 1 → RunsAs L I J x (Larger L M x) (λ y more. SameRun L M x y more (I.run x) (J.run y))
    run_larger h =
        let n = ours_larger (subst (λ (o : Outcome). o.answer ≤ 1) is_ours h) in
        record {
          s = n.s;
          records = n.records;
          report = ap (λ (o : Outcome). o.report) is_ours ∙ n.report;
          entered = n.entered;
          within = n.within;
          enough = λ y more l. rw (is_ours, there-ours y more) (n.enough y more l);
          short = λ y more l. ap (λ (o : Outcome). o.answer) (there-ours y more) ∙ n.short y more l;
        }

    -- what is out of fuel is so with the same fuel there
    pub out_larger : (I.run x).answer ≡ 2 → (y : Lent) → Larger L M x y → y.fuel ≡ x.fuel → (J.run y).answer ≡ 2
    out_larger h y more e =
        ap (λ (o : Outcome). o.answer) (there-ours y more)
        ∙ ours-out L M kl labels x b y more (sym (ap (λ (o : Outcome). o.answer) is_ours) ∙ h) e
