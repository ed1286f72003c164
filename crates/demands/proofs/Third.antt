-- Our run meets demand 3. Rests on Larger and Laws/FurtherTables.
use Rattle.std.specs.Prelude.{ℕ, zero, suc, ◌+◌, ◌-◌, ◌/◌, ◌<◌, ◌≤◌, ◌≡◌, refl, [], ◌∷◌, ◌++◌, map, reverse, length, get_or, take, replicate}
use Rattle.std.proofs.Common.{sym, ◌∙◌, ap, arith, le_refl, div-mul-le_self, le-div_iff_mul-le, take_at}
use Rattle.std.proofs.Math.Path.{subst}
use Rattle.std.proofs.Math.Option.{none}
use Rattle.std.proofs.lemmas.List.{replicate-append-replicate}
use Rattle.meaning.specs.Basics.{absent, both, concat}
use Rattle.meaning.specs.Numbers.{bytes}
use Rattle.meaning.specs.Layout.{record_length, read_nodes, read_edges, write_record}
use Rattle.meaning.specs.Procedures.{Program}
use Rattle.meaning.specs.Commands.{State, Out}
use Rattle.meaning.specs.Calls.{Lent}
use Rattle.demands.specs.Demands.{Outcome, Interpreter, stop_answer, In, Lendable, run_refused_with, outcome_at, Means, Roomier, SameWithRoom, Entered, Settled, Demand3}
use Rattle.demands.specs.Ours.{ours, Good}
use Rattle.demands.proofs.Ours.{good}
use Rattle.demands.proofs.First.{run_settled}
use Rattle.demands.specs.Started.{last}
use Rattle.demands.proofs.Started.{rules-sound, written-fits, last-means, last-left, last-stated, last-entered}
use Rattle.demands.specs.Larger.{Larger, Settling}
use Rattle.demands.proofs.Larger.{larger_left, larger_short}
use Rattle.laws.specs.Undoing.{Numbered}
use Rattle.meaning.specs.Laws.Tests.{absent-false, some_inj}
use Rattle.laws.specs.Numbers.{length-bytes}
use Rattle.demands.proofs.Laws.Inference.{executes_one}
use Rattle.laws.specs.Pieces.{fits-length}
use Rattle.demands.specs.Laws.Shortage.{fuelled}
use Rattle.demands.specs.Laws.FurtherCommands.{roomier_state}
use Rattle.demands.specs.Laws.FurtherTables.{read_nodes-further, read_edges-further, write_nodes-further, write_edges-further, keeps_layout-further, padded-longer}
use Rattle.meaning.specs.declared.Layout.{Layout}
use Rattle.meaning.specs.declared.Stop.{Stop}
use Rattle.meaning.specs.declared.Stop.TheVariants.{OutOfFuel, NoNodeRoom, NoEdgeRoom, NoRecordRoom, LabelTooLarge}
use Rattle.meaning.specs.declared.End.{End}
use Rattle.meaning.specs.declared.End.TheVariants.{Done, Failed, Broke, Stopped}

-- The ends of which demand 3 speaks.

stop-settling : (w : Stop) → In (stop_answer w) (0 ∷ 1 ∷ 6 ∷ []) → w ≡ LabelTooLarge
unfolding absent both
stop-settling OutOfFuel h = let z : ◌≡◌ {A = ℕ} 0 1 = cc in absurd (omega arith)
stop-settling NoNodeRoom h = let z : ◌≡◌ {A = ℕ} 0 1 = cc in absurd (omega arith)
stop-settling NoEdgeRoom h = let z : ◌≡◌ {A = ℕ} 0 1 = cc in absurd (omega arith)
stop-settling NoRecordRoom h = let z : ◌≡◌ {A = ℕ} 0 1 = cc in absurd (omega arith)
stop-settling LabelTooLarge h = refl

settling : (L : Layout) (x : Lent) (e : End) (t : State) → In (outcome_at L x e t).answer (0 ∷ 1 ∷ 6 ∷ []) → Settling L L e
settling L x Done t h = (tt, λ q. let z : ◌≡◌ {A = ℕ} 0 1 = cc in omega arith)
settling L x Failed t h = (tt, λ q. let z : ◌≡◌ {A = ℕ} 0 1 = cc in omega arith)
settling L x Broke t h = (tt, λ q. let z : ◌≡◌ {A = ℕ} 0 1 = cc in omega arith)
settling L x (Stopped w) t h =
    let i = stop-settling w h in
    rw i (refl, λ q. let z : ◌≡◌ {A = ℕ} 0 1 = cc in omega arith)

-- an answer of demand 3 is one of a run that starts
settled-low : (n : ℕ) → In n (0 ∷ 1 ∷ 6 ∷ []) → n ≤ 6
settled-low n h = let t = absent-false n (0 ∷ 1 ∷ 6 ∷ []) h in at t.0 t.2
  where
    at : (j : ℕ) → get_or (0 ∷ 1 ∷ 6 ∷ []) j 0 ≡ n → n ≤ 6
    at zero e = omega arith
    at (suc zero) e = omega arith
    at (suc (suc zero)) e = omega arith
    at (suc (suc (suc j))) e = omega arith

div_le : (w a b : ℕ) → 0 < w → a ≤ b → a / w ≤ b / w
div_le w a b p h = (le-div_iff_mul-le p).1 (omega (arith, div-mul-le_self a w))

-- where x starts, it and what is roomier are at one layout what Larger asks of two
roomier_larger : (L : Layout) (x : Lent) → Good L x → (y : Lent) → Roomier L x y → Larger L L x y
roomier_larger L x a y more =
    let nodes-whole = (fits-length _ _ _ a.nodes_fit).0 in
    let edges-whole = (fits-length _ _ _ a.edges_fit).0 in
    let n = ap (read_nodes L) more.nodes ∙ read_nodes-further L more.nodes_more x.nodes nodes-whole in
    let e = ap (read_edges L) more.edges ∙ read_edges-further L more.edges_more x.edges edges-whole in
    record {
      lendable = more.lendable;
      nodes_more = more.nodes_more;
      edges_more = more.edges_more;
      host = λ i. record { nodes = n i; edges = e i };
      layout =
          rw (more.nodes, more.edges)
          (keeps_layout-further L more.nodes_more more.edges_more x.nodes x.edges nodes-whole edges-whole a.layout);
      records = div_le (record_length L) (length x.journal) (length y.journal) (omega arith) more.journal;
      image = more.image;
      nodes_fit = more.nodes_fit;
      edges_fit = more.edges_fit;
      journal_fits = more.journal_fits;
      fuel_fits = more.fuel_fits;
      report_fits = more.report_fits;
    }

-- what is left of y, where the last state of x is the same with further free slots and any fuel
module _ (L : Layout) (x y : Lent) (more : Roomier L x y) where
  zeros-longer : replicate {A = ℕ} (length y.journal) 0
      ≡ replicate (length x.journal) 0 ++ replicate (length y.journal - length x.journal) 0
  zeros-longer =
      let n : length y.journal ≡ length x.journal + (length y.journal - length x.journal) = omega (arith, more.journal) in
      ap (λ (m : ℕ). replicate m 0) n
      ∙ sym (replicate-append-replicate (length x.journal) (length y.journal - length x.journal) 0)

  left-same : (e : End) (t : State) (f : ℕ)
      → length (concat (map (write_record L) (reverse t.ledger.journal))) ≤ length x.journal
      → SameWithRoom L x y more (outcome_at L x e t) (outcome_at L y e (fuelled f (roomier_state more.nodes_more more.edges_more t)))
  left-same Done t f h =
      record {
        answer = refl;
        report = refl;
        nodes = write_nodes-further L more.nodes_more t.ledger.host.nodes;
        edges = write_edges-further L more.edges_more t.ledger.host.edges;
        journal =
            padded-longer (length x.journal) (length y.journal) (concat (map (write_record L) (reverse t.ledger.journal))) h
            more.journal;
      }
  left-same Failed t f h =
      record { answer = refl; report = refl; nodes = more.nodes; edges = more.edges; journal = zeros-longer }
  left-same Broke t f h =
      record { answer = refl; report = refl; nodes = more.nodes; edges = more.edges; journal = zeros-longer }
  left-same (Stopped w) t f h =
      record { answer = refl; report = refl; nodes = more.nodes; edges = more.edges; journal = zeros-longer }

module _ (L : Layout) (k : Numbered L) (x : Lent) (b : Lendable x) (h : In ((ours L).run x).answer (0 ∷ 1 ∷ 6 ∷ [])) where
  starts : run_refused_with L x ≡ none
  starts = run_settled L x (settled-low ((ours L).run x).answer h)

  abbrev a : Good L x
  a = good L x starts

  abbrev o : Out
  o = last L k x b a

  ended : Settling L L o.end
  ended = settling L x o.end o.state (subst (λ (q : Outcome). In q.answer (0 ∷ 1 ∷ 6 ∷ [])) (last-left L k x b a) h)

  same-y : (y : Lent) (more : Roomier L x y) → o.state.steps ≤ y.fuel → SameWithRoom L x y more ((ours L).run x) ((ours L).run y)
  unfolding roomier_larger
  same-y y more l =
      subst (λ (z : Outcome). SameWithRoom L x y more z ((ours L).run y)) (sym (last-left L k x b a))
      (subst (SameWithRoom L x y more (outcome_at L x o.end o.state))
      (sym (larger_left L L k (le_refl _) x b a ended y (roomier_larger L x a y more) l))
      (left-same L x y more o.end o.state _ (written-fits L k x b a)))

  pub settled : Settled L (ours L) x
  settled =
      let r = last-stated L k x b a in
      record {
        s = o.state.steps;
        records = r.0;
        report = r.1;
        entered = last-entered L k x b a;
        enough = same-y;
        short = λ y more. larger_short L L k (le_refl _) x b a ended y (roomier_larger L x a y more);
      }

pub demand3 : (L : Layout) → Numbered L → Demand3 L (ours L)
demand3 L k = record { settled = λ x b h. settled L k x b h }

-- Demand 3 leaves one count of steps: what an interpreter that meets it states where ours starts is what ours states.
module _ (L : Layout) (k : Numbered L) (x : Lent) (b : Lendable x) (e : run_refused_with L x ≡ none) where
  pub entered-is : (s : ℕ) → Entered L x s → take 4 ((ours L).run x).report ≡ bytes 4 s
  entered-is s n =
      let a = good L x e in
      let o = last L k x b a in
      let i : n.tree ≡ a.tree = some_inj n.tree a.tree (sym n.image ∙ a.form) in
      let m : Means L x a.tree n.end n.state = subst (λ (p : Program). Means L x p n.end n.state) i n.means in
      let q =
      executes_one L.atoms (length x.journal / record_length L) a.tree.rules (rules-sound L k x b a) m (last-means L k x b a) in
      let t : o.state.steps ≡ s = sym (ap (λ (t : State). t.steps) q.1) ∙ n.steps in
      ap (take 4) (last-stated L k x b a).1
      ∙ take_at (bytes 4 o.state.steps) _ 4 (length-bytes 4 o.state.steps) ∙ ap (bytes 4) t

  pub one-count : (I : Interpreter) → Demand3 L I → In (I.run x).answer (0 ∷ 1 ∷ 6 ∷ [])
      → take 4 (I.run x).report ≡ take 4 ((ours L).run x).report
  one-count I d h =
      let n = d.settled x b h in
      ap (take 4) n.report ∙ take_at (bytes 4 n.s) _ 4 (length-bytes 4 n.s) ∙ sym (entered-is n.s n.entered)
