-- What the interpreter answers is an outcome of the program by the published semantics: a result where it answers 0, fail where
-- it answers 1. First of commands, then of every interpreter that meets demands 1 and 2. Graphs, the reading of a host as a
-- graph and the application of a rule set are parameters. Rests on Following and demands' Demands.
use Rattle.std.specs.Prelude.{◌≡◌, refl, true, false, List, map, ℕ, ◌/◌, ◌^◌, ◌≤◌, length, get_or}
use Rattle.std.proofs.Common.{ap, arith}
use Rattle.std.proofs.Math.Option.{Option, some, none}
use Rattle.meaning.specs.Layout.{Host, node_length, edge_length, record_length}
use Rattle.meaning.specs.Image.{Rule}
use Rattle.meaning.specs.Procedures.{Command}
use Rattle.meaning.specs.Applying.{Ledger, applied, apply}
use Rattle.meaning.specs.Commands.{State, Out, rule_at, exec}
use Rattle.demands.specs.Inference.{NoMatch, FirstCalled, Executes}
use Rattle.meaning.specs.Calls.{Lent}
use Rattle.demands.specs.Demands.{Interpreter, Lendable, run_refused_with, start, Means, outcome_at, Demand1, Demand2}
use Rattle.demands.specs.Ours.{Good}
use Rattle.demands.proofs.Ours.{good}
use Rattle.demands.proofs.First.{stop-answer, refusal-answer}
use Rattle.laws.specs.Pieces.{fits-length}
use Rattle.laws.specs.Hosts.{LegalHost, read_write_nodes, read_write_edges}
use Rattle.laws.specs.Breaks.{breaks_stay, exec-unbroken}
use Rattle.laws.specs.Values.{LegalRule}
use Rattle.laws.specs.Legality.{LegalLedger, apply-legal}
use Rattle.laws.specs.LegalCommands.{LegalRules, legal-rule, legal-sound}
use Rattle.laws.specs.Calls.{accepted-legal, accepted-stays}
use Rattle.demands.proofs.Laws.Inference.{exec_executes, executes_exec}
use Rattle.laws.specs.Undoing.{Numbered, start-legal}
use Rattle.meaning.specs.declared.Layout.{Layout}
use Rattle.meaning.specs.declared.End.{End}
use Rattle.meaning.specs.declared.End.TheVariants.{Done, Failed, Broke, Stopped}
use Rattle.published.specs.Semantics
use Rattle.published.specs.Semantics.{graph, fails, com_seq}
use Rattle.published.specs.Following.{Ending}
use Rattle.published.proofs.Following.{executes_ending}
use Rattle.published.specs.Results.{host_in, held, CanComeTo}

module _ {ℓ κ} (L : Layout) (Graph : Type ℓ) (Applied : List Rule → Graph → Graph → Type κ) (read : Host → Graph)
    (hit : (m n : ℕ) → m ≤ 256 ^ L.width → n ≤ 256 ^ L.width → (room : ℕ) (rules : List Rule) → LegalRules rules
    → (l : List ℕ) (r : Rule) (p : List ℕ) (g g' : Ledger) → LegalLedger L m n g → FirstCalled rules g.host l r p
    → apply L.atoms room r p g ≡ applied g' → Applied (map (rule_at rules) l) (read g.host) (read g'.host))
    (miss : (rules : List Rule) → LegalRules rules → (l : List ℕ) (h : Host) → LegalHost L h → NoMatch rules h l
    → (H : Graph) → Applied (map (rule_at rules) l) (read h) H → ⊥)
  where
    -- Commands, over tables of m node slots and n edge slots.

    module _ (m n : ℕ) (few_nodes : m ≤ 256 ^ L.width) (few_edges : n ≤ 256 ^ L.width) (room : ℕ) (rules : List Rule)
        (legal : LegalRules rules)
      where
        hits : (l : List ℕ) (r : Rule) (p : List ℕ) (g g' : Ledger) → LegalLedger L m n g → FirstCalled rules g.host l r p
            → apply L.atoms room r p g ≡ applied g'
            → LegalLedger L m n g' × Applied (map (rule_at rules) l) (read g.host) (read g'.host)
        hits l r p g g' q f a =
            let k : LegalRule r = rw f.rule (legal-rule rules legal (get_or l f.place 0)) in
            (apply-legal L m n few_nodes few_edges room r k p g q f.match g' a, hit m n few_nodes few_edges room rules legal l r p g g' q f a)

        misses : (l : List ℕ) (g : Ledger) → LegalLedger L m n g → NoMatch rules g.host l → (H : Graph)
            → Applied (map (rule_at rules) l) (read g.host) H → ⊥
        misses l g q = miss rules legal l g.host q.host

        -- what a command does by the rules of inference follows by the published rules
        pub executes_published : {c : Command} {s t : State} {e : End} → Executes L.atoms room rules c s e t → LegalLedger L m n s.ledger
            → LegalLedger L m n t.ledger × Ending Graph Applied read (com_seq rules c) s e t
        executes_published r q = executes_ending Graph Applied read L.atoms room rules (LegalLedger L m n) hits misses r q

        -- and so what it is computed to do
        pub exec_published : (c : Command) (s : State) → breaks_stay c false ≡ true → LegalLedger L m n s.ledger
            → Ending Graph Applied read (com_seq rules c) s (exec L.atoms room rules c s).end (exec L.atoms room rules c s).state
        exec_published c s b q = (executes_published (exec_executes L.atoms room rules (legal-sound rules legal) c s b) q).1

        unbroken : (c : Command) (s t : State) → breaks_stay c false ≡ true → Executes L.atoms room rules c s Broke t → ⊥
        unbroken c s t b r =
            exec-unbroken L.atoms room rules c s b (ap (λ (o : Out). o.end) (executes_exec L.atoms room rules (legal-sound rules legal) r))

    -- Every interpreter that meets demands 1 and 2.

    module _ (numbered : Numbered L) (I : Interpreter) (first : Demand1 L I) (second : Demand2 L I) (x : Lent) (b : Lendable x) where
      abbrev Comes : Semantics.Outcome Graph → Type (ℓ ⊔ κ)
      Comes X = CanComeTo L Graph Applied read x.nodes x.edges x.image X

      abbrev left_graph : Graph
      left_graph = held L read (I.run x).nodes (I.run x).edges

      starts : (I.run x).answer ≤ 6 → run_refused_with L x ≡ none
      starts = at (run_refused_with L x) refl
        where
          at : (o : Option ℕ) → run_refused_with L x ≡ o → (I.run x).answer ≤ 6 → run_refused_with L x ≡ none
          at none e k = e
          at (some n) e k = absurd (omega (arith, first.refuses x b n e, (refusal-answer L x n e).1))

      module _ (a : Good L x) where
        abbrev node_slots : ℕ
        node_slots = length x.nodes / node_length L

        abbrev edge_slots : ℕ
        edge_slots = length x.edges / edge_length L

        abbrev room : ℕ
        room = length x.journal / record_length L

        few_nodes : node_slots ≤ 256 ^ L.width
        few_nodes = omega (arith, numbered.nodes, (fits-length (node_length L) L.nodes x.nodes a.nodes_fit).1)

        few_edges : edge_slots ≤ 256 ^ L.width
        few_edges = omega (arith, numbered.edges, (fits-length (edge_length L) L.edges x.edges a.edges_fit).1)

        legal : LegalRules a.tree.rules
        legal = accepted-legal L x b.image.bytewise a

        start-good : LegalLedger L node_slots edge_slots (start L x).ledger
        start-good =
            start-legal L numbered x.nodes x.edges x.journal b.nodes.bytewise b.edges.bytewise a.nodes_fit a.edges_fit a.journal_fits
            a.layout a.tree legal x.fuel

        whole : (e : End) (t : State) → Means L x a.tree e t
            → LegalLedger L node_slots edge_slots t.ledger × Ending Graph Applied read (com_seq a.tree.rules a.tree.main) (start L x) e t
        whole e t r = executes_published node_slots edge_slots few_nodes few_edges room a.tree.rules legal r start-good

        result-at : (e : End) (t : State) → Means L x a.tree e t → I.run x ≡ outcome_at L x e t → (I.run x).answer ≡ 0 → Comes (graph left_graph)
        result-at Done t r v z =
            let q = whole Done t r in
            let h = t.ledger.host in
            record {
              tree = a.tree;
              form = a.form;
              outcome = rw (v, read_write_nodes L h q.0.host, read_write_edges L h q.0.host) q.1;
            }
        result-at Failed t r v z = let w : ◌≡◌ {A = ℕ} 1 0 = rw v at z in absurd (omega arith)
        result-at Broke t r v z = let w : ◌≡◌ {A = ℕ} 1 0 = rw v at z in absurd (omega arith)
        result-at (Stopped w) t r v z = absurd (omega (arith, (stop-answer w).1, rw v at z))

        legal-at : (e : End) (t : State) → Means L x a.tree e t → I.run x ≡ outcome_at L x e t → (I.run x).answer ≡ 0
            → LegalHost L (host_in L (I.run x).nodes (I.run x).edges)
        legal-at Done t r v z =
            let q = (whole Done t r).0.host in
            let h = t.ledger.host in
            rw (v, read_write_nodes L h q, read_write_edges L h q) q
        legal-at Failed t r v z = let w : ◌≡◌ {A = ℕ} 1 0 = rw v at z in absurd (omega arith)
        legal-at Broke t r v z = let w : ◌≡◌ {A = ℕ} 1 0 = rw v at z in absurd (omega arith)
        legal-at (Stopped w) t r v z = absurd (omega (arith, (stop-answer w).1, rw v at z))

        fail-at : (e : End) (t : State) → Means L x a.tree e t → I.run x ≡ outcome_at L x e t → (I.run x).answer ≡ 1 → Comes fails
        fail-at Done t r v z = let w : ◌≡◌ {A = ℕ} 0 1 = rw v at z in absurd (omega arith)
        fail-at Failed t r v z = record { tree = a.tree; form = a.form; outcome = (whole Failed t r).1 }
        fail-at Broke t r v z =
            absurd (unbroken node_slots edge_slots few_nodes few_edges room a.tree.rules legal a.tree.main (start L x) t (accepted-stays L x a) r)
        fail-at (Stopped w) t r v z = absurd (omega (arith, (stop-answer w).1, rw v at z))

      -- where it answers 0, the graph that it leaves is a possible result of the program on the graph that came in
      pub result_published : (I.run x).answer ≡ 0 → Comes (graph left_graph)
      result_published z =
          let e = starts (omega arith) in
          let a = good L x e in
          let m = second.means x b a.tree e a.form in
          result-at a m.0 m.1 m.2 m.3 z

      -- what a started run is lent is legal, and what it leaves where it answers 0
      pub came-legal : (I.run x).answer ≤ 6 → LegalHost L (host_in L x.nodes x.edges)
      came-legal k = (start-good (good L x (starts k))).host

      pub left-legal : (I.run x).answer ≡ 0 → LegalHost L (host_in L (I.run x).nodes (I.run x).edges)
      left-legal z =
          let e = starts (omega arith) in
          let a = good L x e in
          let m = second.means x b a.tree e a.form in
          legal-at a m.0 m.1 m.2 m.3 z

      -- where it answers 1, the program can fail on the graph that came in
      pub fail_published : (I.run x).answer ≡ 1 → Comes fails
      fail_published z =
          let e = starts (omega arith) in
          let a = good L x e in
          let m = second.means x b a.tree e a.form in
          fail-at a m.0 m.1 m.2 m.3 z
