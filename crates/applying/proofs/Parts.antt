-- Laws of the four parts of an application, one after the other: what each is handed, from what the parts before it left.
-- Rests on Checks, on making's Making, on ledger's Changes and Applications, on the meaning's
-- Laws/Room and Laws/Attached, and on laws' Legality.
use mathlib.Core.Path.{◌≡◌, refl, sym, ◌∙◌, ap, subst}
use mathlib.Core.Bool.{Bool}
use mathlib.Core.Option.{some}
use mathlib.Core.List.{List, ◌++◌}
use Prim.Native.Nat.{ℕ, ◌+◌, ◌-◌, ◌/◌, ◌<◌, ◌≤◌}
use native.Mathlib.Omega.{arith}
use borrow.Author.Tests.{leb-true}
use lib.ListN.{length, get_or, take, drop}
use lib.Seq.{get_or-take, take-take, take-add, drop_at, length-take-le}
use Rattle.meaning.specs.Layout.{node_length, edge_length, record_length, read_node, read_edge}
use Rattle.meaning.specs.Image.{Rule, rule_graph, most_items}
use Rattle.meaning.specs.Matching.{left_nodes, left_edges, Match, total}
use Rattle.meaning.specs.Applying.{Right, right_side, Ledger, Added, stores, free_slots, edges_go, nodes_change, add_nodes, between, add_edges, changed, records_of, hindrance}
use Rattle.meaning.specs.Laws.Tests.{is_some_true}
use Rattle.meaning.specs.Laws.Every.{Every-in}
use Rattle.laws.specs.Hosts.{LegalEdge}
use Rattle.laws.specs.Pieces.{length-read}
use Rattle.meaning.specs.Laws.Applying.{stores_append, right_side-some}
use Rattle.meaning.specs.Laws.Checks.{first_failing-none}
use Rattle.meaning.specs.Laws.Room.{after_new, changed-is, after_left-nodes, after_left-edges}
use Rattle.meaning.specs.Laws.Attached.{right_slots}
use Rattle.meaning.specs.Laws.Interface.{interface-left, interface-right}
use Rattle.laws.specs.Values.{LegalRight, new-marked, right_side-legal}
use Rattle.laws.specs.FirstMatch.{found-match, node-inside, edge-inside}
use Rattle.fields.specs.Parsed.{Few, rule-few}
use Rattle.laws.specs.Legality.{Ready, between-legal}
use Rattle.meaning.specs.declared.Layout.{Layout}
use Rattle.ledger.specs.Running.{journal_of, ledger_of, Held, Leads}
use Rattle.ledger.specs.Changes.{Went, Below, goes, quotient_le}
use Rattle.ledger.specs.Whole.{records-count, running-legal, few-nodes, few-edges}
use Rattle.ledger.specs.Applications.{ready}
use Rattle.making.specs.Making.{blank_rule, blank_edge, Made, Alters, Grows, Grew, Edges}
use Rattle.applying.specs.Halves.{Unhindered, Left, Halfway}
use Rattle.applying.proofs.Checks.{values_agree}

-- the bytes of the graphs, and what else of a rule the code reads: the interface,
-- and for the left part the mode and how many left nodes and edges,
pub record LeftCounted (r : Rule) (lb rb : List ℕ) (preserving : Bool) (k n m : ℕ) : Type 0 where
  pub left : rule_graph lb ≡ some r.left
  pub right : rule_graph rb ≡ some r.right
  pub interface : k ≡ r.interface
  pub mode : preserving ≡ r.preserving
  pub nodes : n ≡ left_nodes r
  pub edges : m ≡ left_edges r

-- for the right part the new nodes and the right edges
pub record RightCounted (r : Rule) (rb : List ℕ) (k new count : ℕ) : Type 0 where
  pub right : rule_graph rb ≡ some r.right
  pub interface : k ≡ r.interface
  pub added : k + new ≡ length r.right.nodes
  pub right_edges : count ≡ length r.right.edges

module _ {L : Layout} {nodes edges journal : List ℕ} {used : ℕ} {bs slots lens atoms : List ℕ}
    (u : Unhindered L nodes edges journal used bs slots lens atoms)
  where
    abbrev pub r : Rule
    r = u.match.tree

    abbrev pub p : List ℕ
    p = take (total r) slots

    abbrev pub g : Ledger
    g = ledger_of L nodes edges journal used

    pub few : Few r
    few = rule-few bs r u.match.is

    pub match : Match g.host r p
    match = found-match g.host r u.match.legal.holds u.match.legal.types p u.match.first

    -- a slot of the match is one of the array's
    pub slot_is : (i : ℕ) → i < total r → get_or p i 0 ≡ get_or slots i 0
    slot_is i h = get_or-take (total r) slots i 0 h

    -- there is room for all records
    pub all-records : used + records_of r ≤ length journal / record_length L
    unfolding hindrance
    all-records =
        let s = first_failing-none _ _ _ u.fine in
        let t = first_failing-none _ _ _ s.1 in
        let v = first_failing-none _ _ _ t.1 in
        let x = first_failing-none _ _ _ v.1 in
        let y : length (journal_of L journal used) + records_of r ≤ length journal / record_length L = leb-true _ _ x.0 in
        omega (arith, records-count L nodes edges journal used)

    -- the right side has values
    pub right_there : (right : Right) × (right_side L.atoms g.host r p ≡ some right)
    unfolding hindrance
    right_there = is_some_true _ (first_failing-none _ _ _ u.fine).0

    -- so their number fits
    pub records-fit : used + records_of r ≤ length journal
    records-fit = quotient_le (used + records_of r) (length journal) (record_length L) all-records

    -- the interface is among the right nodes, and the others are new
    module _ {k c : ℕ} (ek : k ≡ r.interface) (ec : c ≡ length r.right.nodes) where
      pub interface-fits : k ≤ c
      interface-fits = omega (arith, interface-right r u.match.legal.holds)

      pub new-count : k + (c - k) ≡ length r.right.nodes
      new-count = omega (arith, interface-right r u.match.legal.holds)

    module _ {right : Right} (q : right_side L.atoms g.host r p ≡ some right) where
      pub can : Ready L.atoms r p g right
      can = ready L nodes edges journal used u.running r u.match.legal p match right q u.fine

      pub sizes : (length right.nodes ≡ length r.right.nodes) × (length right.edges ≡ length r.right.edges)
      sizes = right_side-some L.atoms g.host r p right q

      pub values-legal : LegalRight L right
      values-legal = right_side-legal L g.host (running-legal L nodes edges journal used u.running).host r u.match.legal p right q

      pub inner : (r.interface ≤ left_nodes r) × (r.interface ≤ length r.right.nodes)
      inner = (interface-left r u.match.legal.holds, interface-right r u.match.legal.holds)

      -- The whole right side.

      abbrev pub made : {rb : List ℕ} {k : ℕ} → rule_graph rb ≡ some r.right → k ≡ r.interface → Made L rb lens atoms k
      made is ek =
          record {
            stored = u.match.arrays;
            few = u.running.held.few;
            host = g.host;
            tree = r;
            slots = p;
            right = right;
            is = is;
            values = q;
            agree = values_agree u.match;
            legal = values-legal;
            nodes_long = sizes.0;
            edges_long = sizes.1;
            few_nodes = few.right_nodes;
            interface = ek;
            inside = omega (arith, ek, inner.1);
            marked = λ j h l. new-marked r u.match.legal.holds j (omega (arith, ek)) l blank_rule;
          }

      module _ {lb rb : List ℕ} {preserving : Bool} {k n m : ℕ} (s : LeftCounted r lb rb preserving k n m) where
        -- Left edges go.

        pub go-next : Held L nodes edges journal used
            × ((used + m ≤ length journal / record_length L) × (n + m ≤ length slots) × (length slots ≡ most_items))
            × Below (length edges / edge_length L) slots n m
        go-next =
            let a = few.left_nodes in
            let b = few.left_edges in
            let o = u.match.room in
            let l = length-read (edge_length L) (read_edge L) edges in (
              u.running.held,
              (omega (arith, all-records), omega arith, o),
              λ i h. rw (s.nodes, ← (slot_is (left_nodes r + i) (omega arith))) (omega (arith, edge-inside g.host r p match i (omega arith))),
            )

        pub edges_are : take m (drop n slots) ≡ drop (left_nodes r) p
        edges_are =
            let a = few.left_nodes in
            let o = u.match.room in
            rw (s.nodes, s.edges) (sym (ap (drop (left_nodes r)) (take-add (left_nodes r) (left_edges r) slots) ∙ drop_at (take (left_nodes r) slots) (take (left_edges r) (drop (left_nodes r) slots)) (left_nodes r) (length-take-le (left_nodes r) slots (omega arith))))

        pub nodes-are : take n slots ≡ take (left_nodes r) p
        nodes-are = rw s.nodes (sym (take-take (left_nodes r) (total r) slots (omega arith)))

        module _ {edges₁ journal₁ : List ℕ}
            (gone : Went L (stores (goes (take m (drop n slots))) g) nodes edges journal nodes edges₁ journal₁ (used + m))
          where
            pub gone-is : ledger_of L nodes edges₁ journal₁ (used + m) ≡ stores (edges_go r p) g
            gone-is = gone.leads.ledger ∙ ap (λ (l : List ℕ). stores (goes l) g) edges_are

            -- Left nodes change.

            abbrev pub alters : Alters L nodes journal₁ preserving lb rb lens atoms slots (used + m) k n
            alters =
                record {
                  made = made s.right s.interface;
                  on = record { is = s.left; mode = s.mode; inside = omega (arith, s.interface, inner.0) };
                  room = u.match.room;
                  few = omega (arith, few.left_nodes);
                  records = rw gone.journal_long (omega (arith, all-records));
                  inside = omega (arith, inner.0);
                  host = refl;
                  slots = λ i h. slot_is i (omega arith);
                  below = λ i h.
                      let z : 0 + i ≡ i = omega arith in
                      let l = length-read (node_length L) read_node nodes in
                      rw (z, ← (slot_is i (omega arith))) (omega (arith, node-inside g.host r p match i (omega arith)));
                  alive = λ i h. rw (← (slot_is i (omega arith))) (match.nodes_live i (omega arith));
                  apart = λ i j h l e. match.nodes_apart i j h (omega arith) (slot_is i (omega arith) ∙ e ∙ sym (slot_is j (omega arith)));
                }

            pub left-done : {nodes₂ journal₂ : List ℕ}
                → Went L (stores (nodes_change (take k right.nodes) (take n slots)) (ledger_of L nodes edges₁ journal₁ (used + m))) nodes edges₁ journal₁ nodes₂ edges₁ journal₂ (used + m + n)
                → Left L nodes edges journal used r p right (used + m + n) nodes₂ edges₁ journal₂
            left-done w =
                record {
                  went = record {
                    leads = record {
                      ledger =
                          w.leads.ledger
                          ∙ (λ i. stores (nodes_change (take (s.interface i) right.nodes) (nodes-are i)) (gone-is i))
                          ∙ sym (stores_append (edges_go r p) (nodes_change (take r.interface right.nodes) (take (left_nodes r) p)) g);
                      held = w.leads.held;
                    };
                    nodes_long = w.nodes_long;
                    edges_long = gone.edges_long;
                    journal_long = w.journal_long ∙ gone.journal_long;
                  };
                  records = omega (arith, s.nodes, s.edges);
                }

      -- The right side is to come.

      abbrev pub halfway : {nodes₂ edges₂ journal₂ : List ℕ} {kept : ℕ} → Left L nodes edges journal used r p right kept nodes₂ edges₂ journal₂
          → Halfway L nodes₂ edges₂ journal₂ kept bs slots lens atoms
      halfway left =
          record {
            nodes₀ = nodes;
            edges₀ = edges;
            journal₀ = journal;
            used₀ = used;
            start = u;
            right = right;
            values = q;
            left = left;
          }

      module _ {rb : List ℕ} {k new count : ℕ} (s : RightCounted r rb k new count) {nodes₂ edges₂ journal₂ : List ℕ} {kept : ℕ}
          (left : Left L nodes edges journal used r p right kept nodes₂ edges₂ journal₂)
        where
          -- New nodes come.

          abbrev pub grows : Grows L nodes₂ journal₂ rb lens atoms slots kept k new
          grows =
              record {
                made = made s.right s.interface;
                room = u.match.room;
                counted = s.added;
                free =
                    let f = ap (λ (h : Ledger). free_slots h.host.nodes) left.went.leads.ledger in
                    let a = after_left-nodes r p right g match in
                    omega (arith, can.node_room, sizes.0, inner.1);
                records = rw left.went.journal_long (omega (arith, left.records, all-records));
              }

          -- the number of all records fits
          pub right-fits : kept + new + count ≤ length journal₂
          right-fits = rw left.went.journal_long (omega (arith, left.records, s.added, s.interface, s.right_edges, records-fit))

          module _ {nodes₃ journal₃ places : List ℕ}
              (grew : Grew L (drop k right.nodes) nodes₂ edges₂ journal₂ slots kept k new places nodes₃ journal₃)
            where
              pub grown-is : add_nodes (drop k right.nodes) (ledger_of L nodes₂ edges₂ journal₂ kept) ≡ after_new r p right g
              grown-is = λ i. add_nodes (drop (s.interface i) right.nodes) (left.went.leads.ledger i)

              pub grew_is : ledger_of L nodes₃ edges₂ journal₃ (kept + new) ≡ (after_new r p right g).ledger
              grew_is = grew.went.leads.ledger ∙ ap (λ (a : Added). a.ledger) grown-is

              -- the places are the slots of the right nodes
              pub places-are : take (length r.right.nodes) places ≡ right_slots r p right g
              places-are =
                  let t : take k slots ≡ take r.interface p =
                  rw s.interface (sym (take-take r.interface (total r) slots (omega (arith, inner.0)))) in
                  ap (λ (c : ℕ). take c places) (sym s.added) ∙ grew.lie ∙ (λ i. t i ++ (grown-is i).slots)

              -- Right edges come.

              abbrev pub joins : Edges L edges₂ journal₃ rb lens atoms places (kept + new) count
              joins =
                  record {
                    interface = k;
                    made = made s.right s.interface;
                    room = grew.room;
                    counted = s.right_edges;
                    ends = λ i h.
                        subst (λ (l : List ℕ). LegalEdge L (between l (get_or right.edges i blank_edge))) (sym places-are)
                        (between-legal L (length nodes / node_length L) (length edges / edge_length L) (few-nodes L nodes edges journal used u.running)
                        (few-edges L nodes edges journal used u.running) r u.match.legal p g (running-legal L nodes edges journal used u.running)
                        right can _ (Every-in _ right.edges values-legal.edges i (omega (arith, sizes.1)) blank_edge));
                    free =
                        let f = ap (λ (h : Ledger). free_slots h.host.edges) left.went.leads.ledger in
                        let a = after_left-edges r p right g match in
                        omega (arith, can.edge_room);
                    records = rw (grew.went.journal_long, left.went.journal_long) (omega (arith, left.records, all-records));
                  }

              pub joined : {edges₄ journal₄ : List ℕ}
                  → Went L (add_edges (take (length r.right.nodes) places) right.edges (ledger_of L nodes₃ edges₂ journal₃ (kept + new))) nodes₃ edges₂ journal₃ nodes₃ edges₄ journal₄ (kept + new + count)
                  → Leads L (changed r p right g) nodes₃ edges₄ journal₄ (kept + new + count)
              joined w =
                  record {
                    ledger =
                        w.leads.ledger ∙ (λ i. add_edges (places-are i) right.edges (grew_is i))
                        ∙ sym (changed-is r p right g);
                    held = w.leads.held;
                  }
