-- What a carrying answers and leaves, in either manner and between any two layouts: refused, both tables as they were lent; else the same
-- host in the layout that it is carried to, from which it is carried back to the bytes that it came from.
-- Rests on the meaning's Carrying, on laws' Hosts, Carrying and Resized, and on ResizedHosts.
use Rattle.std.specs.Prelude.{ℕ, ◌*◌, ◌/◌, ◌^◌, ◌≤◌, ◌≡◌, Bool, true, List, [], ◌∷◌, ◌++◌, length}
use Rattle.std.proofs.Math.Path.{refl}
use Rattle.std.proofs.Common.{sym, ◌∙◌, ap, subst, le_refl, arith}
use Rattle.std.proofs.Math.Option.{Option, some, none}
use Rattle.meaning.specs.Basics.{both, absent, first_failing}
use Rattle.meaning.specs.Layout.{Host, node_length, edge_length, read_node, read_edge, host_of, write_nodes, write_edges, keeps_layout}
use Rattle.meaning.specs.Calls.{answer_number, refusal_number}
use Rattle.meaning.specs.Carrying.{LentTables, lending_tables, Carried, counts_agree, lengths_agree, host_fits, unfit, resized, carry_refusal, carry_on, carry}
use Rattle.meaning.specs.Laws.Checks.{first-yes, first-none, behind-fine, behind-refused, first_failing-none, failing-of}
use Rattle.laws.specs.Numbers.{Bytes}
use Rattle.laws.specs.Pieces.{fits-length, fits_whole, fits-same, length-read}
use Rattle.laws.specs.Layout.{write_read-nodes, write_read-edges}
use Rattle.laws.specs.Hosts.{LegalHost, legal-host, read_write_nodes, read_write_edges, length-write_nodes, length-write_edges, keeps_layout_write}
use Rattle.laws.specs.Carrying.{counts_of, counts_same, LengthsAgree, lengths-agree, Taken, taken, takes}
use Rattle.laws.specs.Resized.{length-resized, resized-same}
use Rattle.demands.specs.Demands.{In}
use Rattle.demands.specs.Laws.Alike.{Alike}
use Rattle.meaning.specs.declared.Layout.{Layout}
use Rattle.meaning.specs.declared.Manner.{Manner}
use Rattle.meaning.specs.declared.Manner.TheVariants.{Exact, Packing}
use Rattle.meaning.specs.declared.Refusal.{Refusal}
use Rattle.meaning.specs.declared.Refusal.TheVariants.{NodeTableLength, EdgeTableLength, BadHost}
use Rattle.meaning.specs.declared.Answer.TheVariants.{Result, Refused}
use Rattle.layouts.specs.ResizedHosts.{resized_host, node_label, edge_label, FitsHost, host-fits, host-fits-of, legal-fits, resized-back, resized-alike, resized-legal}
use Rattle.layouts.specs.Carried.{node_slots, edge_slots, arrived, arriving, carry_table, AsManySlots, host_in, Kept}

module _ (k : Manner) (L M : Layout) (x : LentTables) where
  -- refused, it leaves both tables as they were lent
  pub carry-refused : (w : Refusal) → carry_refusal k L M x ≡ some w
      → carry k L M x ≡ record { answer = Refused w; nodes = x.to_nodes; edges = x.to_edges }
  unfolding carry carry_on
  carry-refused w e = rw e

  pub carry-taken : carry_refusal k L M x ≡ none
      → carry k L M x ≡ arriving (write_nodes M (arrived L M x).nodes) (write_edges M (arrived L M x).edges)
  unfolding carry carry_on
  carry-taken e = rw e

  -- a result is of a carrying that is not refused
  pub result-taken : (carry k L M x).answer ≡ Result → carry_refusal k L M x ≡ none
  result-taken r = at (carry_refusal k L M x) refl
    where
      at : (o : Option Refusal) → carry_refusal k L M x ≡ o → carry_refusal k L M x ≡ none
      at none e = e
      at (some w) e =
          let q = sym (ap (λ (c : Carried). c.answer) (carry-refused w e)) ∙ r in
          let z : ◌≡◌ {A = ℕ} 0 1 = cc in absurd (omega arith)

  -- the number that is answered is 0 or one that a refusal can have
  answer-by : (P : ℕ → Type 0) → P 0 → ((w : Refusal) → carry_refusal k L M x ≡ some w → P (refusal_number w))
      → P (answer_number (carry k L M x).answer)
  unfolding answer_number
  answer-by P z f = at (carry_refusal k L M x) refl
    where
      at : (o : Option Refusal) → carry_refusal k L M x ≡ o → P (answer_number (carry k L M x).answer)
      at none e = rw (carry-taken e) z
      at (some w) e = rw (carry-refused w e) (f w e)

unfit_in : (k : Manner) → In (refusal_number (unfit k)) (carry_table k)
unfolding absent both refusal_number unfit
unfit_in Exact = refl
unfit_in Packing = refl

pub carry-answers : (k : Manner) (L M : Layout) (x : LentTables) → In (answer_number (carry k L M x).answer) (carry_table k)
unfolding absent both carry_refusal refusal_number
carry-answers k L M x =
    answer-by k L M x (λ n. In n (carry_table k)) refl
    (failing-of (λ w. In (refusal_number w) (carry_table k)) _ (refl, (refl, (refl, (unfit_in k, tt)))))

pub as_many : (k : Manner) (w most : ℕ) (table : List ℕ) (v most' : ℕ) (to : List ℕ) → LengthsAgree k w most table v most' to
    → AsManySlots k (length table / w) (length to / v) → length table / w ≤ length to / v
as_many Exact w most table v most' to s a = omega (arith, counts_same _ _ s.counts)
as_many Packing w most table v most' to s a = a

-- a last check that holds where the others do says nothing
last_idle : {A : Type 0} (cs : List (Bool × A)) (t : Bool) (w : A) → (first_failing cs ≡ none → t ≡ true)
    → first_failing (cs ++ (t, w) ∷ []) ≡ first_failing cs
last_idle {A} cs t w h = at (first_failing cs) refl
  where
    at : (o : Option A) → first_failing cs ≡ o → first_failing (cs ++ (t, w) ∷ []) ≡ first_failing cs
    at none e = behind-fine cs ((t, w) ∷ []) e ∙ first-yes t w [] (h e) ∙ first-none ∙ sym e
    at (some v) e = behind-refused cs ((t, w) ∷ []) v e ∙ sym e

module _ (k : Manner) (L M : Layout) (x : LentTables) (hn : Bytes x.nodes) (he : Bytes x.edges) (labels : L.atoms ≤ M.atoms)
    (nodes_many : AsManySlots k (node_slots L x.nodes) (node_slots M x.to_nodes))
    (edges_many : AsManySlots k (edge_slots L x.edges) (edge_slots M x.to_edges))
  where
    abbrev other_checks : List (Bool × Refusal)
    other_checks =
        (lengths_agree k (node_length L) L.nodes x.nodes (node_length M) M.nodes x.to_nodes, NodeTableLength)
        ∷ (lengths_agree k (edge_length L) L.edges x.edges (edge_length M) M.edges x.to_edges, EdgeTableLength)
        ∷ (keeps_layout L x.nodes x.edges, BadHost)
        ∷ []

    fits-then : first_failing other_checks ≡ none
        → host_fits M.atoms (node_slots M x.to_nodes) (edge_slots M x.to_edges) (host_of L x.nodes x.edges) ≡ true
    fits-then e =
        let t1 = first_failing-none _ _ _ e in
        let t2 = first_failing-none _ _ _ t1.1 in
        let t3 = first_failing-none _ _ _ t2.1 in
        let n = as_many k _ _ x.nodes _ _ x.to_nodes (lengths-agree _ _ _ _ _ _ _ t1.0) nodes_many in
        let m = as_many k _ _ x.edges _ _ x.to_edges (lengths-agree _ _ _ _ _ _ _ t2.0) edges_many in
        host-fits-of _ _ _ _
        (legal-fits L _ (legal-host L x.nodes x.edges hn he t3.0) M.atoms _ _ labels
        (omega (arith, n, length-read (node_length L) read_node x.nodes))
        (omega (arith, m, length-read (edge_length L) (read_edge L) x.edges)))

    -- nothing is refused for a label, or for a slot that is not there
    pub larger_answers : In (answer_number (carry k L M x).answer) (0 ∷ 10 ∷ 11 ∷ 15 ∷ [])
    unfolding absent both refusal_number carry_refusal
    larger_answers =
        answer-by k L M x (λ n. In n (0 ∷ 10 ∷ 11 ∷ 15 ∷ [])) refl
        (λ w e.
        failing-of (λ w. In (refusal_number w) (0 ∷ 10 ∷ 11 ∷ 15 ∷ [])) other_checks (refl, (refl, (refl, tt))) w
        (sym (last_idle other_checks _ (unfit k) fits-then) ∙ e))

-- Tables of the same lengths.

counts-back : (k : Manner) (n m : ℕ) → counts_agree k n m ≡ true → counts_agree k m n ≡ true
unfolding counts_agree
counts-back Exact n m e = counts_of Exact m n (sym (counts_same n m e))
counts-back Packing n m e = refl

module _ (k : Manner) (w most : ℕ) (table : List ℕ) (v most' : ℕ) (to : List ℕ) (s : LengthsAgree k w most table v most' to) where
  pub lengths-same : (table' to' : List ℕ) → length table' ≡ length table → length to' ≡ length to
      → LengthsAgree k w most table' v most' to'
  lengths-same table' to' e f =
      record {
        from = fits-same w most table table' e s.from;
        into = fits-same v most' to to' f s.into;
        counts = rw (e, f) s.counts;
      }

  -- the other way
  lengths-back : (from' to' : List ℕ) → length from' ≡ length to → length to' ≡ length table → LengthsAgree k v most' from' w most to'
  lengths-back from' to' e f =
      record {
        from = fits-same v most' to from' e s.into;
        into = fits-same w most table to' f s.from;
        counts = rw (e, f) (counts-back k _ _ s.counts);
      }

pub host_in_lem : (k : Manner) (L M : Layout) (x : LentTables) → Taken k L M x
    → arrived L M x ≡ host_in k (node_slots M x.to_nodes) (edge_slots M x.to_edges) (host_of L x.nodes x.edges)
host_in_lem Exact L M x t =
    let n = length-read (node_length L) read_node x.nodes ∙ counts_same _ _ t.nodes.counts in
    let m = length-read (edge_length L) (read_edge L) x.edges ∙ counts_same _ _ t.edges.counts in
    let here : Host = host_of L x.nodes x.edges in
    let nodes = ap (λ (i : ℕ). resized i here.nodes) (sym n) ∙ resized-same here.nodes in
    let edges = ap (λ (i : ℕ). resized i here.edges) (sym m) ∙ resized-same here.edges in
    λ i. record { nodes = nodes i; edges = edges i }
host_in_lem Packing L M x t = refl

module _ (k : Manner) (L M : Layout) (numbered : M.nodes ≤ 256 ^ M.width) (x : LentTables) (hn : Bytes x.nodes) (he : Bytes x.edges)
    (r : (carry k L M x).answer ≡ Result)
  where
    abbrev its : Taken k L M x
    its = taken k L M x (result-taken k L M x r)

    abbrev here : Host
    here = host_of L x.nodes x.edges

    abbrev there : Host
    there = arrived L M x

    abbrev left : Carried
    left = arriving (write_nodes M there.nodes) (write_edges M there.edges)

    is-left : carry k L M x ≡ left
    is-left = carry-taken k L M x (result-taken k L M x r)

    here-legal : LegalHost L here
    here-legal = legal-host L x.nodes x.edges hn he its.layout

    here-fits : FitsHost M.atoms (node_slots M x.to_nodes) (edge_slots M x.to_edges) here
    here-fits = host-fits _ _ _ here its.fits

    there-legal : LegalHost M there
    there-legal =
        resized-legal L M here here-legal _ _
        (omega (arith, numbered, (fits-length (node_length M) M.nodes x.to_nodes its.nodes.into).1)) here-fits

    there-host : host_of M left.nodes left.edges ≡ there
    there-host = λ i. record { nodes = read_write_nodes M there there-legal i; edges = read_write_edges M there there-legal i }

    nodes-length : length left.nodes ≡ length x.to_nodes
    nodes-length =
        length-write_nodes M there there-legal ∙ ap (λ (n : ℕ). n * node_length M) (length-resized _ here.nodes)
        ∙ fits_whole _ _ x.to_nodes its.nodes.into

    edges-length : length left.edges ≡ length x.to_edges
    edges-length =
        length-write_edges M there there-legal ∙ ap (λ (n : ℕ). n * edge_length M) (length-resized _ here.edges)
        ∙ fits_whole _ _ x.to_edges its.edges.into

    pub carry-kept : Kept k L M x (carry k L M x)
    carry-kept =
        subst (Kept k L M x) (sym is-left)
        (record {
          answer = refl;
          host = there-host ∙ host_in_lem k L M x its;
          alike = subst (Alike here) (sym there-host) (resized-alike _ _ _ here here-fits);
          layout = keeps_layout_write M there there-legal;
          nodes_length = nodes-length;
          edges_length = edges-length;
        })

    -- carried back into tables of the source's lengths it is never refused, and gives the source's bytes
    module _ (to_nodes to_edges : List ℕ) (en : length to_nodes ≡ length x.nodes) (ee : length to_edges ≡ length x.edges) where
      abbrev returning : LentTables
      returning = lending_tables left.nodes left.edges to_nodes to_edges

      node-count : node_slots L to_nodes ≡ length here.nodes
      node-count = ap (λ (n : ℕ). n / node_length L) en ∙ sym (length-read (node_length L) read_node x.nodes)

      edge_count : edge_slots L to_edges ≡ length here.edges
      edge_count = ap (λ (n : ℕ). n / edge_length L) ee ∙ sym (length-read (edge_length L) (read_edge L) x.edges)

      -- what arrives there is what came from here
      host-again : arrived M L returning ≡ here
      host-again =
          let n = resized-back M.atoms node_label _ here.nodes here-fits.nodes in
          let m = resized-back M.atoms edge_label _ here.edges here-fits.edges in
          ap (resized_host (node_slots L to_nodes) (edge_slots L to_edges)) there-host
          ∙ (λ i. resized_host (node-count i) (edge_count i) there)
          ∙ (λ i. record { nodes = n i; edges = m i })

      returning-fits : FitsHost L.atoms (node_slots L to_nodes) (edge_slots L to_edges) there
      returning-fits =
          let a = resized-alike _ _ _ here here-fits in
          let f =
          legal-fits L here here-legal L.atoms (node_slots L to_nodes) (edge_slots L to_edges) (le_refl _) (omega (arith, node-count))
          (omega (arith, edge_count)) in
          record { nodes = λ i. rw (← (a.nodes i)) (f.nodes i); edges = λ i. rw (← (a.edges i)) (f.edges i) }

      returning-taken : Taken k M L returning
      returning-taken =
          record {
            nodes = lengths-back k _ _ x.nodes _ _ x.to_nodes its.nodes left.nodes to_nodes nodes-length en;
            edges = lengths-back k _ _ x.edges _ _ x.to_edges its.edges left.edges to_edges edges-length ee;
            layout = keeps_layout_write M there there-legal;
            fits = ap (host_fits L.atoms _ _) there-host ∙ host-fits-of _ _ _ there returning-fits;
          }

      nodes-again : write_nodes L here.nodes ≡ x.nodes
      nodes-again = write_read-nodes L x.nodes x.edges its.layout hn (fits-length _ _ x.nodes its.nodes.from).0

      edges-again : write_edges L here.edges ≡ x.edges
      edges-again = write_read-edges L x.nodes x.edges its.layout he (fits-length _ _ x.edges its.edges.from).0

      pub carry_back : carry k M L (lending_tables (carry k L M x).nodes (carry k L M x).edges to_nodes to_edges)
          ≡ arriving x.nodes x.edges
      carry_back =
          ap (λ (c : Carried). carry k M L (lending_tables c.nodes c.edges to_nodes to_edges)) is-left
          ∙ carry-taken k M L returning (takes k M L returning returning-taken)
          ∙ ap (λ (h : Host). arriving (write_nodes L h.nodes) (write_edges L h.edges)) host-again
          ∙ (λ i. arriving (nodes-again i) (edges-again i))
