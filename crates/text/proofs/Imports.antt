-- Every import that answers 0, whatever the text, leaves tables that keep the layout, as long as they were, with their slots closed up;
-- so its export can be imported again, into tables of the same lengths, as the same bytes. Rests on Text, Formed, Exact, Closing and
-- Theorems, and on the laws' Pieces and Hosts.
use Rattle.std.proofs.Math.Path.{◌≡◌, refl}
use Rattle.std.proofs.Common.{◌∙◌, ap, inl, inr, mod-lt, leb-true, ltb-true}
use Rattle.std.specs.Prelude.{Bool, false, not, ◌⊎◌, List, [], ◌∷◌, map, ℕ, zero, suc, ◌-◌, ◌%◌, ◌^◌, ◌<◌, ◌≤◌, leb, ltb, length, take}
use Rattle.std.proofs.Math.Bool.{true}
use Rattle.std.proofs.Math.Option.{Option, some, none}
use native.Mathlib.Omega.{arith}
use Rattle.std.proofs.Math.ListN.{length-map}
use Rattle.meaning.specs.Basics.{choose, every}
use Rattle.meaning.specs.Numbers.{half, whole}
use Rattle.meaning.specs.Layout.{Host, Node, Edge, is_node_mark, is_edge_mark, node_length, edge_length, fits_table, write_nodes, write_edges, keeps_layout}
use Rattle.meaning.specs.declared.Layout.{Layout}
use Rattle.meaning.specs.declared.Refusal.{Refusal}
use Rattle.meaning.specs.declared.Answer.TheVariants.{Result}
use Rattle.meaning.specs.Laws.Tests.{both_true, either_true, some_inj, clauses-true}
use Rattle.meaning.specs.Laws.Every.{Every, Every-true, Every-with}
use Rattle.meaning.specs.Laws.Checks.{first_failing-none}
use Rattle.laws.specs.Layout.{Words}
use Rattle.laws.specs.Pieces.{fits-length, fits_whole, fits-same}
use Rattle.laws.specs.Hosts.{LegalNode, LegalEdge, LegalHost, keeps_layout_write, length-write_nodes, length-write_edges}
use Rattle.text.specs.Words.{words}
use Rattle.text.specs.Integers.{Integer, value, is_atom, atom}
use Rattle.text.specs.Grammar.{Label, Listed, graph_words, Parsed, got, broke, graph}
use Rattle.text.specs.Text.{ends_known, ids, to_node, to_edge, filled, names_hold, at_most, label_fits, labels_fit, Imported, Exported, found, graph_of, node_slots, edge_slots, names_pass, fits, text_checks, import_refusal, tables_of, import_on, import_text, export_text}
use Rattle.text.specs.Closed.{closed}
use Rattle.text.specs.Formed.{FormedNode, Formed}
use Rattle.text.proofs.Exact.{known_lt, graph-found}
use Rattle.text.proofs.Names.{at_most_exact}
use Rattle.text.proofs.Closing.{lives-filled, length-filled, every_map, Below, filled-legal, filled-closed}
use Rattle.text.proofs.Theorems.{tables, again-of}

-- Labels that can be held.

atom_lt : (x : Integer) → is_atom x ≡ true → atom x < whole
unfolding is_atom atom choose
atom_lt x = at x.negative
  where
    at : (b : Bool) → choose b (leb (value x.digits) half) (ltb (value x.digits) half) ≡ true
        → choose b ((whole - value x.digits) % whole) (value x.digits) < whole
    at true e = mod-lt (whole - value x.digits) (omega arith)
    at false e = omega (arith, ltb-true (value x.digits) half e)

atoms-words : (l : List Integer) → every is_atom l ≡ true → Words (map atom l)
unfolding every
atoms-words [] e i = omega arith
atoms-words (x ∷ l) e zero = atom_lt x (both_true _ _ e).0
atoms-words (x ∷ l) e (suc i) = atoms-words l (both_true _ _ e).1 i

record Held (is_mark : ℕ → Bool) (most : ℕ) (l : Label) : Type 0 where
  mark : is_mark l.mark ≡ true
  size : length (map atom l.atoms) ≤ most
  words : Words (map atom l.atoms)

held : (is_mark : ℕ → Bool) (most : ℕ) (l : Label) → label_fits is_mark most l ≡ true → Held is_mark most l
unfolding label_fits
held is_mark most l e = record {
  mark = clauses-true _ e 0;
  size = rw (length-map l.atoms atom) (leb-true _ _ (clauses-true _ e 1));
  words = atoms-words l.atoms (clauses-true _ e 2);
}

-- What an import that answers 0 has passed.

-- what is listed is by the grammar
listed-words : (bs : List ℕ) (g : Listed) → graph_of bs ≡ some g → Formed g × (words bs ≡ graph_words g)
unfolding found
listed-words bs g = at (graph (words bs)) refl
  where
    at : (p : Parsed Listed) → graph (words bs) ≡ p → found p ≡ some g → Formed g × (words bs ≡ graph_words g)
    at (got r) q e = let t = graph-found bs r q in rw (← (some_inj _ _ e)) (t.0, t.1)
    at (broke ws) q e = let z : ◌≡◌ {A = ℕ} 0 1 = cc in absurd (omega arith)

module _ (L : Layout) (bs nodes edges : List ℕ) where
  -- names were asked for, since there are slots for all that is listed
  names-held : (g : Listed) → fits_table (node_length L) L.nodes nodes ≡ true → fits_table (edge_length L) L.edges edges ≡ true
      → at_most (node_slots L nodes) (edge_slots L edges) g ≡ true → names_pass L g ≡ true → names_hold g ≡ true
  unfolding names_pass
  names-held g j k e f = at (either_true _ _ f)
    where
      few : at_most L.nodes L.edges g ≡ true
      few =
          let t = (at_most_exact (node_slots L nodes) (edge_slots L edges) g).0 e in
          (at_most_exact L.nodes L.edges g).1
          (omega (arith, t.0, (fits-length _ _ nodes j).1), omega (arith, t.1, (fits-length _ _ edges k).1))

      at : (not (at_most L.nodes L.edges g) ≡ true) ⊎ (names_hold g ≡ true) → names_hold g ≡ true
      at (inl q) = let r = ap not few in let z : ◌≡◌ {A = ℕ} 0 1 = cc in absurd (omega arith)
      at (inr q) = q

  pub record Passed : Type 0 where
    pub listed : Listed
    pub formed : Formed listed
    pub read : words bs ≡ graph_words listed
    pub nodes_fit : fits_table (node_length L) L.nodes nodes ≡ true
    pub edges_fit : fits_table (edge_length L) L.edges edges ≡ true
    pub names : names_hold listed ≡ true
    pub labels : labels_fit L.atoms listed ≡ true
    pub room : at_most (node_slots L nodes) (edge_slots L edges) listed ≡ true
    pub imported : import_text L bs nodes edges ≡ tables_of L nodes edges listed

  pub passed : (import_text L bs nodes edges).answer ≡ Result → Passed
  unfolding import_text import_on import_refusal text_checks fits
  passed e = at (import_refusal L nodes edges (graph_of bs)) (graph_of bs) refl refl e
    where
      at : (o : Option Refusal) (g : Option Listed) → graph_of bs ≡ g → import_refusal L nodes edges g ≡ o
          → (import_on L o nodes edges g).answer ≡ Result → Passed
      at (some w) g q f e = let z : ◌≡◌ {A = ℕ} 0 1 = cc in absurd (omega arith)
      at none none q f e = let z : ◌≡◌ {A = ℕ} 0 1 = cc in absurd (omega arith)
      at none (some g) q f e =
          let t1 = first_failing-none _ _ _ f in
          let t2 = first_failing-none _ _ _ t1.1 in
          let t3 = first_failing-none _ _ _ t2.1 in
          let t4 = both_true _ _ (first_failing-none _ _ _ t3.1).0 in
          record {
            listed = g;
            formed = (listed-words bs g q).0;
            read = (listed-words bs g q).1;
            nodes_fit = t1.0;
            edges_fit = t2.0;
            names = names-held g t1.0 t2.0 t4.1 t3.0;
            labels = t4.0;
            room = t4.1;
            imported = rw (q, f);
          }

-- The host that it leaves.

module _ (L : Layout) (wide : L.nodes ≤ 256 ^ L.width) (bs nodes edges : List ℕ) (p : Passed L bs nodes edges) where
  abbrev g : Listed
  g = p.listed

  abbrev m : ℕ
  m = node_slots L nodes

  abbrev n : ℕ
  n = edge_slots L edges

  abbrev kept : List Node
  kept = map to_node g.nodes

  abbrev carried : List Edge
  carried = map (to_edge (ids g.nodes)) g.edges

  abbrev left : Host
  left = record { nodes = filled m kept; edges = filled n carried }

  kept-room : length kept ≤ m
  kept-room = rw (length-map g.nodes to_node) ((at_most_exact m n g).0 p.room).0

  carried-room : length carried ≤ n
  carried-room = rw (length-map g.edges (to_edge (ids g.nodes))) ((at_most_exact m n g).0 p.room).1

  nodes-legal : Every (LegalNode L) kept
  unfolding to_node labels_fit
  nodes-legal =
      every_map (λ n. FormedNode n × (label_fits is_node_mark L.atoms n.label ≡ true)) (LegalNode L) to_node
      (λ n k.
      let t = held is_node_mark L.atoms n.label k.1 in
      record { mark = t.mark; root = k.0.root; size = t.size; words = t.words })
      g.nodes
      (Every-with FormedNode (λ n. label_fits is_node_mark L.atoms n.label ≡ true) _ (λ n a b. (a, b)) g.nodes p.formed.nodes
      (Every-true _ _ (λ n e. e) g.nodes (both_true _ _ p.labels).0))

  ends-below : Every (Below (length kept)) carried
  unfolding to_edge names_hold
  ends-below =
      every_map (λ e. ends_known (ids g.nodes) e ≡ true) (Below (length kept)) (to_edge (ids g.nodes))
      (λ e k.
      let t = both_true _ _ k in
      let s = known_lt e.source (ids g.nodes) t.0 in
      let r = known_lt e.target (ids g.nodes) t.1 in
      let i = length-map g.nodes (λ n. n.id) in
      let l = length-map g.nodes to_node in
      (omega arith, omega arith))
      g.edges (Every-true _ _ (λ e k. k) g.edges (clauses-true _ p.names 2))

  -- a slot number fits its bytes
  below-wide : (i : ℕ) → i < length kept → i < 256 ^ L.width
  below-wide i h = omega (arith, wide, kept-room, (fits-length (node_length L) L.nodes nodes p.nodes_fit).1)

  edges-legal : Every (LegalEdge L) carried
  unfolding to_edge labels_fit
  edges-legal =
      Every-with (λ e. (is_edge_mark e.mark ≡ true) × (length e.label ≤ L.atoms) × Words e.label) (Below (length kept))
      (LegalEdge L)
      (λ e k b. record {
        mark = k.0;
        source = below-wide e.source b.0;
        target = below-wide e.target b.1;
        size = k.1;
        words = k.2;
      })
      carried
      (every_map (λ e. label_fits is_edge_mark L.atoms e.label ≡ true) _ (to_edge (ids g.nodes))
      (λ e k. let t = held is_edge_mark L.atoms e.label k in (t.mark, t.size, t.words))
      g.edges (Every-true _ _ (λ e k. k) g.edges (both_true _ _ p.labels).1))
      ends-below

  left-legal : LegalHost L left
  left-legal = filled-legal m n kept carried ends-below L nodes-legal edges-legal

  left-closed : closed m n left ≡ left
  left-closed = filled-closed m n kept carried ends-below

  left-tables : import_text L bs nodes edges ≡ tables L left
  unfolding tables_of
  left-tables = p.imported

  nodes-long : length (write_nodes L left.nodes) ≡ length nodes
  nodes-long =
      length-write_nodes L left left-legal
      ∙ rw (length-filled m kept kept-room) (fits_whole (node_length L) L.nodes nodes p.nodes_fit)

  edges-long : length (write_edges L left.edges) ≡ length edges
  edges-long =
      length-write_edges L left left-legal
      ∙ rw (length-filled n carried carried-room) (fits_whole (edge_length L) L.edges edges p.edges_fit)

-- The theorems. The node table's slot numbers must fit their bytes.

module _ (L : Layout) (wide : L.nodes ≤ 256 ^ L.width) (bs nodes edges : List ℕ) (e : (import_text L bs nodes edges).answer ≡ Result) where
  abbrev i : Imported
  i = import_text L bs nodes edges

  abbrev its : Passed L bs nodes edges
  its = passed L bs nodes edges e

  -- the tables keep the layout, and are as long as they were
  pub import_keeps : (keeps_layout L i.nodes i.edges ≡ true) × (length i.nodes ≡ length nodes) × (length i.edges ≡ length edges)
  import_keeps =
      rw (left-tables L wide bs nodes edges its) (
        keeps_layout_write L (left L wide bs nodes edges its) (left-legal L wide bs nodes edges its),
        nodes-long L wide bs nodes edges its,
        edges-long L wide bs nodes edges its,
      )

  -- exported and imported again into tables of the same lengths they are the same bytes
  pub import_again : (nodes'' edges'' buffer : List ℕ) → length nodes'' ≡ length nodes → length edges'' ≡ length edges
      → let x : Exported = export_text L i.nodes i.edges buffer in
      x.answer ≡ Result → import_text L (take x.length x.buffer) nodes'' edges'' ≡ i
  import_again nodes'' edges'' buffer k l =
      again-of L _ (left-legal L wide bs nodes edges its) _ (left-tables L wide bs nodes edges its) nodes'' edges'' buffer
      (record {
        nodes_fit = fits-same _ _ nodes nodes'' k its.nodes_fit;
        edges_fit = fits-same _ _ edges edges'' l its.edges_fit;
        nodes_room = rw (k, lives-filled (node_slots L nodes) (kept L wide bs nodes edges its)) (kept-room L wide bs nodes edges its);
        edges_room = rw (l, lives-filled (edge_slots L edges) (carried L wide bs nodes edges its)) (carried-room L wide bs nodes edges its);
      })
      (rw (k, l) (left-closed L wide bs nodes edges its))
