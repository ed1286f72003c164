-- What an import answers and leaves: refused, nothing is written; else both tables. Rests on specs/Graphs, Places and the text's Text.
use mathlib.Core.Path.{◌≡◌, refl, sym, ◌∙◌, ap}
use mathlib.Core.Bool.{true, false}
use mathlib.Core.Option.{some, none}
use mathlib.Core.List.{List, map}
use Prim.Native.Nat.{ℕ, ◌*◌, ◌/◌, ◌≤◌}
use native.Mathlib.Omega.{arith}
use lib.ListN.{length, take}
use lib.Seq.{length-take-le}
use Rattle.meaning.specs.Basics.{every, first_failing}
use Rattle.meaning.specs.Layout.{Sized, most_atoms, fits_table, write_nodes, write_edges}
use Rattle.meaning.specs.Calls.{answer_number}
use Rattle.meaning.specs.Carrying.{Carries}
use Rattle.meaning.specs.Laws.Tests.{both_true}
use Rattle.meaning.specs.Laws.Checks.{first-no, first-yes, first_failing-none}
use Rattle.meaning.specs.declared.Layout.{Layout}
use Rattle.meaning.specs.declared.Refusal.{Refusal}
use Rattle.meaning.specs.declared.Refusal.TheVariants.{NodeTableLength, EdgeTableLength, BadText}
use Rattle.meaning.specs.declared.Answer.TheVariants.{Result, Refused}
use Rattle.meaning.specs.declared.Table.{Table}
use Rattle.meaning.specs.declared.Table.TheVariants.{Nodes, Edges}
use Rattle.laws.specs.Pieces.{fits-length, fits_whole}
use Rattle.host.specs.Tables.{slot_length}
use Rattle.std.specs.Prelude.{Ok}
use Rattle.text.specs.Grammar.{Listed, graph}
use Rattle.text.specs.Text.{to_node, to_edge, filled, found, graph_of, labels_fit, fits, text_checks, import_refusal, tables_of, import_on, import_text}
use Rattle.text.proofs.Names.{at_most_exact}
use Rattle.parsing.specs.Reading.{Reads, Breaks}
use Rattle.parsing.specs.declared.BrokenAt.{BrokenAt}
use Rattle.items.specs.Items.{ItemOf, fits_in, Places, ReadsGraph}
use Rattle.items.specs.declared.GraphAt.{GraphAt}
use Rattle.importing.specs.Names.{ListedAt}
use Rattle.importing.specs.Tables.{Items, StoresTable}
use Rattle.importing.specs.Graphs.{Graph, Fitting}
use Rattle.importing.proofs.Places.{listed-front, names-listed}

-- What the writing of a table asks for: room for what is listed, and the items at the front of their places.

pub record Ready (L : Layout) (bs : List ℕ) (t : Table) (l : List (ItemOf t)) (ps : List ℕ) (count slots size : ℕ) : Type 0 where
  pub counted : count ≡ length (take count ps)
  pub room : (length (take count ps) ≤ slots) × (size ≡ slots * slot_length L t)
  pub listed : ListedAt bs t l (take count ps)
  pub fit : every (fits_in t L.atoms) l ≡ true

abbrev pub items_of : {L : Layout} {bs : List ℕ} {t : Table} {l : List (ItemOf t)} {ps : List ℕ} {count slots size : ℕ}
    → Ready L bs t l ps count slots size → Items L bs t (take count ps)
items_of {l = l} r = record { items = l; listed = r.listed; fit = r.fit }

ready : (L : Layout) (bs : List ℕ) (t : Table) (l : List (ItemOf t)) (ps : List ℕ) (count w most : ℕ) (table : List ℕ) → w ≡ slot_length L t
    → fits_table (slot_length L t) most table ≡ true → most ≤ length ps → Places bs t l ps → count ≡ length l → length l ≤ length table / w
    → every (fits_in t L.atoms) l ≡ true → Ready L bs t l ps count (length table / w) (length table)
ready L bs t l ps count w most table e fit kept places c room fits =
    let m : length table / w ≤ most = rw e (fits-length (slot_length L t) most table fit).1 in
    let k = length-take-le count ps (omega arith) in
    record {
      counted = sym k;
      room = (omega arith, rw e (sym (fits_whole (slot_length L t) most table fit)));
      listed = listed-front bs t l ps count places c (omega arith);
      fit = fits;
    }

-- Whether the text is a graph.

graph-broken : (bs : List ℕ) {b : BrokenAt} → Breaks bs 0 graph b → graph_of bs ≡ none
unfolding found
graph-broken bs x = ap found x.read

graph-found : (bs : List ℕ) {l : Listed} {end : ℕ} → Reads bs 0 graph end l → graph_of bs ≡ some l
unfolding found
graph-found bs x = ap found x.read

module _ (L : Layout) (bs nodes edges : List ℕ) where
  refused-by : (w : Refusal) → import_refusal L nodes edges (graph_of bs) ≡ some w
      → Carries (import_text L bs nodes edges) (answer_number (Refused w)) nodes edges
  unfolding import_text import_on
  refused-by w e = rw e (record { numbered = refl; nodes_returned = refl; edges_returned = refl })

  -- Tables of other lengths.

  module _ (sized : Sized L) where
    pub other-nodes : fits_table L.node L.nodes nodes ≡ false
        → Carries (import_text L bs nodes edges) (answer_number (Refused NodeTableLength)) nodes edges
    unfolding import_refusal
    other-nodes e = refused-by NodeTableLength (first-no _ _ _ (rw sized.node at e))

    pub other-edges : fits_table L.node L.nodes nodes ≡ true → fits_table L.edge L.edges edges ≡ false
        → Carries (import_text L bs nodes edges) (answer_number (Refused EdgeTableLength)) nodes edges
    unfolding import_refusal
    other-edges n e = refused-by EdgeTableLength (first-yes _ _ _ (rw sized.node at n) ∙ first-no _ _ _ (rw sized.edge at e))

    pub fitting : L.atoms ≤ most_atoms → fits_table L.node L.nodes nodes ≡ true → fits_table L.edge L.edges edges ≡ true
        → Fitting L nodes edges
    fitting h n e = record { sized = sized; atoms = h; nodes_fit = rw sized.node at n; edges_fit = rw sized.edge at e }

  -- Tables of the layout.

  module _ (f : Fitting L nodes edges) where
    abbrev m : ℕ
    m = length nodes / L.node

    abbrev n : ℕ
    n = length edges / L.edge

    refusal : import_refusal L nodes edges (graph_of bs) ≡ first_failing (text_checks L m n (graph_of bs))
    unfolding import_refusal
    refusal =
        first-yes _ _ _ f.nodes_fit
        ∙ first-yes _ _ _ f.edges_fit
        ∙ rw (f.sized.node, f.sized.edge)

    pub graph-refused : (w : Refusal) → some w ≡ first_failing (text_checks L m n (graph_of bs))
        → Carries (import_text L bs nodes edges) (answer_number (Refused w)) nodes edges
    graph-refused w e = refused-by w (refusal ∙ sym e)

    pub no-graph : {b : BrokenAt} → Breaks bs 0 graph b → Carries (import_text L bs nodes edges) (answer_number (Refused BadText)) nodes edges
    unfolding text_checks
    no-graph x =
        graph-refused BadText
        (sym (ap (λ o. first_failing (text_checks L m n o)) (graph-broken bs x) ∙ first-no _ _ _ refl))

    module _ (node_places edge_places : List ℕ) (g : GraphAt) where
      pub is-graph : ReadsGraph bs L.atoms node_places edge_places (Ok g) → (L.nodes ≤ length node_places) × (L.edges ≤ length edge_places)
          → Graph L bs node_places edge_places g
      is-graph x h = record { listed = x.0; found = graph-found bs x.1; is = x.2; nodes_kept = h.0; edges_kept = h.1 }

      -- A graph of which nothing is refused.

      module _ (w : Graph L bs node_places edge_places g) (fine : none ≡ first_failing (text_checks L m n (graph_of bs))) where
        fitted : fits L m n w.listed ≡ true
        unfolding text_checks
        fitted =
            let e = ap (λ o. first_failing (text_checks L m n o)) (sym w.found) ∙ sym fine in
            (first_failing-none _ _ _ (first_failing-none _ _ _ e).1).0

        labels-fit : labels_fit L.atoms w.listed ≡ true
        unfolding fits
        labels-fit = (both_true _ _ fitted).0

        room : (length w.listed.nodes ≤ m) × (length w.listed.edges ≤ n)
        unfolding fits
        room = (at_most_exact m n w.listed).0 (both_true _ _ fitted).1

        pub nodes-ready : Ready L bs Nodes w.listed.nodes node_places g.nodes m (length nodes)
        unfolding labels_fit
        nodes-ready =
            ready L bs Nodes w.listed.nodes node_places g.nodes L.node L.nodes nodes f.sized.node f.nodes_fit w.nodes_kept
            w.is.nodes_at w.is.nodes room.0 (both_true _ _ labels-fit).0

        pub edges-ready : Ready L bs Edges w.listed.edges edge_places g.edges n (length edges)
        unfolding labels_fit
        edges-ready =
            ready L bs Edges w.listed.edges edge_places g.edges L.edge L.edges edges f.sized.edge f.edges_fit w.edges_kept
            w.is.edges_at w.is.edges room.1 (both_true _ _ labels-fit).1

        taken : import_text L bs nodes edges ≡ tables_of L nodes edges w.listed
        unfolding import_text import_on
        taken = rw (refusal ∙ sym fine, w.found)

        pub imported : (nodes' edges' : List ℕ)
            → StoresTable L bs (take g.nodes node_places) Nodes (take g.nodes node_places) m nodes'
            → StoresTable L bs (take g.nodes node_places) Edges (take g.edges edge_places) n edges'
            → Carries (import_text L bs nodes edges) (answer_number Result) nodes' edges'
        unfolding tables_of
        imported nodes' edges' s t =
            let names = names-listed bs Nodes w.listed.nodes (take g.nodes node_places) nodes-ready.listed in
            rw taken
            (record {
              numbered = refl;
              nodes_returned = s (items_of nodes-ready) ∙ (λ i. write_nodes L (filled (length nodes / f.sized.node i) (map to_node w.listed.nodes)));
              edges_returned = t (items_of edges-ready) ∙ (λ i. write_edges L (filled (length edges / f.sized.edge i) (map (to_edge (names i)) w.listed.edges)));
            })
