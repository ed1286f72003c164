-- What export writes is in the grammar and lists the live slots; its import is the host closed up; and that, exported and imported
-- again, is the same bytes. A refused call changes nothing; an export that lacks room tells how much it needs. Rests on Text, Closed,
-- Reading, Parsing and Closing, and on the laws' Hosts.
use Rattle.std.specs.Prelude.{◌≡◌, refl, List, [], ◌++◌, map, ℕ, ◌<◌, ◌≤◌, length, take, drop}
use Rattle.std.proofs.Common.{◌∙◌, length-append, length-drop}
use Rattle.std.proofs.Math.Path.{ap}
use Rattle.std.proofs.Math.Bool.{true}
use Rattle.std.proofs.Math.Option.{Option, some, none}
use Rattle.std.proofs.Math.Decide.{dec_le}
use native.Mathlib.Omega.{arith}
use borrow.Author.Tests.{le-leb, lt-leb}
use Rattle.std.proofs.lemmas.List.{length-map}
use Rattle.std.proofs.Math.Seq.{take-append_seam, drop-append_seam}
use Rattle.meaning.specs.Basics.{choose, first_failing}
use Rattle.meaning.specs.Layout.{Host, node_length, edge_length, fits_table, host_of, write_nodes, write_edges, keeps_layout}
use Rattle.meaning.specs.Calls.{refusal_number}
use Rattle.meaning.specs.declared.Layout.{Layout}
use Rattle.meaning.specs.declared.Refusal.{Refusal}
use Rattle.meaning.specs.declared.Refusal.TheVariants.{TextDoesNotFit, BufferTooShort}
use Rattle.meaning.specs.declared.Answer.TheVariants.{Result, Refused}
use Rattle.meaning.specs.Laws.Tests.{either-right, not_so}
use Rattle.meaning.specs.Laws.Checks.{first_failing-none, failing-of}
use Rattle.laws.specs.Numbers.{Bytes}
use Rattle.laws.specs.Pieces.{fits-same}
use Rattle.laws.specs.Hosts.{LegalHost, legal-host, read_write_nodes, read_write_edges}
use Rattle.text.specs.Words.{words}
use Rattle.text.specs.Spacing.{text}
use Rattle.text.specs.Grammar.{Listed, graph_words, gives, graph}
use Rattle.text.specs.Text.{listed, Imported, Exported, found, graph_of, placed, export_on, node_slots, edge_slots, names_pass, fits, text_checks, import_refusal, tables_of, import_on, import_text, text_of, export_refusal, export_text}
use Rattle.text.specs.Closed.{lives, moved, closed}
use Rattle.text.proofs.Reading.{words-text}
use Rattle.text.proofs.Parsing.{graph-read, graph_proper}
use Rattle.text.proofs.Closing.{listed-formed, listed-names, listed-fits, fits-listed, listed-nodes, listed-edges, lives-filled, closed-legal, closed-closed}

-- A legal host, its text, and the import of that.

abbrev pub host_text : Host → List ℕ
host_text h = text (graph_words (listed h.nodes h.edges))

-- the host's tables, as an import that is not refused leaves them
abbrev pub tables : Layout → Host → Imported
tables L h = record { answer = Result; nodes = write_nodes L h.nodes; edges = write_edges L h.edges }

-- tables that fit, and have room for the live slots of a host
pub record Room (L : Layout) (h : Host) (nodes edges : List ℕ) : Type 0 where
  pub nodes_fit : fits_table (node_length L) L.nodes nodes ≡ true
  pub edges_fit : fits_table (edge_length L) L.edges edges ≡ true
  pub nodes_room : length (lives h.nodes) ≤ node_slots L nodes
  pub edges_room : length (lives h.edges) ≤ edge_slots L edges

module _ (L : Layout) (h : Host) (legal : LegalHost L h) where
  abbrev its : Listed
  its = listed h.nodes h.edges

  host-words : words (host_text h) ≡ graph_words its
  host-words = words-text (graph_words its) (graph_proper its (listed-formed L h legal))

  host-read : graph (words (host_text h)) ≡ gives its []
  host-read = ap graph host-words ∙ graph-read its (listed-formed L h legal)

  host-listed : graph_of (host_text h) ≡ some its
  unfolding found
  host-listed = ap found host-read

  host-names : names_pass L its ≡ true
  unfolding names_pass
  host-names = either-right _ _ (listed-names L h legal)

  host_import : (nodes edges : List ℕ) → Room L h nodes edges
      → import_text L (host_text h) nodes edges ≡ tables L (closed (node_slots L nodes) (edge_slots L edges) h)
  unfolding import_text import_refusal import_on text_checks tables_of first_failing choose
  host_import nodes edges r =
      rw (
        host-listed,
        r.nodes_fit,
        r.edges_fit,
        host-names,
        listed-fits L h legal (node_slots L nodes) (edge_slots L edges) r.nodes_room r.edges_room,
        listed-nodes L h legal,
        listed-edges L h legal,
      )

  -- without room it is refused
  host-full : (nodes edges : List ℕ) → fits_table (node_length L) L.nodes nodes ≡ true → fits_table (edge_length L) L.edges edges ≡ true
      → (Room L h nodes edges → ⊥)
      → import_text L (host_text h) nodes edges ≡ record { answer = Refused TextDoesNotFit; nodes = nodes; edges = edges }
  unfolding import_text import_refusal import_on text_checks first_failing choose
  host-full nodes edges j k full = rw (host-listed, j, k, host-names, not_so (fits L (node_slots L nodes) (edge_slots L edges) its) held)
    where
      held : fits L (node_slots L nodes) (edge_slots L edges) its ≡ true → ⊥
      held e =
          let t = fits-listed L h legal (node_slots L nodes) (edge_slots L edges) e in
          full (record { nodes_fit = j; edges_fit = k; nodes_room = t.0; edges_room = t.1 })

-- How an export ends.

-- tables that fit and keep the layout
pub record Exportable (L : Layout) (nodes edges : List ℕ) : Type 0 where
  pub nodes_fit : fits_table (node_length L) L.nodes nodes ≡ true
  pub edges_fit : fits_table (edge_length L) L.edges edges ≡ true
  pub keeps : keeps_layout L nodes edges ≡ true

module _ (L : Layout) (nodes edges : List ℕ) where
  passes : Exportable L nodes edges → export_refusal L nodes edges ≡ none
  unfolding export_refusal first_failing choose
  passes t = rw (t.nodes_fit, t.edges_fit, t.keeps)

  passed : export_refusal L nodes edges ≡ none → Exportable L nodes edges
  unfolding export_refusal
  passed e =
      let t1 = first_failing-none _ _ _ e in
      let t2 = first_failing-none _ _ _ t1.1 in
      let t3 = first_failing-none _ _ _ t2.1 in
      record { nodes_fit = t1.0; edges_fit = t2.0; keeps = t3.0 }

  -- tables do not decide whether the buffer is too short
  other : (w : Refusal) → export_refusal L nodes edges ≡ some w → w ≡ BufferTooShort → ⊥
  unfolding export_refusal refusal_number
  other w e q =
      let h : refusal_number w < 25 = failing-of (λ w. refusal_number w < 25) _ (omega arith, (omega arith, (omega arith, tt))) w e in
      let n : refusal_number w ≡ 25 = ap refusal_number q in
      omega arith

  module _ (buffer : List ℕ) where
    abbrev x : Exported
    x = export_text L nodes edges buffer

    abbrev bs : List ℕ
    bs = text_of L nodes edges

    -- the text is in the buffer; it is longer than the buffer; the tables are refused

    abbrev done : Exported
    done = record { answer = Result; length = length bs; buffer = bs ++ drop (length bs) buffer }

    abbrev short : Exported
    short = record { answer = Refused BufferTooShort; length = length bs; buffer = buffer }

    abbrev refused : Refusal → Exported
    refused w = record { answer = Refused w; length = 0; buffer = buffer }

    pub export_no : (w : Refusal) → export_refusal L nodes edges ≡ some w → x ≡ refused w
    unfolding export_text export_on
    export_no w e = rw e

    pub export_yes : Exportable L nodes edges → length bs ≤ length buffer → x ≡ done
    unfolding export_text export_on placed
    export_yes t h = rw (passes t, le-leb (length bs) (length buffer) h)

    pub export_short : Exportable L nodes edges → length buffer < length bs → x ≡ short
    unfolding export_text export_on placed
    export_short t h = rw (passes t, lt-leb (length bs) (length buffer) h)

    -- one of these is so
    by_end : (P : Exported → Type 0) → ((w : Refusal) → export_refusal L nodes edges ≡ some w → P (refused w))
        → (Exportable L nodes edges → length bs ≤ length buffer → P done)
        → (Exportable L nodes edges → length buffer < length bs → P short) → P x
    by_end P on-no on-yes on-short = at (export_refusal L nodes edges) refl
      where
        on : Exportable L nodes edges → Dec (length bs ≤ length buffer) → P x
        on t (yes h) = rw (export_yes t h) (on-yes t h)
        on t (no h) = rw (export_short t (omega arith)) (on-short t (omega arith))

        at : (o : Option Refusal) → export_refusal L nodes edges ≡ o → P x
        at (some w) e = rw (export_no w e) (on-no w e)
        at none e = on (passed e) (dec_le (length bs) (length buffer))

    -- a refused export writes nothing
    pub export_refused : (x.answer ≡ Result → ⊥) → x.buffer ≡ buffer
    export_refused =
        by_end (λ x. (x.answer ≡ Result → ⊥) → x.buffer ≡ buffer) (λ w e h. refl) (λ t k h. absurd (h refl)) (λ t k h. refl)

    -- where the buffer is too short, the length is that of the text
    pub export_told : x.answer ≡ Refused BufferTooShort
        → Exportable L nodes edges × (x.length ≡ length bs) × (length buffer < length bs)
    export_told =
        by_end (λ x. x.answer ≡ Refused BufferTooShort → Exportable L nodes edges × (x.length ≡ length bs) × (length buffer < length bs))
        (λ w e h. absurd (other w e (let q : w ≡ BufferTooShort = cc in q)))
        (λ t k h. let z : ◌≡◌ {A = ℕ} 0 1 = cc in absurd (omega arith))
        (λ t k h. (t, refl, k))

    -- where the tables are refused, it is 0
    pub export_untold : (w : Refusal) → x.answer ≡ Refused w → (w ≡ BufferTooShort → ⊥) → x.length ≡ 0
    export_untold w =
        by_end (λ x. x.answer ≡ Refused w → (w ≡ BufferTooShort → ⊥) → x.length ≡ 0)
        (λ v e h f. refl)
        (λ t k h f. let z : ◌≡◌ {A = ℕ} 0 1 = cc in absurd (omega arith))
        (λ t k h f. absurd (f (let q : w ≡ BufferTooShort = cc in q)))

    module _ (e : x.answer ≡ Result) where
      pub export_done : Exportable L nodes edges × (length bs ≤ length buffer) × (x ≡ done)
      export_done =
          by_end (λ x. x.answer ≡ Result → Exportable L nodes edges × (length bs ≤ length buffer) × (x ≡ done))
          (λ w q h. let z : ◌≡◌ {A = ℕ} 0 1 = cc in absurd (omega arith))
          (λ t k h. (t, k, refl))
          (λ t k h. let z : ◌≡◌ {A = ℕ} 0 1 = cc in absurd (omega arith))
          e

      -- the text at the front of the buffer
      pub export_text_lem : take x.length x.buffer ≡ bs
      export_text_lem = rw export_done.2 (take-append_seam bs _)

      -- what is behind it stays, and the buffer is as long as it was
      pub export_behind : (drop x.length x.buffer ≡ drop x.length buffer) × (length x.buffer ≡ length buffer)
      export_behind =
          rw export_done.2 (drop-append_seam bs _, simp (length-append, length-drop) (omega (arith, export_done.1)))

  -- a buffer of the length that was told is long enough
  pub export_enough : (buffer buffer' : List ℕ) → (x buffer).answer ≡ Refused BufferTooShort → (x buffer).length ≤ length buffer'
      → (x buffer').answer ≡ Result
  export_enough buffer buffer' e h = let t = export_told buffer e in rw (export_yes buffer' t.0 (omega (arith, t.1)))

-- a refused import changes neither table
pub import_refused : (L : Layout) (bs nodes edges : List ℕ) → ((import_text L bs nodes edges).answer ≡ Result → ⊥)
    → ((import_text L bs nodes edges).nodes ≡ nodes) × ((import_text L bs nodes edges).edges ≡ edges)
unfolding import_text import_on tables_of
import_refused L bs nodes edges = at (import_refusal L nodes edges (graph_of bs)) (graph_of bs)
  where
    at : (o : Option Refusal) (g : Option Listed) → ((import_on L o nodes edges g).answer ≡ Result → ⊥)
        → ((import_on L o nodes edges g).nodes ≡ nodes) × ((import_on L o nodes edges g).edges ≡ edges)
    at (some w) g h = (refl, refl)
    at none none h = (refl, refl)
    at none (some g) h = absurd (h refl)

-- a legal host that closing up does not change, exported and imported again
pub again-of : (L : Layout) (c : Host) → LegalHost L c → (i : Imported) → i ≡ tables L c
    → (nodes edges buffer : List ℕ) → Room L c nodes edges → closed (node_slots L nodes) (edge_slots L edges) c ≡ c
    → let x : Exported = export_text L i.nodes i.edges buffer in
    x.answer ≡ Result → import_text L (take x.length x.buffer) nodes edges ≡ i
again-of L c legal i q nodes edges buffer r same f =
    rw (export_text_lem L i.nodes i.edges buffer f, q, its-text) (host_import L c legal nodes edges r ∙ ap (tables L) same)
  where
    its-text : text_of L (tables L c).nodes (tables L c).edges ≡ host_text c
    its-text = unfold text_of in rw (read_write_nodes L c legal, read_write_edges L c legal)

-- The theorems, of tables of bytes whose export answers 0.

module _ (L : Layout) (nodes edges buffer : List ℕ) (node_bytes : Bytes nodes) (edge_bytes : Bytes edges)
    (e : (export_text L nodes edges buffer).answer ≡ Result)
  where
    -- the host, and the text that is at the front of the buffer
    abbrev host : Host
    host = host_of L nodes edges

    abbrev written : List ℕ
    written = take (export_text L nodes edges buffer).length (export_text L nodes edges buffer).buffer

    legal : LegalHost L host
    legal = legal-host L nodes edges node_bytes edge_bytes (export_done L nodes edges buffer e).0.keeps

    its-text : written ≡ host_text host
    unfolding text_of
    its-text = export_text_lem L nodes edges buffer e

    -- (a) it is in the grammar, and lists the live slots in order under their numbers
    pub export_lists : let g : Listed = listed host.nodes host.edges in
        (words written ≡ graph_words g) × (graph (words written) ≡ gives g [])
    export_lists = rw its-text (host-words L host legal, host-read L host legal)

    -- (b) its import into tables with room is the same graph with its slots closed up, in the same order
    pub import_export : (nodes' edges' : List ℕ) → Room L host nodes' edges'
        → import_text L written nodes' edges' ≡ tables L (closed (node_slots L nodes') (edge_slots L edges') host)
    import_export nodes' edges' r = rw its-text (host_import L host legal nodes' edges' r)

    -- and without room it is refused, and changes nothing
    pub import_full : (nodes' edges' : List ℕ) → fits_table (node_length L) L.nodes nodes' ≡ true
        → fits_table (edge_length L) L.edges edges' ≡ true → (Room L host nodes' edges' → ⊥)
        → import_text L written nodes' edges' ≡ record { answer = Refused TextDoesNotFit; nodes = nodes'; edges = edges' }
    import_full nodes' edges' j k f = rw its-text (host-full L host legal nodes' edges' j k f)

    -- (c) and that, exported and imported again into tables of the same lengths, is the same bytes
    pub again : (nodes' edges' : List ℕ) → Room L host nodes' edges'
        → (nodes'' edges'' buffer'' : List ℕ) → length nodes'' ≡ length nodes' → length edges'' ≡ length edges'
        → let i : Imported = import_text L written nodes' edges' in
        let x : Exported = export_text L i.nodes i.edges buffer'' in
        x.answer ≡ Result → import_text L (take x.length x.buffer) nodes'' edges'' ≡ i
    again nodes' edges' r nodes'' edges'' buffer'' m n =
        again-of L _ (closed-legal L host legal (node_slots L nodes') (edge_slots L edges')) _ (import_export nodes' edges' r)
        nodes'' edges'' buffer''
        (record {
          nodes_fit = fits-same _ _ nodes' nodes'' m r.nodes_fit;
          edges_fit = fits-same _ _ edges' edges'' n r.edges_fit;
          nodes_room = rw (m, lives-filled (node_slots L nodes') (lives host.nodes)) r.nodes_room;
          edges_room = rw (n, lives-filled (edge_slots L edges') (map (moved host.nodes) _), length-map) r.edges_room;
        })
        (rw (m, n) (closed-closed L host legal (node_slots L nodes') (edge_slots L edges')))
