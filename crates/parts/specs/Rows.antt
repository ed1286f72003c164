-- What stands in a rule as rows of fields: a graph's items, a rule's parts.
-- Rests on the meaning's Image and on Series.
use Rattle.std.specs.Prelude.{◌≡◌, refl, Bool, true, false, List, [], ◌∷◌, ◌++◌, map, ℕ, suc, ◌+◌, ◌-◌, ◌<◌, ◌≤◌, eqb, length, get_or, drop}
use Rattle.std.proofs.Common.{sym, ◌∙◌, arith, eqb-true, length-append, get_or-append-add}
use Rattle.std.proofs.Math.Path.{ap}
use Rattle.std.proofs.Math.Option.{Option, some, none}
use Rattle.std.proofs.Math.Decide.{dec_lt, ℕ_discrete}
use Rattle.std.proofs.lemmas.List.{length-map}
use Rattle.std.proofs.Math.ListN.{get_or-map, get_or-append, get_or-eq_default}
use Rattle.meaning.specs.Tags.{edge_tag, interface_tag, left_tag, mode_tag, node_tag, right_tag, tests_tag, variables_tag}
use Rattle.meaning.specs.Basics.{choose, ◌>>=◌}
use Rattle.meaning.specs.Image.{RuleNode, RuleEdge, RuleGraph, Rule, Field, field, expect, only, passes_all, one_byte, label, rule_node, rule_edge, rule_graph, test, types, mode, preserves, rule}
use Rattle.meaning.specs.Laws.Tests.{choose_true, choose_eq, choose_ne, some_inj, bind_some, ensure-some}
use Rattle.fields.specs.Image.{field_is, bind_yes}
use Rattle.fields.specs.Parsed.{one_byte-is, rule_node-is, rule_edge-is, rule_graph-is, types-is, mode-is, rule-is}
use Rattle.meaning.specs.declared.Element.{Element}
use Rattle.fields.specs.Laws.{Lies}
use Rattle.fields.specs.Fields.{nth_field, found as lying}
use Rattle.parts.specs.Series.{Series, For, series-none, series-some, series-there, leading-series, only-series, series_append, series-map, nth_part, nth_tag, nth-item, nth-there, nth_beyond}

-- Tags, and how many at the front are of one kind.

abbrev pub tag_item : ℕ → List ℕ → Option ℕ
tag_item tag bs = some tag

unfoldable pub front : ℕ → List ℕ → ℕ
front tag [] = 0
front tag (t ∷ l) = choose (eqb t tag) (suc (front tag l)) 0

-- the tags of a row
series_tags : {A : Type 0} (item : ℕ → List ℕ → Option A) (l : List A) (rest bs : List ℕ) → Series item l rest bs → (ts : List ℕ) × (Series tag_item ts rest bs) × (length ts ≡ length l)
unfolding Series
series_tags item [] rest bs r = ([], r, refl)
series_tags item (a ∷ l) rest bs r =
    let t = series_tags item l rest r.whole.rest r.more in
    (r.whole.tag ∷ t.0, record { whole = r.whole; there = r.there; read = refl; more = t.1 }, ap suc t.2)

-- a row has no more items than bytes
run_short : {A : Type 0} (item : ℕ → List ℕ → Option A) (l : List A) (rest bs : List ℕ) → Series item l rest bs → length l ≤ length bs
unfolding Series
run_short item [] rest bs r = omega arith
run_short item (a ∷ l) rest bs r =
    let t = run_short item l rest r.whole.rest r.more in
    let i = (field_is bs r.whole r.there).long in
    omega arith

-- a loop that counts them: n are counted, and those from the place on are the others
pub record Counting (tag : ℕ) (bs : List ℕ) (at n : ℕ) : Type 0 where
  pub left : (l : List ℕ) → Series tag_item l [] bs → (m : List ℕ) × (Series tag_item m [] (drop at bs)) × (front tag l ≡ n + front tag m)
  pub few : n ≤ at
  pub inside : at ≤ length bs

pub counting-start : (tag : ℕ) (bs : List ℕ) → Counting tag bs 0 0
counting-start tag bs = record { left = λ l r. (l, r, omega arith); few = omega arith; inside = omega arith }

module _ {tag : ℕ} {bs : List ℕ} {at n : ℕ} (w : Counting tag bs at n) where
  pub counting-done : length bs ≤ at → (l : List ℕ) → Series tag_item l [] bs → n ≡ front tag l
  unfolding front
  counting-done h l r =
      let t = w.left l r in
      let z : front tag t.0 ≡ 0 = ap (front tag) (series-none tag_item bs at t.0 t.1 h) in
      omega (arith, t.2)

  pub counting-cut : at < length bs → field (drop at bs) ≡ none → (l : List ℕ) → Series tag_item l [] bs → n ≡ front tag l
  counting-cut h k l r = let t = w.left l r in absurd (series-there tag_item bs at t.0 t.1 h k)

  module _ {found start end : ℕ} (h : at < length bs) (k : Lies bs at found start end) where
    one : (l : List ℕ) (r : Series tag_item l [] bs) → (m : List ℕ) × (Series tag_item m [] (drop end bs)) × (front tag (w.left l r).0 ≡ choose (eqb found tag) (suc (front tag m)) 0)
    unfolding front
    one l r =
        let t = w.left l r in
        let u = series-some tag_item bs at t.0 t.1 h found start end k in
        let z : found ≡ u.first = some_inj _ _ u.read in
        (u.others, u.series, ap (front tag) u.parts ∙ ap (λ (x : ℕ). choose (eqb x tag) (suc (front tag u.others)) 0) (sym z))

    pub counting-next : found ≡ tag → Counting tag bs end (n + 1)
    counting-next g = record {
      left = λ l r.
          let t = w.left l r in
          let u = one l r in
          let c = choose_eq found tag (suc (front tag u.0)) 0 g in
          (u.0, u.1, omega (arith, t.2, u.2, c));
      few = omega (arith, w.few, k.starts, k.ends);
      inside = k.inside;
    }

    pub counting-stop : (found ≡ tag → ⊥) → (l : List ℕ) → Series tag_item l [] bs → n ≡ front tag l
    counting-stop g l r =
        let t = w.left l r in
        let u = one l r in
        let c = choose_ne found tag (suc (front tag u.0)) 0 g in
        omega (arith, t.2, u.2, c)

-- a loop that counts all fields
pub record Numbering (bs : List ℕ) (at n : ℕ) : Type 0 where
  pub left : (l : List ℕ) → Series tag_item l [] bs → (m : List ℕ) × (Series tag_item m [] (drop at bs)) × (length l ≡ n + length m)
  pub few : n ≤ at
  pub inside : at ≤ length bs

pub numbering_start : (bs : List ℕ) → Numbering bs 0 0
numbering_start bs = record { left = λ l r. (l, r, omega arith); few = omega arith; inside = omega arith }

module _ {bs : List ℕ} {at n : ℕ} (w : Numbering bs at n) where
  pub numbering_done : length bs ≤ at → (l : List ℕ) → Series tag_item l [] bs → n ≡ length l
  numbering_done h l r =
      let t = w.left l r in
      let z : length t.0 ≡ 0 = ap length (series-none tag_item bs at t.0 t.1 h) in
      omega (arith, t.2)

  pub numbering_cut : at < length bs → field (drop at bs) ≡ none → (l : List ℕ) → Series tag_item l [] bs → n ≡ length l
  numbering_cut h k l r = let t = w.left l r in absurd (series-there tag_item bs at t.0 t.1 h k)

  pub numbering_next : {tag start end : ℕ} → at < length bs → Lies bs at tag start end → Numbering bs end (n + 1)
  numbering_next {tag} {start} {end} h k = record {
    left = λ l r.
        let t = w.left l r in
        let u = series-some tag_item bs at t.0 t.1 h tag start end k in
        let z : length t.0 ≡ suc (length u.others) = ap length u.parts in
        (u.others, u.series, omega (arith, t.2, z));
    few = omega (arith, w.few, k.starts, k.ends);
    inside = k.inside;
  }

-- so many fields as items are read from them
pub count-is : {A : Type 0} (item : ℕ → List ℕ → Option A) (bs : List ℕ) (r : ℕ) → ((l : List ℕ) → Series tag_item l [] bs → r ≡ length l) → (l : List A) → Series item l [] bs → r ≡ length l
count-is item bs r h l q = let t = series_tags item l [] bs q in h t.0 t.1 ∙ t.2

-- Fields of one tag.

unfoldable pub tagged : {A : Type 0} → ℕ → (List ℕ → Option A) → ℕ → List ℕ → Option A
tagged t item tag bs = choose (eqb t tag) (item bs) none

pub tagged-yes : {A : Type 0} (t : ℕ) (item : List ℕ → Option A) (tag : ℕ) (bs : List ℕ) (a : A) → eqb t tag ≡ true → item bs ≡ some a → tagged t item tag bs ≡ some a
unfolding tagged
tagged-yes t item tag bs a h e = choose_true _ _ _ h ∙ e

pub tagged-some : {A : Type 0} (t : ℕ) (item : List ℕ → Option A) (tag : ℕ) (bs : List ℕ) (a : A) → tagged t item tag bs ≡ some a → (t ≡ tag) × (item bs ≡ some a)
unfolding tagged choose
tagged-some {A} t item tag bs a e = at (eqb t tag) refl e
  where
    at : (b : Bool) → eqb t tag ≡ b → choose b (item bs) none ≡ some a → (t ≡ tag) × (item bs ≡ some a)
    at true h e = (eqb-true t tag h, e)
    at false h e = let z : ◌≡◌ {A = ℕ} 0 1 = cc in absurd (omega arith)

-- A graph.

pub data Item : Type 0 where
  node : RuleNode → Item
  edge : RuleEdge → Item

unfoldable pub graph_item : ℕ → List ℕ → Option Item
graph_item tag bs =
    choose (eqb tag node_tag) (rule_node bs >>= λ n. some (node n))
    (choose (eqb tag edge_tag) (rule_edge bs >>= λ e. some (edge e)) none)

abbrev pub items : RuleGraph → List Item
items g = map node g.nodes ++ map edge g.edges

node-item : (tag : ℕ) (bs : List ℕ) (n : RuleNode) → tagged node_tag rule_node tag bs ≡ some n → graph_item tag bs ≡ some (node n)
unfolding graph_item choose
node-item tag bs n e =
    let t = tagged-some node_tag rule_node tag bs n e in
    rw (← t.0) (bind_yes _ _ n t.1)

edge-item : (tag : ℕ) (bs : List ℕ) (n : RuleEdge) → tagged edge_tag rule_edge tag bs ≡ some n → graph_item tag bs ≡ some (edge n)
unfolding graph_item choose
edge-item tag bs n e =
    let t = tagged-some edge_tag rule_edge tag bs n e in
    rw (← t.0) (bind_yes _ _ n t.1)

pub graph-series : (bs : List ℕ) (g : RuleGraph) → rule_graph bs ≡ some g → Series graph_item (items g) [] bs
graph-series bs g e =
    let i = rule_graph-is bs g e in
    let ns = leading-series (eqb node_tag) (λ tag. rule_node) (tagged node_tag rule_node) (tagged-yes node_tag rule_node) 6 bs _ i.nodes in
    let es = only-series (eqb edge_tag) (λ tag. rule_edge) (tagged edge_tag rule_edge) (tagged-yes edge_tag rule_edge) 6 i.behind g.edges i.edges in
    series_append graph_item (map node g.nodes) (map edge g.edges) i.behind bs []
    (series-map (tagged node_tag rule_node) graph_item node node-item g.nodes i.behind bs ns)
    (series-map (tagged edge_tag rule_edge) graph_item edge edge-item g.edges [] i.behind es)

-- what an item that is read says of its tag and bytes
abbrev pub IsItem : ℕ → List ℕ → Item → Type 0
IsItem tag bs (node n) = (tag ≡ node_tag) × (rule_node bs ≡ some n)
IsItem tag bs (edge e) = (tag ≡ edge_tag) × (rule_edge bs ≡ some e)

pub item-is : (tag : ℕ) (bs : List ℕ) (i : Item) → graph_item tag bs ≡ some i → IsItem tag bs i
unfolding graph_item
item-is tag bs i e = at (ℕ_discrete tag node_tag) (ℕ_discrete tag edge_tag)
  where
    at : Dec (tag ≡ node_tag) → Dec (tag ≡ edge_tag) → IsItem tag bs i
    at (yes h) k =
        let t = bind_some (rule_node bs) _ i (sym (choose_eq tag node_tag _ _ h) ∙ e) in
        rw (← (some_inj (node t.0) i t.2)) (h, t.1)
    at (no h) (yes k) =
        let t = bind_some (rule_edge bs) _ i (sym (choose_ne tag node_tag _ _ h ∙ choose_eq tag edge_tag _ _ k) ∙ e) in
        rw (← (some_inj (edge t.0) i t.2)) (k, t.1)
    at (no h) (no k) =
        let f = sym (choose_ne tag node_tag _ _ h ∙ choose_ne tag edge_tag _ _ k) ∙ e in
        let z : ◌≡◌ {A = ℕ} 0 1 = cc in
        absurd (omega arith)

unfoldable item_tag : Item → ℕ
item_tag (node n) = node_tag
item_tag (edge e) = edge_tag

item-tag : (tag : ℕ) (bs : List ℕ) (i : Item) → graph_item tag bs ≡ some i → tag_item tag bs ≡ some (item_tag i)
unfolding item_tag
item-tag tag bs (node n) e = ap some (item-is tag bs (node n) e).0
item-tag tag bs (edge n) e = ap some (item-is tag bs (edge n) e).0

front_items : (ns : List RuleNode) (es : List RuleEdge) → front node_tag (map item_tag (map node ns ++ map edge es)) ≡ length ns
unfolding front item_tag choose
front_items [] [] = refl
front_items [] (e ∷ es) = refl
front_items (n ∷ ns) es = ap suc (front_items ns es)

-- the tags at the front are as many as there are nodes
pub graph-count : (bs : List ℕ) (r : ℕ) → ((l : List ℕ) → Series tag_item l [] bs → r ≡ front node_tag l) → For (rule_graph bs) (λ g. r ≡ length g.nodes)
graph-count bs r h g e =
    h (map item_tag (items g)) (series-map graph_item tag_item item_tag item-tag (items g) [] bs (graph-series bs g e)) ∙ front_items g.nodes g.edges

-- Nodes and edges, from their bytes.

pub record NodeIs (bs : List ℕ) (n : RuleNode) : Type 0 where
  pub mark : get_or bs 0 0 ≡ n.mark
  pub root : get_or bs 1 0 ≡ n.root
  pub labelled : label (drop 2 bs) ≡ some n.label

pub node-is : (bs : List ℕ) (n : RuleNode) → rule_node bs ≡ some n → NodeIs bs n
node-is bs n e =
    let i = rule_node-is bs n e in
    record { mark = sym i.mark; root = sym i.root; labelled = i.label }

pub record EdgeIs (bs : List ℕ) (n : RuleEdge) : Type 0 where
  pub mark : get_or bs 0 0 ≡ n.mark
  pub source : get_or bs 1 0 ≡ n.source
  pub target : get_or bs 2 0 ≡ n.target
  pub labelled : label (drop 3 bs) ≡ some n.label

pub edge-is : (bs : List ℕ) (n : RuleEdge) → rule_edge bs ≡ some n → EdgeIs bs n
edge-is bs n e =
    let i = rule_edge-is bs n e in
    record { mark = sym i.mark; source = sym i.source; target = sym i.target; labelled = i.label }

pub nth_of : {A B : Type 0} (f : A → B) (l : List A) (m : List B) (i : ℕ) (d : A) → i < length l → get_or (map f l ++ m) i (f d) ≡ f (get_or l i d)
nth_of f l m i d h = get_or-append (map f l) m (f d) i (rw (length-map l f) h) ∙ get_or-map f l i d

-- the node and the edge of a number, in the field of their number
pub nth-node : (bs : List ℕ) (g : RuleGraph) → rule_graph bs ≡ some g → (i : ℕ) → i < length g.nodes → (d : RuleNode) → rule_node (nth_part i bs) ≡ some (get_or g.nodes i d)
nth-node bs g e i h d =
    let k : i < length (items g) = rw (length-append (map node g.nodes) (map edge g.edges), length-map g.nodes node) (omega arith) in
    let t = nth-item bs graph_item (items g) i (node d) (graph-series bs g e) k in
    (item-is (nth_tag i bs) (nth_part i bs) (node (get_or g.nodes i d)) (t ∙ ap some (nth_of node g.nodes (map edge g.edges) i d h))).1

pub nth-edge : (bs : List ℕ) (g : RuleGraph) → rule_graph bs ≡ some g → (i : ℕ) → i < length g.edges → (d : RuleEdge) → rule_edge (nth_part (length g.nodes + i) bs) ≡ some (get_or g.edges i d)
nth-edge bs g e i h d =
    let n = length g.nodes in
    let k : n + i < length (items g) = rw (length-append (map node g.nodes) (map edge g.edges), length-map g.nodes node, length-map g.edges edge) (omega arith) in
    let t = nth-item bs graph_item (items g) (n + i) (edge d) (graph-series bs g e) k in
    let q : get_or (items g) (n + i) (edge d) ≡ edge (get_or g.edges i d) = rw (← (length-map g.nodes node)) (get_or-append-add (map node g.nodes) (map edge g.edges) i (edge d)) ∙ get_or-map edge g.edges i d in
    (item-is (nth_tag (n + i) bs) (nth_part (n + i) bs) (edge (get_or g.edges i d)) (t ∙ ap some q)).1

-- the mark of the node of a number
abbrev pub mark_at : RuleGraph → ℕ → ℕ
mark_at g i = get_or (map (λ n. n.mark) g.nodes) i 0

-- all items but the nodes are edges
module _ (bs : List ℕ) (all n : ℕ) (h : (l : List ℕ) → Series tag_item l [] bs → all ≡ length l) where
  together : For (rule_graph bs) (λ g. all ≡ length g.nodes + length g.edges)
  together g e =
      count-is graph_item bs all h (items g) (graph-series bs g e)
      ∙ length-append (map node g.nodes) (map edge g.edges)
      ∙ rw (length-map g.nodes node, length-map g.edges edge)

  pub edges-behind : For (rule_graph bs) (λ g. n ≡ length g.nodes → all - n ≡ length g.edges)
  edges-behind g e q = omega (arith, together g e)

-- the edge of a number, where the node count is known
pub edge-there : (bs part : List ℕ) (i n : ℕ) → For (rule_graph bs) (λ g. n ≡ length g.nodes) → part ≡ nth_part (n + i) bs
    → For (rule_graph bs) (λ g. i < length g.edges → (d : RuleEdge) → rule_edge part ≡ some (get_or g.edges i d))
edge-there bs part i n q p g e h d =
    ap rule_edge (p ∙ ap (λ (m : ℕ). nth_part (m + i) bs) (q g e)) ∙ nth-edge bs g e i h d

-- a graph has no more edges than bytes
pub edge-far : (bs part : List ℕ) (i : ℕ) → length bs ≤ i → For (rule_graph bs) (λ g. i < length g.edges → (d : RuleEdge) → rule_edge part ≡ some (get_or g.edges i d))
edge-far bs part i k g e h d =
    let f = run_short graph_item (items g) [] bs (graph-series bs g e) in
    let a = length-append (map node g.nodes) (map edge g.edges) in
    let b = length-map g.nodes node in
    let c = length-map g.edges edge in
    absurd (omega arith)

module _ (bs part : List ℕ) (i n : ℕ) (q : For (rule_graph bs) (λ g. n ≡ length g.nodes)) where
  pub mark-there : (m : ℕ) → i < n → part ≡ nth_part i bs → m ≡ get_or part 0 0 → For (rule_graph bs) (λ g. m ≡ mark_at g i)
  mark-there m h p z g e =
      let blank : RuleNode = record { mark = 0; root = 0; label = [] } in
      let k : i < length g.nodes = omega (arith, q g e) in
      let t = node-is (nth_part i bs) (get_or g.nodes i blank) (nth-node bs g e i k blank) in
      z ∙ ap (λ (l : List ℕ). get_or l 0 0) p ∙ t.mark ∙ sym (get_or-map (λ n. n.mark) g.nodes i blank)

  pub mark-none : n ≤ i → For (rule_graph bs) (λ g. 0 ≡ mark_at g i)
  mark-none h g e = sym (get_or-eq_default (map (λ n. n.mark) g.nodes) 0 (rw (length-map g.nodes (λ n. n.mark)) (omega (arith, q g e))))

-- A rule.

abbrev anything : ℕ → List ℕ → Option (List ℕ)
anything tag bs = some bs

-- the parts, each where the field of its number lies; the first five are there, and without a mode the part of its number is
-- empty
pub record Parted (bs : List ℕ) (x : Rule) : Type 0 where
  pub variables : types (nth_part 0 bs) ≡ some x.variables
  pub left : rule_graph (nth_part 1 bs) ≡ some x.left
  pub right : rule_graph (nth_part 2 bs) ≡ some x.right
  pub interface : one_byte (nth_part 3 bs) ≡ some x.interface
  pub tests : only passes_all test 4 (nth_part 4 bs) ≡ some x.tests
  pub preserving : x.preserving ≡ eqb (get_or (nth_part 5 bs) 0 0) 1
  pub there : (n : ℕ) → n < 5 → (tag : ℕ) × (start : ℕ) × (end : ℕ) × (nth_field n bs 0 ≡ lying tag start end)

expected : (tag : ℕ) (bs : List ℕ) (d : Field) → expect tag bs ≡ some d → field bs ≡ some d
unfolding expect
expected tag bs d e =
    let t = bind_some (field bs) _ d e in
    t.1 ∙ (ensure-some (eqb t.0.tag tag) _ d t.2).1

-- five fields, and more behind them
five : (bs : List ℕ) (a b c d e : Field) (more : List (List ℕ)) → field bs ≡ some a → field a.rest ≡ some b → field b.rest ≡ some c → field c.rest ≡ some d → field d.rest ≡ some e
    → Series anything more [] e.rest → Series anything (a.payload ∷ b.payload ∷ c.payload ∷ d.payload ∷ e.payload ∷ more) [] bs
unfolding Series
five bs a b c d e more ha hb hc hd he h =
    record { whole = a; there = ha; read = refl; more = record { whole = b; there = hb; read = refl; more = record { whole = c; there = hc; read = refl; more = record { whole = d; there = hd; read = refl; more = record { whole = e; there = he; read = refl; more = h } } } } }

-- the modes behind them, and what the first byte of the first says
modes-behind : (modes : List Bool) (bs : List ℕ) → Series (λ tag. mode) modes [] bs
    → (more : List (List ℕ)) × Series anything more [] bs × (preserves modes ≡ eqb (get_or (get_or more 0 []) 0 0) 1)
unfolding Series preserves
modes-behind [] bs r = ([], r, refl)
modes-behind (b ∷ l) bs r =
    let t = modes-behind l r.whole.rest r.more in
    (r.whole.payload ∷ t.0, record { whole = r.whole; there = r.there; read = refl; more = t.1 }, mode-is r.whole.payload b r.read)

nth-payload : (bs : List ℕ) (l : List (List ℕ)) (n : ℕ) → Series anything l [] bs → nth_part n bs ≡ get_or l n []
nth-payload bs l n r = at (dec_lt n (length l))
  where
    at : Dec (n < length l) → nth_part n bs ≡ get_or l n []
    at (yes h) = some_inj _ _ (nth-item bs anything l n [] r h)
    at (no h) = nth_beyond bs anything l n r (omega arith) ∙ sym (get_or-eq_default l [] (omega arith))

pub rule_parted : (bs : List ℕ) (x : Rule) → rule bs ≡ some x → Parted bs x
rule_parted bs x e =
    let i = rule-is bs x e in
    let m = modes-behind i.modes i.t.rest (only-series (eqb mode_tag) (λ tag. mode) (λ tag. mode) (λ tag q a p e. e) 1 i.t.rest i.modes i.at-modes) in
    let l = i.v.payload ∷ i.l.payload ∷ i.r.payload ∷ i.k.payload ∷ i.t.payload ∷ m.0 in
    let row : Series anything l [] bs = five bs i.v i.l i.r i.k i.t m.0 (expected variables_tag bs i.v i.at-v) (expected left_tag i.v.rest i.l i.at-l) (expected right_tag i.l.rest i.r i.at-r) (expected interface_tag i.r.rest i.k i.at-k) (expected tests_tag i.k.rest i.t i.at-t) m.1 in
    record {
      variables = ap types (nth-payload bs l 0 row) ∙ i.variables;
      left = ap rule_graph (nth-payload bs l 1 row) ∙ i.left;
      right = ap rule_graph (nth-payload bs l 2 row) ∙ i.right;
      interface = ap one_byte (nth-payload bs l 3 row) ∙ i.interface;
      tests = ap (only passes_all test 4) (nth-payload bs l 4 row) ∙ i.tests;
      preserving = i.preserving ∙ m.2 ∙ ap (λ (q : List ℕ). eqb (get_or q 0 0) 1) (sym (nth-payload bs l 5 row));
      there = λ n h. nth-there bs anything l n row (omega arith);
    }

pub variables-are : (bs part : List ℕ) → part ≡ nth_part 0 bs → For (rule bs) (λ x. part ≡ x.variables)
variables-are bs part h x e = h ∙ sym (types-is (nth_part 0 bs) x.variables (rule_parted bs x e).variables).0

pub interface-is : (bs part : List ℕ) (k : ℕ) → part ≡ nth_part 3 bs → k ≡ get_or part 0 0 → For (rule bs) (λ x. k ≡ x.interface)
interface-is bs part k h q x e =
    q ∙ ap (λ (l : List ℕ). get_or l 0 0) h ∙ sym (one_byte-is (nth_part 3 bs) x.interface (rule_parted bs x e).interface).1

pub preserving-is : (bs part : List ℕ) (b : Bool) → part ≡ nth_part 5 bs → b ≡ eqb (get_or part 0 0) 1 → For (rule bs) (λ x. b ≡ x.preserving)
preserving-is bs part b h q x e = q ∙ ap (λ (l : List ℕ). eqb (get_or l 0 0) 1) h ∙ sym (rule_parted bs x e).preserving

-- The label of an item.

unfoldable pub item_label : Item → List Element
item_label (node n) = n.label
item_label (edge e) = e.label

module _ (tag : ℕ) (bs : List ℕ) where
  pub label-node : (rest : List ℕ) → tag ≡ node_tag → rest ≡ drop 2 bs → For (graph_item tag bs) (λ i. label rest ≡ some (item_label i))
  unfolding item_label
  label-node rest h q (node n) e = ap label q ∙ (node-is bs n (item-is tag bs (node n) e).1).labelled
  label-node rest h q (edge n) e = let t = (item-is tag bs (edge n) e).0 in absurd (omega arith)

  pub label-edge : (rest : List ℕ) → (tag ≡ node_tag → ⊥) → rest ≡ drop 3 bs → For (graph_item tag bs) (λ i. label rest ≡ some (item_label i))
  unfolding item_label
  label-edge rest h q (node n) e = absurd (h (item-is tag bs (node n) e).0)
  label-edge rest h q (edge n) e = ap label q ∙ (edge-is bs n (item-is tag bs (edge n) e).1).labelled
