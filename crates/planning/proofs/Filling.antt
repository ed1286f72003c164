-- The places of a graph's items, filled in one after the other, and the parts of a rule put beside them. Rests on plan's
-- Plan and on parts' Rows.
use mathlib.Core.Path.{◌≡◌, refl, sym, ◌∙◌, ap}
use mathlib.Core.Option.{Option, some, none}
use mathlib.Core.Bool.{true}
use mathlib.Core.List.{List, [], ◌∷◌, map}
use Prim.Native.Nat.{ℕ, zero, suc, ◌+◌, ◌-◌, ◌<◌, ◌≤◌, min}
use native.Mathlib.Omega.{arith}
use native.Mathlib.Decide.{ℕ_discrete, dec_lt}
use lib.Dec.{eqb}
use lib.ListN.{length, get_or, set, take, drop, length-append, length-drop, length-map, length-set, get_or-append}
use lib.Seq.{get_or-append-add}
use Rattle.meaning.specs.Tags.{node_tag}
use Rattle.meaning.specs.Image.{RuleNode, RuleEdge, RuleGraph, Rule, field, rule_node, rule_edge, rule_graph, rule, most_items}
use Rattle.meaning.specs.References.{rule_holds}
use Rattle.meaning.specs.Laws.Tests.{some_inj}
use Rattle.fields.specs.Parsed.{one_byte-is, rule_graph-is, rule-few}
use Rattle.fields.specs.Laws.{Lies}
use Rattle.parts.specs.Series.{Series, nth_part, series-none, series-some, series-there}
use Rattle.parts.specs.Rows.{Item, node as node_item, edge as edge_item, items as items_of, graph_item, item-is, graph-series, rule_parted}
use Rattle.parts.proofs.Loops.{part_in}
use Rattle.plan.specs.Plan.{Placed, node_of, edge_of, Items, Laid, IsRule, Part, end_at, plan_length, start_at, interface_at, mode_at, tests_end_at, tests_start_at, types_end_at, types_start_at}
use Rattle.plan.specs.Places.{drop_head, inner, part_length, part-byte}
use Rattle.planning.proofs.Stores.{other, stored, items_kept}

-- Items by number.

get_or_in : {A B : Type 0} (f : A → B) (l : List A) (i : ℕ) (b : B) (a : A) → i < length l → get_or (map f l) i b ≡ f (get_or l i a)
get_or_in f [] i b a h = absurd (omega arith)
get_or_in f (x ∷ l) zero b a h = refl
get_or_in f (x ∷ l) (suc i) b a h = get_or_in f l i b a (omega arith)

pub items-length : (g : RuleGraph) → length (items_of g) ≡ length g.nodes + length g.edges
items-length g =
    let n = length-map g.nodes node_item in
    let e = length-map g.edges edge_item in
    length-append (map node_item g.nodes) (map edge_item g.edges) ∙ omega arith

module _ (g : RuleGraph) (d : Item) where
  numbered-node : (i : ℕ) → i < length g.nodes → get_or (items_of g) i d ≡ node_item (node_of g i)
  numbered-node i h =
      get_or-append (map node_item g.nodes) (map edge_item g.edges) d i (omega (arith, length-map g.nodes node_item))
      ∙ get_or_in node_item g.nodes i d _ h

  numbered-edge : (k : ℕ) → k < length g.edges → get_or (items_of g) (length g.nodes + k) d ≡ edge_item (edge_of g k)
  numbered-edge k h =
      ap (λ (n : ℕ). get_or (items_of g) (n + k) d) (sym (length-map g.nodes node_item))
      ∙ get_or-append-add (map node_item g.nodes) (map edge_item g.edges) k d
      ∙ get_or_in edge_item g.edges k d _ h

  module _ (j : ℕ) (h : j < length (items_of g)) where
    pub is-node : {n : RuleNode} → get_or (items_of g) j d ≡ node_item n → (j < length g.nodes) × (node_of g j ≡ n)
    is-node {n} e = at (dec_lt j (length g.nodes))
      where
        at : Dec (j < length g.nodes) → (j < length g.nodes) × (node_of g j ≡ n)
        at (yes k) = let q = numbered-node j k in (k, cc)
        at (no k) =
            let z : j ≡ length g.nodes + (j - length g.nodes) = omega arith in
            let q = ap (λ (i : ℕ). get_or (items_of g) i d) z ∙ numbered-edge (j - length g.nodes) (omega (arith, items-length g)) in
            let y : ◌≡◌ {A = ℕ} 0 1 = cc in
            absurd (omega arith)

    pub is-edge : {n : RuleEdge} → get_or (items_of g) j d ≡ edge_item n → (length g.nodes ≤ j) × (edge_of g (j - length g.nodes) ≡ n)
    is-edge {n} e = at (dec_lt j (length g.nodes))
      where
        at : Dec (j < length g.nodes) → (length g.nodes ≤ j) × (edge_of g (j - length g.nodes) ≡ n)
        at (yes k) =
            let q = numbered-node j k in
            let y : ◌≡◌ {A = ℕ} 0 1 = cc in
            absurd (omega arith)
        at (no k) =
            let z : j ≡ length g.nodes + (j - length g.nodes) = omega arith in
            let q = ap (λ (i : ℕ). get_or (items_of g) i d) z ∙ numbered-edge (j - length g.nodes) (omega (arith, items-length g)) in
            (omega arith, cc)

-- what is read by a tag
as_node : (tag : ℕ) (bs : List ℕ) (x : Item) → graph_item tag bs ≡ some x → tag ≡ node_tag → (n : RuleNode) × (x ≡ node_item n) × (rule_node bs ≡ some n)
as_node tag bs (node_item n) e h = (n, refl, (item-is tag bs (node_item n) e).1)
as_node tag bs (edge_item n) e h = let k = (item-is tag bs (edge_item n) e).0 in absurd (omega arith)

as_edge : (tag : ℕ) (bs : List ℕ) (x : Item) → graph_item tag bs ≡ some x → (tag ≡ node_tag → ⊥) → (n : RuleEdge) × (x ≡ edge_item n) × (rule_edge bs ≡ some n)
as_edge tag bs (node_item n) e h = absurd (h (item-is tag bs (node_item n) e).0)
as_edge tag bs (edge_item n) e h = (n, refl, (item-is tag bs (edge_item n) e).1)

-- Two stores.

module _ (plan : List ℕ) (j a b : ℕ) (size : length plan ≡ plan_length) (low : j < most_items) where
  abbrev both : List ℕ
  both = set (set plan (start_at + j) a) (end_at + j) b

  both-size : length both ≡ plan_length
  both-size = length-set (set plan (start_at + j) a) (end_at + j) b ∙ length-set plan (start_at + j) a ∙ size

  new-start : get_or both (start_at + j) 0 ≡ a
  new-start = other (set plan (start_at + j) a) (end_at + j) b (start_at + j) (λ e. omega arith) ∙ stored plan (start_at + j) a size (omega arith)

  new-end : get_or both (end_at + j) 0 ≡ b
  new-end = stored (set plan (start_at + j) a) (end_at + j) b (length-set plan (start_at + j) a ∙ size) (omega arith)

  old-start : (i : ℕ) → i < j → get_or both (start_at + i) 0 ≡ get_or plan (start_at + i) 0
  old-start i h = other (set plan (start_at + j) a) (end_at + j) b (start_at + i) (λ e. omega arith) ∙ other plan (start_at + j) a (start_at + i) (λ e. omega arith)

  old-end : (i : ℕ) → i < j → get_or both (end_at + i) 0 ≡ get_or plan (end_at + i) 0
  old-end i h = other (set plan (start_at + j) a) (end_at + j) b (end_at + i) (λ e. omega arith) ∙ other plan (start_at + j) a (end_at + i) (λ e. omega arith)

-- The loop over the items of a graph, whose bytes are p: those before number j are in the plan, `nodes` of them nodes, and
-- those from it on stand at the place.

pub record Filling (bs : List ℕ) (g : RuleGraph) (p plan : List ℕ) (at j nodes : ℕ) : Type 0 where
  pub size : length plan ≡ plan_length
  pub few : j ≤ length (items_of g)
  pub counted : nodes ≡ min j (length g.nodes)
  pub left : Series graph_item (drop j (items_of g)) [] (drop at p)
  pub node : (i : ℕ) → i < j → i < length g.nodes → Placed rule_node bs (get_or plan (start_at + i) 0) (get_or plan (end_at + i) 0) (node_of g i)
  pub edge : (k : ℕ) → length g.nodes + k < j
      → Placed rule_edge bs (get_or plan (start_at + (length g.nodes + k)) 0) (get_or plan (end_at + (length g.nodes + k)) 0) (edge_of g k)

module _ {bs : List ℕ} {g : RuleGraph} {p : List ℕ} {start end : ℕ} (is : p ≡ take (end - start) (drop start bs)) (lies : Placed rule_graph bs start end g) where
  few-items : length (items_of g) ≤ most_items
  few-items = let f = rule_graph-is _ g lies.is in omega (arith, items-length g, f.few_nodes, f.few_edges)

  pub filling-start : (plan : List ℕ) → length plan ≡ plan_length → Filling bs g p plan 0 0 0
  filling-start plan e =
      record {
        size = e;
        few = omega arith;
        counted = omega arith;
        left = graph-series p g (ap rule_graph is ∙ lies.is);
        node = λ i h k. absurd (omega arith);
        edge = λ k h. absurd (omega arith);
      }

  module _ {plan : List ℕ} {at j nodes : ℕ} (w : Filling bs g p plan at j nodes) where
    pub filling-cut : at < length p → field (drop at p) ≡ none → ⊥
    filling-cut h k = series-there graph_item p at (drop j (items_of g)) w.left h k

    pub filling-done : length p ≤ at → Items bs g (set (set plan 0 nodes) 1 (j - nodes))
    filling-done h =
        let e : length (drop j (items_of g)) ≡ 0 = ap length (series-none graph_item p at (drop j (items_of g)) w.left h) in
        let z : j ≡ length g.nodes + length g.edges = omega (arith, e, length-drop j (items_of g), w.few, items-length g) in
        let f = rule_graph-is _ g lies.is in
        let n : List ℕ = set plan 0 nodes in
        let s : length n ≡ plan_length = length-set plan 0 nodes ∙ w.size in
        let same : (i : ℕ) → 2 ≤ i → get_or (set n 1 (j - nodes)) i 0 ≡ get_or plan i 0 = λ i q. other n 1 (j - nodes) i (λ y. omega arith) ∙ other plan 0 nodes i (λ y. omega arith) in
        record {
          size = length-set n 1 (j - nodes) ∙ s;
          nodes = other n 1 (j - nodes) 0 (λ y. omega arith) ∙ stored plan 0 nodes w.size (omega arith) ∙ omega (arith, w.counted);
          edges = stored n 1 (j - nodes) s (omega arith) ∙ omega (arith, w.counted);
          few_nodes = f.few_nodes;
          few_edges = f.few_edges;
          node = λ i k. rw (same (start_at + i) (omega arith), same (end_at + i) (omega arith)) (w.node i (omega arith) k);
          edge = λ k q. let i : ℕ = length g.nodes + k in rw (same (start_at + i) (omega arith), same (end_at + i) (omega arith)) (w.edge k (omega arith));
        }

    module _ {tag s e : ℕ} (h : at < length p) (k : Lies p at tag s e) where
      abbrev none-item : Item
      none-item = node_item (record { mark = 0; root = 0; label = [] })

      next : (x : Item) × (j < length (items_of g)) × (get_or (items_of g) j none-item ≡ x) × (graph_item tag (take (e - s) (drop s p)) ≡ some x) × (Series graph_item (drop (j + 1) (items_of g)) [] (drop e p))
      next =
          let n = series-some graph_item p at (drop j (items_of g)) w.left h tag s e k in
          let d = drop_head none-item (items_of g) j n.first n.others n.parts in
          (n.first, d.0, d.1, n.read, rw d.2 n.series)

      pub next_low : j < most_items
      next_low = omega (arith, next.1, few-items)

      pub next_fits : start + e ≤ length bs
      next_fits =
          let l : length p ≡ end - start = ap length is ∙ part_length bs start end lies.ordered lies.inside in
          omega (arith, k.inside, lies.ordered, lies.inside)

      abbrev filled : List ℕ
      filled = set (set plan (start_at + j) (start + s)) (end_at + j) (start + e)

      within : {A : Type 0} (read : List ℕ → Option A) (a : A) → read (take (e - s) (drop s p)) ≡ some a → Placed read bs (get_or filled (start_at + j) 0) (get_or filled (end_at + j) 0) a
      within read a q =
          let i = part_in k in
          rw (new-start plan j (start + s) (start + e) w.size next_low, new-end plan j (start + s) (start + e) w.size next_low)
          (inner read bs p start end s e a lies.ordered lies.inside is i.0 i.1 q)

      kept : {A : Type 0} (read : List ℕ → Option A) (a : A) (i : ℕ) → i < j → Placed read bs (get_or plan (start_at + i) 0) (get_or plan (end_at + i) 0) a → Placed read bs (get_or filled (start_at + i) 0) (get_or filled (end_at + i) 0) a
      kept read a i q l = rw (old-start plan j (start + s) (start + e) w.size next_low i q, old-end plan j (start + s) (start + e) w.size next_low i q) l

      pub filling-node : tag ≡ node_tag → Filling bs g p filled e (j + 1) (nodes + 1)
      filling-node q =
          let n = next in
          let x = as_node tag _ n.0 n.3 q in
          let m = is-node g none-item j n.1 (n.2 ∙ x.1) in
          record {
            size = both-size plan j (start + s) (start + e) w.size next_low;
            few = omega (arith, n.1);
            counted = omega (arith, w.counted, m.0);
            left = n.4;
            node = λ i a b. go i a b (ℕ_discrete i j);
            edge = λ i a. absurd (omega (arith, m.0));
          }
        where
          go : (i : ℕ) → i < j + 1 → i < length g.nodes → Dec (i ≡ j) → Placed rule_node bs (get_or filled (start_at + i) 0) (get_or filled (end_at + i) 0) (node_of g i)
          go i a b (yes z) =
              let n = next in
              let x = as_node tag _ n.0 n.3 q in
              let m = is-node g none-item j n.1 (n.2 ∙ x.1) in
              rw (z, m.1) (within rule_node x.0 x.2)
          go i a b (no z) = kept rule_node (node_of g i) i (omega arith) (w.node i (omega arith) b)

      pub filling-edge : (tag ≡ node_tag → ⊥) → Filling bs g p filled e (j + 1) nodes
      filling-edge q =
          let n = next in
          let x = as_edge tag _ n.0 n.3 q in
          let m = is-edge g none-item j n.1 (n.2 ∙ x.1) in
          record {
            size = both-size plan j (start + s) (start + e) w.size next_low;
            few = omega (arith, n.1);
            counted = omega (arith, w.counted, m.0);
            left = n.4;
            node = λ i a b. kept rule_node (node_of g i) i (omega (arith, m.0)) (w.node i (omega (arith, m.0)) b);
            edge = λ i a. go i a (ℕ_discrete (length g.nodes + i) j);
          }
        where
          go : (i : ℕ) → length g.nodes + i < j + 1 → Dec (length g.nodes + i ≡ j) → Placed rule_edge bs (get_or filled (start_at + (length g.nodes + i)) 0) (get_or filled (end_at + (length g.nodes + i)) 0) (edge_of g i)
          go i a (yes z) =
              let n = next in
              let x = as_edge tag _ n.0 n.3 q in
              let m = is-edge g none-item j n.1 (n.2 ∙ x.1) in
              let y : j - length g.nodes ≡ i = omega arith in
              let c : edge_of g i ≡ x.0 = ap (edge_of g) (sym y) ∙ m.1 in
              rw (z, c) (within rule_edge x.0 x.2)
          go i a (no z) = kept rule_edge (edge_of g i) (length g.nodes + i) (omega arith) (w.edge i (omega arith))

-- The parts of a rule.

pub holds_of : {bs : List ℕ} {r : Rule} → IsRule bs → rule bs ≡ some r → rule_holds r ≡ true
holds_of {bs} {r} w e = rw (some_inj r w.tree (sym e ∙ w.is)) w.holds

part_placed : {A : Type 0} {read : List ℕ → Option A} {bs : List ℕ} {n start end : ℕ} {a : A} → Part bs n start end → read (nth_part n bs) ≡ some a → Placed read bs start end a
part_placed {read = read} p e = record { ordered = p.ordered; inside = p.inside; is = ap read p.is ∙ e }

module _ {bs : List ℕ} {r : Rule} (e : rule bs ≡ some r) where
  pub left-graph : {start end : ℕ} → Part bs 1 start end → Placed rule_graph bs start end r.left
  left-graph p = part_placed p (rule_parted bs r e).left

  pub interface-byte : {start end : ℕ} → Part bs 3 start end → (start < length bs) × (get_or bs start 0 ≡ r.interface)
  interface-byte {start} {end} p =
      let b = one_byte-is _ _ (rule_parted bs r e).interface in
      let l : end - start ≡ 1 = sym (part_length bs start end p.ordered p.inside) ∙ ap length p.is ∙ b.0 in
      let z : start + 0 ≡ start = omega arith in
      (omega (arith, p.inside), ap (λ (x : ℕ). get_or bs x 0) (sym z) ∙ sym (part-byte bs start end p.ordered p.inside 0 (omega arith)) ∙ ap (λ (x : List ℕ). get_or x 0 0) p.is ∙ sym b.1)

  pub laid : {plan : List ℕ} {byte s3 e3 s4 e4 s0 e0 : ℕ} → rule_holds r ≡ true → Items bs r.left plan → Part bs 3 s3 e3 → byte ≡ get_or bs s3 0 → Part bs 4 s4 e4 → Part bs 0 s0 e0 → (mode : ℕ) → r.preserving ≡ eqb mode 1
      → Laid bs r (set (set (set (set (set (set plan interface_at byte) tests_start_at s4) tests_end_at e4) types_start_at s0) types_end_at e0) mode_at mode)
  laid {plan} {byte} {s3} {e3} {s4} {e4} {s0} {e0} holds l p3 b p4 p0 mode m =
      let a : List ℕ = set plan interface_at byte in
      let c : List ℕ = set a tests_start_at s4 in
      let d : List ℕ = set c tests_end_at e4 in
      let f : List ℕ = set d types_start_at s0 in
      let la = items_kept plan 2 byte (λ h. omega arith) l in
      let lc = items_kept a tests_start_at s4 (λ h. omega arith) la in
      let ld = items_kept c tests_end_at e4 (λ h. omega arith) lc in
      let g : List ℕ = set f types_end_at e0 in
      let lf = items_kept d types_start_at s0 (λ h. omega arith) ld in
      let lg = items_kept f types_end_at e0 (λ h. omega arith) lf in
      let q = rule_parted bs r e in
      let few = rule-few bs r e in
      record {
        is = e;
        holds = holds;
        items = items_kept g mode_at mode (λ h. omega arith) lg;
        interface = other g mode_at mode interface_at (λ y. omega arith) ∙ other f types_end_at e0 interface_at (λ y. omega arith) ∙ other d types_start_at s0 interface_at (λ y. omega arith) ∙ other c tests_end_at e4 interface_at (λ y. omega arith) ∙ other a tests_start_at s4 interface_at (λ y. omega arith) ∙ stored plan interface_at byte l.size (omega arith) ∙ b ∙ (interface-byte p3).1;
        mode = m ∙ ap (λ (x : ℕ). eqb x 1) (sym (stored g mode_at mode lg.size (omega arith)));
        few_variables = few.variables;
        types = rw (other g mode_at mode types_start_at (λ y. omega arith) ∙ other f types_end_at e0 types_start_at (λ y. omega arith) ∙ stored d types_start_at s0 ld.size (omega arith), other g mode_at mode types_end_at (λ y. omega arith) ∙ stored f types_end_at e0 lf.size (omega arith)) (part_placed p0 q.variables);
        few_tests = few.tests;
        tests = rw (other g mode_at mode tests_start_at (λ y. omega arith) ∙ other f types_end_at e0 tests_start_at (λ y. omega arith) ∙ other d types_start_at s0 tests_start_at (λ y. omega arith) ∙ other c tests_end_at e4 tests_start_at (λ y. omega arith) ∙ stored a tests_start_at s4 la.size (omega arith), other g mode_at mode tests_end_at (λ y. omega arith) ∙ other f types_end_at e0 tests_end_at (λ y. omega arith) ∙ other d types_start_at s0 tests_end_at (λ y. omega arith) ∙ stored c tests_end_at e4 lc.size (omega arith)) (part_placed p4 q.tests);
      }
