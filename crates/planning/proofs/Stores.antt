-- Stores into a plan: what they keep of it, and what they add. Rests on plan's Plan.
use mathlib.Core.Path.{◌≡◌, sym, ◌∙◌, ap}
use mathlib.Core.List.{List}
use Prim.Native.Nat.{ℕ, ◌+◌, ◌-◌, ◌<◌, ◌≤◌}
use native.Mathlib.Omega.{arith}
use native.Mathlib.Decide.{ℕ_discrete}
use lib.Dec.{eqb}
use lib.ListN.{length, get_or, set, length-set}
use lib.Seq.{get_or-set_same, get_or-set_other}
use Rattle.meaning.specs.Image.{RuleGraph, Rule, limits}
use Rattle.fields.specs.Parsed.{types-is}
use Rattle.plan.specs.Plan.{Items, Laid, FirstAt, Labelled, constant_at, elements_at, lists_at, plan_length, sort_at, types_end_at, types_start_at, before_at, end_at, first_at, singles_at, start_at, decides_at, edges_at, interface_at, mode_at, nodes_at, tests_at, tests_end_at, tests_start_at}
use Rattle.planning.specs.Planning.{Named, AllLabelled}
use Rattle.plan.specs.Places.{part_length}

module _ (plan : List ℕ) (j x : ℕ) where
  pub other : (i : ℕ) → (i ≡ j → ⊥) → get_or (set plan j x) i 0 ≡ get_or plan i 0
  other i h = get_or-set_other plan j i x 0 h

  pub stored : length plan ≡ plan_length → j < plan_length → get_or (set plan j x) j 0 ≡ x
  stored e h = get_or-set_same plan j x 0 (omega arith)

-- A plan that says the same as another in the places that matter.

module _ {plan after : List ℕ} (size : length after ≡ length plan) where
  items-same : ((x : ℕ) → x < first_at → (interface_at ≤ x → start_at ≤ x) → get_or after x 0 ≡ get_or plan x 0) → {bs : List ℕ} {g : RuleGraph} → Items bs g plan → Items bs g after
  items-same same {bs} {g} l =
      record {
        size = size ∙ l.size;
        nodes = same nodes_at (omega arith) (λ h. omega arith) ∙ l.nodes;
        edges = same edges_at (omega arith) (λ h. omega arith) ∙ l.edges;
        few_nodes = l.few_nodes;
        few_edges = l.few_edges;
        node = λ i h.
            let f = l.few_nodes in
            rw (same (start_at + i) (omega arith) (λ k. omega arith), same (end_at + i) (omega arith) (λ k. omega arith)) (l.node i h);
        edge = λ k h.
            let f = l.few_nodes in
            let e = l.few_edges in
            let i : ℕ = length g.nodes + k in
            rw (same (start_at + i) (omega arith) (λ q. omega arith), same (end_at + i) (omega arith) (λ q. omega arith)) (l.edge k h);
      }

  laid_same : ((x : ℕ) → (x ≡ tests_at → ⊥) → (first_at ≤ x → tests_start_at ≤ x) → x < elements_at → get_or after x 0 ≡ get_or plan x 0) → {bs : List ℕ} {r : Rule} → Laid bs r plan → Laid bs r after
  laid_same same l =
      record {
        is = l.is;
        holds = l.holds;
        items = items-same (λ x h k. same x (λ e. let a = k (omega arith) in omega arith) (λ q. omega arith) (omega arith)) l.items;
        interface = same interface_at (λ e. omega arith) (λ h. omega arith) (omega arith) ∙ l.interface;
        mode = l.mode ∙ ap (λ (m : ℕ). eqb m 1) (sym (same mode_at (λ e. omega arith) (λ h. omega arith) (omega arith)));
        few_variables = l.few_variables;
        types = rw (same types_start_at (λ e. omega arith) (λ h. omega arith) (omega arith), same types_end_at (λ e. omega arith) (λ h. omega arith) (omega arith)) l.types;
        few_tests = l.few_tests;
        tests = rw (same tests_start_at (λ e. omega arith) (λ h. omega arith) (omega arith), same tests_end_at (λ e. omega arith) (λ h. omega arith) (omega arith)) l.tests;
      }

  pub named-same : ((x : ℕ) → (x ≡ tests_at → ⊥) → (decides_at ≤ x → tests_start_at ≤ x) → (elements_at ≤ x → singles_at ≤ x) → get_or after x 0 ≡ get_or plan x 0) → {bs : List ℕ} {r : Rule} → Named bs r plan (length r.variables) → Named bs r after (length r.variables)
  named-same same w =
      let f = w.laid.few_variables in
      record {
        laid = laid_same (λ x h k q. same x h (λ y. k (omega arith)) (λ y. omega arith)) w.laid;
        first = λ v h.
            rw (same (first_at + v) (λ e. omega arith) (λ k. omega arith) (λ k. omega arith), same (singles_at + v) (λ e. omega arith) (λ k. omega arith) (λ k. omega arith), same (before_at + v) (λ e. omega arith) (λ k. omega arith) (λ k. omega arith))
            (w.first v h);
      }

  pub labelled-same : {r : Rule} {j : ℕ} → get_or after (elements_at + j) 0 ≡ get_or plan (elements_at + j) 0 → get_or after (lists_at + j) 0 ≡ get_or plan (lists_at + j) 0 → get_or after (sort_at + j) 0 ≡ get_or plan (sort_at + j) 0 → get_or after (constant_at + j) 0 ≡ get_or plan (constant_at + j) 0
      → Labelled r plan j → Labelled r after j
  labelled-same e l s k w =
      record {
        elements = e ∙ w.elements;
        lists = l ∙ w.lists;
        alone = λ q. w.alone (sym s ∙ q);
        constant = λ q. rw k (w.constant (sym s ∙ q));
      }

  all_same : ((x : ℕ) → (x ≡ tests_at → ⊥) → (decides_at ≤ x → tests_start_at ≤ x) → get_or after x 0 ≡ get_or plan x 0) → {bs : List ℕ} {r : Rule} → AllLabelled bs r plan → AllLabelled bs r after
  all_same same w =
      let at : (x : ℕ) → elements_at ≤ x → get_or after x 0 ≡ get_or plan x 0 = λ x h. same x (λ e. omega arith) (λ k. omega arith) in
      record {
        named = named-same (λ x h k q. same x h k) w.named;
        labelled = λ j h. labelled-same (at (elements_at + j) (omega arith)) (at (lists_at + j) (omega arith)) (at (sort_at + j) (omega arith)) (at (constant_at + j) (omega arith)) (w.labelled j h);
      }

-- One store.

module _ (plan : List ℕ) (j x : ℕ) where
  -- at a place that is none of the items' own
  pub items_kept : (j < first_at → (interface_at ≤ j) × (j < start_at)) → {bs : List ℕ} {g : RuleGraph} → Items bs g plan → Items bs g (set plan j x)
  items_kept apart =
      items-same (length-set plan j x) (λ i h k.
      other plan j x i (λ e. let a = apart (omega arith) in let b = k (omega arith) in omega arith))

  -- at a place of the tests' decisions, or that of the number of tests
  pub all-kept : ((j ≡ tests_at → ⊥) → (decides_at ≤ j) × (j < tests_start_at)) → {bs : List ℕ} {r : Rule} → AllLabelled bs r plan → AllLabelled bs r (set plan j x)
  all-kept apart =
      all_same (length-set plan j x) (λ i h k.
      other plan j x i (λ e. let a = apart (λ q. h (e ∙ q)) in let b = k (omega arith) in omega arith))

-- as many types as variables
pub types-count : {bs : List ℕ} {r : Rule} {plan : List ℕ} → Laid bs r plan → get_or plan types_end_at 0 - get_or plan types_start_at 0 ≡ length r.variables
types-count {bs} {r} {plan} l =
    sym (part_length bs (get_or plan types_start_at 0) (get_or plan types_end_at 0) l.types.ordered l.types.inside) ∙ ap length (sym (types-is _ _ l.types.is).0)

-- What is said of one variable: three stores.

module _ {bs : List ℕ} {r : Rule} {plan : List ℕ} {v j s q : ℕ} (low : v < limits.variables) (w : Named bs r plan v) (f : FirstAt r v j s q) where
  abbrev one : List ℕ
  one = set plan (first_at + v) j

  abbrev two : List ℕ
  two = set one (singles_at + v) s

  abbrev three : List ℕ
  three = set two (before_at + v) q

  kept : (x : ℕ) → (x ≡ first_at + v → ⊥) → (x ≡ singles_at + v → ⊥) → (x ≡ before_at + v → ⊥) → get_or three x 0 ≡ get_or plan x 0
  kept x a b c = other two (before_at + v) q x c ∙ other one (singles_at + v) s x b ∙ other plan (first_at + v) j x a

  named-at : (u : ℕ) → u < v + 1 → Dec (u ≡ v) → FirstAt r u (get_or three (first_at + u) 0) (get_or three (singles_at + u) 0) (get_or three (before_at + u) 0)
  named-at u h (yes e) =
      let n = w.laid.items.size in
      let n1 : length one ≡ plan_length = length-set plan (first_at + v) j ∙ n in
      let n2 : length two ≡ plan_length = length-set one (singles_at + v) s ∙ n1 in
      let a : get_or three (first_at + v) 0 ≡ j = other two (before_at + v) q (first_at + v) (λ z. omega arith) ∙ other one (singles_at + v) s (first_at + v) (λ z. omega arith) ∙ stored plan (first_at + v) j n (omega arith) in
      let b : get_or three (singles_at + v) 0 ≡ s = other two (before_at + v) q (singles_at + v) (λ z. omega arith) ∙ stored one (singles_at + v) s n1 (omega arith) in
      let c : get_or three (before_at + v) 0 ≡ q = stored two (before_at + v) q n2 (omega arith) in
      rw (e, a, b, c) f
  named-at u h (no e) =
      rw (kept (first_at + u) (λ z. e (omega arith)) (λ z. omega arith) (λ z. omega arith), kept (singles_at + u) (λ z. omega arith) (λ z. e (omega arith)) (λ z. omega arith), kept (before_at + u) (λ z. omega arith) (λ z. omega arith) (λ z. e (omega arith)))
      (w.first u (omega arith))

  pub named_more : Named bs r three (v + 1)
  named_more =
      record {
        laid = laid_same (length-set two (before_at + v) q ∙ length-set one (singles_at + v) s ∙ length-set plan (first_at + v) j) (λ x a b c.
            kept x (λ e. let k = b (omega arith) in omega arith) (λ e. omega arith) (λ e. omega arith)) w.laid;
        first = λ u h. named-at u h (ℕ_discrete u v);
      }
