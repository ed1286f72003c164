-- When conditions and tests are decided. Rests on plan's Plan and on the meaning's References and FirstMatch.
use mathlib.Core.Path.{◌≡◌, refl, sym, ◌∙◌, ap}
use mathlib.Core.Logic.{◌⊎◌, inl, inr}
use mathlib.Core.Option.{some, none}
use mathlib.Core.Bool.{false}
use mathlib.Core.List.{List, [], ◌∷◌, ◌++◌, map}
use Prim.Native.Nat.{ℕ, suc, ◌+◌, ◌-◌, ◌<◌, ◌≤◌, max}
use native.Mathlib.Omega.{arith}
use native.Mathlib.Decide.{ℕ_discrete}
use lib.ListN.{length, get_or, set, take, drop, length-drop}
use Rattle.meaning.specs.Basics.{concat}
use Rattle.meaning.specs.Image.{Rule, field, only, passes_all, test, most_items, limits}
use Rattle.meaning.specs.References.{operand_names, condition_operands, condition_nodes, labels}
use Rattle.meaning.specs.Matching.{left_nodes}
use Rattle.meaning.specs.FirstMatch.{first_with, highest, decided_at}
use Rattle.meaning.specs.Laws.Every.{Every, Every-in, Every-then}
use Rattle.laws.specs.References.{OfVariables}
use Rattle.laws.specs.Assignment.{labels_length}
use Rattle.meaning.specs.declared.Operand.{Operand}
use Rattle.meaning.specs.declared.Operand.TheVariants.{Constant as constant_operand, Variable as variable_operand}
use Rattle.meaning.specs.declared.Condition.{Condition}
use Rattle.meaning.specs.declared.Condition.TheVariants.{Edge, InDegree, OutDegree, Equal, Less}
use Rattle.meaning.specs.declared.Test.{Test}
use Rattle.fields.specs.Laws.{Lies}
use Rattle.parts.specs.Series.{Series, only-series, series-none, series-some, series-there}
use Rattle.plan.specs.Plan.{test_of, Planned, decides_at, first_at, tests_at}
use Rattle.planning.specs.Planning.{Named, AllLabelled, Valued, Decides, operand_decided, decided_by}
use Rattle.plan.specs.Tests.{nodes-exist, variables-exist}
use Rattle.plan.specs.Places.{drop_head}
use Rattle.planning.proofs.Variables.{first-low}
use Rattle.planning.proofs.Stores.{other, stored, all-kept}

-- Operands.

module _ (plan : List ℕ) (o : Operand) where
  pub valued : Valued plan o → {v : ℕ} → o ≡ variable_operand v → (v < limits.variables) × (get_or plan (first_at + v) 0 ≤ most_items)
  unfolding operand_names
  valued w {v} e = let a = w.variables in (rw e at a).0

  pub of-constant : {c : ℕ} → o ≡ constant_operand c → 0 ≡ operand_decided plan o
  unfolding operand_decided
  of-constant e = rw e

  pub of-variable : {v : ℕ} → o ≡ variable_operand v → get_or plan (first_at + v) 0 + 1 ≡ operand_decided plan o
  unfolding operand_decided
  of-variable e = rw e

-- Conditions.

module _ (plan : List ℕ) (c : Condition) where
  pub edge-nodes : Decides plan c → {a b : ℕ} → c ≡ Edge a b → (a < limits.nodes) × (b < limits.nodes)
  unfolding condition_nodes
  edge-nodes w e = let n = w.nodes in let m = rw e at n in (m.0, m.1.0)

  pub degree-node : Decides plan c → {a : ℕ} → ((n : ℕ) × (c ≡ InDegree a n)) ⊎ ((n : ℕ) × (c ≡ OutDegree a n)) → a < limits.nodes
  unfolding condition_nodes
  degree-node w (inl k) = let n = w.nodes in let e = k.1 in (rw e at n).0
  degree-node w (inr k) = let n = w.nodes in let e = k.1 in (rw e at n).0

  pub relation-operands : Decides plan c → {a b : Operand} → (c ≡ Equal a b) ⊎ (c ≡ Less a b) → Valued plan a × Valued plan b
  unfolding condition_operands
  relation-operands w (inl e) = let n = w.operands in let m = rw e at n in (m.0, m.1.0)
  relation-operands w (inr e) = let n = w.operands in let m = rw e at n in (m.0, m.1.0)

  pub of-edge : {a b m : ℕ} → c ≡ Edge a b → m ≡ max a b → m + 1 ≡ decided_by plan c
  unfolding decided_by highest condition_nodes condition_operands concat
  of-edge e h = rw e (omega arith)

  pub of-degree : {a : ℕ} → ((n : ℕ) × (c ≡ InDegree a n)) ⊎ ((n : ℕ) × (c ≡ OutDegree a n)) → a + 1 ≡ decided_by plan c
  unfolding decided_by highest condition_nodes condition_operands concat
  of-degree (inl k) = let e = k.1 in rw e (omega arith)
  of-degree (inr k) = let e = k.1 in rw e (omega arith)

of-both : (plan : List ℕ) (a b : Operand)
    → max (operand_decided plan a) (operand_decided plan b) ≡ highest (map suc (map (λ v. get_or plan (first_at + v) 0) (operand_names a ++ (operand_names b ++ []))))
unfolding operand_decided highest operand_names
of-both plan (constant_operand x) (constant_operand y) = omega arith
of-both plan (constant_operand x) (variable_operand w) = omega arith
of-both plan (variable_operand v) (constant_operand y) = omega arith
of-both plan (variable_operand v) (variable_operand w) = omega arith

module _ (plan : List ℕ) (c : Condition) {a b : Operand} {m x y : ℕ} (h : m ≡ max x y) (i : x ≡ operand_decided plan a) (j : y ≡ operand_decided plan b) where
  pub of-relation : (c ≡ Equal a b) ⊎ (c ≡ Less a b) → m ≡ decided_by plan c
  unfolding decided_by condition_nodes condition_operands concat
  of-relation (inl e) = rw (e, h, i, j) (of-both plan a b)
  of-relation (inr e) = rw (e, h, i, j) (of-both plan a b)

-- Lists.

every_append : {A : Type 0} (P : A → Type 0) (l m : List A) → Every P l → Every P m → Every P (l ++ m)
every_append P [] m e f = f
every_append P (a ∷ l) m e f = (e.0, every_append P l m e.1 f)

every-join : (P : ℕ → Type 0) (os : List Operand) → Every (λ o. Every P (operand_names o)) os → Every P (concat (map operand_names os))
unfolding concat
every-join P [] e = tt
every-join P (o ∷ os) e = every_append P (operand_names o) _ e.0 (every-join P os e.1)

map_same : (f g : ℕ → ℕ) (l : List ℕ) → Every (λ v. f v ≡ g v) l → map f l ≡ map g l
map_same f g [] e = refl
map_same f g (v ∷ l) e = let t = map_same f g l e.1 in let h = e.0 in cc

-- A test of a plan that has the first item with each variable.

module _ {bs : List ℕ} {r : Rule} {plan : List ℕ} (w : Named bs r plan (length r.variables)) (t : ℕ) (h : t < length r.tests) where
  abbrev c : Condition
  c = (test_of r t).condition

  exist : Every (λ o. Every (λ v. v < length r.variables) (operand_names o)) (condition_operands c)
  exist = Every-in (λ x. OfVariables (λ v. v < length r.variables) x) r.tests (variables-exist r w.laid.holds) t h _

  pub decides : Decides plan c
  decides =
      let few = w.laid.items.few_nodes in
      let fewer = w.laid.items.few_edges in
      let low : (v : ℕ) → v < length r.variables → (v < limits.variables) × (get_or plan (first_at + v) 0 ≤ most_items) = λ v k.
      (omega (arith, w.laid.few_variables), omega (arith, (w.first v k).item, first-low v (labels r.left), labels_length r))
      in
      record {
        nodes = Every-then (λ a. a < left_nodes r) (λ a. a < limits.nodes) (λ a k. omega arith) (condition_nodes c) (Every-in (λ x. Every (λ a. a < left_nodes r) (condition_nodes x.condition)) r.tests (nodes-exist r w.laid.holds) t h _);
        operands = Every-then _ (Valued plan) (λ o k. record { size = w.laid.items.size; variables = Every-then _ _ low (operand_names o) k }) (condition_operands c) exist;
      }

  pub decided-same : decided_by plan c ≡ decided_at r (test_of r t)
  unfolding decided_by decided_at
  decided-same =
      ap (λ (l : List ℕ). highest (map suc (condition_nodes c ++ l)))
      (map_same (λ v. get_or plan (first_at + v) 0) (λ v. first_with v (labels r.left)) (concat (map operand_names (condition_operands c)))
      (every-join _ (condition_operands c) (Every-then _ _ (λ o. Every-then _ _ (λ v k. (w.first v k).item) (operand_names o)) (condition_operands c) exist)))

-- The loop over the tests, whose bytes are p: those before number t are decided, and those from it on stand at the place.

pub record Deciding (bs : List ℕ) (r : Rule) (plan p : List ℕ) (at t : ℕ) : Type 0 where
  pub labelled : AllLabelled bs r plan
  pub decided : (u : ℕ) → u < t → get_or plan (decides_at + u) 0 ≡ decided_at r (test_of r u)
  pub few : t ≤ length r.tests
  pub left : Series test (drop t r.tests) [] (drop at p)

pub deciding_start : {bs : List ℕ} {r : Rule} {plan p : List ℕ} → AllLabelled bs r plan → only passes_all test limits.tests p ≡ some r.tests → Deciding bs r plan p 0 0
deciding_start {r = r} {p = p} w e =
    record {
      labelled = w;
      decided = λ u h. absurd (omega arith);
      few = omega arith;
      left = only-series passes_all test test (λ tag cs a h e. e) limits.tests p r.tests e;
    }

module _ {bs : List ℕ} {r : Rule} {plan p : List ℕ} {at t : ℕ} (w : Deciding bs r plan p at t) where
  pub deciding_cut : at < length p → field (drop at p) ≡ none → ⊥
  deciding_cut h k = series-there test p at (drop t r.tests) w.left h k

  pub deciding_done : length p ≤ at → Planned bs r (set plan 3 t)
  deciding_done h =
      let e : length (drop t r.tests) ≡ 0 = ap length (series-none test p at (drop t r.tests) w.left h) in
      let z : t ≡ length r.tests = omega (arith, e, length-drop t r.tests, w.few) in
      let n = all-kept plan 3 t (λ k. absurd (k refl)) w.labelled in
      record {
        laid = n.named.laid;
        first = n.named.first;
        labelled = n.labelled;
        tests = stored plan 3 t w.labelled.named.laid.items.size (omega arith) ∙ z;
        decided = λ u k. other plan tests_at t (decides_at + u) (λ q. omega arith) ∙ w.decided u (omega arith);
      }

  module _ {tag start end : ℕ} {part : List ℕ} {x : Test} (h : at < length p) (k : Lies p at tag start end) (is : part ≡ take (end - start) (drop start p)) (q : (y : Test) → test tag part ≡ some y → x ≡ y) where
    next : (t < length r.tests) × (x ≡ test_of r t) × (Series test (drop (t + 1) r.tests) [] (drop end p))
    next =
        let n = series-some test p at (drop t r.tests) w.left h tag start end k in
        let d = drop_head (record { negated = false; condition = Edge 0 0 }) r.tests t n.first n.others n.parts in
        (d.0, q n.first (ap (test tag) is ∙ n.read) ∙ sym d.1, rw d.2 n.series)

    pub next_low : t < 4
    next_low = omega (arith, next.0, w.labelled.named.laid.few_tests)

    pub next-decides : Decides plan x.condition
    next-decides = rw next.1 (decides w.labelled.named t next.0)

    pub deciding_next : {n : ℕ} → n ≡ decided_by plan x.condition → Deciding bs r (set plan (decides_at + t) n) p end (t + 1)
    deciding_next {n} e =
        let low = next_low in
        record {
          labelled = all-kept plan (decides_at + t) n (λ i. (omega arith, omega arith)) w.labelled;
          decided = λ u i. go u i (ℕ_discrete u t);
          few = omega (arith, next.0);
          left = next.2;
        }
      where
        go : (u : ℕ) → u < t + 1 → Dec (u ≡ t) → get_or (set plan (decides_at + t) n) (decides_at + u) 0 ≡ decided_at r (test_of r u)
        go u i (yes z) = rw z (stored plan (decides_at + t) n w.labelled.named.laid.items.size (omega (arith, next_low)) ∙ e ∙ ap (λ (y : Test). decided_by plan y.condition) next.1 ∙ decided-same w.labelled.named t next.0)
        go u i (no z) = other plan (decides_at + t) n (decides_at + u) (λ y. z (omega arith)) ∙ w.decided u (omega arith)
