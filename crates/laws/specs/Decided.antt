-- Tests under the assignment that a placement gives: a test hangs on the slots of its nodes and the values of its variables
-- alone, so that a placement's front decides it as soon as it has them. Rests on the meaning's FirstMatch and on Assignment.
use Rattle.std.specs.Prelude.{◌≡◌, Bool, false, not, ℕ, suc, ◌+◌, ◌<◌, ◌≤◌, eqb, get_or, take}
use Rattle.std.proofs.Math.Path.{refl}
use Rattle.std.proofs.Common.{sym, ◌∙◌, arith}
use Rattle.std.proofs.Math.Bool.{true}
use mathlib.Core.List.{List, [], ◌∷◌, ◌++◌, map}
use Rattle.std.proofs.Math.Decide.{ℕ_discrete}
use Rattle.std.proofs.Math.ListN.{length}
use Rattle.std.proofs.Math.Seq.{get_or-take, length-take-le}
use Rattle.meaning.specs.Basics.{choose, both, either, every, absent, concat}
use Rattle.meaning.specs.Layout.{Host}
use Rattle.meaning.specs.Image.{Rule, is_type}
use Rattle.meaning.specs.References.{element_names, operand_names, condition_operands, condition_nodes, names, labels, is_plain, rule_holds}
use Rattle.meaning.specs.Matching.{Assignment, atom_of, left_nodes, left_edges, node_slot, condition_holds, test_holds}
use Rattle.meaning.specs.Assigned.{assigned, is_variable}
use Rattle.meaning.specs.FirstMatch.{has, first_with, highest, decided_at, tests_so_far}
use Rattle.meaning.specs.Laws.Tests.{choose_ne, choose_eq}
use Rattle.meaning.specs.Laws.Every.{Every, Every-true, Every-of, Every-parts, Every-concat, Every-map, Every-all, Every-then, Every-with}
use Rattle.laws.specs.References.{OfVariables, variables-then, variables-with, left-plain, tests_left}
use Rattle.laws.specs.Assignment.{Labelled, labels_length, assigned-take, assigned-is}
use Rattle.meaning.specs.declared.Operand.{Operand}
use Rattle.meaning.specs.declared.Operand.TheVariants.{Constant as constant_operand, Variable as variable_operand}
use Rattle.meaning.specs.declared.Element.{Element}
use Rattle.meaning.specs.declared.Element.TheVariants.{Constant, Variable, Sum, Difference}
use Rattle.meaning.specs.declared.Condition.{Condition}
use Rattle.meaning.specs.declared.Condition.TheVariants.{Edge, InDegree, OutDegree, Equal, Less}
use Rattle.meaning.specs.declared.Test.{Test}

-- A test hangs on the slots of its nodes and the values of its variables.

module _ (h : Host) (p q : List ℕ) (α β : Assignment) where
  atom-same : (o : Operand) → Every (λ v. α v ≡ β v) (operand_names o) → atom_of α o ≡ atom_of β o
  unfolding operand_names atom_of
  atom-same (constant_operand c) e = refl
  atom-same (variable_operand v) e = rw e.0

  condition-same : (c : Condition) → Every (λ a. node_slot p a ≡ node_slot q a) (condition_nodes c)
      → Every (λ o. Every (λ v. α v ≡ β v) (operand_names o)) (condition_operands c) → condition_holds h p α c ≡ condition_holds h q β c
  unfolding condition_nodes condition_operands condition_holds
  condition-same (Edge a b) n e = rw (n.0, n.1.0)
  condition-same (InDegree a m) n e = rw n.0
  condition-same (OutDegree a m) n e = rw n.0
  condition-same (Equal a b) n e = rw (atom-same a e.0, atom-same b e.1.0)
  condition-same (Less a b) n e = rw (atom-same a e.0, atom-same b e.1.0)

  pub test-same : (t : Test) → Every (λ a. node_slot p a ≡ node_slot q a) (condition_nodes t.condition)
      → OfVariables (λ v. α v ≡ β v) t → test_holds h p α t ≡ test_holds h q β t
  unfolding test_holds
  test-same t n e = rw (condition-same t.condition n e)

-- A test's variables occur on the left, each in the first label that has it.

-- the names of plain elements behind a label that has no v have v as all together have
names-behind : (v : ℕ) (l m : List Element) → Every (λ x. is_plain x ≡ true) l → has v l ≡ false
    → absent v (concat (map element_names (l ++ m))) ≡ absent v (concat (map element_names m))
unfolding is_plain has element_names is_variable either concat absent both
names-behind v [] m p e = refl
names-behind v (Constant c ∷ l) m p e = names-behind v l m p.1 e
names-behind v (Variable w ∷ l) m p e = at (eqb w v) e (names-behind v l m p.1)
  where
    at : (b : Bool) → either b (has v l) ≡ false
        → (has v l ≡ false → absent v (concat (map element_names (l ++ m))) ≡ absent v (concat (map element_names m)))
        → both (not b) (absent v (concat (map element_names (l ++ m)))) ≡ absent v (concat (map element_names m))
    at true e ih = let z : ◌≡◌ {A = ℕ} 0 1 = cc in absurd (omega arith)
    at false e ih = ih e
names-behind v (Sum a b ∷ l) m p e = let f = p.0 in let z : ◌≡◌ {A = ℕ} 0 1 = cc in absurd (omega arith)
names-behind v (Difference a b ∷ l) m p e = let f = p.0 in let z : ◌≡◌ {A = ℕ} 0 1 = cc in absurd (omega arith)

pub first-with : (v : ℕ) (ls : List (List Element)) → Every (λ x. is_plain x ≡ true) (concat ls)
    → absent v (concat (map element_names (concat ls))) ≡ false
    → (first_with v ls < length ls) × (has v (get_or ls (first_with v ls) []) ≡ true)
unfolding concat absent first_with choose
first-with v [] p e = let z : ◌≡◌ {A = ℕ} 0 1 = cc in absurd (omega arith)
first-with v (l ∷ ls) p e =
    let t = Every-parts _ l (concat ls) p in
    at (has v l) refl (λ q. first-with v ls t.1 (sym (names-behind v l (concat ls) t.0 q) ∙ e))
  where
    at : (b : Bool) → has v l ≡ b
        → (has v l ≡ false → (first_with v ls < length ls) × (has v (get_or ls (first_with v ls) []) ≡ true))
        → (choose b 0 (suc (first_with v ls)) < suc (length ls)) × (has v (get_or (l ∷ ls) (choose b 0 (suc (first_with v ls))) []) ≡ true)
    at true q ih = (omega arith, q)
    at false q ih = let t = ih q in (omega (arith, t.0), t.1)

-- each of the numbers is below the highest of their successors
pub highest-each : (n : ℕ) (l : List ℕ) → highest (map suc l) ≤ n → Every (λ a. a < n) l
unfolding highest
highest-each n [] h = tt
highest-each n (a ∷ l) h = (omega arith, highest-each n l (omega arith))

module _ (h : Host) (r : Rule) (p : List ℕ) (size : length p ≡ left_nodes r + left_edges r) (holds : rule_holds r ≡ true) where
  -- v is on the left: among the names, and in the first label that has it
  abbrev OnLeft : ℕ → Type 0
  OnLeft v = absent v (names r.left) ≡ false

  abbrev first_label : ℕ → ℕ
  first_label v = first_with v (labels r.left)

  first : (v : ℕ) → OnLeft v → (first_label v < length p) × (has v (get_or (labels r.left) (first_label v) []) ≡ true)
  first v e = let t = first-with v (labels r.left) (left-plain r holds) e in (omega (arith, t.0, labels_length r), t.1)

  -- where all tests pass f, and g passes with f, all pass g
  each-test : (f g : Test → Bool) → ((t : Test) → OfVariables OnLeft t → f t ≡ true → g t ≡ true)
      → every f r.tests ≡ true → every g r.tests ≡ true
  each-test f g i e =
      Every-of g r.tests (Every-with _ _ _ i r.tests (tests_left r holds) (Every-true f _ (λ t q. q) r.tests e))

  -- a test that the first n items decide holds there as it does in the whole
  decided : (n : ℕ) (t : Test) → OfVariables OnLeft t → decided_at r t ≤ n
      → test_holds h (take n p) (assigned h r (take n p)) t ≡ test_holds h p (assigned h r p) t
  unfolding decided_at
  decided n t l d =
      let nodes = condition_nodes t.condition in
      let variables = concat (map operand_names (condition_operands t.condition)) in
      let parts = Every-parts _ nodes (map first_label variables) (highest-each n (nodes ++ map first_label variables) d) in
      let below = Every-map _ operand_names (condition_operands t.condition) (Every-concat _ _ (Every-map _ first_label variables parts.1)) in
      test-same h (take n p) p (assigned h r (take n p)) (assigned h r p) t
      (Every-then _ _ (λ a k. get_or-take n p a 0 k) nodes parts.0)
      (variables-with OnLeft _ _ (λ v e k. let f = first v e in assigned-take h r p size n _ v k f.0 f.1) t l below)

  -- where all tests hold, those that the first n items decide hold so far
  pub tests_so_far_lem : (n : ℕ) → n ≤ length p → every (test_holds h p (assigned h r p)) r.tests ≡ true
      → tests_so_far h r (take n p) ≡ true
  unfolding tests_so_far
  tests_so_far_lem n k = each-test _ _ (λ t l f. at t l f (ℕ_discrete (decided_at r t) (length (take n p))))
    where
      at : (t : Test) → OfVariables OnLeft t → test_holds h p (assigned h r p) t ≡ true → Dec (decided_at r t ≡ length (take n p))
          → choose (eqb (decided_at r t) (length (take n p))) (test_holds h (take n p) (assigned h r (take n p)) t) true ≡ true
      at t l f (yes d) = choose_eq _ _ _ _ d ∙ decided n t l (omega (arith, length-take-le n p k)) ∙ f
      at t l f (no d) = choose_ne _ _ _ _ d

  -- tests hold under the placement's assignment as under any that its labels agree with
  pub tests_same : every is_type r.variables ≡ true → (β : Assignment) → Labelled h r p β
      → every (test_holds h p β) r.tests ≡ true → every (test_holds h p (assigned h r p)) r.tests ≡ true
  tests_same types β a = each-test _ _ (λ t l f. same t l ∙ f)
    where
      same : (t : Test) → OfVariables OnLeft t → test_holds h p (assigned h r p) t ≡ test_holds h p β t
      same t l =
          test-same h p p (assigned h r p) β t (Every-all _ (λ a. refl) (condition_nodes t.condition))
          (variables-then OnLeft _ (λ v e. let f = first v e in assigned-is h r p size holds types β a _ v f.0 f.1) t l)
