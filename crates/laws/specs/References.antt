-- What the tests of references say of a rule's left side, and of the variables of its tests. Rests on the meaning's References.
use Rattle.std.specs.Prelude.{◌≡◌, true, get_or}
use Rattle.std.proofs.Math.Bool.{false}
use mathlib.Core.List.{[], ◌++◌}
use Prim.Native.Nat.{ℕ, ◌<◌, ◌≤◌}
use Rattle.std.proofs.Common.{arith}
use borrow.Author.Tests.{ltb-true, leb-true, not-true}
use Rattle.std.proofs.Math.ListN.{length}
use Rattle.meaning.specs.Basics.{every, absent}
use Rattle.meaning.specs.Image.{Rule, is_type}
use Rattle.meaning.specs.References.{operand_names, element_names, condition_operands, names, labels, elements, test_names, test_operands, is_plain, lists, variables_exist, ends_exist, left_plain, left_simple, variables_on_left, rule_holds}
use Rattle.meaning.specs.Matching.{left_edge, left_nodes, left_edges}
use Rattle.meaning.specs.Laws.Tests.{both_true, every_true, clauses-true}
use Rattle.meaning.specs.Laws.Every.{Every, Every-true, Every-at, Every-parts, Every-concat, Every-map, Every-then, Every-with}
use Rattle.meaning.specs.declared.Test.{Test}

-- the rules that references and form ask for
pub record Sound (r : Rule) : Type 0 where
  pub holds : rule_holds r ≡ true
  pub types : every is_type r.variables ≡ true

-- P of each variable that the test names
abbrev pub OfVariables : (ℕ → Type 0) → Test → Type 0
OfVariables P t = Every (λ o. Every P (operand_names o)) (condition_operands t.condition)

pub variables-then : (P Q : ℕ → Type 0) → ((v : ℕ) → P v → Q v) → (t : Test) → OfVariables P t → OfVariables Q t
variables-then P Q f t = Every-then _ _ (λ o. Every-then P Q f (operand_names o)) (condition_operands t.condition)

pub variables-with : (P Q R : ℕ → Type 0) → ((v : ℕ) → P v → Q v → R v) → (t : Test) → OfVariables P t → OfVariables Q t → OfVariables R t
variables-with P Q R f t = Every-with _ _ _ (λ o. Every-with P Q R f (operand_names o)) (condition_operands t.condition)

module _ (r : Rule) (holds : rule_holds r ≡ true) where
  -- a left label has no sum or difference
  pub left-plain : Every (λ x. is_plain x ≡ true) (elements r.left)
  unfolding rule_holds left_plain
  left-plain = Every-true is_plain _ (λ x e. e) (elements r.left) (clauses-true _ holds 5)

  pub label-plain : (i : ℕ) → Every (λ x. is_plain x ≡ true) (get_or (labels r.left) i [])
  label-plain = Every-at (λ l. Every (λ x. is_plain x ≡ true) l) [] tt (labels r.left) (Every-concat _ (labels r.left) left-plain)

  -- and at most one list variable
  pub label-simple : (i : ℕ) → lists r (get_or (labels r.left) i []) ≤ 1
  unfolding rule_holds left_simple lists
  label-simple =
      Every-at (λ l. lists r l ≤ 1) [] (omega arith) (labels r.left)
      (Every-true _ _ (λ l e. leb-true (lists r l) 1 e) (labels r.left) (clauses-true _ holds 6))

  -- its variables exist
  pub label-variables : (i : ℕ) → Every (λ x. Every (λ v. v < length r.variables) (element_names x)) (get_or (labels r.left) i [])
  unfolding rule_holds variables_exist
  label-variables =
      let Exists : ℕ → Type 0 = λ v. v < length r.variables in
      let sides = names r.left ++ names r.right in
      let exist = Every-true _ Exists (λ v e. ltb-true v _ e) (sides ++ test_names r) (clauses-true _ holds 0) in
      let left = (Every-parts Exists (names r.left) (names r.right) (Every-parts Exists sides (test_names r) exist).0).0 in
      Every-at (λ l. Every (λ x. Every Exists (element_names x)) l) [] tt (labels r.left)
      (Every-concat _ (labels r.left) (Every-map _ element_names (elements r.left) (Every-concat Exists _ left)))

  -- a left edge's ends are left nodes
  pub ends : (k : ℕ) → k < left_edges r → ((left_edge r k).source < left_nodes r) × ((left_edge r k).target < left_nodes r)
  unfolding rule_holds ends_exist
  ends k h =
      let t = both_true _ _ (every_true _ r.left.edges _ (clauses-true _ holds 1) k h) in
      (ltb-true _ _ t.0, ltb-true _ _ t.1)

  -- a test's variables occur on the left
  pub tests_left : Every (λ t. OfVariables (λ v. absent v (names r.left) ≡ false) t) r.tests
  unfolding rule_holds variables_on_left
  tests_left =
      let Occurs : ℕ → Type 0 = λ v. absent v (names r.left) ≡ false in
      let occur = Every-true _ Occurs (λ v e. not-true _ e) (names r.right ++ test_names r) (clauses-true _ holds 8) in
      let tests = (Every-parts Occurs (names r.right) (test_names r) occur).1 in
      let operands = Every-map _ operand_names (test_operands r) (Every-concat Occurs _ tests) in
      Every-map _ (λ t. condition_operands t.condition) r.tests (Every-concat _ _ operands)
