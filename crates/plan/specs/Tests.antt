-- The tests of a rule whose references hold: their nodes and variables exist. Rests on the meaning's References.
use Rattle.std.specs.Prelude.{◌≡◌, true, ◌++◌}
use Prim.Native.Nat.{ℕ, ◌<◌}
use borrow.Author.Tests.{ltb-true}
use Rattle.std.proofs.Math.ListN.{length}
use Rattle.meaning.specs.Image.{Rule}
use Rattle.meaning.specs.References.{operand_names, condition_operands, condition_nodes, names, test_names, test_operands, variables_exist, test_nodes_exist, rule_holds}
use Rattle.meaning.specs.Matching.{left_nodes}
use Rattle.meaning.specs.Laws.Every.{Every, Every-true, Every-parts, Every-concat, Every-map}
use Rattle.meaning.specs.Laws.Tests.{clauses-true}
use Rattle.laws.specs.References.{OfVariables}

module _ (r : Rule) (holds : rule_holds r ≡ true) where
  -- their nodes are left nodes
  pub nodes-exist : Every (λ t. Every (λ a. a < left_nodes r) (condition_nodes t.condition)) r.tests
  unfolding rule_holds test_nodes_exist
  nodes-exist =
      Every-true _ _ (λ t e. Every-true _ _ (λ a q. ltb-true a (left_nodes r) q) (condition_nodes t.condition) e) r.tests
      (clauses-true _ holds 3)

  -- and their variables are the rule's
  pub variables-exist : Every (λ t. OfVariables (λ v. v < length r.variables) t) r.tests
  unfolding rule_holds variables_exist
  variables-exist =
      let Exists : ℕ → Type 0 = λ v. v < length r.variables in
      let sides = names r.left ++ names r.right in
      let exist = Every-true _ Exists (λ v e. ltb-true v _ e) (sides ++ test_names r) (clauses-true _ holds 0) in
      let tests = (Every-parts Exists sides (test_names r) exist).1 in
      let operands = Every-map _ operand_names (test_operands r) (Every-concat Exists _ tests) in
      Every-map _ (λ t. condition_operands t.condition) r.tests (Every-concat _ _ operands)
