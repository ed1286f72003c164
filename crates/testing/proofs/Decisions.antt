-- Tests that a placement decides: their nodes are placed and their variables have values. Rests on Testing, on
-- plan's Tests and on laws' References and Decided.
use mathlib.Core.Path.{◌≡◌, sym, ◌∙◌}
use mathlib.Core.Bool.{Bool, true, false}
use mathlib.Core.List.{List, ◌++◌, map}
use Prim.Native.Nat.{ℕ, ◌+◌, ◌<◌, ◌≤◌}
use native.Mathlib.Omega.{arith}
use lib.Dec.{eqb}
use lib.ListN.{length, get_or}
use Rattle.std.specs.Bool.{MatchBool}
use Rattle.meaning.specs.Basics.{choose, concat, absent, every}
use Rattle.meaning.specs.Layout.{Host}
use Rattle.meaning.specs.Image.{Rule}
use Rattle.meaning.specs.References.{operand_names, condition_operands, condition_nodes, names, labels, rule_holds}
use Rattle.meaning.specs.Matching.{left_nodes, total, test_holds}
use Rattle.meaning.specs.Assigned.{assigned}
use Rattle.meaning.specs.FirstMatch.{first_with, decided_at}
use Rattle.meaning.specs.Laws.Tests.{choose_eq, choose_ne, every_of}
use Rattle.meaning.specs.Laws.Loops.{every-fails}
use Rattle.meaning.specs.Laws.Every.{Every, Every-in, Every-parts, Every-concat, Every-map, Every-then}
use Rattle.laws.specs.References.{OfVariables, variables-with, left-plain, tests_left}
use Rattle.laws.specs.Assignment.{labels_length}
use Rattle.laws.specs.Decided.{first-with, highest-each}
use Rattle.meaning.specs.declared.Condition.TheVariants.{Edge}
use Rattle.meaning.specs.declared.Test.{Test}
use Rattle.plan.specs.Plan.{test_of, decides_at, tests_at}
use Rattle.plan.specs.Tests.{nodes-exist, variables-exist}
use Rattle.agreeing.specs.Agreeing.{Valued}
use Rattle.testing.specs.Testing.{Decided, HasTest}
use Rattle.agreeing.specs.Placed.{Tried, Full}

-- what `test_of` has where there is no test
abbrev pub no_test : Test
no_test = record { negated = false; condition = Edge 0 0 }

-- the closure's answer to test t: whether it holds
abbrev pub Told : Host → List ℕ → List ℕ → List ℕ → ℕ → ℕ → ℕ → Bool → Type 0
Told h bs plan at i c t b =
    (w : HasTest h bs plan at i c t)
    → b ≡ test_holds h w.trial.placed (assigned h w.trial.rule w.trial.placed) (test_of w.trial.rule t)

module _ (r : Rule) (holds : rule_holds r ≡ true) where
  abbrev Exists : ℕ → Type 0
  Exists v = v < length r.variables

  module _ (q : List ℕ) (t : ℕ) (there : t < length r.tests) where
    abbrev this : Test
    this = test_of r t

    exist : OfVariables Exists this
    exist = Every-in (OfVariables Exists) r.tests (variables-exist r holds) t there no_test

    -- a test that is decided by no more items than are placed
    pub decided_so_far : decided_at r this ≤ length q → Decided r q this.condition
    unfolding decided_at
    decided_so_far d =
        let nodes = condition_nodes this.condition in
        let variables = concat (map operand_names (condition_operands this.condition)) in
        let first : ℕ → ℕ = λ v. first_with v (labels r.left) in
        let parts = Every-parts _ nodes (map first variables) (highest-each (length q) (nodes ++ map first variables) d) in
        let below = Every-map _ operand_names (condition_operands this.condition) (Every-concat _ _ (Every-map _ first variables parts.1)) in
        record { nodes = parts.0; operands = variables-with Exists (λ v. first v < length q) (Valued r q) (λ v e k. (e, k)) this exist below }

    -- any test, where all items are placed
    pub decided-whole : length q ≡ total r → Decided r q this.condition
    decided-whole s =
        let nodes = Every-in (λ x. Every (λ a. a < left_nodes r) (condition_nodes x.condition)) r.tests (nodes-exist r holds) t there no_test in
        let left = Every-in (OfVariables (λ v. absent v (names r.left) ≡ false)) r.tests (tests_left r holds) t there no_test in
        record {
          nodes = Every-then _ _ (λ a k. omega arith) (condition_nodes this.condition) nodes;
          operands = variables-with Exists (λ v. absent v (names r.left) ≡ false) (Valued r q)
              (λ v e k. (e, omega (arith, (first-with v (labels r.left) (left-plain r holds) k).0, labels_length r))) this exist left;
        }

-- The tests of a trial.

module _ {h : Host} {bs plan at : List ℕ} {i c : ℕ} (w : Full h bs plan at i c) where
  abbrev pub whole-test : (t : ℕ) → t < length w.trial.rule.tests → HasTest h bs plan at i c t
  whole-test t k =
      record { trial = w.trial; there = k; decided = decided-whole w.trial.rule w.trial.planned.laid.holds w.trial.placed t k w.whole }

module _ {h : Host} {bs plan at : List ℕ} {i c : ℕ} (w : Tried h bs plan at i c) where
  -- a test that the item tried decides holds
  abbrev pub so_far : Test → Bool
  so_far = λ t.
      choose (eqb (decided_at w.trial.rule t) (length w.trial.placed))
      (test_holds h w.trial.placed (assigned h w.trial.rule w.trial.placed) t) true

  module _ (t : ℕ) (there : t < length w.trial.rule.tests) where
    pub decides : get_or plan (decides_at + t) 0 ≡ i + 1 → decided_at w.trial.rule (test_of w.trial.rule t) ≡ length w.trial.placed
    decides e = sym (w.trial.planned.decided t there) ∙ e ∙ sym w.last

    pub decides_so_far : get_or plan (decides_at + t) 0 ≡ i + 1 → decided_at w.trial.rule (test_of w.trial.rule t) ≤ length w.trial.placed
    decides_so_far e = let d = decides e in omega arith

    abbrev pub tried-test : get_or plan (decides_at + t) 0 ≡ i + 1 → HasTest h bs plan at i c t
    tried-test e =
        record {
          trial = w.trial;
          there = there;
          decided = decided_so_far w.trial.rule w.trial.planned.laid.holds w.trial.placed t there (decides_so_far e);
        }

    pub so_far-yes : get_or plan (decides_at + t) 0 ≡ i + 1 → (b : Bool)
        → b ≡ test_holds h w.trial.placed (assigned h w.trial.rule w.trial.placed) (test_of w.trial.rule t)
        → so_far (test_of w.trial.rule t) ≡ b
    so_far-yes e b q = choose_eq (decided_at w.trial.rule (test_of w.trial.rule t)) (length w.trial.placed) _ _ (decides e) ∙ sym q

    pub so_far-no : (get_or plan (decides_at + t) 0 ≡ i + 1 → ⊥) → so_far (test_of w.trial.rule t) ≡ true
    so_far-no d =
        choose_ne (decided_at w.trial.rule (test_of w.trial.rule t)) (length w.trial.placed) _ _
        (λ e. d (w.trial.planned.decided t there ∙ e ∙ w.last))

-- What `all` answers over the tests' numbers, where its closure tells the test of each.

every-told : {A : Type 0} (f : A → Bool) (l : List A) (d : A) (Yes No : ℕ → Type 0) (n : ℕ) → n ≡ length l → (r : Bool)
    → MatchBool r ((k : ℕ) → k < n → Yes k) ((k : ℕ) × (k < n) × No k)
    → ((k : ℕ) → k < length l → Yes k → f (get_or l k d) ≡ true) → ((k : ℕ) → k < length l → No k → f (get_or l k d) ≡ false) → r ≡ every f l
every-told f l d Yes No n e true h y z = sym (every_of f l d (λ k j. y k j (h k (omega arith))))
every-told f l d Yes No n e false h y z = let j : h.0 < length l = omega (arith, h.1) in every-fails f l h.0 d j (z h.0 j h.2)

pub whole-told : {h : Host} {bs plan at : List ℕ} {i c : ℕ} (r : Bool) (w : Full h bs plan at i c)
    → MatchBool r ((t : ℕ) → t < get_or plan tests_at 0 → Told h bs plan at i c t true) ((t : ℕ) × (t < get_or plan tests_at 0) × Told h bs plan at i c t false)
    → r ≡ every (test_holds h w.trial.placed (assigned h w.trial.rule w.trial.placed)) w.trial.rule.tests
whole-told {h} {bs} {plan} {at} {i} {c} r w m =
    every-told _ w.trial.rule.tests no_test (λ t. Told h bs plan at i c t true) (λ t. Told h bs plan at i c t false) _ w.trial.planned.tests r m
    (λ t k y. sym (y (whole-test w t k))) (λ t k y. sym (y (whole-test w t k)))
