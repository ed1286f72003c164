-- What the walks ask, put beside what References ask of a rule. Rests on Asked and the meaning's References.
use mathlib.Core.Path.{◌≡◌, refl, sym, ◌∙◌, ap}
use mathlib.Core.Bool.{Bool, true, false, not}
use mathlib.Core.List.{List, [], ◌∷◌, ◌++◌, map}
use Prim.Native.Nat.{ℕ, zero, suc, ◌+◌, ◌<◌}
use native.Mathlib.Omega.{arith}
use borrow.Author.Tests.{ltb-true}
use lib.ListN.{length, get_or}
use lib.Dec.{eqb, leb, ltb}
use Rattle.std.specs.Prelude.{◌&&◌}
use Rattle.std.specs.List.{list_all, range_with_len}
use Rattle.meaning.specs.Basics.{choose, both, either, clauses, all, every, absent, concat}
use Rattle.meaning.specs.Image.{RuleGraph, Rule, Raw, RawProgram, rule}
use Rattle.meaning.specs.Tags.{any_mark, rule_tag}
use Rattle.meaning.specs.References.{operand_names, element_operands, element_names, condition_operands, is_plain, labels, elements, names, test_operands, test_names, takes_list, lists, operand_int, variables_exist, ends_exist, test_nodes_exist, interface_fits, left_plain, left_simple, operands_int, variables_on_left, any_kept, any_placed, rule_holds}
use Rattle.meaning.specs.Laws.Tests.{both_of, both_true, both_yes, both-last, either_left, either-right, every_append, every_map, every_true, absent-true, absent-false, all_of, all-no}
use Rattle.meaning.specs.declared.Operand.{Operand}
use Rattle.meaning.specs.declared.Operand.TheVariants.{Constant as constant_operand, Variable as variable_operand}
use Rattle.meaning.specs.declared.Element.{Element}
use Rattle.meaning.specs.declared.Element.TheVariants.{Constant, Variable, Sum, Difference}
use Rattle.references.specs.declared.Ask.{Ask}
use Rattle.references.specs.declared.Ask.TheVariants.{Left, Right, Lacks}
use Rattle.parts.specs.Series.{For}
use Rattle.parts.specs.Rows.{Item, node, edge, items, item_label}
use Rattle.parts.specs.Images.{rule_of, procedure_of, main_of, command_parts, image_part, image_parts, part-is, command-above}
use Rattle.references.specs.Asked.{int_operand, exist, operand_asked, element_asked, lists_in, ends_below, edge_marked, item_fits, item_asked, graph_asked, condition_fits, condition_asked, test_asked, sides_asked, kept_on_left, part_holds}
use Rattle.references.proofs.Asks.{absent_append, both-swap}

-- Tests over lists.

every-same : {A : Type 0} (f g : A → Bool) → ((a : A) → f a ≡ g a) → (l : List A) → every f l ≡ every g l
unfolding every
every-same f g h [] = refl
every-same f g h (a ∷ l) = rw (h a, every-same f g h l)

every-concat : {A : Type 0} (f : A → Bool) (ls : List (List A)) → every f (concat ls) ≡ every (every f) ls
unfolding every concat
every-concat f [] = refl
every-concat f (l ∷ ls) = every_append f l (concat ls) ∙ ap (both (every f l)) (every-concat f ls)

-- what is asked of everything that is gathered from a list
gather : {A B : Type 0} (f : B → Bool) (h : A → List B) (l : List A) → every f (concat (map h l)) ≡ every (λ x. every f (h x)) l
gather f h l = every-concat f (map h l) ∙ every_map (every f) h l

absent-every : (u : ℕ) (l : List ℕ) → absent u l ≡ every (λ a. not (eqb a u)) l
unfolding absent every
absent-every u [] = refl
absent-every u (a ∷ l) = ap (both (not (eqb a u))) (absent-every u l)

every-yes : {A : Type 0} (l : List A) → every (λ a. true) l ≡ true
unfolding every both
every-yes [] = refl
every-yes (a ∷ l) = every-yes l

every-false : {A : Type 0} (f : A → Bool) (l : List A) (d : A) → every f l ≡ false → (j : ℕ) × (j < length l) × (f (get_or l j d) ≡ false)
unfolding every both
every-false f [] d e = let z : ◌≡◌ {A = ℕ} 0 1 = cc in absurd (omega arith)
every-false {A} f (a ∷ l) d e = at (f a) refl e (every-false f l d)
  where
    at : (b : Bool) → f a ≡ b → both b (every f l) ≡ false → (every f l ≡ false → (j : ℕ) × (j < length l) × (f (get_or l j d) ≡ false)) → (j : ℕ) × (j < suc (length l)) × (f (get_or (a ∷ l) j d) ≡ false)
    at false q e r = (0, omega arith, q)
    at true q e r = let t = r e in (suc t.0, omega (arith, t.1), t.2)

both_assoc : (a b c : Bool) → both (both a b) c ≡ both a (both b c)
unfolding both
both_assoc true b c = refl
both_assoc false b c = refl

-- two questions of each
every-both : {A : Type 0} (f g : A → Bool) (l : List A) → every (λ a. both (f a) (g a)) l ≡ both (every f l) (every g l)
unfolding every both
every-both f g [] = refl
every-both f g (a ∷ l) = rw (every-both f g l) (both-swap (f a) (g a) (every f l) (every g l))

-- what is asked of each for a weaker question
every_weaker : {A : Type 0} (f g : A → Bool) → ((a : A) → f a ≡ true → g a ≡ true) → (l : List A) → every f l ≡ true → every g l ≡ true
unfolding every both
every_weaker f g h [] e = refl
every_weaker f g h (a ∷ l) e = let t = both_true (f a) (every f l) e in both_of (g a) (every g l) (h a t.0) (every_weaker f g h l t.1)

-- two tests that are true together
pub alike : (a b : Bool) → (a ≡ true → b ≡ true) → (b ≡ true → a ≡ true) → a ≡ b
alike true b h k = sym (h refl)
alike false true h k = k refl
alike false false h k = refl

-- three lists, one behind the other
three : {A : Type 0} (f : A → Bool) (l m n : List A) → every f (l ++ m ++ n) ≡ both (every f l) (both (every f m) (every f n))
three f l m n = every_append f (l ++ m) n ∙ ap (λ (b : Bool). both b (every f n)) (every_append f l m) ∙ both_assoc (every f l) (every f m) (every f n)

-- Graphs.

every_items : (f : Item → Bool) (g : RuleGraph) → every f (items g) ≡ both (every (λ n. f (node n)) g.nodes) (every (λ e. f (edge e)) g.edges)
every_items f g = every_append f (map node g.nodes) (map edge g.edges) ∙ rw (every_map f node g.nodes, every_map f edge g.edges)

-- what is asked of every label
of-labels : (f : List Element → Bool) (g : RuleGraph) → every (λ i. f (item_label i)) (items g) ≡ every f (labels g)
unfolding item_label
of-labels f g =
    every_items (λ i. f (item_label i)) g
    ∙ sym (every_append f (map (λ n. n.label) g.nodes) (map (λ e. e.label) g.edges) ∙ rw (every_map f (λ n. n.label) g.nodes, every_map f (λ e. e.label) g.edges))

-- of every item, and of every element
split-graph : (ask : Ask) (ts : List ℕ) (g : RuleGraph) → graph_asked ask ts g ≡ both (every (item_fits ask ts) (items g)) (every (element_asked ask ts) (elements g))
unfolding graph_asked item_asked
split-graph ask ts g =
    every-both (item_fits ask ts) (λ i. every (element_asked ask ts) (item_label i)) (items g)
    ∙ ap (both (every (item_fits ask ts) (items g))) (of-labels (every (element_asked ask ts)) g ∙ sym (every-concat (element_asked ask ts) (labels g)))

-- of every test, and of every operand of the tests
split-tests : (ask : Ask) (x : Rule) → every (test_asked ask x.variables) x.tests ≡ both (every (λ t. condition_fits ask t.condition) x.tests) (every (operand_asked ask x.variables) (test_operands x))
unfolding test_asked condition_asked
split-tests ask x =
    every-both (λ t. condition_fits ask t.condition) (λ t. every (operand_asked ask x.variables) (condition_operands t.condition)) x.tests
    ∙ ap (both (every (λ t. condition_fits ask t.condition) x.tests)) (sym (gather (operand_asked ask x.variables) (λ t. condition_operands t.condition) x.tests))

ends-graph : (g : RuleGraph) → every (ends_below (length g.nodes)) (items g) ≡ ends_exist g
unfolding ends_below ends_exist
ends-graph g = every_items (ends_below (length g.nodes)) g ∙ both_yes _ _ (every-yes g.nodes)

marks-graph : (g : RuleGraph) → every edge_marked (items g) ≡ every (λ e. not (eqb e.mark any_mark)) g.edges
unfolding edge_marked
marks-graph g = every_items edge_marked g ∙ both_yes _ _ (every-yes g.nodes)

-- What is asked of the sides and the tests, by the requirements.

module _ (x : Rule) where
  abbrev ts : List ℕ
  ts = x.variables

  abbrev ints_in : RuleGraph → Bool
  ints_in g = every (operand_int x) (concat (map element_operands (elements g)))

  int_same : (o : Operand) → int_operand ts o ≡ operand_int x o
  unfolding int_operand operand_int
  int_same (constant_operand c) = refl
  int_same (variable_operand v) = refl

  lists-same : (l : List Element) → lists_in ts l ≡ lists x l
  unfolding lists takes_list choose
  lists-same [] = refl
  lists-same (Constant c ∷ l) = lists-same l
  lists-same (Variable v ∷ l) = rw (lists-same l)
  lists-same (Sum a b ∷ l) = lists-same l
  lists-same (Difference a b ∷ l) = lists-same l

  simple-left : every (λ i. leb (lists_in ts (item_label i)) 1) (items x.left) ≡ left_simple x
  unfolding left_simple
  simple-left =
      of-labels (λ l. leb (lists_in ts l) 1) x.left
      ∙ every-same _ _ (λ l. ap (λ (n : ℕ). leb n 1) (lists-same l)) (labels x.left)

  left_is : graph_asked (Left (length x.left.nodes)) ts x.left ≡ both (both (left_simple x) (ends_exist x.left)) (both (exist ts (names x.left)) (left_plain x))
  unfolding item_fits element_asked left_plain
  left_is =
      split-graph (Left (length x.left.nodes)) ts x.left
      ∙ rw (every-both (λ i. leb (lists_in ts (item_label i)) 1) (ends_below (length x.left.nodes)) (items x.left), simple-left, ends-graph x.left, every-both (λ e. exist ts (element_names e)) is_plain (elements x.left), ← (gather (λ v. ltb v (length ts)) element_names (elements x.left)))

  right_is : graph_asked (Right (length x.right.nodes)) ts x.right ≡ both (both (every (λ e. not (eqb e.mark any_mark)) x.right.edges) (ends_exist x.right)) (both (exist ts (names x.right)) (ints_in x.right))
  unfolding item_fits element_asked
  right_is =
      split-graph (Right (length x.right.nodes)) ts x.right
      ∙ rw (every-both edge_marked (ends_below (length x.right.nodes)) (items x.right), marks-graph x.right, ends-graph x.right, every-both (λ e. exist ts (element_names e)) (λ e. every (int_operand ts) (element_operands e)) (elements x.right), ← (gather (λ v. ltb v (length ts)) element_names (elements x.right)), ← (gather (int_operand ts) element_operands (elements x.right)), every-same (int_operand ts) (operand_int x) int_same (concat (map element_operands (elements x.right))))

  tests-are : every (test_asked (Right (length x.left.nodes)) ts) x.tests ≡ both (test_nodes_exist x) (both (exist ts (test_names x)) (every (operand_int x) (test_operands x)))
  unfolding condition_fits operand_asked test_nodes_exist
  tests-are =
      split-tests (Right (length x.left.nodes)) x
      ∙ rw (every-both (λ o. exist ts (operand_names o)) (int_operand ts) (test_operands x), ← (gather (λ v. ltb v (length ts)) operand_names (test_operands x)), every-same (int_operand ts) (operand_int x) int_same (test_operands x))

  -- where there is no sum and no difference, there are no operands

  no-operands : (e : Element) → is_plain e ≡ true → every (operand_int x) (element_operands e) ≡ true
  unfolding is_plain element_operands every
  no-operands (Constant c) h = refl
  no-operands (Variable v) h = refl
  no-operands (Sum a b) h = let z : ◌≡◌ {A = ℕ} 0 1 = cc in absurd (omega arith)
  no-operands (Difference a b) h = let z : ◌≡◌ {A = ℕ} 0 1 = cc in absurd (omega arith)

  plain_int : left_plain x ≡ true → ints_in x.left ≡ true
  unfolding left_plain
  plain_int e =
      gather (operand_int x) element_operands (elements x.left) ∙ every_weaker is_plain (λ e. every (operand_int x) (element_operands e)) no-operands (elements x.left) e

  -- what the sides and the tests are asked, one by one
  record Sides : Type 0 where
    simple : left_simple x ≡ true
    left_ends : ends_exist x.left ≡ true
    left_names : exist ts (names x.left) ≡ true
    plain : left_plain x ≡ true
    marks : every (λ e. not (eqb e.mark any_mark)) x.right.edges ≡ true
    right_ends : ends_exist x.right ≡ true
    right_names : exist ts (names x.right) ≡ true
    right_ints : ints_in x.right ≡ true
    test_nodes : test_nodes_exist x ≡ true
    tests_named : exist ts (test_names x) ≡ true
    test_ints : every (operand_int x) (test_operands x) ≡ true

  sides-true : sides_asked x ≡ true → Sides
  unfolding sides_asked
  sides-true e =
      let t = both_true _ _ e in
      let u = both_true _ _ t.1 in
      let a = both_true _ _ (sym left_is ∙ t.0) in
      let a0 = both_true _ _ a.0 in
      let a1 = both_true _ _ a.1 in
      let b = both_true _ _ (sym right_is ∙ u.0) in
      let b0 = both_true _ _ b.0 in
      let b1 = both_true _ _ b.1 in
      let c = both_true _ _ (sym tests-are ∙ u.1) in
      let c1 = both_true _ _ c.1 in
      record {
        simple = a0.0;
        left_ends = a0.1;
        left_names = a1.0;
        plain = a1.1;
        marks = b0.0;
        right_ends = b0.1;
        right_names = b1.0;
        right_ints = b1.1;
        test_nodes = c.0;
        tests_named = c1.0;
        test_ints = c1.1;
      }

  sides-of : Sides → sides_asked x ≡ true
  unfolding sides_asked
  sides-of s =
      both_of _ _ (left_is ∙ both_of _ _ (both_of _ _ s.simple s.left_ends) (both_of _ _ s.left_names s.plain))
      (both_of _ _ (right_is ∙ both_of _ _ (both_of _ _ s.marks s.right_ends) (both_of _ _ s.right_names s.right_ints))
      (tests-are ∙ both_of _ _ s.test_nodes (both_of _ _ s.tests_named s.test_ints)))

  names-true : variables_exist x ≡ true → (exist ts (names x.left) ≡ true) × (exist ts (names x.right) ≡ true) × (exist ts (test_names x) ≡ true)
  unfolding variables_exist
  names-true e =
      let t = both_true _ _ (sym (three (λ v. ltb v (length ts)) (names x.left) (names x.right) (test_names x)) ∙ e) in
      let u = both_true _ _ t.1 in
      (t.0, u.0, u.1)

  pub sides_exist : sides_asked x ≡ true → variables_exist x ≡ true
  unfolding variables_exist
  sides_exist e =
      let s = sides-true e in
      three (λ v. ltb v (length ts)) (names x.left) (names x.right) (test_names x)
      ∙ both_of _ _ s.left_names (both_of _ _ s.right_names s.tests_named)

  ints-true : operands_int x ≡ true → (ints_in x.right ≡ true) × (every (operand_int x) (test_operands x) ≡ true)
  unfolding operands_int
  ints-true e =
      let t = both_true _ _ (sym (three (operand_int x) (concat (map element_operands (elements x.left))) (concat (map element_operands (elements x.right))) (test_operands x)) ∙ e) in
      both_true _ _ t.1

  ints_of : Sides → operands_int x ≡ true
  unfolding operands_int
  ints_of s =
      three (operand_int x) (concat (map element_operands (elements x.left))) (concat (map element_operands (elements x.right))) (test_operands x)
      ∙ both_of _ _ (plain_int s.plain) (both_of _ _ s.right_ints s.test_ints)

  abbrev all_kept : Bool
  all_kept = all (any_kept x) (length x.right.nodes)

  -- A rule holds where its sides do, the interface fits, its variables occur on the left and right nodes of mark any are kept.

  holds_so : both (sides_asked x) (both (interface_fits x) (both (variables_on_left x) all_kept)) ≡ true → rule_holds x ≡ true
  unfolding rule_holds clauses any_placed
  holds_so e =
      let t = both_true _ _ e in
      let s = sides-true t.0 in
      let u = both_true _ _ t.1 in
      let v = both_true _ _ u.1 in
      both_of _ _ (sides_exist t.0)
      (both_of _ _ s.left_ends
      (both_of _ _ s.right_ends
      (both_of _ _ s.test_nodes
      (both_of _ _ u.0
      (both_of _ _ s.plain
      (both_of _ _ s.simple (both_of _ _ (ints_of s) (both_of _ _ v.0 (both_of _ _ (both_of _ _ v.1 s.marks) refl)))))))))

  holds_then : rule_holds x ≡ true → both (sides_asked x) (both (interface_fits x) (both (variables_on_left x) all_kept)) ≡ true
  unfolding rule_holds clauses any_placed
  holds_then e =
      let c0 = both_true _ _ e in
      let c1 = both_true _ _ c0.1 in
      let c2 = both_true _ _ c1.1 in
      let c3 = both_true _ _ c2.1 in
      let c4 = both_true _ _ c3.1 in
      let c5 = both_true _ _ c4.1 in
      let c6 = both_true _ _ c5.1 in
      let c7 = both_true _ _ c6.1 in
      let c8 = both_true _ _ c7.1 in
      let c9 = both_true _ _ c8.1 in
      let marks = both_true _ _ c9.0 in
      let named = names-true c0.0 in
      let ints = ints-true c7.0 in
      both_of _ _
      (sides-of
      record {
        simple = c6.0;
        left_ends = c1.0;
        left_names = named.0;
        plain = c5.0;
        marks = marks.1;
        right_ends = c2.0;
        right_names = named.1;
        right_ints = ints.0;
        test_nodes = c3.0;
        tests_named = named.2;
        test_ints = ints.1;
      })
      (both_of _ _ c4.0 (both_of _ _ c8.0 marks.0))

  pub rule_is : rule_holds x ≡ both (sides_asked x) (both (interface_fits x) (both (variables_on_left x) all_kept))
  rule_is = alike _ _ holds_then holds_so

-- Variables of the right side occur on the left.

lacks-graph : (u : ℕ) (ts : List ℕ) (g : RuleGraph) → graph_asked (Lacks u) ts g ≡ absent u (names g)
unfolding item_fits element_asked
lacks-graph u ts g =
    split-graph (Lacks u) ts g
    ∙ both_yes _ _ (every-yes (items g))
    ∙ every-same _ _ (λ e. absent-every u (element_names e)) (elements g)
    ∙ sym (gather (λ a. not (eqb a u)) element_names (elements g))
    ∙ sym (absent-every u (names g))

lacks-tests : (u : ℕ) (x : Rule) → every (test_asked (Lacks u) x.variables) x.tests ≡ absent u (test_names x)
unfolding condition_fits operand_asked
lacks-tests u x =
    split-tests (Lacks u) x
    ∙ both_yes _ _ (every-yes x.tests)
    ∙ every-same _ _ (λ o. absent-every u (operand_names o)) (test_operands x)
    ∙ sym (gather (λ a. not (eqb a u)) operand_names (test_operands x))
    ∙ sym (absent-every u (test_names x))

kept-is : (x : Rule) (u : ℕ) → kept_on_left x u ≡ either (not (absent u (names x.left))) (absent u (names x.right ++ test_names x))
unfolding kept_on_left
kept-is x u = rw (lacks-graph u x.variables x.left, lacks-graph u x.variables x.right, lacks-tests u x, absent_append u (names x.right) (test_names x))

-- names N below n all occur in L exactly if each number below n that L lacks is lacking in N
module _ (L N : List ℕ) (n : ℕ) (below : every (λ v. ltb v n) N ≡ true) where
  abbrev kept : ℕ → Bool
  kept v = either (not (absent v L)) (absent v N)

  all-kept : every (λ v. not (absent v L)) N ≡ true → all kept n ≡ true
  all-kept e = all_of kept n (λ v h. at v (absent v N) refl)
    where
      at : (v : ℕ) (b : Bool) → absent v N ≡ b → kept v ≡ true
      at v true q = either-right _ _ q
      at v false q =
          let t = absent-false v N q in
          either_left _ _ (ap (λ (u : ℕ). not (absent u L)) (sym t.2) ∙ every_true (λ v. not (absent v L)) N 0 e t.0 t.1)

  not-kept : every (λ v. not (absent v L)) N ≡ false → all kept n ≡ false
  unfolding either
  not-kept e =
      let t = every-false (λ v. not (absent v L)) N 0 e in
      let v = get_or N t.0 0 in
      let h : v < n = ltb-true v n (every_true (λ v. ltb v n) N 0 below t.0 t.1) in
      all-no kept n v h (rw t.2 (at (absent v N) refl (λ q. absent-true v N q t.0 t.1 refl)))
    where
      at : (b : Bool) {c : Bool} → c ≡ b → (c ≡ true → ⊥) → c ≡ false
      at true q k = absurd (k q)
      at false q k = q

  pub kept-all : all kept n ≡ every (λ v. not (absent v L)) N
  kept-all = at (every (λ v. not (absent v L)) N) refl
    where
      at : (b : Bool) → every (λ v. not (absent v L)) N ≡ b → all kept n ≡ every (λ v. not (absent v L)) N
      at true q = all-kept q ∙ sym q
      at false q = not-kept q ∙ sym q

all_same : (f g : ℕ → Bool) → ((v : ℕ) → f v ≡ g v) → (n : ℕ) → all f n ≡ all g n
unfolding all
all_same f g h zero = refl
all_same f g h (suc n) = rw (h n, all_same f g h n)

pub kept-left : (x : Rule) → variables_exist x ≡ true → all (kept_on_left x) (length x.variables) ≡ variables_on_left x
unfolding variables_on_left variables_exist
kept-left x e =
    let L = names x.left in
    let N = names x.right ++ test_names x in
    let f : ℕ → Bool = λ v. ltb v (length x.variables) in
    let below : every f N ≡ true = every_append f (names x.right) (test_names x) ∙ (both_true (every f L) _ (sym (three f L (names x.right) (test_names x)) ∙ e)).1 in
    all_same _ _ (kept-is x) (length x.variables) ∙ kept-all L N (length x.variables) below

-- A row of numbers from 0 on.

all-front : (f : ℕ → Bool) (n : ℕ) → both (f 0) (all (λ k. f (suc k)) n) ≡ all f (suc n)
unfolding all both
all-front f zero = refl
all-front f (suc n) = at (f 0) (f (suc n)) (all-front f n)
  where
    at : (a b : Bool) → both a (all (λ k. f (suc k)) n) ≡ all f (suc n) → both a (both b (all (λ k. f (suc k)) n)) ≡ both b (all f (suc n))
    at true true e = e
    at true false e = refl
    at false true e = e
    at false false e = refl

row-all : (f : ℕ → Bool) (n a : ℕ) → list_all f (range_with_len a n) ≡ all (λ k. f (a + k)) n
unfolding all both
row-all f zero a = refl
row-all f (suc n) a =
    at (f a) (row-all f n (a + 1) ∙ all_same _ _ (λ k. ap f (omega arith)) n)
    ∙ ap (λ (x : ℕ). both (f x) (all (λ k. f (a + suc k)) n)) (omega arith)
    ∙ all-front (λ k. f (a + k)) n
  where
    at : (b : Bool) {x y : Bool} → x ≡ y → b && x ≡ both b y
    at true e = e
    at false e = refl

-- what is asked of each number of a row, one after the other
pub numbers-all : (f : ℕ → Bool) (n : ℕ) → list_all f (range_with_len 0 n) ≡ all f n
numbers-all f n = row-all f n 0 ∙ all_same _ _ (λ k. ap f (omega arith)) n

-- of procedures and the main command nothing is asked
commands_hold : (ks : List Raw) (t : ℕ) (c : Raw) → every part_holds (map procedure_of ks ++ main_of t c ∷ []) ≡ true
unfolding part_holds every both
commands_hold [] t c = refl
commands_hold (k ∷ ks) t c = commands_hold ks t c

-- the rules of an image
pub parts_hold : (t : ℕ) (p : RawProgram) → every rule_holds p.rules ≡ every part_holds (image_parts t p)
unfolding part_holds every both
parts_hold t p =
    sym (every_append part_holds (map rule_of p.rules) (command_parts t p) ∙ rw (commands_hold p.procedures t p.main) (sym (both-last _)) ∙ every_map part_holds rule_of p.rules)

pub part-rule : (tag : ℕ) (bs : List ℕ) (r : Bool) → tag ≡ rule_tag → For (rule bs) (λ x. r ≡ rule_holds x) → For (image_part tag bs) (λ i. r ≡ part_holds i)
unfolding part_holds
part-rule tag bs r h q (rule_of x) e = q x (part-is tag bs (rule_of x) e).1
part-rule tag bs r h q (procedure_of c) e = absurd (omega (arith, (part-is tag bs (procedure_of c) e).0))
part-rule tag bs r h q (main_of t c) e = absurd (omega (arith, command-above tag bs c (part-is tag bs (main_of t c) e).1))

pub part-main : (tag : ℕ) (bs : List ℕ) → (tag ≡ rule_tag → ⊥) → For (image_part tag bs) (λ i. true ≡ part_holds i)
unfolding part_holds
part-main tag bs h (rule_of x) e = absurd (h (part-is tag bs (rule_of x) e).0)
part-main tag bs h (procedure_of c) e = refl
part-main tag bs h (main_of t c) e = refl
