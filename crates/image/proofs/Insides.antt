-- What the first bytes of an item tell, one law for each answer of the code: nodes, edges, tests, types, commands. Rests on Rows
-- and on fields' Image.
use mathlib.Core.Path.{◌≡◌, refl, sym, ap, ap₂, ◌∙◌}
use mathlib.Core.Bool.{Bool, true, false, not}
use mathlib.Core.Option.{Option, none}
use mathlib.Core.List.{List, [], ◌∷◌}
use Prim.Native.Nat.{ℕ, suc, ◌-◌, ◌<◌, ◌≤◌}
use native.Mathlib.Omega.{arith}
use native.Mathlib.Decide.{dec_lt, ℕ_discrete}
use borrow.Author.Tests.{ne_eqb, le-leb, lt-leb, leb-true}
use lib.Dec.{eqb, leb, lit<, leb-suc-suc}
use lib.ListN.{length, drop, get_or, length-drop}
use lib.Seq.{drop-drop}
use Rattle.std.specs.List.{list_all}
use Rattle.std.specs.Prelude.{◌&&◌}
use Rattle.meaning.specs.Basics.{both, either, every, is_empty, is_some, ◌>>=◌}
use Rattle.meaning.specs.Layout.{is_node_mark, is_edge_mark}
use Rattle.meaning.specs.Tags.{constant_tag, variable_tag, sum_tag, difference_tag, edge_test_tag, in_degree_tag, out_degree_tag, relation_tag, call_tag, guarded_tag, skip_tag, fail_tag, break_tag, equal_relation, less_relation, blue_mark, grey_mark, dashed_mark, any_mark}
use Rattle.meaning.specs.Image.{Raw, limits, only, passes_all, one_byte, flag, operand, two_operands, element, label, rule_node, rule_edge, condition, test, leaf, as_call, command}
use Rattle.meaning.specs.Image.Raw.{skip, fail, break}
use Rattle.meaning.specs.Laws.Tests.{both-no, both_yes, both_true}
use Rattle.fields.specs.Image.{is_some_no, is_some_map, is_some_after, is_some_then, first-at, one_byte_ok, flag_ok, operand-constant, operand-variable, operand-other, element-constant, element-variable, element-sum, element-difference, element-other, rule_node_ok, rule_edge_ok, related_ok, condition-edge, condition_in, condition-out, condition-relation, test_ok, leaf_ok, command-no-depth, command-guarded, command-call, command-skip, command-fail, command-break}
use Rattle.image.specs.declared.Row.{Row}
use Rattle.image.specs.declared.Row.TheVariants.{Nodes, Edges, Tests, Elements, Operands, Guarded}
use Rattle.image.specs.Form.{fits, rank, Holds}
use Rattle.image.proofs.Rows.{both_assoc, both_comm, label-fits, operands-fit, guarded-fits}

pub failed : {A : Type 0} (o : Option A) → o ≡ none → false ≡ is_some o
failed o e = sym (is_some_no o e)

-- Marks: all up to any, but one.

module _ (m : ℕ) where
  node-mark : both (not (eqb m dashed_mark)) (leb m any_mark) ≡ either (is_node_mark m) (eqb m any_mark)
  unfolding both either is_node_mark
  node-mark = at (dec_lt m dashed_mark) (ℕ_discrete m dashed_mark) (ℕ_discrete m any_mark)
    where
      at : Dec (m < dashed_mark) → Dec (m ≡ dashed_mark) → Dec (m ≡ any_mark)
          → both (not (eqb m dashed_mark)) (leb m any_mark) ≡ either (leb m grey_mark) (eqb m any_mark)
      at (yes l) d e = rw (ne_eqb m dashed_mark (λ q. omega arith), le-leb m any_mark (omega arith), le-leb m grey_mark (omega arith))
      at (no l) (yes d) e = rw d
      at (no l) (no d) (yes e) = rw e
      at (no l) (no d) (no e) = rw (ne_eqb m dashed_mark d, lt-leb m any_mark (omega arith), lt-leb m grey_mark (omega arith), ne_eqb m any_mark e)

  edge-mark : both (not (eqb m grey_mark)) (leb m any_mark) ≡ either (is_edge_mark m) (eqb m any_mark)
  unfolding both either is_edge_mark
  edge-mark = at (dec_lt m grey_mark) (ℕ_discrete m grey_mark) (ℕ_discrete m dashed_mark) (ℕ_discrete m any_mark)
    where
      at : Dec (m < grey_mark) → Dec (m ≡ grey_mark) → Dec (m ≡ dashed_mark) → Dec (m ≡ any_mark)
          → both (not (eqb m grey_mark)) (leb m any_mark) ≡ either (either (leb m blue_mark) (eqb m dashed_mark)) (eqb m any_mark)
      at (yes l) d e f = rw (ne_eqb m grey_mark (λ q. omega arith), le-leb m any_mark (omega arith), le-leb m blue_mark (omega arith))
      at (no l) (yes d) e f = rw d
      at (no l) (no d) (yes e) f = rw e
      at (no l) (no d) (no e) (yes f) = rw f
      at (no l) (no d) (no e) (no f) = rw (ne_eqb m grey_mark d, lt-leb m any_mark (omega arith), lt-leb m blue_mark (omega arith), ne_eqb m dashed_mark e, ne_eqb m any_mark f)

-- Nodes and edges.

module _ (bs : List ℕ) where
  pub node-short : length bs < 2 → false ≡ is_some (rule_node bs)
  node-short h = sym (rule_node_ok bs ∙ both-no _ _ (lt-leb 2 _ h))

  module _ (l : 2 ≤ length bs) {r : Bool} (q : r ≡ both (not (eqb (get_or bs 0 0) dashed_mark)) (leb (get_or bs 0 0) any_mark)) where
    node-parts : is_some (rule_node bs) ≡ both r (both (leb (get_or bs 1 0) 1) (is_some (label (drop 2 bs))))
    node-parts = rule_node_ok bs ∙ both_yes _ _ (le-leb 2 _ l) ∙ ap₂ both (sym (q ∙ node-mark (get_or bs 0 0))) refl

    pub node-unmarked : r ≡ false → false ≡ is_some (rule_node bs)
    node-unmarked h = sym (node-parts ∙ both-no _ _ h)

    pub node-root : r ≡ true → 1 < get_or bs 1 0 → false ≡ is_some (rule_node bs)
    node-root h k = sym (node-parts ∙ both_yes _ _ h ∙ both-no _ _ (lt-leb _ 1 k))

    pub node-label : r ≡ true → get_or bs 1 0 ≤ 1 → Holds (rank Nodes) (is_some (rule_node bs)) bs Elements 2
    node-label h k = record { lower = lit< tt; inside = l; same = label-fits (drop 2 bs) ∙ sym (node-parts ∙ both_yes _ _ h ∙ both_yes _ _ (le-leb _ 1 k)) }

  pub edge-short : length bs < 3 → false ≡ is_some (rule_edge bs)
  edge-short h = sym (rule_edge_ok bs ∙ both-no _ _ (lt-leb 3 _ h))

  module _ (l : 3 ≤ length bs) {r : Bool} (q : r ≡ both (not (eqb (get_or bs 0 0) grey_mark)) (leb (get_or bs 0 0) any_mark)) where
    edge-parts : is_some (rule_edge bs) ≡ both r (is_some (label (drop 3 bs)))
    edge-parts = rule_edge_ok bs ∙ both_yes _ _ (le-leb 3 _ l) ∙ ap₂ both (sym (q ∙ edge-mark (get_or bs 0 0))) refl

    pub edge-unmarked : r ≡ false → false ≡ is_some (rule_edge bs)
    edge-unmarked h = sym (edge-parts ∙ both-no _ _ h)

    pub edge-label : r ≡ true → Holds (rank Edges) (is_some (rule_edge bs)) bs Elements 3
    edge-label h = record { lower = lit< tt; inside = l; same = label-fits (drop 3 bs) ∙ sym (edge-parts ∙ both_yes _ _ h) }

-- Flags.

pub flag-long : (bs : List ℕ) → is_some (flag bs) ≡ true → 1 ≤ length bs
flag-long bs h = leb-true _ _ (both_true (leb 1 (length bs)) _ (sym (flag_ok bs) ∙ h)).0

-- Tests.

module _ (tag : ℕ) (bs : List ℕ) {f : Bool} (e : f ≡ is_some (flag bs)) where
  pub test_unflagged : f ≡ false → false ≡ is_some (test tag bs)
  test_unflagged h = sym (test_ok tag bs ∙ both-no _ _ (sym e ∙ h))

  module _ (h : f ≡ true) where
    test-is : is_some (condition tag (drop 1 bs)) ≡ is_some (test tag bs)
    test-is = sym (test_ok tag bs ∙ both_yes _ _ (sym e ∙ h))

    sized : (k : ℕ) → is_some (condition tag (drop 1 bs)) ≡ eqb (length (drop 1 bs)) k → eqb (length bs - 1) k ≡ is_some (test tag bs)
    sized k q = ap (λ (n : ℕ). eqb n k) (sym (length-drop 1 bs)) ∙ sym q ∙ test-is

    pub test-edge : tag ≡ edge_test_tag → eqb (length bs - 1) 2 ≡ is_some (test tag bs)
    test-edge t = sized 2 (condition-edge tag (drop 1 bs) t)

    test_in : tag ≡ in_degree_tag → eqb (length bs - 1) 3 ≡ is_some (test tag bs)
    test_in t = sized 3 (condition_in tag (drop 1 bs) t)

    test-out : tag ≡ out_degree_tag → eqb (length bs - 1) 3 ≡ is_some (test tag bs)
    test-out t = sized 3 (condition-out tag (drop 1 bs) t)

    -- a test of either degree
    pub test-degree : in_degree_tag ≤ tag → tag ≤ out_degree_tag → eqb (length bs - 1) 3 ≡ is_some (test tag bs)
    test-degree a b = at (ℕ_discrete tag in_degree_tag)
      where
        at : Dec (tag ≡ in_degree_tag) → eqb (length bs - 1) 3 ≡ is_some (test tag bs)
        at (yes t) = test_in t
        at (no t) = test-out (omega arith)

    pub test-other : condition tag (drop 1 bs) ≡ none → false ≡ is_some (test tag bs)
    test-other q = failed _ q ∙ test-is

    module _ (t : tag ≡ relation_tag) {r : Bool} (q : r ≡ both (leb 2 (length bs)) (either (eqb (get_or bs 1 0) equal_relation) (eqb (get_or bs 1 0) less_relation))) where
      relation-parts : both r (is_some (two_operands (drop 2 bs))) ≡ is_some (test tag bs)
      relation-parts =
          let z : length bs ≡ suc (length bs - 1) = omega (arith, flag-long bs (sym e ∙ h)) in
          let long : leb 2 (length bs) ≡ leb 1 (length bs - 1) = ap (leb 2) z ∙ leb-suc-suc 1 (length bs - 1) in
          let parts : is_some (condition tag (drop 1 bs)) ≡ both (leb 1 (length bs - 1)) (both (is_some (two_operands (drop 2 bs))) (either (eqb (get_or bs 1 0) equal_relation) (eqb (get_or bs 1 0) less_relation))) =
          ap is_some (condition-relation tag (drop 1 bs) t) ∙ is_some_after _ _ _ (related_ok (get_or (drop 1 bs) 0 0) (drop 1 (drop 1 bs))) ∙ rw (length-drop 1 bs, first-at bs 1, drop-drop 1 1 bs) in
          ap₂ both (q ∙ ap₂ both long refl) refl ∙ both_assoc _ _ _ ∙ ap (both _) (both_comm _ _) ∙ sym parts ∙ test-is

      pub unrelated : r ≡ false → false ≡ is_some (test tag bs)
      unrelated k = sym (both-no _ _ k) ∙ relation-parts

      pub test-operands : r ≡ true → Holds (rank Tests) (is_some (test tag bs)) bs Operands 2
      test-operands k =
          let z = leb-true 2 (length bs) (both_true (leb 2 (length bs)) _ (sym q ∙ k)).0 in
          record { lower = lit< tt; inside = z; same = operands-fit (drop 2 bs) ∙ sym (both_yes _ _ k) ∙ relation-parts }

-- Elements.

module _ (tag : ℕ) (bs : List ℕ) where
  sum_inside : tag ≡ sum_tag → Holds (rank Elements) (is_some (element tag bs)) bs Operands 0
  sum_inside h = record { lower = lit< tt; inside = omega arith; same = operands-fit bs ∙ sym (element-sum tag bs h) }

  difference_inside : tag ≡ difference_tag → Holds (rank Elements) (is_some (element tag bs)) bs Operands 0
  difference_inside h = record { lower = lit< tt; inside = omega arith; same = operands-fit bs ∙ sym (element-difference tag bs h) }

  -- a sum or a difference
  pub pair_inside : sum_tag ≤ tag → tag ≤ difference_tag → Holds (rank Elements) (is_some (element tag bs)) bs Operands 0
  pair_inside a b = at (ℕ_discrete tag sum_tag)
    where
      at : Dec (tag ≡ sum_tag) → Holds (rank Elements) (is_some (element tag bs)) bs Operands 0
      at (yes t) = sum_inside t
      at (no t) = difference_inside (omega arith)

  -- any other element is an operand
  pub operand-inside : {r : Bool} → (tag ≡ sum_tag → ⊥) → (tag ≡ difference_tag → ⊥) → r ≡ is_some (operand tag bs) → r ≡ is_some (element tag bs)
  operand-inside {r} h k q = q ∙ at (ℕ_discrete tag constant_tag) (ℕ_discrete tag variable_tag)
    where
      at : Dec (tag ≡ constant_tag) → Dec (tag ≡ variable_tag) → is_some (operand tag bs) ≡ is_some (element tag bs)
      at (yes c) v = operand-constant tag bs c ∙ sym (element-constant tag bs c)
      at (no c) (yes v) = operand-variable tag bs v ∙ sym (element-variable tag bs v)
      at (no c) (no v) = is_some_no _ (operand-other tag bs c v) ∙ failed _ (element-other tag bs c v h k)

-- Types.

-- what holds of each of a list, in the definition's word
pub every-listed : {A : Type 0} (f : A → Bool) (l : List A) → list_all f l ≡ every f l
unfolding every both
every-listed f [] = refl
every-listed f (a ∷ l) = at (f a) (every-listed f l)
  where
    at : (b : Bool) → list_all f l ≡ every f l → (b && list_all f l) ≡ both b (every f l)
    at true e = e
    at false e = refl

-- Commands.

pub is-empty : (bs : List ℕ) → eqb (length bs) 0 ≡ is_empty bs
unfolding is_empty
is-empty [] = refl
is-empty (b ∷ bs) = ne_eqb (length (b ∷ bs)) 0 (λ e. omega arith)

pub no-depth : (depth tag : ℕ) (bs : List ℕ) → depth ≡ 0 → false ≡ is_some (command depth tag bs)
no-depth depth tag bs e = failed _ (ap (λ (k : ℕ). command k tag bs) e ∙ command-no-depth tag bs)

module _ (depth tag : ℕ) (bs : List ℕ) (d : depth ≡ 0 → ⊥) where
  deeper : {o : Option Raw} → command (suc (depth - 1)) tag bs ≡ o → command depth tag bs ≡ o
  deeper e =
      let z : depth ≡ suc (depth - 1) = omega arith in
      ap (λ (k : ℕ). command k tag bs) z ∙ e

  pub as_is : {b : Bool} (o : Option Raw) → command (suc (depth - 1)) tag bs ≡ o → b ≡ is_some o → b ≡ is_some (command depth tag bs)
  as_is o e q = q ∙ ap is_some (sym (deeper e))

  a-leaf : (c : Raw) → command (suc (depth - 1)) tag bs ≡ leaf c bs → eqb (length bs) 0 ≡ is_some (command depth tag bs)
  a-leaf c e = as_is (leaf c bs) e (is-empty bs ∙ sym (leaf_ok c bs))

  -- one with nothing in it: no rule is called, and no choice made
  pub a_plain : skip_tag ≤ tag → tag ≤ break_tag → eqb (length bs) 0 ≡ is_some (command depth tag bs)
  a_plain a b = at (ℕ_discrete tag skip_tag) (ℕ_discrete tag fail_tag)
    where
      at : Dec (tag ≡ skip_tag) → Dec (tag ≡ fail_tag) → eqb (length bs) 0 ≡ is_some (command depth tag bs)
      at (yes t) f = a-leaf skip (command-skip (depth - 1) tag bs t)
      at (no t) (yes f) = a-leaf fail (command-fail (depth - 1) tag bs f)
      at (no t) (no f) = a-leaf break (command-break (depth - 1) tag bs (omega arith))

  pub a_call : tag ≡ call_tag → eqb (length bs) 1 ≡ is_some (command depth tag bs)
  unfolding as_call
  a_call t = as_is (as_call bs) (command-call (depth - 1) tag bs t) (sym (is_some_map (one_byte bs) _ ∙ one_byte_ok bs))

  -- a command of commands
  pub of_parts : (row : Row) (make : List Raw → Option Raw) → rank row ≡ suc (depth - 1) → command (suc (depth - 1)) tag bs ≡ (only passes_all (command (depth - 1)) limits.commands bs >>= make) → fits row bs ≡ is_some (only passes_all (command (depth - 1)) limits.commands bs >>= make) → Holds (suc depth) (is_some (command depth tag bs)) bs row 0
  of_parts row make z e q = record { lower = omega arith; inside = omega arith; same = as_is (only passes_all (command (depth - 1)) limits.commands bs >>= make) e q }

  -- a guarded command: its flag, and its row behind it
  module _ (t : tag ≡ guarded_tag) {f : Bool} (e : f ≡ is_some (flag bs)) where
    guarded-parts : is_some (command depth tag bs) ≡ both (is_some (flag bs)) (fits (Guarded (depth - 1)) (drop 1 bs))
    guarded-parts =
        ap is_some (deeper (command-guarded (depth - 1) tag bs t))
        ∙ is_some_then (flag bs) _ _ (λ keep. sym (guarded-fits (depth - 1) (drop 1 bs) keep))

    pub guarded_unflagged : f ≡ false → false ≡ is_some (command depth tag bs)
    guarded_unflagged h = sym (guarded-parts ∙ both-no _ _ (sym e ∙ h))

    pub guarded-row : f ≡ true → Holds (suc depth) (is_some (command depth tag bs)) bs (Guarded (depth - 1)) 1
    guarded-row h = record { lower = omega arith; inside = flag-long bs (sym e ∙ h); same = sym (guarded-parts ∙ both_yes _ _ (sym e ∙ h)) }
