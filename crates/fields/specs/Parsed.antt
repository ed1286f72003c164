-- What a reader of the image that succeeds has read: its inversions, part by part and by tag, with the limits that
-- hold of what was read. Rests on the meaning's Image and on Image.
use Rattle.std.specs.Prelude.{◌≡◌, refl, Bool, true, false, ℕ, zero, suc, ◌-◌, ◌<◌, ◌≤◌, eqb, leb, length, get_or, drop}
use Rattle.std.proofs.Math.Path.{sym, ap}
use Rattle.std.proofs.Common.{◌∙◌, arith}
use mathlib.Core.List.{List, [], ◌∷◌}
use Rattle.std.proofs.Math.Option.{Option, some, none}
use Rattle.std.proofs.Math.Decide.{ℕ_discrete}
use borrow.Author.Tests.{eqb-true, leb-true}
use Rattle.meaning.specs.Basics.{either, every, is_empty}
use Rattle.meaning.specs.Numbers.{number}
use Rattle.meaning.specs.Layout.{is_node_mark, is_edge_mark}
use Rattle.meaning.specs.Image.{limits, RuleEdge, RuleGraph, RawProgram, in_order, RuleNode, Rule, Raw, Field, Read, Pair, field, expect, leading, only, passes_all, constant, one_byte, flag, operand, as_pair, two_operands, element, label, rule_node, rule_edge, rule_graph, relation, condition, test, is_type, types, mode, preserves, rule, leaf, as_rule_set, as_sequence, as_guarded, as_loop, as_call, command, one_command, program_by}
use Rattle.meaning.specs.Tags.{any_mark, break_tag, call_tag, constant_tag, difference_tag, edge_tag, edge_test_tag, fail_tag, guarded_tag, in_degree_tag, interface_tag, left_tag, loop_tag, mode_tag, node_tag, out_degree_tag, procedure_tag, right_tag, rule_set_tag, rule_tag, sequence_tag, skip_tag, sum_tag, tests_tag, variable_tag, variables_tag}
use Rattle.meaning.specs.Image.Raw.{rule_set, sequence, guarded, loop, skip, fail, break, call}
use Rattle.meaning.specs.declared.Operand.{Operand}
use Rattle.meaning.specs.declared.Operand.TheVariants.{Constant as constant_operand, Variable as variable_operand}
use Rattle.meaning.specs.declared.Element.{Element}
use Rattle.meaning.specs.declared.Element.TheVariants.{Constant, Variable, Sum, Difference}
use Rattle.meaning.specs.declared.Test.{Test}
use Rattle.meaning.specs.declared.Condition.{Condition}
use Rattle.meaning.specs.declared.Condition.TheVariants.{Edge, InDegree, OutDegree, Equal, Less}
use Rattle.meaning.specs.Laws.Every.{Every}
use Rattle.meaning.specs.Laws.Tests.{both_true, empty-true, choose_eq, choose_true, choose_false, choose_ne, some_inj, bind_some, ensure-some, ensure-yes}
use Rattle.fields.specs.Image.{bind_yes, leading-led, command-no-depth, command-rule_set, command-sequence, command-guarded, command-loop, command-skip, command-fail, command-break, command-call, command-other}

-- Series of fields.

same_read : {A : Type 0} (r : Read A) (l : List A) (bs : List ℕ) → r.items ≡ l → r.rest ≡ bs → r ≡ record { items = l; rest = bs }
same_read r l bs e f = rw (← e, ← f)

module _ {A : Type 0} (passes : ℕ → Bool) (item : ℕ → List ℕ → Option A) where
  pub only-is : (n : ℕ) (bs : List ℕ) (l : List A) → only passes item n bs ≡ some l → leading passes item n bs ≡ some (record { items = l; rest = [] })
  unfolding only
  only-is n bs l e =
      let t = bind_some (leading passes item n bs) _ l e in
      let u = ensure-some (is_empty t.0.rest) _ l t.2 in
      t.1 ∙ ap some (same_read t.0 l [] (some_inj _ l u.1) (empty-true t.0.rest u.0))

  pub only-few : (n : ℕ) (bs : List ℕ) (l : List A) → only passes item n bs ≡ some l → length l ≤ n
  only-few n bs l e = (leading-led passes item n bs _ (only-is n bs l e)).few

-- the first item of a series that has one
pub record Head {A : Type 0} (passes : ℕ → Bool) (item : ℕ → List ℕ → Option A) (n : ℕ) (bs : List ℕ) (a : A) (l : List A) (behind : List ℕ) : Type 0 where
  pub whole : Field
  pub is : field bs ≡ some whole
  pub passed : passes (get_or bs 0 0) ≡ true
  pub first : item whole.tag whole.payload ≡ some a
  pub bounded : 0 < n
  pub next : leading passes item (n - 1) whole.rest ≡ some (record { items = l; rest = behind })

no_head : {A : Type 0} {B : Type 0} (a : A) (l : List A) (bs behind : List ℕ) → ◌≡◌ {A = Option (Read A)} (some (record { items = []; rest = bs })) (some (record { items = a ∷ l; rest = behind })) → B
no_head a l bs behind e =
    let q = ap (λ (r : Read _). length r.items) (some_inj (record { items = []; rest = bs }) (record { items = a ∷ l; rest = behind }) e) in
    absurd (omega arith)

pub leading_head : {A : Type 0} (passes : ℕ → Bool) (item : ℕ → List ℕ → Option A) (n : ℕ) (bs : List ℕ) (a : A) (l : List A) (behind : List ℕ)
    → leading passes item n bs ≡ some (record { items = a ∷ l; rest = behind }) → Head passes item n bs a l behind
unfolding leading
leading_head passes item zero bs a l behind e = no_head a l bs behind e
leading_head passes item (suc n) [] a l behind e = no_head a l [] behind e
leading_head {A} passes item (suc n) (t ∷ bs) a l behind e = at (passes t) refl
  where
    at : (b : Bool) → passes t ≡ b → Head passes item (suc n) (t ∷ bs) a l behind
    at false q = no_head a l (t ∷ bs) behind (sym (choose_false _ _ _ q) ∙ e)
    at true q =
        let u = bind_some (field (t ∷ bs)) _ _ (sym (choose_true _ _ _ q) ∙ e) in
        let v = bind_some (item u.0.tag u.0.payload) _ _ u.2 in
        let w = bind_some (leading passes item n u.0.rest) _ _ v.2 in
        let r = some_inj (record { items = v.0 ∷ w.0.items; rest = w.0.rest }) (record { items = a ∷ l; rest = behind }) w.2 in
        let i : v.0 ∷ w.0.items ≡ a ∷ l = ap (λ (x : Read A). x.items) r in
        let f : v.0 ≡ a = cc in
        let g : w.0.items ≡ l = cc in
        let z : suc n - 1 ≡ n = omega arith in
        record {
          whole = u.0;
          is = u.1;
          passed = q;
          first = v.1 ∙ ap some f;
          bounded = omega arith;
          next = rw z (w.1 ∙ ap some (same_read w.0 l behind g (ap (λ (x : Read A). x.rest) r)));
        }

-- what holds of each item that can be read holds of all that are
module _ {A : Type 0} (passes : ℕ → Bool) (item : ℕ → List ℕ → Option A) (P : A → Type 0) (h : (tag : ℕ) (bs : List ℕ) (a : A) → item tag bs ≡ some a → P a) where
  pub leading-every : (l : List A) (n : ℕ) (bs behind : List ℕ) → leading passes item n bs ≡ some (record { items = l; rest = behind }) → Every P l
  leading-every [] n bs behind e = tt
  leading-every (a ∷ l) n bs behind e =
      let i = leading_head passes item n bs a l behind e in
      (h i.whole.tag i.whole.payload a i.first, leading-every l (n - 1) i.whole.rest behind i.next)

-- Operands and elements, by tag.

pair_is : (l : List Operand) (p : Pair) → as_pair l ≡ some p → l ≡ p.first ∷ p.second ∷ []
unfolding as_pair
pair_is [] p e = let z : ◌≡◌ {A = ℕ} 0 1 = cc in absurd (omega arith)
pair_is (a ∷ []) p e = let z : ◌≡◌ {A = ℕ} 0 1 = cc in absurd (omega arith)
pair_is (a ∷ b ∷ []) p e = rw (← (some_inj _ p e))
pair_is (a ∷ b ∷ c ∷ l) p e = let z : ◌≡◌ {A = ℕ} 0 1 = cc in absurd (omega arith)

module _ (bs : List ℕ) where
  pub constant-is : (c : ℕ) → constant bs ≡ some c → (length bs ≡ 4) × (c ≡ number bs)
  unfolding constant
  constant-is c e = let t = ensure-some _ _ c e in (eqb-true _ _ t.0, sym (some_inj _ c t.1))

  pub one_byte-is : (v : ℕ) → one_byte bs ≡ some v → (length bs ≡ 1) × (v ≡ get_or bs 0 0)
  unfolding one_byte
  one_byte-is v e = let t = ensure-some _ _ v e in (eqb-true _ _ t.0, sym (some_inj _ v t.1))

  pub flag_is : (b : Bool) → flag bs ≡ some b → (1 ≤ length bs) × (b ≡ eqb (get_or bs 0 0) 1)
  unfolding flag
  flag_is b e =
      let t = ensure-some _ _ b e in
      (leb-true _ _ (both_true (leb 1 (length bs)) _ t.0).0, sym (some_inj _ b t.1))

  pub label-few : (l : List Element) → label bs ≡ some l → length l ≤ limits.elements
  unfolding label
  label-few l e = only-few passes_all element limits.elements bs l e

  pub two_operands-is : (p : Pair) → two_operands bs ≡ some p → only passes_all operand 2 bs ≡ some (p.first ∷ p.second ∷ [])
  unfolding two_operands
  two_operands-is p e =
      let t = bind_some (only passes_all operand 2 bs) as_pair p e in
      t.1 ∙ ap some (pair_is t.0 p t.2)

module _ (tag : ℕ) (bs : List ℕ) where
  pub constant-operand-read : (x : Operand) → tag ≡ constant_tag → operand tag bs ≡ some x → (length bs ≡ 4) × (x ≡ constant_operand (number bs))
  unfolding operand
  constant-operand-read x h e =
      let t = bind_some (constant bs) _ x (sym (choose_eq tag constant_tag _ _ h) ∙ e) in
      let c = constant-is bs t.0 t.1 in
      (c.0, sym (some_inj _ x t.2) ∙ ap constant_operand c.1)

  pub variable-operand-read : (x : Operand) → tag ≡ variable_tag → operand tag bs ≡ some x → (length bs ≡ 1) × (x ≡ variable_operand (get_or bs 0 0))
  unfolding operand
  variable-operand-read x h e =
      let t = bind_some (one_byte bs) _ x (sym (choose_ne tag constant_tag _ _ (λ q. omega arith) ∙ choose_eq tag variable_tag _ _ h) ∙ e) in
      let c = one_byte-is bs t.0 t.1 in
      (c.0, sym (some_inj _ x t.2) ∙ ap variable_operand c.1)

  pub constant-read : (x : Element) → tag ≡ constant_tag → element tag bs ≡ some x → (length bs ≡ 4) × (x ≡ Constant (number bs))
  unfolding element
  constant-read x h e =
      let t = bind_some (constant bs) _ x (sym (choose_eq tag constant_tag _ _ h) ∙ e) in
      let c = constant-is bs t.0 t.1 in
      (c.0, sym (some_inj _ x t.2) ∙ ap Constant c.1)

  pub variable-read : (x : Element) → tag ≡ variable_tag → element tag bs ≡ some x → (length bs ≡ 1) × (x ≡ Variable (get_or bs 0 0))
  unfolding element
  variable-read x h e =
      let t = bind_some (one_byte bs) _ x (sym (choose_ne tag constant_tag _ _ (λ q. omega arith) ∙ choose_eq tag variable_tag _ _ h) ∙ e) in
      let c = one_byte-is bs t.0 t.1 in
      (c.0, sym (some_inj _ x t.2) ∙ ap Variable c.1)

  pub sum-read : (x : Element) → tag ≡ sum_tag → element tag bs ≡ some x → (p : Pair) × (two_operands bs ≡ some p) × (x ≡ Sum p.first p.second)
  unfolding element
  sum-read x h e =
      let t = bind_some (two_operands bs) _ x (sym (choose_ne tag constant_tag _ _ (λ q. omega arith) ∙ choose_ne tag variable_tag _ _ (λ q. omega arith) ∙ choose_eq tag sum_tag _ _ h) ∙ e) in
      (t.0, t.1, sym (some_inj _ x t.2))

  pub difference-read : (x : Element) → tag ≡ difference_tag → element tag bs ≡ some x → (p : Pair) × (two_operands bs ≡ some p) × (x ≡ Difference p.first p.second)
  unfolding element
  difference-read x h e =
      let t = bind_some (two_operands bs) _ x (sym (choose_ne tag constant_tag _ _ (λ q. omega arith) ∙ choose_ne tag variable_tag _ _ (λ q. omega arith) ∙ choose_ne tag sum_tag _ _ (λ q. omega arith) ∙ choose_eq tag difference_tag _ _ h) ∙ e) in
      (t.0, t.1, sym (some_inj _ x t.2))

-- Graphs.

pub record IsNode (bs : List ℕ) (x : RuleNode) : Type 0 where
  pub long : 2 ≤ length bs
  pub mark : x.mark ≡ get_or bs 0 0
  pub root : x.root ≡ get_or bs 1 0
  pub marked : either (is_node_mark x.mark) (eqb x.mark any_mark) ≡ true
  pub rooted : x.root ≤ 1
  pub label : label (drop 2 bs) ≡ some x.label

pub rule_node-is : (bs : List ℕ) (x : RuleNode) → rule_node bs ≡ some x → IsNode bs x
unfolding rule_node
rule_node-is bs x e =
    let t = ensure-some _ _ x e in
    let u = ensure-some _ _ x t.1 in
    let v = ensure-some _ _ x u.1 in
    let w = bind_some (label (drop 2 bs)) _ x v.1 in
    rw (← (some_inj _ x w.2)) (record { long = leb-true _ _ t.0; mark = refl; root = refl; marked = u.0; rooted = leb-true _ _ v.0; label = w.1 })

pub record IsEdge (bs : List ℕ) (x : RuleEdge) : Type 0 where
  pub long : 3 ≤ length bs
  pub mark : x.mark ≡ get_or bs 0 0
  pub source : x.source ≡ get_or bs 1 0
  pub target : x.target ≡ get_or bs 2 0
  pub marked : either (is_edge_mark x.mark) (eqb x.mark any_mark) ≡ true
  pub label : label (drop 3 bs) ≡ some x.label

pub rule_edge-is : (bs : List ℕ) (x : RuleEdge) → rule_edge bs ≡ some x → IsEdge bs x
unfolding rule_edge
rule_edge-is bs x e =
    let t = ensure-some _ _ x e in
    let u = ensure-some _ _ x t.1 in
    let w = bind_some (label (drop 3 bs)) _ x u.1 in
    rw (← (some_inj _ x w.2)) (record { long = leb-true _ _ t.0; mark = refl; source = refl; target = refl; marked = u.0; label = w.1 })

pub record IsGraph (bs : List ℕ) (x : RuleGraph) : Type 0 where
  pub behind : List ℕ
  pub nodes : leading (eqb node_tag) (λ tag. rule_node) limits.nodes bs ≡ some (record { items = x.nodes; rest = behind })
  pub edges : only (eqb edge_tag) (λ tag. rule_edge) limits.edges behind ≡ some x.edges
  pub few_nodes : length x.nodes ≤ limits.nodes
  pub few_edges : length x.edges ≤ limits.edges

pub rule_graph-is : (bs : List ℕ) (x : RuleGraph) → rule_graph bs ≡ some x → IsGraph bs x
unfolding rule_graph
rule_graph-is bs x e =
    let t = bind_some (leading (eqb node_tag) (λ tag. rule_node) limits.nodes bs) _ x e in
    let u = bind_some (only (eqb edge_tag) (λ tag. rule_edge) limits.edges t.0.rest) _ x t.2 in
    rw (← (some_inj _ x u.2)) (record { behind = t.0.rest; nodes = t.1; edges = u.1; few_nodes = (leading-led _ _ limits.nodes bs t.0 t.1).few; few_edges = only-few _ _ 6 t.0.rest u.0 u.1 })

-- Tests.

pub record IsTest (tag : ℕ) (bs : List ℕ) (x : Test) : Type 0 where
  pub long : 1 ≤ length bs
  pub negated : x.negated ≡ eqb (get_or bs 0 0) 1
  pub condition : condition tag (drop 1 bs) ≡ some x.condition

pub test-is : (tag : ℕ) (bs : List ℕ) (x : Test) → test tag bs ≡ some x → IsTest tag bs x
unfolding test
test-is tag bs x e =
    let t = bind_some (flag bs) _ x e in
    let f = flag_is bs t.0 t.1 in
    let w = bind_some (condition tag (drop 1 bs)) _ x t.2 in
    rw (← (some_inj _ x w.2)) (record { long = f.0; negated = f.1; condition = w.1 })

module _ (tag : ℕ) (bs : List ℕ) (x : Condition) (e : condition tag bs ≡ some x) where
  pub edge-test-read : tag ≡ edge_test_tag → (length bs ≡ 2) × (x ≡ Edge (get_or bs 0 0) (get_or bs 1 0))
  unfolding condition
  edge-test-read h =
      let t = ensure-some _ _ x (sym (choose_eq tag edge_test_tag _ _ h) ∙ e) in
      (eqb-true _ _ t.0, sym (some_inj _ x t.1))

  pub in_degree_read : tag ≡ in_degree_tag → (length bs ≡ 3) × (x ≡ InDegree (get_or bs 0 0) (number (drop 1 bs)))
  unfolding condition
  in_degree_read h =
      let t = ensure-some _ _ x (sym (choose_ne tag edge_test_tag _ _ (λ q. omega arith) ∙ choose_eq tag in_degree_tag _ _ h) ∙ e) in
      (eqb-true _ _ t.0, sym (some_inj _ x t.1))

  pub out_degree_read : tag ≡ out_degree_tag → (length bs ≡ 3) × (x ≡ OutDegree (get_or bs 0 0) (number (drop 1 bs)))
  unfolding condition
  out_degree_read h =
      let t = ensure-some _ _ x (sym (choose_ne tag edge_test_tag _ _ (λ q. omega arith) ∙ choose_ne tag in_degree_tag _ _ (λ q. omega arith) ∙ choose_eq tag out_degree_tag _ _ h) ∙ e) in
      (eqb-true _ _ t.0, sym (some_inj _ x t.1))

pub relation_1 : (kind : ℕ) (p : Pair) → kind ≡ 1 → relation kind p ≡ some (Equal p.first p.second)
unfolding relation
relation_1 kind p h = choose_eq kind 1 _ _ h

pub relation_2 : (kind : ℕ) (p : Pair) → kind ≡ 2 → relation kind p ≡ some (Less p.first p.second)
unfolding relation
relation_2 kind p h = choose_ne kind 1 _ _ (λ q. omega arith) ∙ choose_eq kind 2 _ _ h

pub relation_kind : (kind : ℕ) (p : Pair) (x : Condition) → relation kind p ≡ some x → (1 ≤ kind) × (kind ≤ 2)
unfolding relation
relation_kind kind p x e = at (ℕ_discrete kind 1) (ℕ_discrete kind 2)
  where
    at : Dec (kind ≡ 1) → Dec (kind ≡ 2) → (1 ≤ kind) × (kind ≤ 2)
    at (yes h) k = (omega arith, omega arith)
    at (no h) (yes k) = (omega arith, omega arith)
    at (no h) (no k) =
        let q : relation kind p ≡ none = choose_ne kind 1 _ _ h ∙ choose_ne kind 2 _ _ k in
        let z : ◌≡◌ {A = ℕ} 0 1 = cc in
        absurd (omega arith)

-- Rules.

pub types-is : (bs l : List ℕ) → types bs ≡ some l → (l ≡ bs) × (length bs ≤ limits.variables) × (every is_type bs ≡ true)
unfolding types
types-is bs l e =
    let t = ensure-some _ _ l e in
    let u = ensure-some _ _ l t.1 in
    (sym (some_inj _ l u.1), leb-true _ _ t.0, u.0)

pub mode-is : (bs : List ℕ) (b : Bool) → mode bs ≡ some b → b ≡ eqb (get_or bs 0 0) 1
unfolding mode
mode-is bs b e = (flag_is bs b (ensure-some _ _ b e).1).1

pub record IsRule (bs : List ℕ) (x : Rule) : Type 0 where
  pub v : Field
  pub l : Field
  pub r : Field
  pub k : Field
  pub t : Field
  pub modes : List Bool
  pub at-v : expect variables_tag bs ≡ some v
  pub at-l : expect left_tag v.rest ≡ some l
  pub at-r : expect right_tag l.rest ≡ some r
  pub at-k : expect interface_tag r.rest ≡ some k
  pub at-t : expect tests_tag k.rest ≡ some t
  pub at-modes : only (eqb mode_tag) (λ tag. mode) 1 t.rest ≡ some modes
  pub variables : types v.payload ≡ some x.variables
  pub left : rule_graph l.payload ≡ some x.left
  pub right : rule_graph r.payload ≡ some x.right
  pub interface : one_byte k.payload ≡ some x.interface
  pub tests : only passes_all test limits.tests t.payload ≡ some x.tests
  pub preserving : x.preserving ≡ preserves modes

pub rule-is : (bs : List ℕ) (x : Rule) → rule bs ≡ some x → IsRule bs x
unfolding rule
rule-is bs x e =
    let v = bind_some (expect variables_tag bs) _ x e in
    let l = bind_some (expect left_tag v.0.rest) _ x v.2 in
    let r = bind_some (expect right_tag l.0.rest) _ x l.2 in
    let k = bind_some (expect interface_tag r.0.rest) _ x r.2 in
    let t = bind_some (expect tests_tag k.0.rest) _ x k.2 in
    let m = bind_some (only (eqb mode_tag) (λ tag. mode) 1 t.0.rest) _ x t.2 in
    let a = bind_some (types v.0.payload) _ x m.2 in
    let b = bind_some (rule_graph l.0.payload) _ x a.2 in
    let c = bind_some (rule_graph r.0.payload) _ x b.2 in
    let d = bind_some (one_byte k.0.payload) _ x c.2 in
    let f = bind_some (only passes_all test limits.tests t.0.payload) _ x d.2 in
    rw (← (some_inj _ x f.2)) (record { v = v.0; l = l.0; r = r.0; k = k.0; t = t.0; modes = m.0; at-v = v.1; at-l = l.1; at-r = r.1; at-k = k.1; at-t = t.1; at-modes = m.1; variables = a.1; left = b.1; right = c.1; interface = d.1; tests = f.1; preserving = refl })

pub record Few (x : Rule) : Type 0 where
  pub variables : length x.variables ≤ limits.variables
  pub left_nodes : length x.left.nodes ≤ limits.nodes
  pub left_edges : length x.left.edges ≤ limits.edges
  pub right_nodes : length x.right.nodes ≤ limits.nodes
  pub right_edges : length x.right.edges ≤ limits.edges
  pub tests : length x.tests ≤ limits.tests

pub rule-few : (bs : List ℕ) (x : Rule) → rule bs ≡ some x → Few x
rule-few bs x e =
    let i = rule-is bs x e in
    let v = types-is _ _ i.variables in
    let l = rule_graph-is _ _ i.left in
    let r = rule_graph-is _ _ i.right in
    record { variables = rw v.0 v.1; left_nodes = l.few_nodes; left_edges = l.few_edges; right_nodes = r.few_nodes; right_edges = r.few_edges; tests = only-few passes_all test 4 _ _ i.tests }

-- Commands, by tag.

pub as_sequence-is : (l : List Raw) (x : Raw) → as_sequence l ≡ some x → (1 ≤ length l) × (x ≡ sequence (in_order l))
unfolding as_sequence in_order
as_sequence-is [] x e = let z : ◌≡◌ {A = ℕ} 0 1 = cc in absurd (omega arith)
as_sequence-is (c ∷ l) x e = (omega arith, sym (some_inj _ x e))

pub as_guarded-is : (keep : Bool) (l : List Raw) (x : Raw) → as_guarded keep l ≡ some x → (a b c : Raw) × (l ≡ a ∷ b ∷ c ∷ []) × (x ≡ guarded keep a b c)
unfolding as_guarded
as_guarded-is keep [] x e = let z : ◌≡◌ {A = ℕ} 0 1 = cc in absurd (omega arith)
as_guarded-is keep (a ∷ []) x e = let z : ◌≡◌ {A = ℕ} 0 1 = cc in absurd (omega arith)
as_guarded-is keep (a ∷ b ∷ []) x e = let z : ◌≡◌ {A = ℕ} 0 1 = cc in absurd (omega arith)
as_guarded-is keep (a ∷ b ∷ c ∷ []) x e = (a, b, c, refl, sym (some_inj _ x e))
as_guarded-is keep (a ∷ b ∷ c ∷ d ∷ l) x e = let z : ◌≡◌ {A = ℕ} 0 1 = cc in absurd (omega arith)

pub as_loop-is : (l : List Raw) (x : Raw) → as_loop l ≡ some x → (c : Raw) × (l ≡ c ∷ []) × (x ≡ loop c)
unfolding as_loop
as_loop-is [] x e = let z : ◌≡◌ {A = ℕ} 0 1 = cc in absurd (omega arith)
as_loop-is (c ∷ []) x e = (c, refl, sym (some_inj _ x e))
as_loop-is (c ∷ d ∷ l) x e = let z : ◌≡◌ {A = ℕ} 0 1 = cc in absurd (omega arith)

pub leaf-is : (c : Raw) (bs : List ℕ) (x : Raw) → leaf c bs ≡ some x → (bs ≡ []) × (x ≡ c)
unfolding leaf
leaf-is c bs x e = let t = ensure-some _ _ x e in (empty-true bs t.0, sym (some_inj c x t.1))

as_call-is : (bs : List ℕ) (x : Raw) → as_call bs ≡ some x → (length bs ≡ 1) × (x ≡ call (get_or bs 0 0))
unfolding as_call
as_call-is bs x e =
    let t = bind_some (one_byte bs) _ x e in
    let i = one_byte-is bs t.0 t.1 in
    (i.0, sym (some_inj _ x t.2) ∙ ap call i.1)

module _ (n tag : ℕ) (bs : List ℕ) (x : Raw) (e : command (suc n) tag bs ≡ some x) where
  pub rule-set-read : tag ≡ rule_set_tag → (x ≡ rule_set bs) × (1 ≤ length bs) × (length bs ≤ limits.numbers)
  unfolding as_rule_set
  rule-set-read h =
      let t = ensure-some _ _ x (sym (command-rule_set n tag bs h) ∙ e) in
      let b = both_true (leb 1 (length bs)) _ t.0 in
      (sym (some_inj _ x t.1), leb-true _ _ b.0, leb-true _ _ b.1)

  pub sequence-read : tag ≡ sequence_tag → (l : List Raw) × (only passes_all (command n) limits.commands bs ≡ some l) × (1 ≤ length l) × (length l ≤ limits.commands) × (x ≡ sequence (in_order l))
  sequence-read h =
      let t = bind_some (only passes_all (command n) limits.commands bs) _ x (sym (command-sequence n tag bs h) ∙ e) in
      let s = as_sequence-is t.0 x t.2 in
      (t.0, t.1, s.0, only-few passes_all (command n) limits.commands bs t.0 t.1, s.1)

  pub guarded-read : tag ≡ guarded_tag → (a b c : Raw) × (only passes_all (command n) limits.commands (drop 1 bs) ≡ some (a ∷ b ∷ c ∷ [])) × (x ≡ guarded (eqb (get_or bs 0 0) 1) a b c)
  guarded-read h =
      let f = bind_some (flag bs) _ x (sym (command-guarded n tag bs h) ∙ e) in
      let t = bind_some (only passes_all (command n) limits.commands (drop 1 bs)) _ x f.2 in
      let s = as_guarded-is f.0 t.0 x t.2 in
      (s.0, s.1, s.2, t.1 ∙ ap some s.3, s.4 ∙ ap (λ (keep : Bool). guarded keep s.0 s.1 s.2) (flag_is bs f.0 f.1).1)

  pub loop-read : tag ≡ loop_tag → (c : Raw) × (only passes_all (command n) limits.commands bs ≡ some (c ∷ [])) × (x ≡ loop c)
  loop-read h =
      let t = bind_some (only passes_all (command n) limits.commands bs) _ x (sym (command-loop n tag bs h) ∙ e) in
      let s = as_loop-is t.0 x t.2 in
      (s.0, t.1 ∙ ap some s.1, s.2)

  pub skip_read : tag ≡ skip_tag → (bs ≡ []) × (x ≡ skip)
  skip_read h = leaf-is skip bs x (sym (command-skip n tag bs h) ∙ e)

  pub fail-read : tag ≡ fail_tag → (bs ≡ []) × (x ≡ fail)
  fail-read h = leaf-is fail bs x (sym (command-fail n tag bs h) ∙ e)

  pub break-read : tag ≡ break_tag → (bs ≡ []) × (x ≡ break)
  break-read h = leaf-is break bs x (sym (command-break n tag bs h) ∙ e)

  pub call-read : tag ≡ call_tag → (length bs ≡ 1) × (x ≡ call (get_or bs 0 0))
  call-read h = as_call-is bs x (sym (command-call n tag bs h) ∙ e)

-- the tag of a command
abbrev pub tag_of : Raw → ℕ
tag_of (rule_set l) = rule_set_tag
tag_of (sequence cs) = sequence_tag
tag_of (guarded keep a b c) = guarded_tag
tag_of (loop c) = loop_tag
tag_of skip = skip_tag
tag_of fail = fail_tag
tag_of break = break_tag
tag_of (call i) = call_tag

-- it is neither that of a rule nor that of a procedure
pub command-tagged : (x : Raw) → procedure_tag < tag_of x
command-tagged (rule_set l) = omega arith
command-tagged (sequence cs) = omega arith
command-tagged (guarded keep a b c) = omega arith
command-tagged (loop c) = omega arith
command-tagged skip = omega arith
command-tagged fail = omega arith
command-tagged break = omega arith
command-tagged (call i) = omega arith

-- a command that is read has its tag, and there is depth for it
pub command-tag : (n tag : ℕ) (bs : List ℕ) (x : Raw) → command n tag bs ≡ some x → (0 < n) × (tag ≡ tag_of x)
command-tag zero tag bs x e =
    let h = command-no-depth tag bs in
    let z : ◌≡◌ {A = ℕ} 0 1 = cc in
    absurd (omega arith)
command-tag (suc n) tag bs x e = (omega arith, at (ℕ_discrete tag rule_set_tag) (ℕ_discrete tag sequence_tag) (ℕ_discrete tag guarded_tag) (ℕ_discrete tag loop_tag) (ℕ_discrete tag skip_tag) (ℕ_discrete tag fail_tag) (ℕ_discrete tag break_tag) (ℕ_discrete tag call_tag))
  where
    at : Dec (tag ≡ rule_set_tag) → Dec (tag ≡ sequence_tag) → Dec (tag ≡ guarded_tag) → Dec (tag ≡ loop_tag) → Dec (tag ≡ skip_tag) → Dec (tag ≡ fail_tag) → Dec (tag ≡ break_tag) → Dec (tag ≡ call_tag) → tag ≡ tag_of x
    at (yes h) k1 k2 k3 k4 k5 k6 k7 = rw (rule-set-read n tag bs x e h).0 h
    at (no h0) (yes h) k2 k3 k4 k5 k6 k7 = rw (sequence-read n tag bs x e h).4 h
    at (no h0) (no h1) (yes h) k3 k4 k5 k6 k7 = rw (guarded-read n tag bs x e h).4 h
    at (no h0) (no h1) (no h2) (yes h) k4 k5 k6 k7 = rw (loop-read n tag bs x e h).2 h
    at (no h0) (no h1) (no h2) (no h3) (yes h) k5 k6 k7 = rw (skip_read n tag bs x e h).1 h
    at (no h0) (no h1) (no h2) (no h3) (no h4) (yes h) k6 k7 = rw (fail-read n tag bs x e h).1 h
    at (no h0) (no h1) (no h2) (no h3) (no h4) (no h5) (yes h) k7 = rw (break-read n tag bs x e h).1 h
    at (no h0) (no h1) (no h2) (no h3) (no h4) (no h5) (no h6) (yes h) = rw (call-read n tag bs x e h).1 h
    at (no h0) (no h1) (no h2) (no h3) (no h4) (no h5) (no h6) (no h7) =
        let k = command-other n tag bs h0 h1 h2 h3 h4 h5 h6 h7 in
        let z : ◌≡◌ {A = ℕ} 0 1 = cc in
        absurd (omega arith)

-- The whole.

-- one command that is read by `read`, and nothing behind it
pub record IsOne (read : ℕ → List ℕ → Option Raw) (bs : List ℕ) (x : Raw) : Type 0 where
  pub whole : Field
  pub there : field bs ≡ some whole
  pub last : whole.rest ≡ []
  pub command : read whole.tag whole.payload ≡ some x

module _ (read : ℕ → List ℕ → Option Raw) (bs : List ℕ) (x : Raw) where
  pub one-is : one_command read bs ≡ some x → IsOne read bs x
  unfolding one_command
  one-is e =
      let d = bind_some (field bs) _ x e in
      let l = ensure-some (is_empty d.0.rest) _ x d.2 in
      record { whole = d.0; there = d.1; last = empty-true _ l.0; command = l.1 }

  pub is_one : IsOne read bs x → one_command read bs ≡ some x
  unfolding one_command is_empty
  is_one i = bind_yes _ _ _ i.there ∙ ensure-yes _ _ (rw i.last) ∙ i.command

-- an image that is read, its commands by `read`
pub record IsProgram (most : ℕ) (read : ℕ → List ℕ → Option Raw) (bs : List ℕ) (x : RawProgram) : Type 0 where
  pub behind : List ℕ
  pub rules : leading (eqb rule_tag) (λ tag. rule) limits.rules bs ≡ some (record { items = x.rules; rest = behind })
  pub last : List ℕ
  pub procedures : leading (eqb procedure_tag) (λ tag. one_command read) most behind ≡ some (record { items = x.procedures; rest = last })
  pub main : IsOne read last x.main

module _ (most : ℕ) (read : ℕ → List ℕ → Option Raw) (bs : List ℕ) (x : RawProgram) where
  pub program-is : program_by most read bs ≡ some x → IsProgram most read bs x
  unfolding program_by
  program-is e =
      let r = bind_some (leading (eqb rule_tag) (λ tag. rule) limits.rules bs) _ x e in
      let k = bind_some (leading (eqb procedure_tag) (λ tag. one_command read) most r.0.rest) _ x r.2 in
      let c = bind_some (one_command read k.0.rest) _ x k.2 in
      rw (← (some_inj _ x c.2)) (record { behind = r.0.rest; rules = r.1; last = k.0.rest; procedures = k.1; main = one-is read k.0.rest c.0 c.1 })

  pub is-program : IsProgram most read bs x → program_by most read bs ≡ some x
  unfolding program_by
  is-program i = bind_yes _ _ _ i.rules ∙ bind_yes _ _ _ i.procedures ∙ bind_yes _ _ _ (is_one read i.last x.main i.main)
