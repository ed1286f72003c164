-- What is read of operands, elements, conditions and tests is what the definition's reader gives, where it gives something.
-- Rests on the meaning's Image and on Series.
use Rattle.std.specs.Prelude.{◌≡◌, Bool, List, [], ℕ, ◌<◌, eqb, leb, length, get_or, take, drop}
use Rattle.std.proofs.Common.{sym, ◌∙◌, ap, arith, eq-eqb, lit<, length-drop, take_all}
use Rattle.std.proofs.Math.Option.{Option, some, none}
use Rattle.std.proofs.Math.Decide.{ℕ_discrete}
use Rattle.meaning.specs.Tags.{constant_tag, difference_tag, edge_test_tag, in_degree_tag, out_degree_tag, relation_tag, sum_tag, variable_tag}
use Rattle.meaning.specs.Basics.{ensure, ◌>>◌, ◌>>=◌}
use Rattle.meaning.specs.Numbers.{number}
use Rattle.meaning.specs.Image.{only, passes_all, constant, operand, two_operands, element, relation, condition, test}
use Rattle.meaning.specs.Laws.Tests.{some_inj, bind_some, ensure-some, ensure-yes}
use Rattle.fields.specs.Image.{operand-other, element-other, condition-relation, condition-other}
use Rattle.fields.specs.Parsed.{constant-is, two_operands-is, constant-operand-read, variable-operand-read, constant-read, variable-read, sum-read, difference-read, test-is, edge-test-read, in_degree_read, out_degree_read, relation_1, relation_2, relation_kind}
use Rattle.meaning.specs.declared.Operand.{Operand}
use Rattle.meaning.specs.declared.Operand.TheVariants.{Constant as constant_operand, Variable as variable_operand}
use Rattle.meaning.specs.declared.Element.TheVariants.{Constant, Variable, Sum, Difference}
use Rattle.meaning.specs.declared.Condition.{Condition}
use Rattle.meaning.specs.declared.Condition.TheVariants.{Edge, InDegree, OutDegree, Equal, Less}
use Rattle.parts.specs.Series.{For, Series, only-series, nth_part, nth_tag, nth-item}
use Rattle.parts.specs.Rows.{tag_item, count-is}

-- a relation and two operands
unfoldable pub relation_of : List ℕ → Option Condition
relation_of bs = ensure (leb 1 (length bs)) >> (two_operands (drop 1 bs) >>= relation (get_or bs 0 0))

-- Numbers.

pub word-is : (bs : List ℕ) (n : ℕ) → length bs ≡ 4 → n ≡ number (take 4 (drop 0 bs)) → For (constant bs) (λ c. n ≡ c)
word-is bs n h q c e = q ∙ ap number (take_all 4 bs (omega arith)) ∙ sym (constant-is bs c e).1

pub word-not : (bs : List ℕ) → (length bs ≡ 4 → ⊥) → For (constant bs) (λ c. 0 ≡ c)
word-not bs h c e = absurd (h (constant-is bs c e).0)

-- the number of four bytes, where a constant is read
constant-there : (bs : List ℕ) → length bs ≡ 4 → constant bs ≡ some (number bs)
unfolding constant
constant-there bs h = ensure-yes _ _ (eq-eqb _ _ h)

pub word-there : (bs : List ℕ) (n : ℕ) → length bs ≡ 4 → constant bs ≡ none → n ≡ 0
word-there bs n h e =
    let f : some (number bs) ≡ none = sym (constant-there bs h) ∙ e in
    let z : ◌≡◌ {A = ℕ} 0 1 = cc in
    absurd (omega arith)

pub degree_is : (bs : List ℕ) (n : ℕ) → n ≡ number (take 2 (drop 1 bs)) → length bs ≡ 3 → n ≡ number (drop 1 bs)
degree_is bs n q h = q ∙ ap number (take_all 2 (drop 1 bs) (rw (length-drop 1 bs) (omega arith)))

never : {A B : Type 0} {o : Option A} {a : A} → o ≡ none → o ≡ some a → B
never h e = let z : ◌≡◌ {A = ℕ} 0 1 = cc in absurd (omega arith)

-- Operands.

module _ (tag : ℕ) (bs : List ℕ) where
  pub operand-first : (w : ℕ) → tag ≡ constant_tag → For (constant bs) (λ c. w ≡ c) → For (operand tag bs) (λ o. constant_operand w ≡ o)
  operand-first w h q o e =
      let t = constant-operand-read tag bs o h e in
      ap constant_operand (q (number bs) (constant-there bs t.0)) ∙ sym t.1

  pub operand-second : (v : ℕ) → (tag ≡ constant_tag → ⊥) → v ≡ get_or bs 0 0 → For (operand tag bs) (λ o. variable_operand v ≡ o)
  operand-second v h q o e = at (ℕ_discrete tag variable_tag)
    where
      at : Dec (tag ≡ variable_tag) → variable_operand v ≡ o
      at (yes k) = ap variable_operand q ∙ sym (variable-operand-read tag bs o k e).1
      at (no k) = never (operand-other tag bs h k) e

-- the operand of number n, where there are two
abbrev pub Nth : List ℕ → ℕ → Operand → Type 0
Nth bs n r = For (only passes_all operand 2 bs) (λ l. n < length l → (d : Operand) → r ≡ get_or l n d)

module _ (bs : List ℕ) (a b : Operand) (ha : Nth bs 0 a) (hb : Nth bs 1 b) where
  pair_is : For (two_operands bs) (λ p. (a ≡ p.first) × (b ≡ p.second))
  pair_is p e =
      let s = two_operands-is bs p e in
      (ha _ s (lit< tt) a, hb _ s (lit< tt) b)

  -- Elements.

  module _ (tag : ℕ) where
    pub element-sum-is : tag ≡ sum_tag → For (element tag bs) (λ e. Sum a b ≡ e)
    element-sum-is h e q =
        let t = sum-read tag bs e h q in
        let u = pair_is t.0 t.1 in
        rw (u.0, u.1) (sym t.2)

    pub element-difference-is : (tag ≡ constant_tag → ⊥) → (tag ≡ variable_tag → ⊥) → (tag ≡ sum_tag → ⊥) → For (element tag bs) (λ e. Difference a b ≡ e)
    element-difference-is h0 h1 h2 e q = at (ℕ_discrete tag difference_tag)
      where
        at : Dec (tag ≡ difference_tag) → Difference a b ≡ e
        at (yes h) =
            let t = difference-read tag bs e h q in
            let u = pair_is t.0 t.1 in
            rw (u.0, u.1) (sym t.2)
        at (no h) = never (element-other tag bs h0 h1 h2 h) q

  -- Relations, from the operands behind the first byte.

  related : (kind : ℕ) (c : Condition) → (two_operands bs >>= relation kind) ≡ some c → relation kind (record { first = a; second = b }) ≡ some c
  related kind c e =
      let t = bind_some (two_operands bs) (relation kind) c e in
      let u = pair_is t.0 t.1 in
      rw (u.0, u.1) t.2

module _ (tag : ℕ) (bs : List ℕ) where
  pub element-constant-is : (w : ℕ) → tag ≡ constant_tag → For (constant bs) (λ c. w ≡ c) → For (element tag bs) (λ e. Constant w ≡ e)
  element-constant-is w h q e x =
      let t = constant-read tag bs e h x in
      ap Constant (q (number bs) (constant-there bs t.0)) ∙ sym t.1

  pub element-variable-is : (v : ℕ) → tag ≡ variable_tag → v ≡ get_or bs 0 0 → For (element tag bs) (λ e. Variable v ≡ e)
  element-variable-is v k q e x = ap Variable q ∙ sym (variable-read tag bs e k x).1

-- Relations.

module _ (bs rest : List ℕ) (kind : ℕ) (a b : Operand) (hk : kind ≡ get_or bs 0 0) (hr : rest ≡ drop 1 bs) (ha : Nth rest 0 a) (hb : Nth rest 1 b) where
  relation-is : For (relation_of bs) (λ c. relation kind (record { first = a; second = b }) ≡ some c)
  unfolding relation_of
  relation-is c e =
      let t = ensure-some _ _ c e in
      related rest a b ha hb kind c (rw (hk, hr) t.1)

  pub equal_is : kind ≡ 1 → For (relation_of bs) (λ c. Equal a b ≡ c)
  equal_is h c e = some_inj _ _ (sym (relation_1 kind _ h) ∙ relation-is c e)

  pub less-is : (kind ≡ 1 → ⊥) → For (relation_of bs) (λ c. Less a b ≡ c)
  less-is h c e =
      let t = relation-is c e in
      let u = relation_kind kind _ c t in
      some_inj _ _ (sym (relation_2 kind _ (omega (arith, u.0, u.1))) ∙ t)

-- Conditions and tests.

module _ (tag : ℕ) (bs : List ℕ) where
  pub condition-relation-is : (r : Condition) → tag ≡ relation_tag → For (relation_of bs) (λ c. r ≡ c) → For (condition tag bs) (λ c. r ≡ c)
  unfolding relation_of
  condition-relation-is r h q c e = q c (sym (condition-relation tag bs h) ∙ e)

  module _ (a : ℕ) (ha : a ≡ get_or bs 0 0) where
    pub condition-edge-is : (b : ℕ) → b ≡ get_or bs 1 0 → tag ≡ edge_test_tag → For (condition tag bs) (λ c. Edge a b ≡ c)
    condition-edge-is b hb h c e = rw (ha, hb) (sym (edge-test-read tag bs c e h).1)

    module _ (n : ℕ) (hn : length bs ≡ 3 → n ≡ number (drop 1 bs)) where
      pub condition_in_is : tag ≡ in_degree_tag → For (condition tag bs) (λ c. InDegree a n ≡ c)
      condition_in_is h c e =
          let t = in_degree_read tag bs c e h in
          rw (ha, hn t.0) (sym t.1)

      pub condition-out-is : (tag ≡ relation_tag → ⊥) → (tag ≡ edge_test_tag → ⊥) → (tag ≡ in_degree_tag → ⊥) → For (condition tag bs) (λ c. OutDegree a n ≡ c)
      condition-out-is h3 h0 h1 c e = at (ℕ_discrete tag out_degree_tag)
        where
          at : Dec (tag ≡ out_degree_tag) → OutDegree a n ≡ c
          at (yes h) =
              let t = out_degree_read tag bs c e h in
              rw (ha, hn t.0) (sym t.1)
          at (no h) = never (condition-other tag bs h0 h1 h h3) e

  pub test_read : (negated : Bool) (rest : List ℕ) (r : Condition) → negated ≡ eqb (get_or bs 0 0) 1 → rest ≡ drop 1 bs → For (condition tag rest) (λ c. r ≡ c) → For (test tag bs) (λ t. record { negated = negated; condition = r } ≡ t)
  test_read negated rest r hn hr q x e =
      let i = test-is tag bs x e in
      let w : r ≡ x.condition = q x.condition (ap (condition tag) hr ∙ i.condition) in
      let v : negated ≡ x.negated = hn ∙ sym i.negated in
      rw (v, w)

-- what is read from the field of a number in a row
pub item-nth : {A : Type 0} (item : ℕ → List ℕ → Option A) (most : ℕ) (bs : List ℕ) (n tag : ℕ) (part : List ℕ) (r : A) → tag ≡ nth_tag n bs → part ≡ nth_part n bs → For (item tag part) (λ a. r ≡ a) → For (only passes_all item most bs) (λ l. n < length l → (d : A) → r ≡ get_or l n d)
item-nth item most bs n tag part r g h q l e k d =
    q (get_or l n d) (rw (g, h) (nth-item bs item l n d (only-series passes_all item item (λ t b a p x. x) most bs l e) k))

pub items-count : {A : Type 0} (item : ℕ → List ℕ → Option A) (most : ℕ) (bs : List ℕ) (r : ℕ) → ((l : List ℕ) → Series tag_item l [] bs → r ≡ length l) → For (only passes_all item most bs) (λ l. r ≡ length l)
items-count item most bs r h l e = count-is item bs r h l (only-series passes_all item item (λ t b a p x. x) most bs l e)
