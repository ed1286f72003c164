-- Operands, conditions and tests, read from their bytes: what a trial gives their variables and nodes, and what they then stand
-- for. Rests on Testing, on parts' Reading and Series and on the meaning's Matching.
use mathlib.Core.Path.{◌≡◌, refl, sym, ◌∙◌, ap}
use mathlib.Core.Bool.{Bool, not}
use mathlib.Core.Option.{some}
use mathlib.Core.List.{List, [], ◌∷◌}
use Prim.Native.Nat.{ℕ, ◌-◌, ◌<◌}
use native.Mathlib.Omega.{arith}
use native.Mathlib.Decide.{ℕ_discrete}
use lib.Dec.{eqb, ltb}
use lib.ListN.{length, get_or, take, drop}
use Rattle.meaning.specs.Basics.{choose, exists}
use Rattle.meaning.specs.Numbers.{height, less}
use Rattle.meaning.specs.Tags.{constant_tag, edge_test_tag, in_degree_tag, relation_tag, equal_relation}
use Rattle.meaning.specs.Layout.{Host}
use Rattle.meaning.specs.Image.{Pair, most_items, limits, only, passes_all, constant, operand, two_operands, relation, condition, test}
use Rattle.meaning.specs.References.{operand_names, condition_operands, condition_nodes}
use Rattle.meaning.specs.Matching.{Assignment, atom_of, edge_runs, condition_holds, test_holds}
use Rattle.meaning.specs.Laws.Every.{Every}
use Rattle.meaning.specs.Laws.Tests.{some_inj, bind_some, ensure-some}
use Rattle.meaning.specs.declared.Operand.{Operand}
use Rattle.meaning.specs.declared.Condition.{Condition}
use Rattle.meaning.specs.declared.Condition.TheVariants.{Equal, Less}
use Rattle.fields.specs.Fields.{Found, found, field_at, nth_field}
use Rattle.fields.specs.Image.{condition-relation}
use Rattle.fields.specs.Parsed.{two_operands-is, relation_1, relation_2, relation_kind, IsTest, test-is}
use Rattle.parts.specs.Series.{For, Series, only-series, series-field, series-first, nth_part, nth_tag, nth-item, part_field, tag-field}
use Rattle.parts.specs.Reading.{operand-first, operand-second, condition-edge-is, condition_in_is, condition-out-is}
use Rattle.parts.proofs.Loops.{NoField, no_field, a-field, no_part}
use Rattle.plan.specs.Plan.{test_of}
use Rattle.agreeing.specs.Placed.{slot_of, Trial}
use Rattle.agreeing.specs.Agreeing.{Valued, HasValue}
use Rattle.testing.specs.Testing.{OperandValued, HasOperand, HasCondition, HasTest}

-- Relations: two operands, one behind the other.

pub record Related (p : List ℕ) (k : Condition) : Type 0 where
  pub left : Operand
  pub right : Operand
  pub row : Series operand (left ∷ right ∷ []) [] (drop 1 p)
  pub operands : condition_operands k ≡ left ∷ right ∷ []
  pub equal : get_or p 0 0 ≡ equal_relation → k ≡ Equal left right
  pub less : (get_or p 0 0 ≡ equal_relation → ⊥) → k ≡ Less left right

module _ (kind : ℕ) (o : Pair) (k : Condition) (e : relation kind o ≡ some k) where
  is-equal : kind ≡ equal_relation → k ≡ Equal o.first o.second
  is-equal q = sym (some_inj _ _ (sym (relation_1 kind o q) ∙ e))

  is-less : (kind ≡ equal_relation → ⊥) → k ≡ Less o.first o.second
  is-less q =
      let u = relation_kind kind o k e in
      sym (some_inj _ _ (sym (relation_2 kind o (omega arith)) ∙ e))

  both-operands : condition_operands k ≡ o.first ∷ o.second ∷ []
  unfolding condition_operands
  both-operands = go (ℕ_discrete kind equal_relation)
    where
      go : Dec (kind ≡ equal_relation) → condition_operands k ≡ o.first ∷ o.second ∷ []
      go (yes q) = rw (is-equal q)
      go (no q) = rw (is-less q)

pub related : (p : List ℕ) (k : Condition) → condition relation_tag p ≡ some k → Related p k
related p k e =
    let t = ensure-some _ _ k (sym (condition-relation relation_tag p refl) ∙ e) in
    let u = bind_some (two_operands (drop 1 p)) (relation (get_or p 0 0)) k t.1 in
    record {
      left = u.0.first;
      right = u.0.second;
      row = only-series passes_all operand operand (λ tag cs a x q. q) 2 (drop 1 p) _ (two_operands-is (drop 1 p) u.0 u.1);
      operands = both-operands _ u.0 k u.2;
      equal = is-equal _ u.0 k u.2;
      less = is-less _ u.0 k u.2;
    }

-- what they stand for, from atoms in hand
module _ {p : List ℕ} {k : Condition} (s : Related p k) (h : Host) (q : List ℕ) (α : Assignment) (x y : ℕ) (e : x ≡ atom_of α s.left) (f : y ≡ atom_of α s.right)
    {kind : ℕ} (b : kind ≡ get_or p 0 0) where
  pub equal-holds : kind ≡ equal_relation → eqb x y ≡ condition_holds h q α k
  unfolding condition_holds
  equal-holds t = rw (s.equal (sym b ∙ t), e, f)

  pub less-holds : (kind ≡ equal_relation → ⊥) → (m n : ℕ) → m ≡ height x → n ≡ height y → ltb m n ≡ condition_holds h q α k
  unfolding condition_holds less
  less-holds t m n u v = rw (s.less (λ z. t (b ∙ z)), u, v, e, f)

-- What a trial gives.

module _ {h : Host} {bs plan at : List ℕ} {i c : ℕ} where
  -- Operands.

  module _ {tag : ℕ} {p : List ℕ} (w : HasOperand h bs plan at i c tag p) where
    pub constant-atom : (α : Assignment) (x : ℕ) → tag ≡ constant_tag → For (constant p) (λ n. x ≡ n) → x ≡ atom_of α w.o
    unfolding atom_of
    constant-atom α x t q = rw (← (operand-first tag p x t q w.o w.is))

    module _ (v : ℕ) (t : tag ≡ constant_tag → ⊥) (q : v ≡ get_or p 0 0) where
      pub variable-valued : Valued w.trial.rule w.trial.placed v
      unfolding operand_names
      variable-valued = (rw (← (operand-second tag p v t q w.o w.is)) at w.valued).0

      abbrev pub of-operand : HasValue h bs plan at i c v
      of-operand = record { trial = w.trial; valued = variable-valued }

      pub variable-atom : (α : Assignment) (x : ℕ) → x ≡ get_or (α v) 0 0 → x ≡ atom_of α w.o
      unfolding atom_of
      variable-atom α x e = rw (← (operand-second tag p v t q w.o w.is)) e

  -- Conditions on nodes.

  -- a node that is placed has its place in the array
  pub room : (w : Trial h bs plan at i c) {a : ℕ} → a < length w.placed → (length at ≡ most_items) × (a < most_items)
  room w n = (w.room, let q = w.planned.laid.items in omega (arith, w.few, q.few_nodes, q.few_edges))

  module _ {tag : ℕ} {p : List ℕ} (w : HasCondition h bs plan at i c tag p) (a : ℕ) (ha : a ≡ get_or p 0 0) where
    head_node : {k : Condition} → k ≡ w.k → (l : List ℕ) → condition_nodes k ≡ a ∷ l → a < length w.trial.placed
    head_node r l e = (rw (← r, e) at w.decided.nodes).0

    pub first-node : (tag ≡ relation_tag → ⊥) → a < length w.trial.placed
    unfolding condition_nodes
    first-node t = go (ℕ_discrete tag edge_test_tag) (ℕ_discrete tag in_degree_tag)
      where
        go : Dec (tag ≡ edge_test_tag) → Dec (tag ≡ in_degree_tag) → a < length w.trial.placed
        go (yes e) d = head_node (condition-edge-is tag p a ha _ refl e w.k w.is) _ refl
        go (no e) (yes d) = head_node (condition_in_is tag p a ha _ (λ n. refl) d w.k w.is) _ refl
        go (no e) (no d) = head_node (condition-out-is tag p a ha _ (λ n. refl) t e d w.k w.is) _ refl

    -- the slot of the first node
    first_slot : (x : ℕ) → (tag ≡ relation_tag → ⊥) → x ≡ slot_of at i c a → x ≡ get_or w.trial.placed a 0
    first_slot x t e = e ∙ w.trial.slot a (first-node t)

    module _ (b : ℕ) (hb : b ≡ get_or p 1 0) (t : tag ≡ edge_test_tag) where
      pub second-node : b < length w.trial.placed
      unfolding condition_nodes
      second-node = (rw (← (condition-edge-is tag p a ha b hb t w.k w.is)) at w.decided.nodes).1.0

      pub edge-holds : (α : Assignment) (x y : ℕ) (r : Bool) → x ≡ slot_of at i c a → y ≡ slot_of at i c b → r ≡ exists (edge_runs h x y) (length h.edges)
          → r ≡ condition_holds h w.trial.placed α w.k
      unfolding condition_holds
      edge-holds α x y r e f g =
          g ∙ rw (← (condition-edge-is tag p a ha b hb t w.k w.is), first_slot x (λ u. omega arith) e, f ∙ w.trial.slot b second-node)

    -- a degree is the number in hand
    pub degree_holds : (α : Assignment) {k : Condition} → k ≡ w.k → (f : ℕ → ℕ) (x d n : ℕ) → condition_holds h w.trial.placed α k ≡ eqb (f (get_or w.trial.placed a 0)) n
        → (tag ≡ relation_tag → ⊥) → x ≡ slot_of at i c a → d ≡ f x → eqb d n ≡ condition_holds h w.trial.placed α w.k
    degree_holds α r f x d n m t e g = rw (← r, m, g, first_slot x t e)

  -- Relations.

  module _ {p : List ℕ} (w : HasCondition h bs plan at i c relation_tag p) where
    abbrev pub two : Related p w.k
    two = related p w.k w.is

    both : Every (OperandValued w.trial.rule w.trial.placed) (two.left ∷ two.right ∷ [])
    both = rw two.operands at w.decided.operands

    pub left-valued : OperandValued w.trial.rule w.trial.placed two.left
    left-valued = both.0

    pub right-valued : OperandValued w.trial.rule w.trial.placed two.right
    right-valued = both.1.0

    pub left-none : {f : Found} → f ≡ field_at p 1 → NoField f → ⊥
    left-none e n = series-field operand p 1 _ _ two.row (no_field p 1 _ e n)

    module _ {f : Found} {tag start end : ℕ} (e : f ≡ field_at p 1) (g : f ≡ found tag start end) where
      pub first : (operand tag (take (end - start) (drop start p)) ≡ some two.left) × Series operand (two.right ∷ []) [] (drop end p)
      first = series-first operand p 1 _ _ two.row (a-field p 1 e g)

      abbrev pub left-operand : {q : List ℕ} → q ≡ take (end - start) (drop start p) → HasOperand h bs plan at i c tag q
      left-operand m = record { trial = w.trial; o = two.left; is = ap (operand tag) m ∙ first.0; valued = left-valued }

      pub behind : Series operand (two.right ∷ []) [] (drop end p)
      behind = first.1

      pub right-none : {n : Found} → n ≡ field_at p end → NoField n → ⊥
      right-none k n = series-field operand p end _ _ behind (no_field p end _ k n)

      abbrev pub right_operand : {n : Found} {other from to : ℕ} {q : List ℕ} → n ≡ field_at p end → n ≡ found other from to
          → q ≡ take (to - from) (drop from p) → HasOperand h bs plan at i c other q
      right_operand {other = other} k l m = record { trial = w.trial; o = two.right; is = ap (operand other) m ∙ (series-first operand p end _ _ behind (a-field p end k l)).0; valued = right-valued }

  -- a relation by its tag
  abbrev pub as_relation : {tag : ℕ} {p : List ℕ} → tag ≡ relation_tag → HasCondition h bs plan at i c tag p → HasCondition h bs plan at i c relation_tag p
  as_relation {p = p} t w = record { trial = w.trial; k = w.k; is = ap (λ (x : ℕ). condition x p) (sym t) ∙ w.is; decided = w.decided }

  -- Tests, from the bytes of all.

  module _ {t : ℕ} (w : HasTest h bs plan at i c t) (p : List ℕ) (tests : only passes_all test limits.tests p ≡ some w.trial.rule.tests) {f : Found} (k : f ≡ nth_field t p 0) where
    numbered : IsTest (nth_tag t p) (nth_part t p) (test_of w.trial.rule t)
    numbered = test-is _ _ _ (nth-item p test _ t _ (only-series passes_all test test (λ tag cs a x e. e) limits.tests p _ tests) w.there)

    pub test-none : NoField f → ⊥
    test-none n = omega (arith, numbered.long, ap length (no_part p f (nth_field t p 0) k n))

    pub test-there : {tag start end : ℕ} {q : List ℕ} → f ≡ found tag start end → q ≡ take (end - start) (drop start p) → IsTest tag q (test_of w.trial.rule t)
    test-there g m = let n = sym k ∙ g in rw (m, ← (part_field p _ _ _ _ n), ← (tag-field _ _ _ _ n)) numbered

  module _ {t : ℕ} (w : HasTest h bs plan at i c t) {tag : ℕ} {q : List ℕ} (is : IsTest tag q (test_of w.trial.rule t)) where
    abbrev pub of_test : {rest : List ℕ} → rest ≡ drop 1 q → HasCondition h bs plan at i c tag rest
    of_test e = record { trial = w.trial; k = (test_of w.trial.rule t).condition; is = ap (condition tag) e ∙ is.condition; decided = w.decided }

    -- it holds by its flag and its condition
    pub by_flag : (α : Assignment) (n b : Bool) → n ≡ eqb (get_or q 0 0) 1 → b ≡ condition_holds h w.trial.placed α (test_of w.trial.rule t).condition
        → choose n (not b) b ≡ test_holds h w.trial.placed α (test_of w.trial.rule t)
    unfolding test_holds
    by_flag α n b e f = rw (e ∙ sym is.negated, f)
