-- Laws of the meaning's Image: what the reader of fields finds, one step at a time, over any reader of items and any bound; and when
-- the readers of the parts succeed (what they have read is in Parsed). Rests on the meaning's Basics, Image and Laws/Tests.
use Rattle.std.specs.Prelude.{◌≡◌, Bool, true, false, eqb, leb, ltb, get_or, take, drop}
use Rattle.std.proofs.Math.Path.{refl, ap}
use Rattle.std.proofs.Common.{sym, ◌∙◌, length-append, drop_of_length-le, length-take-le, get_or-drop, drop-drop}
use mathlib.Core.List.{List, [], ◌∷◌, ◌++◌, append_assoc, append-nil}
use Rattle.std.proofs.Math.Option.{Option, some, none}
use Prim.Native.Nat.{ℕ, zero, suc, ◌+◌, ◌-◌, ◌<◌, ◌≤◌}
use native.Mathlib.Omega.{arith}
use borrow.Author.Tests.{ne_eqb, lt-ltb, le-leb, lt-leb, leb-true}
use Rattle.std.proofs.Math.ListN.{length, length-drop}
use Rattle.meaning.specs.Basics.{choose, both, either, every, is_empty, is_some, ensure, ◌>>◌, ◌>>=◌}
use Rattle.meaning.specs.Layout.{is_node_mark, is_edge_mark}
use Rattle.meaning.specs.Image.{RuleNode, Rule, Raw, Field, Read, Pair, limits, stated, field, expect, leading, only, passes_all, constant, one_byte, flag, operand, as_pair, two_operands, element, label, rule_node, rule_edge, rule_graph, relation, condition, test, is_type, types, mode, rule, leaf, as_rule_set, as_sequence, as_guarded, as_loop, as_call, unguarded, command, one_command, program_by, raw_program}
use Rattle.meaning.specs.Tags.{any_mark, break_tag, call_tag, constant_tag, difference_tag, edge_tag, edge_test_tag, fail_tag, guarded_tag, in_degree_tag, loop_tag, node_tag, out_degree_tag, procedure_tag, relation_tag, rule_set_tag, rule_tag, sequence_tag, skip_tag, sum_tag, variable_tag}
use Rattle.meaning.specs.Image.Raw.{skip, fail, break}
use Rattle.meaning.specs.declared.Operand.{Operand}
use Rattle.meaning.specs.declared.Condition.TheVariants.{Equal, Less}
use Rattle.meaning.specs.Laws.Tests.{choose_true, choose_false, choose_ne, some_inj, bind_some, ensure-some, ensure-yes, ensure-no}

-- Optional values.

pub is_some_no : {A : Type 0} (o : Option A) → o ≡ none → is_some o ≡ false
unfolding is_some
is_some_no o e = rw e

pub is_some_false : {A : Type 0} (o : Option A) → is_some o ≡ false → o ≡ none
unfolding is_some
is_some_false none e = refl
is_some_false (some a) e = let z : ◌≡◌ {A = ℕ} 0 1 = cc in absurd (omega arith)

pub bind_none : {A B : Type 0} (o : Option A) (f : A → Option B) → o ≡ none → (o >>= f) ≡ none
unfolding ◌>>=◌
bind_none o f e = rw e

pub bind_yes : {A B : Type 0} (o : Option A) (f : A → Option B) (a : A) → o ≡ some a → (o >>= f) ≡ f a
unfolding ◌>>=◌
bind_yes o f a e = rw e

-- a value made of one that is there, or of a test that holds
pub is_some_map : {A B : Type 0} (o : Option A) (f : A → B) → is_some (o >>= λ a. some (f a)) ≡ is_some o
unfolding is_some ◌>>=◌
is_some_map none f = refl
is_some_map (some a) f = refl

pub is_some_ensure : {B : Type 0} (t : Bool) (b : B) → is_some (ensure t >> some b) ≡ t
unfolding is_some ensure ◌>>◌
is_some_ensure true b = refl
is_some_ensure false b = refl

-- a test, or a value, and what is behind it
pub is_some_after : {B : Type 0} (t : Bool) (o : Option B) (b : Bool) → is_some o ≡ b → is_some (ensure t >> o) ≡ both t b
unfolding is_some ensure ◌>>◌ both
is_some_after true o b e = e
is_some_after false o b e = refl

pub is_some_then : {A B : Type 0} (o : Option A) (f : A → Option B) (b : Bool) → ((a : A) → is_some (f a) ≡ b) → is_some (o >>= f) ≡ both (is_some o) b
unfolding is_some ◌>>=◌ both
is_some_then none f b h = refl
is_some_then (some a) f b h = h a

-- Fields.

pub record IsField (bs : List ℕ) (d : Field) : Type 0 where
  pub long : 3 + length d.payload + length d.rest ≡ length bs
  pub states : length d.payload ≡ stated bs
  pub tag : d.tag ≡ get_or bs 0 0
  pub payload : d.payload ≡ take (length d.payload) (drop 3 bs)
  pub rest : d.rest ≡ drop (3 + length d.payload) bs

module _ (bs : List ℕ) where
  abbrev front : Field
  front = record { tag = get_or bs 0 0; payload = take (stated bs) (drop 3 bs); rest = drop (3 + stated bs) bs }

  front-states : 3 ≤ length bs → stated bs ≤ length bs - 3 → length (take (stated bs) (drop 3 bs)) ≡ stated bs
  front-states h k = length-take-le (stated bs) (drop 3 bs) (rw (length-drop 3 bs) k)

  pub field_of : 3 ≤ length bs → stated bs ≤ length bs - 3 → field bs ≡ some front
  unfolding field
  field_of h k = ensure-yes _ _ (le-leb 3 _ h) ∙ ensure-yes _ _ (le-leb _ _ k)

  pub field-small : length bs < 3 → field bs ≡ none
  unfolding field
  field-small h = ensure-no _ _ (lt-leb 3 _ h)

  pub field_cut : 3 ≤ length bs → length bs - 3 < stated bs → field bs ≡ none
  unfolding field
  field_cut h k = ensure-yes _ _ (le-leb 3 _ h) ∙ ensure-no _ _ (lt-leb _ _ k)

  pub field_is : (d : Field) → field bs ≡ some d → IsField bs d
  unfolding field
  field_is d e =
      let t = ensure-some _ _ d e in
      let u = ensure-some _ _ d t.1 in
      let h : 3 ≤ length bs = leb-true 3 _ t.0 in
      let k : stated bs ≤ length bs - 3 = leb-true _ _ u.0 in
      let s = front-states h k in
      rw (← (some_inj front d u.1)) (record {
        long = rw (s, length-drop (3 + stated bs) bs) (omega arith);
        states = s;
        tag = refl;
        payload = rw s;
        rest = rw s;
      })

pub expect-other : (tag : ℕ) (bs : List ℕ) (d : Field) → field bs ≡ some d → (d.tag ≡ tag → ⊥) → expect tag bs ≡ none
unfolding expect
expect-other tag bs d e h = bind_yes _ _ d e ∙ ensure-no _ _ (ne_eqb _ _ h)

-- Series of fields: one step.

module _ {A : Type 0} (passes : ℕ → Bool) (item : ℕ → List ℕ → Option A) where
  pub leading-other : (n : ℕ) (bs : List ℕ) → passes (get_or bs 0 0) ≡ false → leading passes item n bs ≡ some (record { items = []; rest = bs })
  unfolding leading
  leading-other zero bs h = refl
  leading-other (suc n) [] h = refl
  leading-other (suc n) (t ∷ bs) h = choose_false _ _ _ h

  pub leading-empty : (n : ℕ) → leading passes item n [] ≡ some (record { items = []; rest = [] })
  unfolding leading
  leading-empty zero = refl
  leading-empty (suc n) = refl

  pub leading-cut : (n : ℕ) (bs : List ℕ) → 0 < length bs → passes (get_or bs 0 0) ≡ true → field bs ≡ none → leading passes item (suc n) bs ≡ none
  unfolding leading
  leading-cut n [] l h e = absurd (omega arith)
  leading-cut n (t ∷ bs) l h e = choose_true _ _ _ h ∙ bind_none _ _ e

  pub leading-bad : (n : ℕ) (bs : List ℕ) (d : Field) → passes (get_or bs 0 0) ≡ true → field bs ≡ some d → item d.tag d.payload ≡ none → leading passes item (suc n) bs ≡ none
  unfolding leading
  leading-bad n [] d h e q = let i = (field_is [] d e).long in absurd (omega arith)
  leading-bad n (t ∷ bs) d h e q = choose_true _ _ _ h ∙ bind_yes _ _ d e ∙ bind_none _ _ q

  pub leading_step : (n : ℕ) (bs : List ℕ) (d : Field) (a : A) → passes (get_or bs 0 0) ≡ true → field bs ≡ some d → item d.tag d.payload ≡ some a
      → leading passes item (suc n) bs ≡ (leading passes item n d.rest >>= λ r. some (record { items = a ∷ r.items; rest = r.rest }))
  unfolding leading
  leading_step n [] d a h e q = let i = (field_is [] d e).long in absurd (omega arith)
  leading_step n (t ∷ bs) d a h e q = choose_true _ _ _ h ∙ bind_yes _ _ d e ∙ bind_yes _ _ a q

-- what is behind a series of fields is the end of the bytes
pub record Led {A : Type 0} (n : ℕ) (bs : List ℕ) (r : Read A) : Type 0 where
  pub few : length r.items ≤ n
  pub inside : length r.rest ≤ length bs
  pub rest : r.rest ≡ drop (length bs - length r.rest) bs

led-stop : {A : Type 0} (n : ℕ) (bs : List ℕ) (r : Read A) → some (record { items = []; rest = bs }) ≡ some r → Led n bs r
led-stop n bs r e =
    let z : length bs - length bs ≡ 0 = omega arith in
    rw (← (some_inj (record { items = []; rest = bs }) r e)) (record { few = omega arith; inside = omega arith; rest = rw z })

pub leading-led : {A : Type 0} (passes : ℕ → Bool) (item : ℕ → List ℕ → Option A) (n : ℕ) (bs : List ℕ) (r : Read A) → leading passes item n bs ≡ some r → Led n bs r
unfolding leading
leading-led passes item zero bs r e = led-stop zero bs r e
leading-led passes item (suc n) [] r e = led-stop (suc n) [] r e
leading-led {A} passes item (suc n) (t ∷ bs) r e = at (passes t) refl (λ cs x h. leading-led passes item n cs x h)
  where
    at : (b : Bool) → passes t ≡ b → ((cs : List ℕ) (x : Read A) → leading passes item n cs ≡ some x → Led n cs x) → Led (suc n) (t ∷ bs) r
    at false h i = led-stop (suc n) (t ∷ bs) r (sym (choose_false _ _ _ h) ∙ e)
    at true h later =
        let u = bind_some (field (t ∷ bs)) _ r (sym (choose_true _ _ _ h) ∙ e) in
        let v = bind_some (item u.0.tag u.0.payload) _ r u.2 in
        let w = bind_some (leading passes item n u.0.rest) _ r v.2 in
        let i = field_is (t ∷ bs) u.0 u.1 in
        let l = later u.0.rest w.0 w.1 in
        let k : length w.0.rest ≤ suc (length bs) = omega (arith, i.long, l.inside) in
        let s : 3 + length u.0.payload + (length u.0.rest - length w.0.rest) ≡ suc (length bs) - length w.0.rest = omega (arith, i.long, l.inside) in
        rw (← (some_inj (record { items = v.0 ∷ w.0.items; rest = w.0.rest }) r w.2)) (record {
          few = omega (arith, l.few);
          inside = k;
          rest = l.rest ∙ ap (drop (length u.0.rest - length w.0.rest)) i.rest ∙ drop-drop (length u.0.rest - length w.0.rest) (3 + length u.0.payload) (t ∷ bs) ∙ ap (λ (m : ℕ). drop m (t ∷ bs)) s;
        })

-- Series of fields: from a place in them on.

abbrev pub behind : {A : Type 0} → List A → Read A → Read A
behind l r = record { items = l ++ r.items; rest = r.rest }

-- n items are read, and what is read from the place on makes the rest
pub record Reading {A : Type 0} (passes : ℕ → Bool) (item : ℕ → List ℕ → Option A) (bound : ℕ) (bs : List ℕ) (at n : ℕ) : Type 0 where
  pub items : List A
  pub counted : length items ≡ n
  pub few : n ≤ bound
  pub inside : at ≤ length bs
  pub same : leading passes item bound bs ≡ (leading passes item (bound - n) (drop at bs) >>= λ r. some (behind items r))

behind-none : {A : Type 0} (o : Option (Read A)) → o ≡ (o >>= λ r. some (behind [] r))
unfolding ◌>>=◌
behind-none none = refl
behind-none (some r) = refl

behind-one : {A : Type 0} (l : List A) (a : A) (o : Option (Read A)) → ((o >>= λ r. some (record { items = a ∷ r.items; rest = r.rest })) >>= λ r. some (behind l r)) ≡ (o >>= λ r. some (behind (l ++ a ∷ []) r))
unfolding ◌>>=◌
behind-one l a none = refl
behind-one l a (some r) = rw (append_assoc l (a ∷ []) r.items)

pub first-at : (bs : List ℕ) (at : ℕ) → get_or (drop at bs) 0 0 ≡ get_or bs at 0
first-at bs at =
    let z : at + 0 ≡ at = omega arith in
    get_or-drop at bs 0 0 ∙ rw z

module _ {A : Type 0} {passes : ℕ → Bool} {item : ℕ → List ℕ → Option A} where
  pub reading-start : (bound : ℕ) (bs : List ℕ) → Reading passes item bound bs 0 0
  reading-start bound bs =
      let z : bound - 0 ≡ bound = omega arith in
      record { items = []; counted = refl; few = omega arith; inside = omega arith; same = rw z (behind-none (leading passes item bound bs)) }

  module _ {bound : ℕ} {bs : List ℕ} {at n : ℕ} (r : Reading passes item bound bs at n) where
    -- the series ends at the place
    abbrev pub stopped : Option (Read A)
    stopped = some (record { items = r.items; rest = drop at bs })

    stops : leading passes item (bound - n) (drop at bs) ≡ some (record { items = []; rest = drop at bs }) → leading passes item bound bs ≡ stopped
    stops e = r.same ∙ bind_yes _ _ _ e ∙ rw (append-nil r.items)

    fails : leading passes item (bound - n) (drop at bs) ≡ none → leading passes item bound bs ≡ none
    fails e = r.same ∙ bind_none _ _ e

    pub reading-full : n ≡ bound → leading passes item bound bs ≡ stopped
    unfolding leading
    reading-full h =
        let z : bound - n ≡ 0 = omega arith in
        stops (rw z)

    pub reading-end : length bs ≤ at → leading passes item bound bs ≡ stopped
    reading-end h = stops (rw (drop_of_length-le bs h) (leading-empty passes item (bound - n)))

    pub reading-other : passes (get_or bs at 0) ≡ false → leading passes item bound bs ≡ stopped
    reading-other h = stops (leading-other passes item (bound - n) (drop at bs) (ap passes (first-at bs at) ∙ h))

    module _ (less : n < bound) (pass : passes (get_or bs at 0) ≡ true) where
      one_more : bound - n ≡ suc (bound - (n + 1))
      one_more = omega arith

      first : passes (get_or (drop at bs) 0 0) ≡ true
      first = ap passes (first-at bs at) ∙ pass

      pub reading-cut : at < length bs → field (drop at bs) ≡ none → leading passes item bound bs ≡ none
      reading-cut h e = fails (rw one_more (leading-cut passes item (bound - (n + 1)) (drop at bs) (rw (length-drop at bs) (omega arith)) first e))

      pub reading-bad : (d : Field) → field (drop at bs) ≡ some d → item d.tag d.payload ≡ none → leading passes item bound bs ≡ none
      reading-bad d e q = fails (rw one_more (leading-bad passes item (bound - (n + 1)) (drop at bs) d first e q))

      pub reading-next : (d : Field) (end : ℕ) (a : A) → field (drop at bs) ≡ some d → end ≡ at + 3 + length d.payload → item d.tag d.payload ≡ some a → Reading passes item bound bs end (n + 1)
      reading-next d end a e z q =
          let i = field_is (drop at bs) d e in
          let l = length-drop at bs in
          let there : at + (3 + length d.payload) ≡ end = omega arith in
          let behind-it : d.rest ≡ drop end bs = i.rest ∙ drop-drop (3 + length d.payload) at bs ∙ ap (λ (m : ℕ). drop m bs) there in
          record {
            items = r.items ++ a ∷ [];
            counted = length-append r.items (a ∷ []) ∙ omega (arith, r.counted);
            few = omega arith;
            inside = omega (arith, i.long);
            same = r.same ∙ ap (λ (o : Option (Read A)). o >>= λ x. some (behind r.items x)) (rw (one_more, ← behind-it) (leading_step passes item (bound - (n + 1)) (drop at bs) d a first e q)) ∙ behind-one r.items a (leading passes item (bound - (n + 1)) (drop end bs));
          }

-- Nothing behind them.

-- When the readers succeed. Operands and labels.

module _ (tag : ℕ) (bs : List ℕ) where
  pub operand-constant : tag ≡ constant_tag → is_some (operand tag bs) ≡ eqb (length bs) 4
  unfolding operand choose constant
  operand-constant h = rw h (is_some_map (constant bs) _ ∙ is_some_ensure _ _)

  pub operand-variable : tag ≡ variable_tag → is_some (operand tag bs) ≡ eqb (length bs) 1
  unfolding operand choose one_byte
  operand-variable h = rw h (is_some_map (one_byte bs) _ ∙ is_some_ensure _ _)

  pub operand-other : (tag ≡ constant_tag → ⊥) → (tag ≡ variable_tag → ⊥) → operand tag bs ≡ none
  unfolding operand
  operand-other h k = choose_ne tag constant_tag _ _ h ∙ choose_ne tag variable_tag _ _ k

  pub element-constant : tag ≡ constant_tag → is_some (element tag bs) ≡ eqb (length bs) 4
  unfolding element choose constant
  element-constant h = rw h (is_some_map (constant bs) _ ∙ is_some_ensure _ _)

  pub element-variable : tag ≡ variable_tag → is_some (element tag bs) ≡ eqb (length bs) 1
  unfolding element choose one_byte
  element-variable h = rw h (is_some_map (one_byte bs) _ ∙ is_some_ensure _ _)

  pub element-sum : tag ≡ sum_tag → is_some (element tag bs) ≡ is_some (two_operands bs)
  unfolding element choose
  element-sum h = rw h (is_some_map (two_operands bs) _)

  pub element-difference : tag ≡ difference_tag → is_some (element tag bs) ≡ is_some (two_operands bs)
  unfolding element choose
  element-difference h = rw h (is_some_map (two_operands bs) _)

  pub element-other : (tag ≡ constant_tag → ⊥) → (tag ≡ variable_tag → ⊥) → (tag ≡ sum_tag → ⊥) → (tag ≡ difference_tag → ⊥) → element tag bs ≡ none
  unfolding element
  element-other h0 h1 h2 h3 = choose_ne tag constant_tag _ _ h0 ∙ choose_ne tag variable_tag _ _ h1 ∙ choose_ne tag sum_tag _ _ h2 ∙ choose_ne tag difference_tag _ _ h3

as_pair_ok : (l : List Operand) → is_some (as_pair l) ≡ eqb (length l) 2
unfolding as_pair is_some
as_pair_ok [] = refl
as_pair_ok (a ∷ []) = refl
as_pair_ok (a ∷ b ∷ []) = refl
as_pair_ok (a ∷ b ∷ c ∷ l) = sym (ne_eqb (length (a ∷ b ∷ c ∷ l)) 2 (λ e. omega arith))

-- Graphs.

pub rule_node_ok : (bs : List ℕ)
    → is_some (rule_node bs) ≡ both (leb 2 (length bs)) (both (either (is_node_mark (get_or bs 0 0)) (eqb (get_or bs 0 0) any_mark)) (both (leb (get_or bs 1 0) 1) (is_some (label (drop 2 bs)))))
unfolding rule_node
rule_node_ok bs = is_some_after _ _ _ (is_some_after _ _ _ (is_some_after _ _ _ (is_some_map _ _)))

pub rule_edge_ok : (bs : List ℕ)
    → is_some (rule_edge bs) ≡ both (leb 3 (length bs)) (both (either (is_edge_mark (get_or bs 0 0)) (eqb (get_or bs 0 0) any_mark)) (is_some (label (drop 3 bs))))
unfolding rule_edge
rule_edge_ok bs = is_some_after _ _ _ (is_some_after _ _ _ (is_some_map _ _))

pub rule_graph-no : (bs : List ℕ) → leading (eqb node_tag) (λ tag. rule_node) 6 bs ≡ none → rule_graph bs ≡ none
unfolding rule_graph
rule_graph-no bs e = bind_none _ _ e

pub rule_graph_ok : (bs : List ℕ) (n : Read RuleNode) → leading (eqb node_tag) (λ tag. rule_node) 6 bs ≡ some n → is_some (rule_graph bs) ≡ is_some (only (eqb edge_tag) (λ tag. rule_edge) 6 n.rest)
unfolding rule_graph
rule_graph_ok bs n e = ap is_some (bind_yes _ _ n e) ∙ is_some_map _ _

-- Tests.

relation_ok : (kind : ℕ) (p : Pair) → is_some (relation kind p) ≡ either (eqb kind 1) (eqb kind 2)
unfolding relation choose either is_some
relation_ok kind p = at (eqb kind 1) (eqb kind 2)
  where
    at : (a b : Bool) → is_some (choose a (some (Equal p.first p.second)) (choose b (some (Less p.first p.second)) none)) ≡ either a b
    at true b = refl
    at false true = refl
    at false false = refl

pub related_ok : (kind : ℕ) (bs : List ℕ) → is_some (two_operands bs >>= relation kind) ≡ both (is_some (two_operands bs)) (either (eqb kind 1) (eqb kind 2))
related_ok kind bs = is_some_then _ _ _ (relation_ok kind)

module _ (tag : ℕ) (bs : List ℕ) where
  pub condition-edge : tag ≡ edge_test_tag → is_some (condition tag bs) ≡ eqb (length bs) 2
  unfolding condition choose
  condition-edge h = rw h (is_some_ensure _ _)

  pub condition_in : tag ≡ in_degree_tag → is_some (condition tag bs) ≡ eqb (length bs) 3
  unfolding condition choose
  condition_in h = rw h (is_some_ensure _ _)

  pub condition-out : tag ≡ out_degree_tag → is_some (condition tag bs) ≡ eqb (length bs) 3
  unfolding condition choose
  condition-out h = rw h (is_some_ensure _ _)

  pub condition-relation : tag ≡ relation_tag → condition tag bs ≡ (ensure (leb 1 (length bs)) >> (two_operands (drop 1 bs) >>= relation (get_or bs 0 0)))
  unfolding condition choose
  condition-relation h = rw h

  pub condition-other : (tag ≡ edge_test_tag → ⊥) → (tag ≡ in_degree_tag → ⊥) → (tag ≡ out_degree_tag → ⊥) → (tag ≡ relation_tag → ⊥) → condition tag bs ≡ none
  unfolding condition
  condition-other h0 h1 h2 h3 = choose_ne tag edge_test_tag _ _ h0 ∙ choose_ne tag in_degree_tag _ _ h1 ∙ choose_ne tag out_degree_tag _ _ h2 ∙ choose_ne tag relation_tag _ _ h3

  pub test_ok : is_some (test tag bs) ≡ both (is_some (flag bs)) (is_some (condition tag (drop 1 bs)))
  unfolding test
  test_ok = is_some_then (flag bs) _ _ (λ negated. is_some_map _ _)

-- Rules.

pub types_ok : (bs : List ℕ) → is_some (types bs) ≡ both (leb (length bs) 6) (every is_type bs)
unfolding types
types_ok bs = is_some_after _ _ _ (is_some_ensure _ _)

pub one_byte_ok : (bs : List ℕ) → is_some (one_byte bs) ≡ eqb (length bs) 1
unfolding one_byte
one_byte_ok bs = is_some_ensure _ _

pub flag_ok : (bs : List ℕ) → is_some (flag bs) ≡ both (leb 1 (length bs)) (leb (get_or bs 0 0) 1)
unfolding flag
flag_ok bs = is_some_ensure _ _

pub mode_ok : (bs : List ℕ) → is_some (mode bs) ≡ both (eqb (length bs) 1) (is_some (flag bs))
unfolding mode
mode_ok bs = is_some_after _ _ _ refl

-- Commands.

pub as_rule_set_ok : (bs : List ℕ) → is_some (as_rule_set bs) ≡ both (leb 1 (length bs)) (leb (length bs) 8)
unfolding as_rule_set
as_rule_set_ok bs = is_some_ensure _ _

pub as_sequence_ok : (l : List Raw) → is_some (as_sequence l) ≡ ltb 0 (length l)
unfolding as_sequence is_some
as_sequence_ok [] = refl
as_sequence_ok (c ∷ l) = sym (lt-ltb 0 (length (c ∷ l)) (omega arith))

pub as_guarded_ok : (keep : Bool) (l : List Raw) → is_some (as_guarded keep l) ≡ eqb (length l) 3
unfolding as_guarded is_some
as_guarded_ok keep [] = refl
as_guarded_ok keep (a ∷ []) = refl
as_guarded_ok keep (a ∷ b ∷ []) = refl
as_guarded_ok keep (a ∷ b ∷ c ∷ []) = refl
as_guarded_ok keep (a ∷ b ∷ c ∷ d ∷ l) = sym (ne_eqb (length (a ∷ b ∷ c ∷ d ∷ l)) 3 (λ e. omega arith))

pub as_loop_ok : (l : List Raw) → is_some (as_loop l) ≡ eqb (length l) 1
unfolding as_loop is_some
as_loop_ok [] = refl
as_loop_ok (c ∷ []) = refl
as_loop_ok (c ∷ d ∷ l) = sym (ne_eqb (length (c ∷ d ∷ l)) 1 (λ e. omega arith))

pub leaf_ok : (c : Raw) (bs : List ℕ) → is_some (leaf c bs) ≡ is_empty bs
unfolding leaf
leaf_ok c bs = is_some_ensure _ _

pub command-no-depth : (tag : ℕ) (bs : List ℕ) → command 0 tag bs ≡ none
unfolding command
command-no-depth tag bs = refl

-- a command by its tag
module _ (n tag : ℕ) (bs : List ℕ) where
  pub command-rule_set : tag ≡ rule_set_tag → command (suc n) tag bs ≡ as_rule_set bs
  unfolding command unguarded choose
  command-rule_set h = rw h

  pub command-sequence : tag ≡ sequence_tag → command (suc n) tag bs ≡ (only passes_all (command n) 16 bs >>= as_sequence)
  unfolding command unguarded choose
  command-sequence h = rw h

  pub command-guarded : tag ≡ guarded_tag → command (suc n) tag bs ≡ (flag bs >>= λ keep. only passes_all (command n) 16 (drop 1 bs) >>= as_guarded keep)
  unfolding command choose
  command-guarded h = rw h

  pub command-loop : tag ≡ loop_tag → command (suc n) tag bs ≡ (only passes_all (command n) 16 bs >>= as_loop)
  unfolding command unguarded choose
  command-loop h = rw h

  pub command-skip : tag ≡ skip_tag → command (suc n) tag bs ≡ leaf skip bs
  unfolding command unguarded choose
  command-skip h = rw h

  pub command-fail : tag ≡ fail_tag → command (suc n) tag bs ≡ leaf fail bs
  unfolding command unguarded choose
  command-fail h = rw h

  pub command-break : tag ≡ break_tag → command (suc n) tag bs ≡ leaf break bs
  unfolding command unguarded choose
  command-break h = rw h

  pub command-call : tag ≡ call_tag → command (suc n) tag bs ≡ as_call bs
  unfolding command choose
  command-call h = rw h

  pub command-other : (tag ≡ rule_set_tag → ⊥) → (tag ≡ sequence_tag → ⊥) → (tag ≡ guarded_tag → ⊥) → (tag ≡ loop_tag → ⊥) → (tag ≡ skip_tag → ⊥) → (tag ≡ fail_tag → ⊥) → (tag ≡ break_tag → ⊥) → (tag ≡ call_tag → ⊥) → command (suc n) tag bs ≡ none
  unfolding command unguarded
  command-other h0 h1 h2 h3 h4 h5 h6 h7 =
      choose_ne tag guarded_tag _ _ h2
      ∙ choose_ne tag call_tag _ _ h7
      ∙ choose_ne tag rule_set_tag _ _ h0
      ∙ choose_ne tag sequence_tag _ _ h1
      ∙ choose_ne tag loop_tag _ _ h3
      ∙ choose_ne tag skip_tag _ _ h4
      ∙ choose_ne tag fail_tag _ _ h5
      ∙ choose_ne tag break_tag _ _ h6

-- The whole.

-- one command, and nothing behind it
module _ (read : ℕ → List ℕ → Option Raw) (bs : List ℕ) where
  pub one-no-field : field bs ≡ none → one_command read bs ≡ none
  unfolding one_command
  one-no-field e = bind_none _ _ e

  pub one_ok : (d : Field) → field bs ≡ some d → is_some (one_command read bs) ≡ both (is_empty d.rest) (is_some (read d.tag d.payload))
  unfolding one_command
  one_ok d e = ap is_some (bind_yes _ _ d e) ∙ is_some_after _ _ _ refl

module _ (bs : List ℕ) where
  pub program-no-rules : leading (eqb rule_tag) (λ tag. rule) limits.rules bs ≡ none → raw_program bs ≡ none
  unfolding raw_program program_by
  program-no-rules e = bind_none _ _ e

  module _ (r : Read Rule) (e : leading (eqb rule_tag) (λ tag. rule) limits.rules bs ≡ some r) where
    abbrev procedures : Option (Read Raw)
    procedures = leading (eqb procedure_tag) (λ tag. one_command (command limits.depth)) limits.procedures r.rest

    pub program-no-procedures : procedures ≡ none → raw_program bs ≡ none
    unfolding raw_program program_by
    program-no-procedures q = bind_yes _ _ r e ∙ bind_none _ _ q

    pub program_ok : (k : Read Raw) → procedures ≡ some k → is_some (raw_program bs) ≡ is_some (one_command (command limits.depth) k.rest)
    unfolding raw_program program_by
    program_ok k q = ap is_some (bind_yes _ _ r e ∙ bind_yes _ _ k q) ∙ is_some_map _ _
