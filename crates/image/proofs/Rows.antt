-- Rows, put beside the definition's readers: labels, two operands, graphs, commands in a command, one command, rules, the whole
-- image. Rests on Form and on fields' Image.
use mathlib.Core.Path.{◌≡◌, refl, sym, ap, ap₂, ◌∙◌}
use mathlib.Core.Bool.{Bool, true, false}
use mathlib.Core.Option.{Option, some, none}
use mathlib.Core.List.{List, [], ◌∷◌}
use Prim.Native.Nat.{ℕ, zero, suc, ◌≤◌}
use native.Mathlib.Omega.{arith}
use native.Mathlib.Decide.{ℕ_discrete}
use borrow.Author.Tests.{eq-eqb, ne_eqb}
use lib.Dec.{eqb, leb, lit<, lit≤, leb-zero, leb-suc-zero, leb-suc-suc, eqb-zero-suc, eqb-suc-zero, eqb-suc-suc}
use lib.ListN.{length}
use Rattle.meaning.specs.Basics.{choose, both, is_empty, is_some, ensure, ◌>>◌, ◌>>=◌}
use Rattle.meaning.specs.Tags.{variables_tag, left_tag, right_tag, interface_tag, tests_tag, mode_tag, rule_tag, procedure_tag, node_tag, edge_tag}
use Rattle.meaning.specs.Image.{Field, Read, Rule, RuleNode, Raw, limits, field, expect, leading, only, passes_all, operand, as_pair, two_operands, element, label, rule_node, rule_edge, rule_graph, types, one_byte, test, mode, rule, as_sequence, as_guarded, as_loop, command, one_command, raw_program}
use Rattle.meaning.specs.declared.Operand.{Operand}
use Rattle.meaning.specs.Laws.Tests.{both-no, both_yes, both-last}
use Rattle.fields.specs.Image.{field-small, field_is, is_some_no, is_some_map, is_some_then, as_sequence_ok, as_guarded_ok, as_loop_ok, rule_graph-no, rule_graph_ok, one-no-field, one_ok, program-no-rules, program-no-procedures, program_ok}
use Rattle.image.specs.declared.Row.TheVariants.{Rules, Procedures, Variables, Nodes, Edges, Tests, Elements, Operands, Sequence, Guarded, One}
use Rattle.image.specs.Form.{main_row, met, opens, behind, fits}

-- Tests.

pub both_right : (a b : Bool) → b ≡ false → both a b ≡ false
unfolding both
both_right true b e = e
both_right false b e = refl

pub both_comm : (a b : Bool) → both a b ≡ both b a
unfolding both
both_comm true b = both-last b
both_comm false b = sym (both_right b false refl)

pub both_assoc : (a b c : Bool) → both (both a b) c ≡ both a (both b c)
unfolding both
both_assoc true b c = refl
both_assoc false b c = refl

-- the last of six, put first
both-turned : (a b c d e f g : Bool) → f ≡ g → both (both (both (both (both (both true a) b) c) d) e) f ≡ both g (both a (both b (both c (both d e))))
both-turned a b c d e f g h = both_comm _ f ∙ ap₂ both h (simp both_assoc (both_yes true _ refl))

-- A test of a field that is there.

unfoldable after : Option Field → (Field → Bool) → Bool
after none f = false
after (some d) f = f d

after_same : (f g : Field → Bool) → ((d : Field) → f d ≡ g d) → (o : Option Field) → after o f ≡ after o g
unfolding after
after_same f g h none = refl
after_same f g h (some d) = h d

after-not : (f : Field → Bool) → ((d : Field) → f d ≡ false) → (o : Option Field) → after o f ≡ false
unfolding after
after-not f h none = refl
after-not f h (some d) = h d

after_both : (b : Bool) (f : Field → Bool) (o : Option Field) → both b (after o f) ≡ after o (λ d. both b (f d))
unfolding after
after_both b f none = both_right b false refl
after_both b f (some d) = refl

bind_after : {B : Type 0} (f : Field → Option B) (o : Option Field) → is_some (o >>= f) ≡ after o (λ d. is_some (f d))
unfolding after ◌>>=◌ is_some
bind_after f none = refl
bind_after f (some d) = refl

-- Two operands are a pair.

as_pair_ok : (l : List Operand) → is_some (as_pair l) ≡ eqb (length l) 2
unfolding as_pair is_some
as_pair_ok [] = refl
as_pair_ok (a ∷ []) = refl
as_pair_ok (a ∷ b ∷ []) = refl
as_pair_ok (a ∷ b ∷ c ∷ l) = sym (ne_eqb (length (a ∷ b ∷ c ∷ l)) 2 (λ e. omega arith))

-- One step of a row, and what is left of it.

module _ {A : Type 0} where
  met-same : (f g : ℕ → Bool) (later : List ℕ → Bool) → ((k : ℕ) → f k ≡ g k) → (o : Option (Read A)) → met f later o ≡ met g later o
  unfolding met
  met-same f g later h none = refl
  met-same f g later h (some r) = ap (λ (b : Bool). both b (later r.rest)) (h (length r.items))

  met-not : (f : ℕ → Bool) (later : List ℕ → Bool) → ((k : ℕ) → f k ≡ false) → (o : Option (Read A)) → met f later o ≡ false
  unfolding met
  met-not f later h none = refl
  met-not f later h (some r) = both-no _ _ (h (length r.items))

  met-more : (f : ℕ → Bool) (later : List ℕ → Bool) (a : A) (o : Option (Read A)) → met f later (o >>= λ r. some (record { items = a ∷ r.items; rest = r.rest })) ≡ met (λ k. f (suc k)) later o
  unfolding met ◌>>=◌
  met-more f later a none = refl
  met-more f later a (some r) = refl

module _ {A : Type 0} (passes : ℕ → Bool) (item : ℕ → List ℕ → Option A) where
  unfoldable begins : List ℕ → Bool
  begins [] = false
  begins (t ∷ bs) = passes t

  step : (f : ℕ → Bool) (later : List ℕ → Bool) (n : ℕ) (bs : List ℕ)
      → met f later (leading passes item (suc n) bs) ≡ choose (begins bs) (after (field bs) (λ d. both (is_some (item d.tag d.payload)) (met (λ k. f (suc k)) later (leading passes item n d.rest)))) (both (f 0) (later bs))
  unfolding begins leading met after choose both is_some ◌>>=◌
  step f later n [] = refl
  step f later n (t ∷ bs) = at (passes t) (field (t ∷ bs))
    where
      at : (b : Bool) (o : Option Field) → met f later (choose b (o >>= λ d. item d.tag d.payload >>= λ a. leading passes item n d.rest >>= λ r. some (record { items = a ∷ r.items; rest = r.rest })) (some (record { items = []; rest = t ∷ bs }))) ≡ choose b (after o (λ d. both (is_some (item d.tag d.payload)) (met (λ k. f (suc k)) later (leading passes item n d.rest)))) (both (f 0) (later (t ∷ bs)))
      at false o = refl
      at true none = refl
      at true (some d) = go (item d.tag d.payload)
        where
          go : (i : Option A) → met f later (i >>= λ a. leading passes item n d.rest >>= λ r. some (record { items = a ∷ r.items; rest = r.rest })) ≡ both (is_some i) (met (λ k. f (suc k)) later (leading passes item n d.rest))
          go none = refl
          go (some a) = met-more f later a (leading passes item n d.rest)

  -- at most m of them, and that many: the same as that many of at most n
  exact : (m n : ℕ) → m ≤ n → (bs : List ℕ) → met (leb m) is_empty (leading passes item m bs) ≡ met (λ k. eqb k m) is_empty (leading passes item n bs)
  unfolding begins leading met choose is_empty both
  exact zero zero h bs = refl
  exact zero (suc n) h [] = refl
  exact zero (suc n) h (t ∷ bs) = sym (step (λ k. eqb k 0) is_empty n (t ∷ bs) ∙ none_left (passes t))
    where
      none_left : (b : Bool) → choose b (after (field (t ∷ bs)) (λ d. both (is_some (item d.tag d.payload)) (met (λ k. eqb (suc k) 0) is_empty (leading passes item n d.rest)))) false ≡ false
      none_left true = after-not (λ d. both (is_some (item d.tag d.payload)) (met (λ k. eqb (suc k) 0) is_empty (leading passes item n d.rest))) (λ d. both_right (is_some (item d.tag d.payload)) (met (λ k. eqb (suc k) 0) is_empty (leading passes item n d.rest)) (met-not (λ k. eqb (suc k) 0) is_empty eqb-suc-zero (leading passes item n d.rest))) (field (t ∷ bs))
      none_left false = refl
  exact (suc m) zero h bs = absurd (omega arith)
  exact (suc m) (suc n) h bs =
      step (leb (suc m)) is_empty m bs
      ∙ ap₂ (choose (begins bs)) (after_same _ _ (λ d. ap (both (is_some (item d.tag d.payload))) (later d (exact m n (omega arith) d.rest))) (field bs)) (ap (λ (b : Bool). both b (is_empty bs)) (leb-suc-zero m ∙ sym (eqb-zero-suc m)))
      ∙ sym (step (λ k. eqb k (suc m)) is_empty n bs)
    where
      later : (d : Field) → met (leb m) is_empty (leading passes item m d.rest) ≡ met (λ k. eqb k m) is_empty (leading passes item n d.rest) → met (λ k. leb (suc m) (suc k)) is_empty (leading passes item m d.rest) ≡ met (λ k. eqb (suc k) (suc m)) is_empty (leading passes item n d.rest)
      later d e = met-same _ _ is_empty (leb-suc-suc m) (leading passes item m d.rest) ∙ e ∙ met-same _ _ is_empty (λ k. sym (eqb-suc-suc k m)) (leading passes item n d.rest)

  -- the one field that there is
  one : (later : List ℕ → Bool) (bs : List ℕ) → met (leb 1) later (leading passes item 1 bs) ≡ after (field bs) (λ d. both (passes d.tag) (both (is_some (item d.tag d.payload)) (later d.rest)))
  unfolding begins leading met choose both after
  one later [] = step (leb 1) later 0 [] ∙ sym (ap (λ (o : Option Field). after o (λ d. both (passes d.tag) (both (is_some (item d.tag d.payload)) (later d.rest)))) (field-small [] (lit< tt)))
  one later (t ∷ bs) = step (leb 1) later 0 (t ∷ bs) ∙ at (field (t ∷ bs)) (λ d e. (field_is (t ∷ bs) d e).tag)
    where
      go : (t : ℕ) (b x : Bool) → passes t ≡ b → choose b x false ≡ both (passes t) x
      go t true x e = sym (both_yes _ _ e)
      go t false x e = sym (both-no _ _ e)

      at : (o : Option Field) → ((d : Field) → o ≡ some d → d.tag ≡ t) → choose (passes t) (after o (λ d. both (is_some (item d.tag d.payload)) (later d.rest))) false ≡ after o (λ d. both (passes d.tag) (both (is_some (item d.tag d.payload)) (later d.rest)))
      at none q = go t (passes t) false refl ∙ both_right (passes t) false refl
      at (some d) q = go t (passes t) _ refl ∙ ap (λ (s : ℕ). both (passes s) (both (is_some (item d.tag d.payload)) (later d.rest))) (sym (q d refl))

  -- what is made of all of them
  sized : (f : ℕ → Bool) (bound : ℕ) (bs : List ℕ) {B : Type 0} (make : List A → Option B) → ((l : List A) → is_some (make l) ≡ f (length l)) → met f is_empty (leading passes item bound bs) ≡ is_some (only passes item bound bs >>= make)
  unfolding only met ◌>>=◌ ◌>>◌ ensure is_some
  sized f bound bs make h = at (leading passes item bound bs)
    where
      at : (o : Option (Read A)) → met f is_empty o ≡ is_some ((o >>= λ r. (ensure (is_empty r.rest) >> some r.items)) >>= make)
      at none = refl
      at (some r) = go (is_empty r.rest)
        where
          go : (b : Bool) → both (f (length r.items)) b ≡ is_some ((ensure b >> some r.items) >>= make)
          go true = sym (both-last _) ∙ sym (h r.items)
          go false = both_right _ false refl

  all_of : (bound : ℕ) (bs : List ℕ) → met (leb 0) is_empty (leading passes item bound bs) ≡ is_some (only passes item bound bs)
  unfolding is_some
  all_of bound bs = sized (leb 0) bound bs some (λ l. sym (leb-zero (length l))) ∙ is_some_map _ (λ l. l)

-- Labels, operands, graphs.

module _ (bs : List ℕ) where
  pub label-fits : fits Elements bs ≡ is_some (label bs)
  unfolding behind label
  label-fits = all_of passes_all element limits.elements bs

  pub tests-fit : fits Tests bs ≡ is_some (only passes_all test limits.tests bs)
  unfolding behind
  tests-fit = all_of passes_all test limits.tests bs

  pub operands-fit : fits Operands bs ≡ is_some (two_operands bs)
  unfolding behind two_operands
  operands-fit = exact passes_all operand 2 2 (lit≤ tt) bs ∙ sized passes_all operand (λ k. eqb k 2) 2 bs as_pair as_pair_ok

  pub graph-fits : fits Nodes bs ≡ is_some (rule_graph bs)
  unfolding behind met
  graph-fits = at (leading (eqb node_tag) (λ tag. rule_node) limits.nodes bs) refl
    where
      at : (o : Option (Read RuleNode)) → leading (eqb node_tag) (λ tag. rule_node) limits.nodes bs ≡ o → met (leb 0) (opens Edges is_empty) o ≡ is_some (rule_graph bs)
      at none e = sym (is_some_no _ (rule_graph-no bs e))
      at (some n) e = both_yes _ _ (leb-zero (length n.items)) ∙ all_of (eqb edge_tag) (λ tag. rule_edge) limits.edges n.rest ∙ sym (rule_graph_ok bs n e)

-- Commands in a command; one command, and nothing behind it.

module _ (depth : ℕ) (bs : List ℕ) where
  pub sequence-fits : fits (Sequence depth) bs ≡ is_some (only passes_all (command depth) limits.commands bs >>= as_sequence)
  unfolding behind
  sequence-fits = sized passes_all (command depth) (leb 1) limits.commands bs as_sequence as_sequence_ok

  pub guarded-fits : (keep : Bool) → fits (Guarded depth) bs ≡ is_some (only passes_all (command depth) limits.commands bs >>= as_guarded keep)
  unfolding behind
  guarded-fits keep = exact passes_all (command depth) 3 limits.commands (lit≤ tt) bs ∙ sized passes_all (command depth) (λ k. eqb k 3) limits.commands bs (as_guarded keep) (as_guarded_ok keep)

  pub loop-fits : fits (One depth) bs ≡ is_some (only passes_all (command depth) limits.commands bs >>= as_loop)
  unfolding behind
  loop-fits = exact passes_all (command depth) 1 limits.commands (lit≤ tt) bs ∙ sized passes_all (command depth) (λ k. eqb k 1) limits.commands bs as_loop as_loop_ok

  pub one-fits : fits (One depth) bs ≡ is_some (one_command (command depth) bs)
  unfolding behind after both
  one-fits = one passes_all (command depth) is_empty bs ∙ at (field bs) refl
    where
      at : (o : Option Field) → field bs ≡ o → after o (λ d. both true (both (is_some (command depth d.tag d.payload)) (is_empty d.rest))) ≡ is_some (one_command (command depth) bs)
      at none e = sym (is_some_no _ (one-no-field (command depth) bs e))
      at (some d) e = both_comm (is_some (command depth d.tag d.payload)) (is_empty d.rest) ∙ sym (one_ok (command depth) bs d e)

-- Rules: five fields, and a mode that may be missing.

expecting : (tag : ℕ) (f : Field → Bool) (bs : List ℕ) → after (expect tag bs) f ≡ after (field bs) (λ d. both (eqb tag d.tag) (f d))
unfolding expect after both ◌>>=◌ ◌>>◌ ensure
expecting tag f bs = at (field bs)
  where
    go : (d : Field) → Dec (d.tag ≡ tag) → after (ensure (eqb d.tag tag) >> some d) f ≡ both (eqb tag d.tag) (f d)
    go d (yes e) = rw (eq-eqb d.tag tag e, eq-eqb tag d.tag (sym e))
    go d (no e) = rw (ne_eqb d.tag tag e, ne_eqb tag d.tag (λ x. e (sym x)))

    at : (o : Option Field) → after (o >>= λ d. ensure (eqb d.tag tag) >> some d) f ≡ after o (λ d. both (eqb tag d.tag) (f d))
    at none = refl
    at (some d) = go d (ℕ_discrete d.tag tag)

-- a field that is expected, behind others
section : (before : Bool) (tag : ℕ) {A : Type 0} (item : List ℕ → Option A) (later : List ℕ → Bool) (bs : List ℕ) (g : Field → Bool) → ((d : Field) → both (both before (is_some (item d.payload))) (later d.rest) ≡ g d)
    → both before (met (leb 1) later (leading (eqb tag) (λ t. item) 1 bs)) ≡ after (expect tag bs) g
section before tag item later bs g h =
    ap (both before) (one (eqb tag) (λ t. item) later bs ∙ sym (expecting tag _ bs))
    ∙ after_both before _ (expect tag bs)
    ∙ after_same _ _ (λ d. sym (both_assoc before _ _) ∙ h d) (expect tag bs)

module _ (bs : List ℕ) where
  abbrev parts : Bool
  parts =
      after (expect variables_tag bs) λ v.
      after (expect left_tag v.rest) λ l.
      after (expect right_tag l.rest) λ r.
      after (expect interface_tag r.rest) λ k.
      after (expect tests_tag k.rest) λ t.
      both (is_some (only (eqb mode_tag) (λ tag. mode) 1 t.rest)) (both (is_some (types v.payload)) (both (is_some (rule_graph l.payload)) (both (is_some (rule_graph r.payload)) (both (is_some (one_byte k.payload)) (is_some (only passes_all test limits.tests t.payload))))))

  rule-parts : is_some (rule bs) ≡ parts
  unfolding rule
  rule-parts =
      bind_after _ _
      ∙ after_same _ _ (λ v. bind_after _ _
      ∙ after_same _ _ (λ l. bind_after _ _
      ∙ after_same _ _ (λ r. bind_after _ _
      ∙ after_same _ _ (λ k. bind_after _ _
      ∙ after_same _ _ (λ t. is_some_then _ _ _ (λ m. is_some_then _ _ _ (λ a. is_some_then _ _ _ (λ b. is_some_then _ _ _ (λ c. is_some_then _ _ _ (λ d. is_some_map _ _)))))) _) _) _) _) _

  pub rule_fits : fits Variables bs ≡ is_some (rule bs)
  unfolding behind
  rule_fits =
      sym (both_yes true _ refl)
      ∙ section true variables_tag types _ bs _ (λ v.
      section _ left_tag rule_graph _ v.rest _ (λ l.
      section _ right_tag rule_graph _ l.rest _ (λ r.
      section _ interface_tag one_byte _ r.rest _ (λ k.
      section _ tests_tag (only passes_all test limits.tests) _ k.rest _ (λ t. both-turned _ _ _ _ _ _ _ (all_of (eqb mode_tag) (λ tag. mode) 1 t.rest))))))
      ∙ sym rule-parts

-- The whole image.

pub program-fits : (bs : List ℕ) → fits Rules bs ≡ is_some (raw_program bs)
unfolding behind met
program-fits bs = at (leading (eqb rule_tag) (λ tag. rule) limits.rules bs) refl
  where
    procedures : Read Rule → Option (Read Raw)
    procedures r = leading (eqb procedure_tag) (λ tag. one_command (command limits.depth)) limits.procedures r.rest

    later : (r : Read Rule) → leading (eqb rule_tag) (λ tag. rule) limits.rules bs ≡ some r → (o : Option (Read Raw)) → procedures r ≡ o → met (leb 0) (opens main_row is_empty) o ≡ is_some (raw_program bs)
    later r e none q = sym (is_some_no _ (program-no-procedures bs r e q))
    later r e (some k) q = both_yes _ _ (leb-zero (length k.items)) ∙ one-fits limits.depth k.rest ∙ sym (program_ok bs r e k q)

    at : (o : Option (Read Rule)) → leading (eqb rule_tag) (λ tag. rule) limits.rules bs ≡ o → met (leb 0) (opens Procedures (opens main_row is_empty)) o ≡ is_some (raw_program bs)
    at none e = sym (is_some_no _ (program-no-rules bs e))
    at (some r) e = both_yes _ _ (leb-zero (length r.items)) ∙ later r e (procedures r) refl
