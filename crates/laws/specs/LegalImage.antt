-- The rules of an image that has the form and whose references hold are legal: what the reader finds in bytes.
-- Rests on the meaning's Image and Calls, and on Numbers, Values, LegalCommands and Procedures.
use Prim.Native.Nat.{ℕ, zero, suc, ◌+◌, ◌^◌, ◌<◌}
use Rattle.std.specs.Prelude.{◌≡◌, Bool, true, false, eqb, length, get_or, drop}
use mathlib.Core.List.{List, [], ◌∷◌}
use Rattle.std.proofs.Math.Option.{Option, some}
use Rattle.std.proofs.Common.{arith, eqb-true, leb-true}
use Rattle.meaning.specs.Tags.{interface_tag, left_tag, mode_tag, right_tag, rule_tag, tests_tag, variables_tag}
use Rattle.meaning.specs.Basics.{choose, every, ◌>>=◌}
use Rattle.meaning.specs.Numbers.{number, whole}
use Rattle.meaning.specs.Image.{RuleNode, RuleEdge, RuleGraph, Rule, RawProgram, limits, Field, Read, stated, field, expect, leading, only, passes_all, constant, one_byte, flag, operand, Pair, as_pair, two_operands, element, label, rule_node, rule_edge, rule_graph, is_type, types, mode, relation, condition, test, rule, program_by, raw_program}
use Rattle.meaning.specs.Procedures.{Program, put_in, program}
use Rattle.meaning.specs.References.{condition_operands, rule_holds, references}
use Rattle.meaning.specs.Calls.{holds}
use Rattle.meaning.specs.Laws.Tests.{choose_either, both_true, some_inj, bind_some, ensure-some}
use Rattle.meaning.specs.Laws.Every.{Every, Every-true, Every-with}
use Rattle.laws.specs.Numbers.{Bytes, Bytes-take, Bytes-drop, number_lt}
use Rattle.laws.specs.Values.{LegalOperand, LegalElement, LegalRuleNode, LegalRuleEdge, LegalTest, LegalRule}
use Rattle.laws.specs.LegalCommands.{LegalRules}
use Rattle.laws.specs.Procedures.{put_in_some}
use Rattle.meaning.specs.declared.Operand.{Operand}
use Rattle.meaning.specs.declared.Element.{Element}
use Rattle.meaning.specs.declared.Condition.{Condition}
use Rattle.meaning.specs.declared.Test.{Test}

-- the parts of a bind that succeeds
after : {A B C : Type 0} (o : Option A) (f : A → Option B) (b : B) → (o >>= f) ≡ some b → ((a : A) → o ≡ some a → f a ≡ some b → C) → C
after o f b e k = let t = bind_some o f b e in k t.0 t.1 t.2

-- Fields of bytes are bytes.

pub field-bytes : (bs : List ℕ) (d : Field) → Bytes bs → field bs ≡ some d → Bytes d.payload × Bytes d.rest
unfolding field
field-bytes bs d h e =
    let t = ensure-some _ _ d e in
    let u = ensure-some _ _ d t.1 in
    rw (← (some_inj _ d u.1))
    (Bytes-take (stated bs) (drop 3 bs) (Bytes-drop 3 bs h), Bytes-drop (3 + stated bs) bs h)

pub expect-bytes : (tag : ℕ) (bs : List ℕ) (d : Field) → Bytes bs → expect tag bs ≡ some d → Bytes d.payload × Bytes d.rest
unfolding expect
expect-bytes tag bs d h e =
    let t = bind_some (field bs) _ d e in
    let u = ensure-some _ _ d t.2 in
    rw (← (some_inj t.0 d u.1)) (field-bytes bs t.0 h t.1)

-- Series of fields: what holds of each item that is read from bytes.

module _ {A : Type 0} (passes : ℕ → Bool) (item : ℕ → List ℕ → Option A) (P : A → Type 0)
    (h : (tag : ℕ) (bs : List ℕ) (a : A) → Bytes bs → item tag bs ≡ some a → P a)
  where
    leading-every : (n : ℕ) (bs : List ℕ) (r : Read A) → Bytes bs → leading passes item n bs ≡ some r
        → Every P r.items × Bytes r.rest
    unfolding leading choose
    leading-every zero bs r b e = rw (← (some_inj _ r e)) (tt, b)
    leading-every (suc n) [] r b e = rw (← (some_inj _ r e)) (tt, b)
    leading-every (suc n) (t ∷ bs) r b e = at (passes t) e (leading-every n)
      where
        next : Option (Read A)
        next = do
          d ← field (t ∷ bs)
          a ← item d.tag d.payload
          r ← leading passes item n d.rest
          some (record { items = a ∷ r.items; rest = r.rest })

        at : (c : Bool) → choose c next (some (record { items = []; rest = t ∷ bs })) ≡ some r
            → ((cs : List ℕ) (q : Read A) → Bytes cs → leading passes item n cs ≡ some q → Every P q.items × Bytes q.rest)
            → Every P r.items × Bytes r.rest
        at false e ih = rw (← (some_inj _ r e)) (tt, b)
        at true e ih =
            after (field (t ∷ bs)) _ r e (λ d ed e. after (item d.tag d.payload) _ r e (λ a ea e.
            after (leading passes item n d.rest) _ r e (λ w ew e.
            let f = field-bytes (t ∷ bs) d b ed in
            let q = ih d.rest w f.1 ew in
            rw (← (some_inj _ r e)) ((h d.tag d.payload a f.0 ea, q.0), q.1))))

    only-every : (n : ℕ) (bs : List ℕ) (l : List A) → Bytes bs → only passes item n bs ≡ some l → Every P l
    unfolding only
    only-every n bs l b e =
        let t = bind_some (leading passes item n bs) _ l e in
        let u = ensure-some _ _ l t.2 in
        rw (← (some_inj _ l u.1)) (leading-every n bs t.0 b t.1).0

-- Operands and elements.

constant-word : (bs : List ℕ) (c : ℕ) → Bytes bs → constant bs ≡ some c → c < whole
unfolding constant
constant-word bs c h e =
    let t = ensure-some _ _ c e in
    let l = eqb-true (length bs) 4 t.0 in
    let n : number bs < 256 ^ length bs = number_lt bs h in
    let k : number bs < 256 ^ 4 = rw l at n in
    rw (← (some_inj (number bs) c t.1)) k

operand-legal : (tag : ℕ) (bs : List ℕ) (a : Operand) → Bytes bs → operand tag bs ≡ some a → LegalOperand a
unfolding operand
operand-legal tag bs a h e =
    choose_either _ _ _ _ e
    (λ e. let t = bind_some (constant bs) _ a e in rw (← (some_inj _ a t.2)) (constant-word bs t.0 h t.1))
    (λ e. choose_either _ _ _ _ e (λ e. let t = bind_some (one_byte bs) _ a e in rw (← (some_inj _ a t.2)) tt)
    (λ e. let z : ◌≡◌ {A = ℕ} 0 1 = cc in absurd (omega arith)))

abbrev LegalPair : Pair → Type 0
LegalPair p = LegalOperand p.first × LegalOperand p.second

as_pair-legal : (l : List Operand) (p : Pair) → Every LegalOperand l → as_pair l ≡ some p → LegalPair p
unfolding as_pair
as_pair-legal [] p h e = let z : ◌≡◌ {A = ℕ} 0 1 = cc in absurd (omega arith)
as_pair-legal (a ∷ []) p h e = let z : ◌≡◌ {A = ℕ} 0 1 = cc in absurd (omega arith)
as_pair-legal (a ∷ b ∷ []) p h e = rw (← (some_inj _ p e)) (h.0, h.1.0)
as_pair-legal (a ∷ b ∷ c ∷ l) p h e = let z : ◌≡◌ {A = ℕ} 0 1 = cc in absurd (omega arith)

operands-legal : (bs : List ℕ) (p : Pair) → Bytes bs → two_operands bs ≡ some p → LegalPair p
unfolding two_operands
operands-legal bs p h e =
    let t = bind_some (only passes_all operand 2 bs) _ p e in
    as_pair-legal t.0 p (only-every passes_all operand LegalOperand operand-legal 2 bs t.0 h t.1) t.2

element-legal : (tag : ℕ) (bs : List ℕ) (a : Element) → Bytes bs → element tag bs ≡ some a → LegalElement a
unfolding element
element-legal tag bs a h e =
    choose_either _ _ _ _ e
    (λ e. let t = bind_some (constant bs) _ a e in rw (← (some_inj _ a t.2)) (constant-word bs t.0 h t.1))
    (λ e. choose_either _ _ _ _ e (λ e. let t = bind_some (one_byte bs) _ a e in rw (← (some_inj _ a t.2)) tt)
    (λ e. choose_either _ _ _ _ e (λ e. let t = bind_some (two_operands bs) _ a e in rw (← (some_inj _ a t.2)) (operands-legal bs t.0 h t.1))
    (λ e. choose_either _ _ _ _ e (λ e. let t = bind_some (two_operands bs) _ a e in rw (← (some_inj _ a t.2)) (operands-legal bs t.0 h t.1))
    (λ e. let z : ◌≡◌ {A = ℕ} 0 1 = cc in absurd (omega arith)))))

label-elements : (bs : List ℕ) (l : List Element) → Bytes bs → label bs ≡ some l → Every LegalElement l
unfolding label
label-elements bs l h e = only-every passes_all element LegalElement element-legal limits.elements bs l h e

-- Graphs.

rule_node-legal : (bs : List ℕ) (n : RuleNode) → Bytes bs → rule_node bs ≡ some n → LegalRuleNode n
unfolding rule_node
rule_node-legal bs n h e =
    let t = ensure-some _ _ n e in
    let u = ensure-some _ _ n t.1 in
    let v = ensure-some _ _ n u.1 in
    let w = bind_some (label (drop 2 bs)) _ n v.1 in
    rw (← (some_inj _ n w.2))
    (record { mark = u.0; root = leb-true _ _ v.0; label = label-elements (drop 2 bs) w.0 (Bytes-drop 2 bs h) w.1 })

rule_edge-legal : (bs : List ℕ) (d : RuleEdge) → Bytes bs → rule_edge bs ≡ some d → LegalRuleEdge d
unfolding rule_edge
rule_edge-legal bs d h e =
    let t = ensure-some _ _ d e in
    let u = ensure-some _ _ d t.1 in
    let w = bind_some (label (drop 3 bs)) _ d u.1 in
    rw (← (some_inj _ d w.2))
    (record { mark = u.0; label = label-elements (drop 3 bs) w.0 (Bytes-drop 3 bs h) w.1 })

rule_graph-legal : (bs : List ℕ) (g : RuleGraph) → Bytes bs → rule_graph bs ≡ some g
    → Every LegalRuleNode g.nodes × Every LegalRuleEdge g.edges
unfolding rule_graph
rule_graph-legal bs g h e =
    let t = bind_some _ _ g e in
    let u = bind_some _ _ g t.2 in
    let n = leading-every _ (λ tag. rule_node) LegalRuleNode (λ tag. rule_node-legal) limits.nodes bs t.0 h t.1 in
    let d = only-every _ (λ tag. rule_edge) LegalRuleEdge (λ tag. rule_edge-legal) limits.edges t.0.rest u.0 n.1 u.1 in
    rw (← (some_inj _ g u.2)) (n.0, d)

-- Tests.

relation-legal : (kind : ℕ) (p : Pair) (c : Condition) → LegalPair p → relation kind p ≡ some c → Every LegalOperand (condition_operands c)
unfolding relation condition_operands
relation-legal kind p c h e =
    choose_either _ _ _ _ e (λ e. rw (← (some_inj _ c e)) (h.0, (h.1, tt)))
    (λ e. choose_either _ _ _ _ e (λ e. rw (← (some_inj _ c e)) (h.0, (h.1, tt)))
    (λ e. let z : ◌≡◌ {A = ℕ} 0 1 = cc in absurd (omega arith)))

condition-legal : (tag : ℕ) (bs : List ℕ) (c : Condition) → Bytes bs → condition tag bs ≡ some c → Every LegalOperand (condition_operands c)
unfolding condition condition_operands
condition-legal tag bs c h e =
    choose_either _ _ _ _ e (λ e. rw (← (some_inj _ c (ensure-some _ _ c e).1)) tt)
    (λ e. choose_either _ _ _ _ e (λ e. rw (← (some_inj _ c (ensure-some _ _ c e).1)) tt)
    (λ e. choose_either _ _ _ _ e (λ e. rw (← (some_inj _ c (ensure-some _ _ c e).1)) tt)
    (λ e. choose_either _ _ _ _ e (λ e. related (ensure-some _ _ c e).1)
    (λ e. let z : ◌≡◌ {A = ℕ} 0 1 = cc in absurd (omega arith)))))
  where
    related : (two_operands (drop 1 bs) >>= relation (get_or bs 0 0)) ≡ some c → Every LegalOperand (condition_operands c)
    related e =
        let t = bind_some (two_operands (drop 1 bs)) _ c e in
        relation-legal (get_or bs 0 0) t.0 c (operands-legal (drop 1 bs) t.0 (Bytes-drop 1 bs h) t.1) t.2

test-legal : (tag : ℕ) (bs : List ℕ) (t : Test) → Bytes bs → test tag bs ≡ some t → LegalTest t
unfolding test
test-legal tag bs t h e =
    let f = bind_some (flag bs) _ t e in
    let c = bind_some (condition tag (drop 1 bs)) _ t f.2 in
    rw (← (some_inj _ t c.2)) (condition-legal tag (drop 1 bs) c.0 (Bytes-drop 1 bs h) c.1)

-- Rules.

-- what the form gives of a legal rule
pub record Formed (r : Rule) : Type 0 where
  pub left : Every LegalRuleNode r.left.nodes
  pub nodes : Every LegalRuleNode r.right.nodes
  pub edges : Every LegalRuleEdge r.right.edges
  pub tests : Every LegalTest r.tests
  pub types : every is_type r.variables ≡ true

types_hold : (bs l : List ℕ) → types bs ≡ some l → every is_type l ≡ true
unfolding types
types_hold bs l e =
    let t = ensure-some _ _ l e in
    let u = ensure-some _ _ l t.1 in
    rw (← (some_inj bs l u.1)) u.0

pub rule-formed : (bs : List ℕ) (r : Rule) → Bytes bs → rule bs ≡ some r → Formed r
unfolding rule
rule-formed bs r h e =
    after (expect variables_tag bs) _ r e (λ v ev e. after (expect left_tag v.rest) _ r e (λ l el e.
    after (expect right_tag l.rest) _ r e (λ g eg e. after (expect interface_tag g.rest) _ r e (λ k ek e.
    after (expect tests_tag k.rest) _ r e (λ t et e. after (only (eqb mode_tag) (λ tag. mode) 1 t.rest) _ r e (λ m em e.
    after (types v.payload) _ r e (λ a ea e.
    after (rule_graph l.payload) _ r e (λ b eb e. after (rule_graph g.payload) _ r e (λ c ec e.
    after (one_byte k.payload) _ r e (λ i ei e. after (only passes_all test limits.tests t.payload) _ r e (λ s es e.
    let hv = expect-bytes variables_tag bs v h ev in
    let hl = expect-bytes left_tag v.rest l hv.1 el in
    let hg = expect-bytes right_tag l.rest g hl.1 eg in
    let hk = expect-bytes interface_tag g.rest k hg.1 ek in
    let ht = expect-bytes tests_tag k.rest t hk.1 et in
    let q = rule_graph-legal g.payload c hg.0 ec in
    rw (← (some_inj _ r e))
    (record {
      left = (rule_graph-legal l.payload b hl.0 eb).0;
      nodes = q.0;
      edges = q.1;
      tests = only-every passes_all test LegalTest test-legal limits.tests t.payload s ht.0 es;
      types = types_hold v.payload a ea;
    }))))))))))))

pub raw-formed : (bs : List ℕ) (r : RawProgram) → Bytes bs → raw_program bs ≡ some r → Every Formed r.rules
unfolding raw_program program_by
raw-formed bs r h e =
    after (leading (eqb rule_tag) (λ tag. rule) limits.rules bs) _ r e (λ l el e.
    let k = bind_some _ _ r e in
    let c = bind_some _ _ r k.2 in
    rw (← (some_inj _ r c.2)) (leading-every _ (λ tag. rule) Formed (λ tag. rule-formed) limits.rules bs l h el).0)

-- the rules of an image whose references hold
pub raw-legal : (bs : List ℕ) (r : RawProgram) → Bytes bs → raw_program bs ≡ some r → references r ≡ true → LegalRules r.rules
unfolding references
raw-legal bs r h e k =
    Every-with Formed (λ r. rule_holds r ≡ true) LegalRule
    (λ r f q. record { left = f.left; nodes = f.nodes; edges = f.edges; tests = f.tests; types = f.types; holds = q }) r.rules (raw-formed bs r h e)
    (Every-true rule_holds _ (λ r q. q) r.rules (both_true _ _ k).0)

-- and of the program that it stands for
pub program-legal : (bs : List ℕ) (p : Program) → Bytes bs → program bs ≡ some p → holds references (raw_program bs) ≡ true
    → LegalRules p.rules
unfolding program holds
program-legal bs p h e k =
    after (raw_program bs) put_in p e (λ r q e. rw (put_in_some r p e).rules (raw-legal bs r h q (rw q at k)))
