-- The right side's values in a legal host: of a rule that has the form and whose references hold, each right node is legal,
-- and each right edge has a legal mark, a label that can be held, and right nodes for its ends.
-- Rests on the meaning's Applying, Laws/Interface and Laws/Applying, and on Hosts and Records.
use Rattle.std.specs.Prelude.{ℕ, zero, suc, ◌+◌, ◌<◌, ◌≤◌, ◌≡◌, refl, Bool, true, not, ◌⊎◌, leb, ltb, get_or, take, drop}
use Rattle.std.proofs.Common.{sym, ◌∙◌, inl, inr, arith, get_or-drop}
use Rattle.std.proofs.Math.Path.{ap}
use mathlib.Core.List.{List, [], ◌∷◌, ◌++◌, map}
use Rattle.std.proofs.Math.Bool.{false}
use Rattle.std.proofs.Math.Option.{Option, some, none}
use borrow.Author.Tests.{leb-true, ltb-true, not-true}
use Rattle.std.proofs.Math.Dec.{eqb}
use Rattle.std.proofs.Math.ListN.{length}
use Rattle.meaning.specs.Basics.{choose, both, either, every, concat, each, ◌>>=◌}
use Rattle.meaning.specs.Numbers.{whole, sum, difference}
use Rattle.meaning.specs.Layout.{Slot, free, live, Node, Edge, Host, is_node_mark, is_edge_mark}
use Rattle.meaning.specs.Image.{RuleNode, RuleEdge, Rule, is_type}
use Rattle.meaning.specs.Tags.{any_mark}
use Rattle.meaning.specs.References.{condition_operands, any_kept, any_placed, rule_holds}
use Rattle.meaning.specs.Matching.{node_in, edge_in, node_at, edge_at, left_node, left_nodes, node_slot, Assignment, atom_of}
use Rattle.meaning.specs.Assigned.{is_variable, share, spare, taken, Item, paired, host_labels, placed_items, or_else, value_from, assigned}
use Rattle.meaning.specs.Applying.{element_value, label_value, root_taken, right_node, right_nodes, right_edge, Right, right_side}
use Rattle.meaning.specs.Laws.Tests.{both_true, either_true, either-not, all_true, some_inj, bind_some, ensure-some, clauses-true}
use Rattle.meaning.specs.Laws.Every.{Every, Every-true, Every-with, each-every}
use Rattle.meaning.specs.Laws.Interface.{right-ends}
use Rattle.laws.specs.Numbers.{sum-some, difference-some}
use Rattle.laws.specs.Pieces.{get_or-map_in}
use Rattle.laws.specs.Layout.{Words}
use Rattle.meaning.specs.Laws.Slots.{OnLive}
use Rattle.laws.specs.Hosts.{LegalNode, LegalEdge, LegalHost}
use Rattle.laws.specs.Records.{Every-append}
use Rattle.meaning.specs.Laws.Applying.{right_nodes-some}
use Rattle.meaning.specs.declared.Layout.{Layout}
use Rattle.meaning.specs.declared.Operand.{Operand}
use Rattle.meaning.specs.declared.Operand.TheVariants.{Constant as constant_operand, Variable as variable_operand}
use Rattle.meaning.specs.declared.Element.{Element}
use Rattle.meaning.specs.declared.Element.TheVariants.{Constant, Variable, Sum, Difference}
use Rattle.meaning.specs.declared.Test.{Test}

-- Rules that have the form: what of it the right side's values need, and that each constant in a sum, a difference or a test is a
-- word.

abbrev pub LegalOperand : Operand → Type 0
LegalOperand (constant_operand c) = c < whole
LegalOperand (variable_operand v) = Unit {0}

abbrev pub LegalElement : Element → Type 0
LegalElement (Constant c) = c < whole
LegalElement (Variable v) = Unit {0}
LegalElement (Sum a b) = LegalOperand a × LegalOperand b
LegalElement (Difference a b) = LegalOperand a × LegalOperand b

pub record LegalRuleNode (n : RuleNode) : Type 0 where
  pub mark : either (is_node_mark n.mark) (eqb n.mark any_mark) ≡ true
  pub root : n.root ≤ 1
  pub label : Every LegalElement n.label

pub record LegalRuleEdge (e : RuleEdge) : Type 0 where
  pub mark : either (is_edge_mark e.mark) (eqb e.mark any_mark) ≡ true
  pub label : Every LegalElement e.label

abbrev pub LegalTest : Test → Type 0
LegalTest t = Every LegalOperand (condition_operands t.condition)

-- the nodes of both sides, the right edges, the tests and the variable types have the form, and the references hold
pub record LegalRule (r : Rule) : Type 0 where
  pub left : Every LegalRuleNode r.left.nodes
  pub nodes : Every LegalRuleNode r.right.nodes
  pub edges : Every LegalRuleEdge r.right.edges
  pub tests : Every LegalTest r.tests
  pub types : every is_type r.variables ≡ true
  pub holds : rule_holds r ≡ true

-- What the references say of the marks of the right side.

module _ (r : Rule) (holds : rule_holds r ≡ true) where
  -- a right edge is not any
  pub right-marked : Every (λ e. eqb e.mark any_mark ≡ false) r.right.edges
  unfolding rule_holds any_placed
  right-marked = Every-true _ _ (λ e q. not-true _ q) r.right.edges (both_true _ _ (clauses-true _ holds 9)).1

  -- nor is a right node outside the interface
  pub new-marked : (j : ℕ) → r.interface ≤ j → j < length r.right.nodes → (d : RuleNode)
      → eqb (get_or r.right.nodes j d).mark any_mark ≡ false
  unfolding rule_holds any_placed any_kept
  new-marked j h k d = at (either_true _ _ (all_true (any_kept r) (length r.right.nodes) (both_true _ _ (clauses-true _ holds 9)).0 j k))
    where
      at : (not (eqb (get_or (map (λ n. n.mark) r.right.nodes) j 0) any_mark) ≡ true)
          ⊎ (both (ltb j r.interface) (eqb (get_or (map (λ n. n.mark) r.left.nodes) j 0) any_mark) ≡ true)
          → eqb (get_or r.right.nodes j d).mark any_mark ≡ false
      at (inl q) = ap (λ (m : ℕ). eqb m any_mark) (sym (get_or-map_in (λ n. n.mark) r.right.nodes j d 0 k)) ∙ not-true _ q
      at (inr q) = let l : j < r.interface = ltb-true _ _ (both_true _ _ q).0 in absurd (omega arith)

-- Words.

pub Words-one : (c : ℕ) → c < whole → Words (c ∷ [])
Words-one c h zero = h
Words-one c h (suc i) = omega arith

pub Words-take : (n : ℕ) (l : List ℕ) → Words l → Words (take n l)
Words-take zero l h i = omega arith
Words-take (suc n) [] h i = omega arith
Words-take (suc n) (a ∷ l) h zero = h 0
Words-take (suc n) (a ∷ l) h (suc i) = Words-take n l (λ j. h (suc j)) i

pub Words-drop : (n : ℕ) (l : List ℕ) → Words l → Words (drop n l)
Words-drop n l h i = rw (get_or-drop n l i 0) (h (n + i))

pub Words-append : (l m : List ℕ) → Words l → Words m → Words (l ++ m)
Words-append [] m h k i = k i
Words-append (a ∷ l) m h k zero = h 0
Words-append (a ∷ l) m h k (suc i) = Words-append l m (λ j. h (suc j)) k i

pub Words-concat : (ls : List (List ℕ)) → Every Words ls → Words (concat ls)
unfolding concat
Words-concat [] h i = omega arith
Words-concat (l ∷ ls) h i = Words-append l (concat ls) h.0 (Words-concat ls h.1) i

-- The assignment's values are words.

taken-words : (r : Rule) (v n : ℕ) (l : List Element) (atoms a : List ℕ) → Words atoms → taken r v n l atoms ≡ some a → Words a
unfolding taken choose
taken-words r v n [] atoms a h e = let z : ◌≡◌ {A = ℕ} 0 1 = cc in absurd (omega arith)
taken-words r v n (x ∷ l) atoms a h e =
    at (is_variable v x) e (taken-words r v n l (drop (share r n x) atoms) a (Words-drop (share r n x) atoms h))
  where
    later : Option (List ℕ)
    later = taken r v n l (drop (share r n x) atoms)

    at : (b : Bool) → choose b (some (take (share r n x) atoms)) later ≡ some a → (later ≡ some a → Words a) → Words a
    at true e ih = rw (← (some_inj (take (share r n x) atoms) a e)) (Words-take (share r n x) atoms h)
    at false e ih = ih e

value-words : (r : Rule) (is : List Item) (v : ℕ) → Every (λ x. Words x.atoms) is → Words (value_from r is v)
unfolding value_from or_else choose
value-words r [] v h = at (eqb (get_or r.variables v 0) 1)
  where
    at : (b : Bool) → Words (choose b (0 ∷ []) [])
    at true = Words-one 0 (omega arith)
    at false = λ i. omega arith
value-words r (x ∷ is) v h = at (taken r v _ x.pattern x.atoms) refl (value-words r is v h.1)
  where
    at : (o : Option (List ℕ)) → taken r v (spare r x.pattern (length x.atoms)) x.pattern x.atoms ≡ o
        → Words (value_from r is v) → Words (or_else o (value_from r is v))
    at none q ih = ih
    at (some a) q ih = taken-words r v _ x.pattern x.atoms a h.0 q

paired_words : (ls : List (List Element)) (ms : List (List ℕ)) → Every Words ms → Every (λ x. Words x.atoms) (paired ls ms)
unfolding paired
paired_words [] ms h = tt
paired_words (l ∷ ls) [] h = tt
paired_words (l ∷ ls) (m ∷ ms) h = (h.0, paired_words ls ms h.1)

map-words : (f : ℕ → List ℕ) → ((x : ℕ) → Words (f x)) → (l : List ℕ) → Every Words (map f l)
map-words f h [] = tt
map-words f h (x ∷ l) = (h x, map-words f h l)

-- a free slot's node and edge have the mark none and no atom, and its node is no root
node_in-mark : (L : Layout) (s : Slot Node) → OnLive (LegalNode L) s → is_node_mark (node_in s).mark ≡ true
unfolding node_in is_node_mark
node_in-mark L free h = refl
node_in-mark L (live n) h = h.mark

node_in-root : (L : Layout) (s : Slot Node) → OnLive (LegalNode L) s → (node_in s).root ≤ 1
unfolding node_in
node_in-root L free h = omega arith
node_in-root L (live n) h = h.root

node_in-words : (L : Layout) (s : Slot Node) → OnLive (LegalNode L) s → Words (node_in s).label
unfolding node_in
node_in-words L free h = λ i. omega arith
node_in-words L (live n) h = h.words

edge_in-words : (L : Layout) (s : Slot Edge) → OnLive (LegalEdge L) s → Words (edge_in s).label
unfolding edge_in
edge_in-words L free h = λ i. omega arith
edge_in-words L (live n) h = h.words

pub assigned-words : (L : Layout) (h : Host) → LegalHost L h → (r : Rule) (p : List ℕ) (v : ℕ) → Words (assigned h r p v)
assigned-words L h k r p v =
    value-words r (placed_items h r p) v
    (paired_words _ (host_labels h r p)
    (Every-append Words (map (λ x. (node_at h x).label) (take (left_nodes r) p)) (map (λ x. (edge_at h x).label) (drop (left_nodes r) p))
    (map-words _ (λ x. node_in-words L _ (k.nodes x)) (take (left_nodes r) p))
    (map-words _ (λ x. edge_in-words L _ (k.edges x)) (drop (left_nodes r) p))))

-- Labels.

module _ (α : Assignment) (words : (v : ℕ) → Words (α v)) where
  -- a value of one atom
  one-some : (o : Option ℕ) (a : List ℕ) → ((n : ℕ) → o ≡ some n → n < whole) → (o >>= λ n. some (n ∷ [])) ≡ some a → Words a
  one-some o a h e =
      let t = bind_some o _ a e in rw (some_inj a (t.0 ∷ []) (sym t.2)) (Words-one t.0 (h t.0 t.1))

  element-words : (x : Element) (a : List ℕ) → LegalElement x → element_value α x ≡ some a → Words a
  unfolding element_value
  element-words (Constant c) a h e = rw (some_inj a (c ∷ []) (sym e)) (Words-one c h)
  element-words (Variable v) a h e = rw (some_inj a (α v) (sym e)) (words v)
  element-words (Sum b c) a h e = one-some (sum (atom_of α b) (atom_of α c)) a (λ n q. (sum-some _ _ n q).0) e
  element-words (Difference b c) a h e = one-some (difference (atom_of α b) (atom_of α c)) a (λ n q. (difference-some _ _ n q).0) e

  pub label-legal : (most : ℕ) (l : List Element) (a : List ℕ) → Every LegalElement l → label_value most α l ≡ some a
      → (length a ≤ most) × Words a
  unfolding label_value
  label-legal most l a h e =
      let t = bind_some (each (element_value α) l) _ a e in
      let u = ensure-some (leb (length (concat t.0)) most) _ a t.2 in
      rw (some_inj a (concat t.0) (sym u.1))
      (leb-true _ _ u.0, Words-concat t.0 (each-every (element_value α) LegalElement Words element-words l t.0 h t.1))

-- Nodes and edges.

-- a right edge's values; its ends are still numbers of right nodes, of which there are n
pub record LegalValue (L : Layout) (n : ℕ) (e : Edge) : Type 0 where
  pub mark : is_edge_mark e.mark ≡ true
  pub source : e.source < n
  pub target : e.target < n
  pub size : length e.label ≤ L.atoms
  pub words : Words e.label

pub record LegalRight (L : Layout) (right : Right) : Type 0 where
  pub nodes : Every (LegalNode L) right.nodes
  pub edges : Every (LegalValue L (length right.nodes)) right.edges

-- any takes a mark that is legal
pub node-mark : (m k : ℕ) → either (is_node_mark m) (eqb m any_mark) ≡ true → is_node_mark k ≡ true
    → is_node_mark (choose (eqb m any_mark) k m) ≡ true
unfolding choose
node-mark m k h l = at (eqb m any_mark) (either_true _ _ h)
  where
    at : (b : Bool) → (is_node_mark m ≡ true) ⊎ (b ≡ true) → is_node_mark (choose b k m) ≡ true
    at true q = l
    at false (inl q) = q
    at false (inr q) = let z : ◌≡◌ {A = ℕ} 0 1 = cc in absurd (omega arith)

-- a right node's root flag in the result is one of two flags
pub choose_most : (b : Bool) (m k n : ℕ) → m ≤ n → k ≤ n → choose b m k ≤ n
unfolding choose
choose_most true m k n h l = h
choose_most false m k n h l = l

root-legal : (inside preserving : Bool) (left right host : ℕ) → right ≤ 1 → host ≤ 1
    → choose inside (root_taken preserving left right host) right ≤ 1
unfolding root_taken
root-legal inside preserving left right host h k = choose_most inside _ _ 1 (choose_most _ host right 1 k h) h

-- a right edge of the rule, between right nodes, that is not any
record Sound (n : ℕ) (e : RuleEdge) : Type 0 where
  form : LegalRuleEdge e
  ends : (e.source < n) × (e.target < n)
  marked : eqb e.mark any_mark ≡ false

module _ (L : Layout) (h : Host) (legal : LegalHost L h) where
  module _ (r : Rule) (α : Assignment) (words : (v : ℕ) → Words (α v)) where
    right_node-legal : (p : List ℕ) (j : ℕ) (n : RuleNode) (a : Node) → LegalRuleNode n → right_node L.atoms r α h p j n ≡ some a
        → LegalNode L a
    unfolding right_node
    right_node-legal p j n a k e =
        let t = bind_some (label_value L.atoms α n.label) _ a e in
        let u = label-legal α words L.atoms n.label t.0 k.label t.1 in
        rw (some_inj a _ (sym t.2))
        (record {
          mark = node-mark n.mark (node_at h (node_slot p j)).mark k.mark (node_in-mark L _ (legal.nodes (node_slot p j)));
          root = root-legal _ r.preserving (left_node r j).root _ _ k.root (node_in-root L _ (legal.nodes (node_slot p j)));
          size = u.0;
          words = u.1;
        })

    right_nodes-legal : (p : List ℕ) (j : ℕ) (l : List RuleNode) (m : List Node) → Every LegalRuleNode l
        → right_nodes L.atoms r α h p j l ≡ some m → Every (LegalNode L) m
    unfolding right_nodes
    right_nodes-legal p j [] m k e = rw (some_inj m [] (sym e)) tt
    right_nodes-legal p j (n ∷ l) m k e =
        let t = bind_some (right_node L.atoms r α h p j n) _ m e in
        let u = bind_some (right_nodes L.atoms r α h p (suc j) l) _ m t.2 in
        rw (some_inj m (t.0 ∷ u.0) (sym u.2))
        (right_node-legal p j n t.0 k.0 t.1, right_nodes-legal p (suc j) l u.0 k.1 u.1)

    right_edge-legal : (n : ℕ) (e : RuleEdge) (a : Edge) → Sound n e → right_edge L.atoms α e ≡ some a → LegalValue L n a
    unfolding right_edge
    right_edge-legal n e a k q =
        let t = bind_some (label_value L.atoms α e.label) _ a q in
        let u = label-legal α words L.atoms e.label t.0 k.form.label t.1 in
        rw (some_inj a _ (sym t.2))
        (record {
          mark = either-not _ _ k.form.mark k.marked;
          source = k.ends.0;
          target = k.ends.1;
          size = u.0;
          words = u.1;
        })

  -- the right side's values are legal
  pub right_side-legal : (r : Rule) → LegalRule r → (p : List ℕ) (right : Right) → right_side L.atoms h r p ≡ some right
      → LegalRight L right
  unfolding right_side
  right_side-legal r k p right e =
      let t = bind_some (right_nodes L.atoms r (assigned h r p) h p 0 r.right.nodes) _ right e in
      let u = bind_some (each (right_edge L.atoms (assigned h r p)) r.right.edges) _ right t.2 in
      let q = some_inj right (record { nodes = t.0; edges = u.0 }) (sym u.2) in
      let words : (v : ℕ) → Words (assigned h r p v) = assigned-words L h legal r p in
      let size : length t.0 ≡ length r.right.nodes = right_nodes-some L.atoms r _ h p 0 r.right.nodes t.0 t.1 in
      rw q
      (record {
        nodes = right_nodes-legal r (assigned h r p) words p 0 r.right.nodes t.0 k.nodes t.1;
        edges =
            each-every _ (Sound (length t.0)) _ (λ e a. right_edge-legal r (assigned h r p) words (length t.0) e a) r.right.edges u.0
            (rw size sound) u.1;
      })
    where
      sound : Every (Sound (length r.right.nodes)) r.right.edges
      sound =
          Every-with _ _ _ (λ e f m. record { form = f.0; ends = f.1; marked = m }) r.right.edges
          (Every-with _ _ (λ e. LegalRuleEdge e × ((e.source < length r.right.nodes) × (e.target < length r.right.nodes)))
          (λ e f t. (f, t)) r.right.edges k.edges (right-ends r k.holds))
          (right-marked r k.holds)
