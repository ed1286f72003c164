-- The premorphism decides the result: it fixes the values of all variables of L, which are all that R has, so that two results of
-- one rule with one premorphism are isomorphic. Rests on OneResult.
use Rattle.std.specs.Prelude.{ℕ, ◌+◌, ◌-◌, ◌<◌, ◌≡◌, ◌⊎◌, true, List, [], ◌∷◌, ◌++◌, map, length, get_or}
use Rattle.std.proofs.Math.Path.{refl}
use Rattle.std.proofs.Common.{sym, ◌∙◌, inl, inr, arith}
use Rattle.std.proofs.Math.Decide.{dec_lt}
use borrow.Author.Tests.{not-true}
use Rattle.meaning.specs.Image.{RuleNode, RuleEdge, Rule}
use Rattle.meaning.specs.References.{operand_names, element_names, labels, elements, names, test_names, is_int, variables_on_left, rule_holds}
use Rattle.meaning.specs.Matching.{left_node, left_edge, left_nodes, left_edges, instance}
use Rattle.meaning.specs.FirstMatch.{first_with}
use Rattle.meaning.specs.Laws.Tests.{choose_le, some_inj, clauses-true}
use Rattle.meaning.specs.Laws.Every.{Every, Every-true, Every-at, Every-parts, Every-concat, Every-map, Every-then, Every-with}
use Rattle.laws.specs.References.{left-plain, label-plain, label-simple, label-variables, Sound}
use Rattle.laws.specs.Labels.{Singles, taken-instance}
use Rattle.laws.specs.Assignment.{labels_length, label-node, label-edge, single}
use Rattle.laws.specs.Decided.{first-with}
use Rattle.meaning.specs.Laws.Interface.{interface-left}
use Rattle.meaning.specs.declared.Operand.{Operand}
use Rattle.meaning.specs.declared.Operand.TheVariants.{Constant as constant_operand, Variable as variable_operand}
use Rattle.meaning.specs.declared.Element.{Element}
use Rattle.meaning.specs.declared.Element.TheVariants.{Constant, Variable, Sum, Difference}
use Rattle.published.specs.Graphs.{NodeLabel, EdgeLabel, Graph, Node, Edge, HostGraph, Iso}
use Rattle.published.specs.RuleApplication.{node_of, edge_of, Premorphism, integer, Evaluates, Instance, StaysNode, StaysEdge, Union, NodeInstance, EdgeInstance, placed, Constructed, Matches, Applies}
use Rattle.published.proofs.Application.Conditions.{instance-plain}
use Rattle.published.proofs.OneResult.{one-result}
use Rattle.published.specs.SameMatch.{Agree, OnLeft}

module _ (r : Rule) (sound : Sound r) (G : Graph) (m n : Matches r G) (agree : Agree r G m.g n.g) where
  holds : rule_holds r ≡ true
  holds = sound.holds

  abbrev α : ℕ → List ℕ
  α = m.α.of

  abbrev β : ℕ → List ℕ
  β = n.α.of

  -- the label of each item of L has the same instance under both
  same-node : (i : ℕ) → i < left_nodes r → instance α (get_or (labels r.left) i []) ≡ instance β (get_or (labels r.left) i [])
  same-node i k =
      let p = rw (label-node r i k) at (label-plain r holds i) in
      rw (label-node r i k)
      (sym (instance-plain α (left_node r i).label _ p (m.compatible.nodes i k))
      ∙ rw (agree.nodes i k) (instance-plain β (left_node r i).label _ p (n.compatible.nodes i k)))

  same-edge : (k : ℕ) → k < left_edges r
      → instance α (get_or (labels r.left) (left_nodes r + k) []) ≡ instance β (get_or (labels r.left) (left_nodes r + k) [])
  same-edge k j =
      let p = rw (label-edge r k j) at (label-plain r holds (left_nodes r + k)) in
      rw (label-edge r k j)
      (sym (instance-plain α (left_edge r k).label _ p (m.compatible.edges k j))
      ∙ rw (agree.edges k j) (instance-plain β (left_edge r k).label _ p (n.compatible.edges k j)))

  same-label : (i : ℕ) → i < length (labels r.left) → instance α (get_or (labels r.left) i []) ≡ instance β (get_or (labels r.left) i [])
  same-label i k = at (dec_lt i (left_nodes r))
    where
      at : Dec (i < left_nodes r) → instance α (get_or (labels r.left) i []) ≡ instance β (get_or (labels r.left) i [])
      at (yes j) = same-node i j
      at (no j) =
          let f : left_nodes r + (i - left_nodes r) ≡ i = omega arith in
          rw f at (same-edge (i - left_nodes r) (omega (arith, labels_length r)))

  singles : (γ : ℕ → List ℕ) → ((v : ℕ) → is_int r v ≡ true → length (γ v) ≡ 1) → (i : ℕ) → Singles r γ (get_or (labels r.left) i [])
  singles γ ints i =
      Every-with _ _ _ (single r γ sound.types ints) (get_or (labels r.left) i []) (label-plain r holds i) (label-variables r holds i)

  -- so a variable of L has the same value under both
  same-value : (v : ℕ) → OnLeft r v → α v ≡ β v
  same-value v e =
      let t = first-with v (labels r.left) (left-plain r holds) e in
      let i : ℕ = first_with v (labels r.left) in
      let s = label-simple r holds i in
      let a = taken-instance r α v (get_or (labels r.left) i []) (singles α m.α.ints i) s t.1 in
      let b = taken-instance r β v (get_or (labels r.left) i []) (singles β n.α.ints i) s t.1 in
      some_inj (α v) (β v) (sym (rw (same-label i t.0) at a) ∙ b)

-- Instances of labels hang on the values of their variables.

module _ (α β : ℕ → List ℕ) where
  integer-same : (o : Operand) → Every (λ v. α v ≡ β v) (operand_names o) → integer α o ≡ integer β o
  unfolding operand_names
  integer-same (constant_operand c) e = refl
  integer-same (variable_operand v) e = rw e.0

  evaluates_same : (x : Element) (a : List ℕ) → Every (λ v. α v ≡ β v) (element_names x) → Evaluates α x a → Evaluates β x a
  unfolding element_names
  evaluates_same (Constant c) a e i = i
  evaluates_same (Variable v) a e i = i ∙ e.0
  evaluates_same (Sum b c) a e i =
      let t = Every-parts _ (operand_names b) (operand_names c) e in rw (← (integer-same b t.0), ← (integer-same c t.1)) i
  evaluates_same (Difference b c) a e i =
      let t = Every-parts _ (operand_names b) (operand_names c) e in rw (← (integer-same b t.0), ← (integer-same c t.1)) i

  abbrev Same : List Element → Type 0
  Same l = Every (λ x. Every (λ v. α v ≡ β v) (element_names x)) l

  instance-same : (l : List Element) (a : List ℕ) → Same l → Instance α l a → Instance β l a
  instance-same [] a e i = i
  instance-same (x ∷ l) a e i = (i.0, i.1, evaluates_same x i.0 e.0 i.2, instance-same l i.1 e.1 i.3, i.4)

  node-same : (n : RuleNode) (k t : ℕ) (l : NodeLabel) → Same n.label → NodeInstance α n k t l → NodeInstance β n k t l
  node-same n k t l e i = record { list = instance-same n.label l.list e i.list; root = i.root; mark = i.mark }

  edge_same : (n : RuleEdge) (l : EdgeLabel) → Same n.label → EdgeInstance α n l → EdgeInstance β n l
  edge_same n l e i = record { list = instance-same n.label l.list e i.list; mark = i.mark }

-- every variable of R occurs in L
module _ (r : Rule) (holds : rule_holds r ≡ true) where
  right-labels : Every (λ l. Every (λ x. Every (OnLeft r) (element_names x)) l) (labels r.right)
  unfolding rule_holds variables_on_left
  right-labels =
      let occur = Every-true _ (OnLeft r) (λ v e. not-true _ e) (names r.right ++ test_names r) (clauses-true _ holds 8) in
      let right = (Every-parts (OnLeft r) (names r.right) (test_names r) occur).0 in
      Every-concat _ (labels r.right) (Every-map _ element_names (elements r.right) (Every-concat (OnLeft r) _ right))

  right-node : (j : ℕ) → Every (λ x. Every (OnLeft r) (element_names x)) (node_of r.right j).label
  right-node j =
      let t = Every-parts _ (map (λ n. n.label) r.right.nodes) (map (λ e. e.label) r.right.edges) right-labels in
      Every-at (λ n. Every (λ x. Every (OnLeft r) (element_names x)) n.label) _ tt r.right.nodes
      (Every-map _ (λ n. n.label) r.right.nodes t.0) j

  right-edge : (k : ℕ) → Every (λ x. Every (OnLeft r) (element_names x)) (edge_of r.right k).label
  right-edge k =
      let t = Every-parts _ (map (λ n. n.label) r.right.nodes) (map (λ e. e.label) r.right.edges) right-labels in
      Every-at (λ n. Every (λ x. Every (OnLeft r) (element_names x)) n.label) _ tt r.right.edges
      (Every-map _ (λ e. e.label) r.right.edges t.1) k

-- What is constructed with one match is constructed with the other.

pub union-same : (A A' B C : ℕ → Type 0) (f h : ℕ → ℕ) → ((x : ℕ) → A x → A' x) → ((x : ℕ) → A' x → A x) → Union A B C f h → Union A' B C f h
union-same A A' B C f h to from u =
    record {
      from_a = λ x a. u.from_a x (from x a);
      from_b = u.from_b;
      apart_a = λ x y a b e. u.apart_a x y (from x a) (from y b) e;
      apart_b = u.apart_b;
      apart = λ x y a b e. u.apart x y (from x a) b e;
      all = λ z c. at z (u.all z c);
    }
  where
    at : (z : ℕ) → ((x : ℕ) × A x × (f x ≡ z)) ⊎ ((x : ℕ) × B x × (h x ≡ z)) → ((x : ℕ) × A' x × (f x ≡ z)) ⊎ ((x : ℕ) × B x × (h x ≡ z))
    at z (inl t) = inl (t.0, to t.0 t.1, t.2)
    at z (inr t) = inr t

module _ (r : Rule) (G : Graph) where
  stays_same : (g f : Premorphism r.left G) → Agree r G g f → (v : ℕ) → StaysNode r G g v → StaysNode r G f v
  stays_same g f a v s = record { node = s.node; kept = λ j k l e. s.kept j k l (a.nodes j l ∙ e) }

  edge-stays-same : (g f : Premorphism r.left G) → Agree r G g f → (e : ℕ) → StaysEdge r G g e → StaysEdge r G f e
  edge-stays-same g f a e s = record { edge = s.edge; kept = λ k l q. s.kept k l (a.edges k l ∙ q) }

  agree-back : (g f : Premorphism r.left G) → Agree r G g f → Agree r G f g
  agree-back g f a = record { nodes = λ i k. sym (a.nodes i k); edges = λ k l. sym (a.edges k l) }

module _ (r : Rule) (sound : Sound r) (G : Graph) (m n : Matches r G) (agree : Agree r G m.g n.g) (H : Graph) where
  inside : (i : ℕ) → i < r.interface → i < left_nodes r
  inside i k = let a = interface-left r sound.holds in omega arith

  placed_same : (keep new : ℕ → ℕ) (j : ℕ) → placed r m.g.node keep new j ≡ placed r n.g.node keep new j
  placed_same keep new j = at (dec_lt j r.interface)
    where
      at : Dec (j < r.interface) → placed r m.g.node keep new j ≡ placed r n.g.node keep new j
      at (yes k) = rw (agree.nodes j (inside j k))
      at (no k) = choose_le j r.interface _ _ (omega arith) ∙ sym (choose_le j r.interface _ _ (omega arith))

  back : (v : ℕ) → StaysNode r G n.g v → StaysNode r G m.g v
  back = stays_same r G n.g m.g (agree-back r G m.g n.g agree)

  edge-back : (e : ℕ) → StaysEdge r G n.g e → StaysEdge r G m.g e
  edge-back = edge-stays-same r G n.g m.g (agree-back r G m.g n.g agree)

  alike : (l : List Element) → Every (λ x. Every (OnLeft r) (element_names x)) l → Same m.α.of n.α.of l
  alike l = Every-then _ _ (λ x. Every-then _ _ (same-value r sound G m n agree) (element_names x)) l

  pub constructed-same : Constructed r G m.g m.α.of H → Constructed r G n.g n.α.of H
  constructed-same c =
      record {
        keep_node = c.keep_node;
        new_node = c.new_node;
        keep_edge = c.keep_edge;
        new_edge = c.new_edge;
        nodes = union-same (StaysNode r G m.g) (StaysNode r G n.g) _ (Node H) c.keep_node c.new_node (stays_same r G m.g n.g agree) back c.nodes;
        edges = union-same (StaysEdge r G m.g) (StaysEdge r G n.g) _ (Edge H) c.keep_edge c.new_edge (edge-stays-same r G m.g n.g agree) edge-back c.edges;
        kept_sources = λ e s. c.kept_sources e (edge-back e s);
        kept_targets = λ e s. c.kept_targets e (edge-back e s);
        new_sources = λ k l. c.new_sources k l ∙ placed_same c.keep_node c.new_node (edge_of r.right k).source;
        new_targets = λ k l. c.new_targets k l ∙ placed_same c.keep_node c.new_node (edge_of r.right k).target;
        kept_labels = λ v s f. c.kept_labels v (back v s) (λ i k e. f i k (sym (agree.nodes i (inside i k)) ∙ e));
        interface_labels = λ i k.
            rw (← (agree.nodes i (inside i k)))
            (node-same m.α.of n.α.of _ _ _ _ (alike (node_of r.right i).label (right-node r sound.holds i)) (c.interface_labels i k));
        new_labels = λ j k l.
            node-same m.α.of n.α.of _ _ _ _ (alike (node_of r.right j).label (right-node r sound.holds j)) (c.new_labels j k l);
        kept_edge_labels = λ e s. c.kept_edge_labels e (edge-back e s);
        new_edge_labels = λ k l.
            edge_same m.α.of n.α.of _ _ (alike (edge_of r.right k).label (right-edge r sound.holds k)) (c.new_edge_labels k l);
      }

-- for a given premorphism, applying the rule produces a unique graph up to isomorphism
pub same-match : (r : Rule) → Sound r → (G H H' : Graph) → HostGraph G → (a : Applies r G H) (b : Applies r G H')
    → Agree r G a.match.g b.match.g → Iso H H'
same-match r sound G H H' host a b agree =
    one-result r sound.holds G host b.match H H' (constructed-same r sound G a.match b.match agree H a.constructed) b.constructed
