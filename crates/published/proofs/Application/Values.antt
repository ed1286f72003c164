-- The right side's values are instances of its labels: where ours has a sum or difference, it is that of the integers.
-- Rests on RuleApplication and meaning's Applying.
use Rattle.std.specs.Prelude.{ℕ, ◌+◌, ◌<◌, ◌≡◌, leb, ltb, length, get_or}
use Rattle.std.proofs.Math.Path.{refl, ap}
use Rattle.std.proofs.Common.{sym, ◌∙◌}
use Rattle.std.proofs.Math.Option.{Option, some}
use mathlib.Core.List.{List, [], ◌∷◌}
use native.Mathlib.Omega.{arith}
use Rattle.meaning.specs.Basics.{choose, either, concat, each, ◌>>=◌}
use Rattle.meaning.specs.Numbers.{whole, sum, difference}
use Rattle.meaning.specs.Layout.{Node, Edge, Host, is_node_mark, is_edge_mark}
use Rattle.meaning.specs.Image.{RuleNode, RuleEdge, RuleGraph, Rule}
use Rattle.meaning.specs.References.{operand_names}
use Rattle.meaning.specs.Matching.{node_at, left_node, node_slot, Assignment, atom_of}
use Rattle.meaning.specs.Assigned.{assigned}
use Rattle.meaning.specs.Applying.{element_value, label_value, root_taken, right_node, right_nodes, right_edge, Right, right_side}
use Rattle.meaning.specs.Laws.Tests.{some_inj, bind_some, ensure-some}
use Rattle.meaning.specs.Laws.Every.{Every, Every-all, Every-at}
use Rattle.meaning.specs.Laws.Applying.{each_at, nodes-at}
use Rattle.laws.specs.Layout.{Words}
use Rattle.laws.specs.Values.{LegalOperand, LegalElement, LegalRuleNode, LegalRuleEdge, LegalRule}
use Rattle.meaning.specs.declared.Operand.{Operand}
use Rattle.meaning.specs.declared.Element.{Element}
use Rattle.meaning.specs.declared.Element.TheVariants.{Constant, Variable, Sum, Difference}
use Rattle.published.proofs.Integers.{sum-named, difference-named}
use Rattle.published.specs.RuleApplication.{node_of, edge_of, Evaluates, Instance, NodeInstance, mark_from}
use Rattle.published.proofs.Application.Conditions.{integer-is, atom-word}
use Rattle.published.specs.Application.Values.{node_label_of, no_node, no_edge}
use Rattle.published.specs.Application.Values as Defs

-- Labels.

module _ (α : Assignment) (words : (v : ℕ) → Words (α v)) where
  one-is : (o : Option ℕ) (a : List ℕ) → (o >>= λ n. some (n ∷ [])) ≡ some a → (n : ℕ) × (o ≡ some n) × (a ≡ n ∷ [])
  one-is o a e = let t = bind_some o _ a e in (t.0, t.1, some_inj a (t.0 ∷ []) (sym t.2))

  operand-word : (o : Operand) → LegalOperand o → atom_of α o < whole
  operand-word o h = atom-word α o h (Every-all _ words (operand_names o))

  element_evaluates : (x : Element) (a : List ℕ) → LegalElement x → element_value α x ≡ some a → Evaluates α x a
  unfolding element_value
  element_evaluates (Constant c) a h e = some_inj a (c ∷ []) (sym e)
  element_evaluates (Variable v) a h e = some_inj a (α v) (sym e)
  element_evaluates (Sum b c) a h e =
      let t = one-is (sum (atom_of α b) (atom_of α c)) a e in
      let q = sum-named (atom_of α b) (atom_of α c) (operand-word b h.0) (operand-word c h.1) t.0 t.1 in
      rw (integer-is α b, integer-is α c) (t.2 ∙ ap (λ (n : ℕ). n ∷ []) q)
  element_evaluates (Difference b c) a h e =
      let t = one-is (difference (atom_of α b) (atom_of α c)) a e in
      let q = difference-named (atom_of α b) (atom_of α c) (operand-word b h.0) (operand-word c h.1) t.0 t.1 in
      rw (integer-is α b, integer-is α c) (t.2 ∙ ap (λ (n : ℕ). n ∷ []) q)

  parts-instance : (l : List Element) (m : List (List ℕ)) → Every LegalElement l → each (element_value α) l ≡ some m → Instance α l (concat m)
  unfolding each concat
  parts-instance [] m h e = rw (some_inj m [] (sym e))
  parts-instance (x ∷ l) m h e =
      let t = bind_some (element_value α x) _ m e in
      let u = bind_some (each (element_value α) l) _ m t.2 in
      rw (some_inj m (t.0 ∷ u.0) (sym u.2))
      (t.0, concat u.0, element_evaluates x t.0 h.0 t.1, parts-instance l u.0 h.1 u.1, refl)

  pub label-instance : (most : ℕ) (l : List Element) (a : List ℕ) → Every LegalElement l → label_value most α l ≡ some a → Instance α l a
  unfolding label_value
  label-instance most l a h e =
      let t = bind_some (each (element_value α) l) _ a e in
      let u = ensure-some (leb (length (concat t.0)) most) _ a t.2 in
      rw (some_inj a (concat t.0) (sym u.1)) (parts-instance l t.0 h t.1)

module _ (most : ℕ) (r : Rule) (α : Assignment) (words : (v : ℕ) → Words (α v)) (h : Host) (p : List ℕ) where
  node-instance : (j : ℕ) (n : RuleNode) (a : Node) → LegalRuleNode n → right_node most r α h p j n ≡ some a
      → NodeInstance α n (mark_from (node_at h (node_slot p j)).mark n.mark)
      (choose (ltb j r.interface) (root_taken r.preserving (left_node r j).root n.root (node_at h (node_slot p j)).root) n.root)
      (node_label_of a)
  unfolding right_node
  node-instance j n a k e =
      let t = bind_some (label_value most α n.label) _ a e in
      rw (some_inj a _ (sym t.2))
      (record { list = label-instance α words most n.label t.0 k.label t.1; root = refl; mark = refl })

  abbrev EdgeValue : (e : RuleEdge) (a : Edge) → Type 0
  EdgeValue = Defs.EdgeValue most r α words h p

  edge-value : (e : RuleEdge) (a : Edge) → LegalRuleEdge e → right_edge most α e ≡ some a → EdgeValue e a
  unfolding right_edge
  edge-value e a k q =
      let t = bind_some (label_value most α e.label) _ a q in
      rw (some_inj a _ (sym t.2))
      (record {
        label = record { list = label-instance α words most e.label t.0 k.label t.1; mark = refl };
        source = refl;
        target = refl;
      })

-- The right side.

-- a rule's nodes and right edges, by number, have the form
formed : (g : RuleGraph) → Every LegalRuleNode g.nodes → (i : ℕ) → LegalRuleNode (node_of g i)
unfolding either is_node_mark
formed g h i = Every-at LegalRuleNode _ (record { mark = refl; root = omega arith; label = tt }) g.nodes h i

module _ (r : Rule) (rule : LegalRule r) where
  pub left-formed : (i : ℕ) → LegalRuleNode (node_of r.left i)
  left-formed = formed r.left rule.left

  pub node-formed : (j : ℕ) → LegalRuleNode (node_of r.right j)
  node-formed = formed r.right rule.nodes

  pub edge-formed : (k : ℕ) → LegalRuleEdge (edge_of r.right k)
  unfolding either is_edge_mark
  edge-formed k = Every-at LegalRuleEdge _ (record { mark = refl; label = tt }) r.right.edges rule.edges k

module _ (most : ℕ) (h : Host) (r : Rule) (rule : LegalRule r) (p : List ℕ) (words : (v : ℕ) → Words (assigned h r p v)) (right : Right)
    (values : right_side most h r p ≡ some right)
  where
    pub node-value : (j : ℕ) → j < length r.right.nodes
        → NodeInstance (assigned h r p) (node_of r.right j) (mark_from (node_at h (node_slot p j)).mark (node_of r.right j).mark)
        (choose (ltb j r.interface) (root_taken r.preserving (left_node r j).root (node_of r.right j).root (node_at h (node_slot p j)).root) (node_of r.right j).root)
        (node_label_of (get_or right.nodes j no_node))
    unfolding right_side
    node-value j k =
        let t = bind_some (right_nodes most r (assigned h r p) h p 0 r.right.nodes) _ right values in
        let u = bind_some (each (right_edge most (assigned h r p)) r.right.edges) _ right t.2 in
        let z : 0 + j ≡ j = omega arith in
        rw (some_inj right (record { nodes = t.0; edges = u.0 }) (sym u.2))
        (node-instance most r (assigned h r p) words h p j _ _ (node-formed r rule j) (rw z at (nodes-at most r (assigned h r p) h p 0 r.right.nodes t.0 t.1 j k (record { mark = 0; root = 0; label = [] }) no_node)))

    pub edge-value-at : (k : ℕ) → k < length r.right.edges
        → Defs.EdgeValue most r (assigned h r p) words h p (edge_of r.right k) (get_or right.edges k no_edge)
    unfolding right_side
    edge-value-at k j =
        let t = bind_some (right_nodes most r (assigned h r p) h p 0 r.right.nodes) _ right values in
        let u = bind_some (each (right_edge most (assigned h r p)) r.right.edges) _ right t.2 in
        rw (some_inj right (record { nodes = t.0; edges = u.0 }) (sym u.2))
        (edge-value most r (assigned h r p) words h p _ _ (edge-formed r rule k) (each_at (right_edge most (assigned h r p)) r.right.edges u.0 u.1 k j _ no_edge))
