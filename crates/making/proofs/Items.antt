-- Laws of one right node or right edge: what is read of its bytes is what it comes to, and each item of the right side is one.
-- Rests on Making, on values' Items and on laws' Values.
use mathlib.Core.Path.{◌≡◌, refl, sym, ◌∙◌, ap, subst}
use mathlib.Core.Bool.{Bool, true, false}
use mathlib.Core.Option.{some}
use mathlib.Core.List.{List, [], ◌∷◌, map}
use Prim.Native.Nat.{ℕ, zero, suc, ◌<◌, ◌≤◌}
use native.Mathlib.Omega.{arith}
use borrow.Author.Tests.{ne_eqb, eq-eqb}
use lib.Dec.{eqb}
use Rattle.std.specs.Prelude.{Option as Maybe, Some, IsSome}
use lib.ListN.{length, get_or, take, length-map, length-take, get_or-eq_default}
use lib.Seq.{get_or-take}
use Rattle.meaning.specs.Basics.{choose, both}
use Rattle.meaning.specs.Layout.{Node, Edge, free, live, of_node, of_edge, read_nodes}
use Rattle.meaning.specs.Tags.{any_mark, edge_tag, node_tag}
use Rattle.meaning.specs.Image.{rule_node, rule_edge, most_items}
use Rattle.meaning.specs.Matching.{node_in}
use Rattle.meaning.specs.Assigned.{assigned}
use Rattle.meaning.specs.Applying.{label_value, root_taken, Ledger, store, between}
use Rattle.meaning.specs.Laws.Tests.{some_inj, choose_true, choose_false, choose_le, both_false, both-last}
use Rattle.meaning.specs.Laws.Every.{Every-in}
use Rattle.laws.specs.Hosts.{LegalNode, LegalEdge}
use Rattle.laws.specs.Values.{LegalValue}
use Rattle.fields.specs.Parsed.{rule_node-is, IsEdge, rule_edge-is}
use Rattle.meaning.specs.declared.Layout.{Layout}
use Rattle.labels.specs.Labels.{atoms_in}
use Rattle.labels.specs.declared.Label.{Label}
use Rattle.parts.specs.Series.{For}
use Rattle.parts.specs.Rows.{node, edge, graph_item, item_label}
use Rattle.values.specs.Values.{values_of, value_in}
use Rattle.values.specs.Laws.{value-there}
use Rattle.values.specs.Right.{label_same, node-names, edge-names, node-item, edge-item}
use Rattle.values.specs.Items.{NodeValue, EdgeValue, node_at_lem, edge_at}
use Rattle.ledger.specs.Running.{Leads}
use Rattle.ledger.specs.Changes.{becomes}
use Rattle.making.specs.Making.{blank_rule, blank_rule_edge, blank_node, blank_edge, NodeMade, Takes, Comes, Joins, Made}

-- What is in hand: the label v, read from the bytes p.

abbrev pub node_in_hand : Label → ℕ → ℕ → Node
node_in_hand v m t = record { mark = m; root = t; label = atoms_in v }

abbrev pub edge_in_hand : List ℕ → Label → ℕ → ℕ → Edge
edge_in_hand p v a b = record { mark = get_or p 0 0; source = a; target = b; label = atoms_in v }

-- The value o of a label, read from the bytes p: it is there, and it is the item's.

module _ {L : Layout} {p lens atoms : List ℕ} (o : Maybe Label)
    (f : For (graph_item node_tag p) (λ i. value_in o ≡ label_value L.atoms (values_of lens atoms) (item_label i)))
    (w : NodeMade L p lens atoms)
  where
    node-label : value_in o ≡ some w.node.label
    unfolding item_label
    node-label = f (node w.rule) (node-item p _ w.is) ∙ w.label

    pub node-there : IsSome o
    node-there = value-there o _ node-label

module _ {L : Layout} {p lens atoms : List ℕ} (o : Maybe Label)
    (f : For (graph_item node_tag p) (λ i. value_in o ≡ label_value L.atoms (values_of lens atoms) (item_label i)))
    (v : Label)
    (there : o ≡ Some v)
    (w : NodeMade L p lens atoms)
    (m t : ℕ)
    (e : m ≡ w.node.mark)
    (b : t ≡ w.node.root)
  where
    node-is : node_in_hand v m t ≡ w.node
    node-is =
        let a : atoms_in v ≡ w.node.label = some_inj _ _ (ap value_in (sym there) ∙ node-label o f w) in
        λ i. record { mark = e i; root = b i; label = a i }

    pub node-fine : LegalNode L (node_in_hand v m t)
    node-fine = subst (LegalNode L) (sym node-is) w.legal

    pub node-stored : (x : ℕ) (g : Ledger) {nodes edges journal : List ℕ} {used : ℕ}
        → Leads L (store (of_node x (live (node_in_hand v m t))) g) nodes edges journal used
        → Leads L (store (of_node x (live w.node)) g) nodes edges journal used
    node-stored x g {nodes} {edges} {journal} {used} l =
        subst (λ (a : Node). Leads L (store (of_node x (live a)) g) nodes edges journal used) node-is l

module _ {L : Layout} {p lens atoms places : List ℕ} (w : Joins L p lens atoms places) where
  edge-form : IsEdge p w.rule
  edge-form = rule_edge-is p w.rule w.is

  pub source_is : get_or p 1 0 ≡ w.edge.source
  source_is = sym (w.source ∙ edge-form.source)

  pub target_is : get_or p 2 0 ≡ w.edge.target
  target_is = sym (w.target ∙ edge-form.target)

  module _ (o : Maybe Label) (f : For (graph_item edge_tag p) (λ i. value_in o ≡ label_value L.atoms (values_of lens atoms) (item_label i))) where
    edge-label : value_in o ≡ some w.edge.label
    unfolding item_label
    edge-label = f (edge w.rule) (edge-item p _ w.is) ∙ w.label

    pub edge-there : IsSome o
    edge-there = value-there o _ edge-label

  module _ (o : Maybe Label) (f : For (graph_item edge_tag p) (λ i. value_in o ≡ label_value L.atoms (values_of lens atoms) (item_label i)))
      (v : Label)
      (there : o ≡ Some v)
      (s t : ℕ)
      (d : s ≡ get_or p 1 0)
      (e : t ≡ get_or p 2 0)
    where
      edge-is : edge_in_hand p v (get_or places s 0) (get_or places t 0) ≡ between places w.edge
      edge-is =
          let l : atoms_in v ≡ w.edge.label = some_inj _ _ (ap value_in (sym there) ∙ edge-label o f) in
          let m : get_or p 0 0 ≡ w.edge.mark = sym (w.mark ∙ edge-form.mark) in
          let a : s ≡ w.edge.source = d ∙ source_is in
          let b : t ≡ w.edge.target = e ∙ target_is in
          λ i. record { mark = m i; source = get_or places (a i) 0; target = get_or places (b i) 0; label = l i }

      pub edge-fine : LegalEdge L (edge_in_hand p v (get_or places s 0) (get_or places t 0))
      edge-fine = subst (LegalEdge L) (sym edge-is) w.legal

      pub edge-stored : (x : ℕ) (g : Ledger) {nodes edges journal : List ℕ} {used : ℕ}
          → Leads L (store (of_edge x (live (edge_in_hand p v (get_or places s 0) (get_or places t 0)))) g) nodes edges journal used
          → Leads L (store (of_edge x (live (between places w.edge))) g) nodes edges journal used
      edge-stored x g {nodes} {edges} {journal} {used} l =
          subst (λ (c : Edge). Leads L (store (of_edge x (live c)) g) nodes edges journal used) edge-is l

-- the mark and the root flag that an interface node takes, where its slot's bytes say what it was
module _ {L : Layout} {nodes p lens atoms : List ℕ} {keeps : Bool} {x : ℕ} (w : Takes L nodes p keeps lens atoms x)
    {before : Node}
    (held : before ≡ node_in (get_or (read_nodes L nodes) x free))
  where
    mark-taken : choose (eqb (get_or p 0 0) any_mark) before.mark (get_or p 0 0) ≡ w.made.node.mark
    mark-taken = rw (held, ← (rule_node-is p w.made.rule w.made.is).mark) (sym w.mark)

    root-taken : choose keeps before.root (get_or p 1 0) ≡ w.made.node.root
    root-taken = rw (held, ← (rule_node-is p w.made.rule w.made.is).root) (sym w.root)

    pub mark-kept : get_or p 0 0 ≡ any_mark → before.mark ≡ w.made.node.mark
    mark-kept e = sym (choose_true _ _ _ (eq-eqb _ _ e)) ∙ mark-taken

    pub mark-given : (get_or p 0 0 ≡ any_mark → ⊥) → get_or p 0 0 ≡ w.made.node.mark
    mark-given n = sym (choose_false _ _ _ (ne_eqb _ _ n)) ∙ mark-taken

    pub root-stays : keeps ≡ true → before.root ≡ w.made.node.root
    root-stays e = sym (choose_true _ _ _ e) ∙ root-taken

    pub root-given : keeps ≡ false → get_or p 1 0 ≡ w.made.node.root
    root-given e = sym (choose_false _ _ _ e) ∙ root-taken

-- and those that a new node has
module _ {L : Layout} {p lens atoms : List ℕ} (w : Comes L p lens atoms) where
  pub come-mark : get_or p 0 0 ≡ w.made.node.mark
  come-mark = sym (w.mark ∙ (rule_node-is p w.made.rule w.made.is).mark)

  pub come-root : get_or p 1 0 ≡ w.made.node.root
  come-root = sym (w.root ∙ (rule_node-is p w.made.rule w.made.is).root)

-- Whether a root flag is kept.

module _ (preserving : Bool) (left right host : ℕ) where
  pub root_kept : preserving ≡ true → right ≡ 0 → choose (eqb left 0) host right ≡ root_taken preserving left right host
  unfolding root_taken both
  root_kept h k = rw (h, k) (ap (λ (b : Bool). choose b host 0) (both-last (eqb left 0)))

  pub root-made : (right ≡ 0 → ⊥) → choose false host right ≡ root_taken preserving left right host
  unfolding root_taken
  root-made k = rw (ne_eqb right 0 k, both_false (eqb left 0), both_false preserving)

  pub root_reflected : preserving ≡ false → choose false host right ≡ root_taken preserving left right host
  unfolding root_taken both
  root_reflected h = rw h

-- Each item of the right side.

becomes-at : (l : List Node) (i : ℕ) → i < length l → becomes l i ≡ live (get_or l i blank_node)
becomes-at [] i q = absurd (omega arith)
becomes-at (a ∷ l) zero q = refl
becomes-at (a ∷ l) (suc i) q = becomes-at l i (omega arith)

module _ {L : Layout} {bs lens atoms : List ℕ} {k : ℕ} (w : Made L bs lens atoms k) where
  module _ (j : ℕ) (h : j < length w.tree.right.nodes) where
    pub node-value : NodeValue L.atoms w.tree (assigned w.host w.tree w.slots) w.host w.slots j (get_or w.tree.right.nodes j blank_rule) (get_or w.right.nodes j blank_node)
    node-value = node_at_lem L.atoms w.host w.tree w.slots w.right w.values j h blank_rule blank_node

    -- right node j
    abbrev pub made-node : (p : List ℕ) → rule_node p ≡ some (get_or w.tree.right.nodes j blank_rule) → NodeMade L p lens atoms
    made-node p e =
        record {
          stored = w.stored;
          few = w.few;
          rule = get_or w.tree.right.nodes j blank_rule;
          is = e;
          node = get_or w.right.nodes j blank_node;
          label =
              label_same (values_of lens atoms) (assigned w.host w.tree w.slots) L.atoms _
              (node-names (λ v. values_of lens atoms v ≡ assigned w.host w.tree w.slots v) w.tree.right w.agree j h blank_rule)
              ∙ node-value.label;
          legal = Every-in (LegalNode L) w.right.nodes w.legal.nodes j (omega (arith, w.nodes_long)) blank_node;
        }

    -- one outside the interface comes with its mark and root flag
    abbrev pub made-new : (p : List ℕ) → k ≤ j → rule_node p ≡ some (get_or w.tree.right.nodes j blank_rule) → Comes L p lens atoms
    made-new p o e =
        record {
          made = made-node p e;
          mark = node-value.mark ∙ choose_false _ _ _ (w.marked j o h);
          root = node-value.root ∙ choose_le j w.tree.interface _ _ (omega (arith, w.interface));
        }

    -- what a node of the interface becomes
    pub becomes_in : j < k → becomes (take k w.right.nodes) j ≡ live (get_or w.right.nodes j blank_node)
    becomes_in o =
        let l = length-take k w.right.nodes in
        becomes-at (take k w.right.nodes) j (omega (arith, w.nodes_long)) ∙ ap live (get_or-take k w.right.nodes j blank_node o)

  pub becomes-out : (j : ℕ) → k ≤ j → becomes (take k w.right.nodes) j ≡ free
  becomes-out j o =
      get_or-eq_default (map live (take k w.right.nodes)) free
      (rw (length-map (take k w.right.nodes) live, length-take k w.right.nodes) (omega arith))

  module _ (places : List ℕ) (room : length places ≡ most_items) (j : ℕ) (h : j < length w.tree.right.edges) where
    abbrev the_edge : Edge
    the_edge = get_or w.right.edges j blank_edge

    pub edge-value : EdgeValue L.atoms (assigned w.host w.tree w.slots) (get_or w.tree.right.edges j blank_rule_edge) the_edge
    edge-value = edge_at L.atoms w.host w.tree w.slots w.right w.values j h _ blank_edge

    pub edge-ends : LegalValue L (length w.right.nodes) the_edge
    edge-ends = Every-in (LegalValue L (length w.right.nodes)) w.right.edges w.legal.edges j (omega (arith, w.edges_long)) blank_edge

    -- between the places, the first of which are the right nodes'
    pub between-front : between (take (length w.tree.right.nodes) places) the_edge ≡ between places the_edge
    between-front =
        let n : ℕ = length w.tree.right.nodes in
        let s : get_or (take n places) the_edge.source 0 ≡ get_or places the_edge.source 0 = get_or-take n places the_edge.source 0 (omega (arith, w.nodes_long, edge-ends.source)) in
        let t : get_or (take n places) the_edge.target 0 ≡ get_or places the_edge.target 0 = get_or-take n places the_edge.target 0 (omega (arith, w.nodes_long, edge-ends.target)) in
        λ i. record { mark = the_edge.mark; source = s i; target = t i; label = the_edge.label }

    -- right edge j
    abbrev pub made-edge : (p : List ℕ) → rule_edge p ≡ some (get_or w.tree.right.edges j blank_rule_edge)
        → LegalEdge L (between (take (length w.tree.right.nodes) places) the_edge) → Joins L p lens atoms places
    made-edge p e l =
        record {
          stored = w.stored;
          few = w.few;
          room = room;
          rule = get_or w.tree.right.edges j blank_rule_edge;
          is = e;
          edge = the_edge;
          label =
              label_same (values_of lens atoms) (assigned w.host w.tree w.slots) L.atoms _
              (edge-names (λ v. values_of lens atoms v ≡ assigned w.host w.tree w.slots v) w.tree.right w.agree j h _)
              ∙ edge-value.label;
          mark = edge-value.mark;
          source = edge-value.source;
          target = edge-value.target;
          inside =
              (omega (arith, w.nodes_long, w.few_nodes, edge-ends.source), omega (arith, w.nodes_long, w.few_nodes, edge-ends.target));
          legal = subst (LegalEdge L) between-front l;
        }
