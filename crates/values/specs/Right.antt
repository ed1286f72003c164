-- The right side of a rule: it has values exactly where all its labels can be held, and a label's value hangs on the
-- variables that it names alone. Rests on Values, on parts' Rows and on the meaning's Applying.
use Rattle.std.specs.Prelude.{◌≡◌, Bool, ℕ, suc, ◌<◌, length}
use Rattle.std.proofs.Math.Path.{refl, ap}
use Rattle.std.proofs.Common.{sym, ◌∙◌}
use Rattle.std.proofs.Math.Option.{Option, some}
use mathlib.Core.List.{List, [], ◌∷◌, ◌++◌, map}
use Rattle.std.proofs.Math.ListN.{get_or}
use Rattle.meaning.specs.Tags.{edge_tag, node_tag}
use Rattle.meaning.specs.Basics.{choose, both, every, concat, is_some, each, ◌>>=◌}
use Rattle.meaning.specs.Numbers.{sum, difference}
use Rattle.meaning.specs.Layout.{Host}
use Rattle.meaning.specs.Image.{RuleNode, RuleEdge, RuleGraph, Rule, rule_node, rule_edge}
use Rattle.meaning.specs.References.{operand_names, element_names, labels, names}
use Rattle.meaning.specs.Matching.{Assignment, atom_of}
use Rattle.meaning.specs.Assigned.{assigned}
use Rattle.meaning.specs.Applying.{element_value, label_value, right_node, right_nodes, right_edge, right_side}
use Rattle.meaning.specs.Laws.Tests.{every_append, every_map}
use Rattle.meaning.specs.Laws.Every.{Every, Every-in, Every-parts, Every-map}
use Rattle.laws.specs.Records.{Every-append}
use Rattle.fields.specs.Image.{is_some_map, is_some_then, bind_yes}
use Rattle.meaning.specs.declared.Operand.{Operand}
use Rattle.meaning.specs.declared.Operand.TheVariants.{Constant as constant_operand, Variable as variable_operand}
use Rattle.meaning.specs.declared.Element.{Element}
use Rattle.meaning.specs.declared.Element.TheVariants.{Constant, Variable, Sum, Difference}
use Rattle.parts.specs.Rows.{node, edge, graph_item, items, item_label}
use Rattle.values.specs.Values.{Agree, label_names, all_held}

-- A label's value hangs on the variables that it names.

module _ (α β : Assignment) where
  atom-same : (o : Operand) → Agree α β (operand_names o) → atom_of α o ≡ atom_of β o
  unfolding atom_of operand_names
  atom-same (constant_operand c) h = refl
  atom-same (variable_operand v) h = ap (λ (m : List ℕ). get_or m 0 0) h.0

  both-same : (f : ℕ → ℕ → Option ℕ) (a b : Operand) → Agree α β (operand_names a ++ operand_names b) → f (atom_of α a) (atom_of α b) ≡ f (atom_of β a) (atom_of β b)
  both-same f a b h =
      let t = Every-parts (λ v. α v ≡ β v) (operand_names a) (operand_names b) h in
      rw (atom-same a t.0, atom-same b t.1)

  element-same : (e : Element) → Agree α β (element_names e) → element_value α e ≡ element_value β e
  unfolding element_value element_names
  element-same (Constant c) h = refl
  element-same (Variable v) h = ap some h.0
  element-same (Sum a b) h = ap (λ (o : Option ℕ). o >>= λ n. some (n ∷ [])) (both-same sum a b h)
  element-same (Difference a b) h = ap (λ (o : Option ℕ). o >>= λ n. some (n ∷ [])) (both-same difference a b h)

  each_same : (l : List Element) → Agree α β (label_names l) → each (element_value α) l ≡ each (element_value β) l
  unfolding each concat
  each_same [] h = refl
  each_same (e ∷ l) h =
      let t = Every-parts (λ v. α v ≡ β v) (element_names e) (label_names l) h in
      rw (element-same e t.0, each_same l t.1)

  pub label_same : (most : ℕ) (l : List Element) → Agree α β (label_names l) → label_value most α l ≡ label_value most β l
  unfolding label_value
  label_same most l h = rw (each_same l h)

-- What a graph names, label by label.

module _ (P : ℕ → Type 0) where
  names-parts : (l m : List Element) → Every P (label_names (l ++ m)) → Every P (label_names l) × Every P (label_names m)
  unfolding concat
  names-parts [] m h = (tt, h)
  names-parts (e ∷ l) m h =
      let t = Every-parts P (element_names e) (label_names (l ++ m)) h in
      let u = names-parts l m t.1 in
      (Every-append P (element_names e) (label_names l) t.0 u.0, u.1)

  names-labels : (ls : List (List Element)) → Every P (label_names (concat ls)) → Every (λ l. Every P (label_names l)) ls
  unfolding concat
  names-labels [] h = tt
  names-labels (l ∷ ls) h = let t = names-parts l (concat ls) h in (t.0, names-labels ls t.1)

  module _ (g : RuleGraph) (h : Every P (names g)) where
    parts : Every (λ l. Every P (label_names l)) (map (λ n. n.label) g.nodes) × Every (λ l. Every P (label_names l)) (map (λ e. e.label) g.edges)
    parts = Every-parts (λ l. Every P (label_names l)) (map (λ n. n.label) g.nodes) (map (λ e. e.label) g.edges) (names-labels (labels g) h)

    -- of the names of a node, and of an edge
    pub node-names : (j : ℕ) → j < length g.nodes → (d : RuleNode) → Every P (label_names (get_or g.nodes j d).label)
    node-names j k d = Every-in (λ n. Every P (label_names n.label)) g.nodes (Every-map _ (λ n. n.label) g.nodes parts.0) j k d

    pub edge-names : (j : ℕ) → j < length g.edges → (d : RuleEdge) → Every P (label_names (get_or g.edges j d).label)
    edge-names j k d = Every-in (λ e. Every P (label_names e.label)) g.edges (Every-map _ (λ e. e.label) g.edges parts.1) j k d

-- Which labels can be held.

every-agree : {A : Type 0} (f g : A → Bool) (l : List A) → Every (λ a. f a ≡ g a) l → every f l ≡ every g l
unfolding every
every-agree f g [] h = refl
every-agree f g (a ∷ l) h = rw (h.0, every-agree f g l h.1)

each-held : {A B : Type 0} (f : A → Option B) (l : List A) → is_some (each f l) ≡ every (λ a. is_some (f a)) l
unfolding each every is_some
each-held f [] = refl
each-held f (a ∷ l) =
    is_some_then (f a) _ (is_some (each f l)) (λ b. is_some_map (each f l) _) ∙ ap (both (is_some (f a))) (each-held f l)

labels-agree : (α β : Assignment) (most : ℕ) (ls : List (List Element)) → Every (λ l. Agree α β (label_names l)) ls
    → Every (λ l. is_some (label_value most α l) ≡ is_some (label_value most β l)) ls
labels-agree α β most [] h = tt
labels-agree α β most (l ∷ ls) h = (ap is_some (label_same α β most l h.0), labels-agree α β most ls h.1)

pub held_same : (α β : Assignment) (most : ℕ) (g : RuleGraph) → Agree α β (names g) → all_held most α g ≡ all_held most β g
unfolding all_held
held_same α β most g h = every-agree _ _ (labels g) (labels-agree α β most (labels g) (names-labels (λ v. α v ≡ β v) (labels g) h))

both-sides : (f : List Element → Bool) (g : RuleGraph) → every f (labels g) ≡ both (every (λ n. f n.label) g.nodes) (every (λ e. f e.label) g.edges)
both-sides f g =
    every_append f (map (λ n. n.label) g.nodes) (map (λ e. e.label) g.edges)
    ∙ rw (every_map f (λ n. n.label) g.nodes, every_map f (λ e. e.label) g.edges)

module _ (most : ℕ) (r : Rule) (α : Assignment) where
  node-held : (h : Host) (p : List ℕ) (j : ℕ) (n : RuleNode) → is_some (right_node most r α h p j n) ≡ is_some (label_value most α n.label)
  unfolding right_node
  node-held h p j n = is_some_map (label_value most α n.label) _

  nodes-held : (h : Host) (p : List ℕ) (j : ℕ) (l : List RuleNode) → is_some (right_nodes most r α h p j l) ≡ every (λ n. is_some (label_value most α n.label)) l
  unfolding right_nodes every is_some
  nodes-held h p j [] = refl
  nodes-held h p j (n ∷ l) =
      is_some_then (right_node most r α h p j n) _ (is_some (right_nodes most r α h p (suc j) l)) (λ b. is_some_map (right_nodes most r α h p (suc j) l) _)
      ∙ rw (node-held h p j n, nodes-held h p (suc j) l)

  edges-held : (l : List RuleEdge) → is_some (each (right_edge most α) l) ≡ every (λ e. is_some (label_value most α e.label)) l
  unfolding right_edge
  edges-held l = each-held (right_edge most α) l ∙ every-agree _ _ l (at l)
    where
      at : (m : List RuleEdge) → Every (λ e. is_some (right_edge most α e) ≡ is_some (label_value most α e.label)) m
      at [] = tt
      at (e ∷ m) = (is_some_map (label_value most α e.label) _, at m)

-- the right side has values exactly where all its labels can be held
pub right-held : (most : ℕ) (h : Host) (r : Rule) (p : List ℕ) → is_some (right_side most h r p) ≡ all_held most (assigned h r p) r.right
unfolding right_side all_held
right-held most h r p =
    is_some_then (right_nodes most r (assigned h r p) h p 0 r.right.nodes) _ (is_some (each (right_edge most (assigned h r p)) r.right.edges)) (λ n. is_some_map (each (right_edge most (assigned h r p)) r.right.edges) _)
    ∙ rw (nodes-held most r (assigned h r p) h p 0 r.right.nodes, edges-held most r (assigned h r p) r.right.edges)
    (sym (both-sides (λ l. is_some (label_value most (assigned h r p) l)) r.right))

-- so has it where the labels can be held under values that agree with the match's at the names of the right side
pub held-right : (most : ℕ) (h : Host) (r : Rule) (p : List ℕ) (α : Assignment) → Agree α (assigned h r p) (names r.right)
    → all_held most α r.right ≡ is_some (right_side most h r p)
held-right most h r p α k = held_same α (assigned h r p) most r.right k ∙ sym (right-held most h r p)

-- Items.

pub node-item : (bs : List ℕ) (n : RuleNode) → rule_node bs ≡ some n → graph_item node_tag bs ≡ some (node n)
unfolding graph_item choose
node-item bs n e = bind_yes _ _ n e

pub edge-item : (bs : List ℕ) (n : RuleEdge) → rule_edge bs ≡ some n → graph_item edge_tag bs ≡ some (edge n)
unfolding graph_item choose
edge-item bs n e = bind_yes _ _ n e

-- what is asked of every label of a graph, item by item
pub held_items : (most : ℕ) (α : Assignment) (g : RuleGraph) → all_held most α g ≡ every (λ i. is_some (label_value most α (item_label i))) (items g)
unfolding all_held item_label
held_items most α g =
    both-sides (λ l. is_some (label_value most α l)) g
    ∙ sym (every_append (λ i. is_some (label_value most α (item_label i))) (map node g.nodes) (map edge g.edges)
    ∙ rw (every_map (λ i. is_some (label_value most α (item_label i))) node g.nodes, every_map (λ i. is_some (label_value most α (item_label i))) edge g.edges))
