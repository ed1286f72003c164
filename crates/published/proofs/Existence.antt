-- Every match has a result: integers have no bound, so that every sum and difference has a value and every label an instance. A
-- rule set therefore fails exactly where none of its rules has a match (`set-fails-exactly`). The result has the nodes and edges
-- of D under even names, and those of R under odd ones; OneResult says that every other is isomorphic to it.
-- Rests on RuleApplication, OneResult and Endings.
use Rattle.std.specs.Prelude.{ℕ, ◌+◌, ◌*◌, ◌/◌, ◌%◌, ◌<◌, ◌≡◌, ◌⊎◌, ◌↔◌, Bool, true, not, List, [], ◌∷◌, ◌++◌, eqb, leb, ltb, ◌+ℤ◌, ◌-ℤ◌, length}
use Rattle.std.proofs.Math.Path.{refl, ap}
use Rattle.std.proofs.Common.{sym, ◌∙◌, inl, inr, arith, eqb-true, leb-true, ltb-true, eq-eqb, le-leb, lt-ltb}
use Rattle.std.proofs.Math.Decide.{ℕ_discrete}
use Rattle.std.proofs.lemmas.Bool.{not-true}
use Rattle.meaning.specs.Basics.{both, exists}
use Rattle.meaning.specs.Image.{RuleNode, Rule}
use Rattle.meaning.specs.References.{rule_holds}
use Rattle.meaning.specs.Commands.{rule_at}
use Rattle.meaning.specs.Laws.Tests.{both_true, both_of, exists-no, exists-false, not_so, choose_eq, choose_ne}
use Rattle.meaning.specs.Laws.Interface.{interface-left}
use Rattle.meaning.specs.declared.Element.{Element}
use Rattle.meaning.specs.declared.Element.TheVariants.{Constant, Variable, Sum, Difference}
use Rattle.published.specs.Integers.{atom}
use Rattle.published.specs.Graphs.{NodeLabel, Graph}
use Rattle.published.specs.RuleApplication.{node_of, edge_of, Premorphism, integer, Instance, StaysNode, StaysEdge, Union, mark_from, root_from, placed, Constructed, Matches, Applies, Applied}
use Rattle.published.proofs.OneResult.{value_of}
use Rattle.published.specs.Semantics.{⟦◌⟧, call, graph, fails, [call₁], [call₂], last, next}
use Rattle.published.specs.Endings.{result-stays, failure-stays}
use Rattle.published.specs.Existence.{split, keep, new}

-- Every label has an instance.

module _ (α : ℕ → List ℕ) where
  abbrev evaluated : Element → List ℕ
  evaluated (Constant c) = c ∷ []
  evaluated (Variable v) = α v
  evaluated (Sum a b) = atom (integer α a +ℤ integer α b) ∷ []
  evaluated (Difference a b) = atom (integer α a -ℤ integer α b) ∷ []

  abbrev instance_of : List Element → List ℕ
  instance_of [] = []
  instance_of (x ∷ l) = evaluated x ++ instance_of l

  instance-is : (l : List Element) → Instance α l (instance_of l)
  instance-is [] = refl
  instance-is (Constant c ∷ l) = (c ∷ [], instance_of l, refl, instance-is l, refl)
  instance-is (Variable v ∷ l) = (α v, instance_of l, refl, instance-is l, refl)
  instance-is (Sum a b ∷ l) = (atom (integer α a +ℤ integer α b) ∷ [], instance_of l, refl, instance-is l, refl)
  instance-is (Difference a b ∷ l) = (atom (integer α a -ℤ integer α b) ∷ [], instance_of l, refl, instance-is l, refl)

module _ {A : Type 0} (f h : ℕ → A) where
  split-keep : (v : ℕ) → split f h (keep v) ≡ f v
  unfolding split
  split-keep v = choose_eq (2 * v % 2) 0 _ _ (omega arith) ∙ ap f (omega arith)

  split-new : (j : ℕ) → split f h (new j) ≡ h j
  unfolding split
  split-new j = choose_ne ((2 * j + 1) % 2) 0 _ _ (λ e. omega arith) ∙ ap h (omega arith)

-- two decided sets under even and odd names
module _ (A B : ℕ → Type 0) (a b : ℕ → Bool) (to_a : (x : ℕ) → a x ≡ true → A x) (of_a : (x : ℕ) → A x → a x ≡ true)
    (to_b : (x : ℕ) → b x ≡ true → B x) (of_b : (x : ℕ) → B x → b x ≡ true)
  where
    union : Union A B (λ z. split a b z ≡ true) keep new
    union =
        record {
          from_a = λ x k. split-keep a b x ∙ of_a x k;
          from_b = λ x k. split-new a b x ∙ of_b x k;
          apart_a = λ x y k l e. omega arith;
          apart_b = λ x y k l e. omega arith;
          apart = λ x y k l e. omega arith;
          all = λ z c. at z c (ℕ_discrete (z % 2) 0);
        }
      where
        at : (z : ℕ) → split a b z ≡ true → Dec (z % 2 ≡ 0) → ((x : ℕ) × A x × (keep x ≡ z)) ⊎ ((x : ℕ) × B x × (new x ≡ z))
        at z c (yes e) =
            let q : keep (z / 2) ≡ z = omega arith in
            inl (z / 2, to_a (z / 2) (sym (split-keep a b (z / 2)) ∙ ap (split a b) q ∙ c), q)
        at z c (no e) =
            let q : new (z / 2) ≡ z = omega arith in
            inr (z / 2, to_b (z / 2) (sym (split-new a b (z / 2)) ∙ ap (split a b) q ∙ c), q)

module _ (r : Rule) (holds : rule_holds r ≡ true) (G : Graph) (m : Matches r G) where
  abbrev g : Premorphism r.left G
  g = m.g

  abbrev α : ℕ → List ℕ
  α = m.α.of

  -- What stays, decided.

  abbrev goes : ℕ → ℕ → Bool
  goes v j = both (leb r.interface j) (eqb (g.node j) v)

  abbrev stays_node : ℕ → Bool
  stays_node v = both (G.is_node v) (not (exists (goes v) (length r.left.nodes)))

  abbrev stays_edge : ℕ → Bool
  stays_edge e = both (G.is_edge e) (not (exists (λ k. eqb (g.edge k) e) (length r.left.edges)))

  node-to : (v : ℕ) → stays_node v ≡ true → StaysNode r G g v
  node-to v e =
      let t = both_true _ _ e in
      record {
        node = t.0;
        kept = λ j h k q.
            let f = exists-false (goes v) (length r.left.nodes) (not-true _ t.1) j k in
            let y = both_of _ _ (le-leb r.interface j h) (eq-eqb (g.node j) v q) in
            let z : ◌≡◌ {A = ℕ} 0 1 = cc in
            omega arith;
      }

  node-of : (v : ℕ) → StaysNode r G g v → stays_node v ≡ true
  node-of v s =
      both_of _ _ s.node
      (ap not (exists-no (goes v) (length r.left.nodes) (λ j k. not_so _ (λ e.
      let t = both_true _ _ e in s.kept j (leb-true _ _ t.0) k (eqb-true _ _ t.1)))))

  edge_to : (e : ℕ) → stays_edge e ≡ true → StaysEdge r G g e
  edge_to e q =
      let t = both_true _ _ q in
      record {
        edge = t.0;
        kept = λ k j i.
            let f = exists-false (λ k. eqb (g.edge k) e) (length r.left.edges) (not-true _ t.1) k j in
            let y = eq-eqb (g.edge k) e i in
            let z : ◌≡◌ {A = ℕ} 0 1 = cc in
            omega arith;
      }

  edge-of : (e : ℕ) → StaysEdge r G g e → stays_edge e ≡ true
  edge-of e s =
      both_of _ _ s.edge
      (ap not (exists-no (λ k. eqb (g.edge k) e) (length r.left.edges) (λ k j. not_so _ (λ q. s.kept k j (eqb-true _ _ q)))))

  abbrev new_nodes : ℕ → Bool
  new_nodes j = both (leb r.interface j) (ltb j (length r.right.nodes))

  -- Labels.

  abbrev node_instance : RuleNode → ℕ → ℕ → NodeLabel
  node_instance n mark root = record { mark = mark; root = root; list = instance_of α n.label }

  -- of node i of the interface, from the label that it had
  abbrev interface_instance : ℕ → NodeLabel → NodeLabel
  interface_instance i before =
      node_instance (node_of r.right i) (mark_from before.mark (node_of r.right i).mark)
      (root_from r.preserving (node_of r.left i).root before.root (node_of r.right i).root)

  abbrev new_instance : ℕ → NodeLabel
  new_instance j = node_instance (node_of r.right j) (node_of r.right j).mark (node_of r.right j).root

  -- of a node that stays: of the interface, or another
  abbrev Taken : ℕ → Type 0
  Taken v = ((i : ℕ) × (i < r.interface) × (g.node i ≡ v)) ⊎ ((i : ℕ) → i < r.interface → g.node i ≡ v → ⊥)

  kept_by : (v : ℕ) → Taken v → NodeLabel
  kept_by v (inl t) = interface_instance t.0 (G.node_label v)
  kept_by v (inr f) = G.node_label v

  kept_label : ℕ → NodeLabel
  kept_label v = kept_by v (value_of g.node r.interface v)

  kept-other : (v : ℕ) → ((i : ℕ) → i < r.interface → g.node i ≡ v → ⊥) → kept_label v ≡ G.node_label v
  unfolding kept_label kept_by
  kept-other v n = at (value_of g.node r.interface v)
    where
      at : (t : Taken v) → kept_by v t ≡ G.node_label v
      at (inl t) = absurd (n t.0 t.1 t.2)
      at (inr f) = refl

  kept-interface : (i : ℕ) → i < r.interface → kept_label (g.node i) ≡ interface_instance i (G.node_label (g.node i))
  unfolding kept_label kept_by
  kept-interface i k = at (value_of g.node r.interface (g.node i))
    where
      at : (t : Taken (g.node i)) → kept_by (g.node i) t ≡ interface_instance i (G.node_label (g.node i))
      at (inl t) =
          let l = interface-left r holds in
          let e = m.injective.nodes t.0 i (omega (arith, t.1)) (omega arith) t.2 in
          ap (λ (j : ℕ). interface_instance j (G.node_label (g.node i))) e
      at (inr f) = absurd (f i k refl)

  -- The result.

  abbrev right_end : ℕ → ℕ
  right_end = placed r g.node keep new

  abbrev H : Graph
  H =
      record {
        is_node = split stays_node new_nodes;
        is_edge = split stays_edge (λ k. ltb k (length r.right.edges));
        source = split (λ e. keep (G.source e)) (λ k. right_end (edge_of r.right k).source);
        target = split (λ e. keep (G.target e)) (λ k. right_end (edge_of r.right k).target);
        node_label = split kept_label new_instance;
        edge_label = split G.edge_label (λ k. record { mark = (edge_of r.right k).mark; list = instance_of α (edge_of r.right k).label });
      }

  constructed : Constructed r G g α H
  constructed =
      record {
        keep_node = keep;
        new_node = new;
        keep_edge = keep;
        new_edge = new;
        nodes =
            union (StaysNode r G g) _ stays_node new_nodes node-to node-of
            (λ j e. let t = both_true _ _ e in (leb-true _ _ t.0, ltb-true _ _ t.1))
            (λ j b. both_of _ _ (le-leb _ _ b.0) (lt-ltb _ _ b.1));
        edges =
            union (StaysEdge r G g) _ stays_edge (λ k. ltb k (length r.right.edges)) edge_to edge-of (λ k e. ltb-true _ _ e)
            (λ k b. lt-ltb _ _ b);
        kept_sources = λ e s. split-keep _ _ e;
        kept_targets = λ e s. split-keep _ _ e;
        new_sources = λ k l. split-new _ _ k;
        new_targets = λ k l. split-new _ _ k;
        kept_labels = λ v s n. split-keep _ _ v ∙ kept-other v n;
        interface_labels = λ i k.
            rw (split-keep kept_label new_instance (g.node i), kept-interface i k)
            (record { list = instance-is α (node_of r.right i).label; root = refl; mark = refl });
        new_labels = λ j k l.
            rw (split-new kept_label new_instance j)
            (record { list = instance-is α (node_of r.right j).label; root = refl; mark = refl });
        kept_edge_labels = λ e s. split-keep _ _ e;
        new_edge_labels = λ k l.
            rw (split-new G.edge_label (λ k. record { mark = (edge_of r.right k).mark; list = instance_of α (edge_of r.right k).label }) k)
            (record { list = instance-is α (edge_of r.right k).label; mark = refl });
      }

  pub applies_somewhere : (H : Graph) × Applies r G H
  applies_somewhere = (H, record { match = m; constructed = constructed })

-- A rule set fails exactly where none of its rules has a match.

-- a graph that a rule set comes to is what one of its rules gives
pub set-applied : (R : List Rule) (G H : Graph) → ⟦◌⟧ Graph Applied (call R) G (graph H) → Applied R G H
set-applied R G H (last ([call₁] a)) = a
set-applied R G H (next ([call₁] a) p) = absurd (result-stays Graph Applied p)
set-applied R G H (next ([call₂] n) p) = absurd (failure-stays Graph Applied p)

module _ (R : List Rule) (holds : (i : ℕ) → i < length R → rule_holds (rule_at R i) ≡ true) (G : Graph) where
  -- a rule of the set that has a match gives a graph
  pub set-result : (i : ℕ) → i < length R → Matches (rule_at R i) G → (H : Graph) × ⟦◌⟧ Graph Applied (call R) G (graph H)
  set-result i k m =
      let t = applies_somewhere (rule_at R i) (holds i k) G m in
      (t.0, last ([call₁] (record { place = i; listed = k; applies = t.1 })))

  failed-none : ⟦◌⟧ Graph Applied (call R) G fails → (H : Graph) → Applied R G H → ⊥
  failed-none (last ([call₂] n)) = n
  failed-none (next ([call₁] a) p) = absurd (result-stays Graph Applied p)
  failed-none (next ([call₂] n) p) = n

  pub set-fails-exactly : ⟦◌⟧ Graph Applied (call R) G fails ↔ ((i : ℕ) → i < length R → Matches (rule_at R i) G → ⊥)
  set-fails-exactly = (
    λ p i k m.
        let t = applies_somewhere (rule_at R i) (holds i k) G m in
        failed-none p t.0 (record { place = i; listed = k; applies = t.1 }),
    λ n. last ([call₂] (λ H a. n a.place a.listed a.applies.match)),
  )
