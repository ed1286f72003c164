-- Hosts that have the same at each slot number, whatever the length of their tables: a free slot behind a table is as good as
-- none. They have the same matches, the same first match and the same values of a right side.
-- Rests on laws' FirstMatch.
use Prim.Native.Nat.{ℕ, zero, suc, ◌≤◌}
use Rattle.std.specs.Prelude.{◌≡◌, Bool, true, false, not, length, get_or, take, drop}
use Rattle.std.proofs.Math.Path.{refl, ap, fun_ext}
use Rattle.std.proofs.Common.{sym, ◌∙◌}
use Rattle.std.proofs.Math.Option.{Option, some, none}
use mathlib.Core.List.{List, [], ◌∷◌, ◌++◌, map}
use native.Mathlib.Omega.{arith}
use Rattle.std.proofs.Math.Decide.{dec_le}
use Rattle.std.proofs.Math.ListN.{get_or-eq_default}
use Rattle.std.proofs.Math.Dec.{eqb}
use Rattle.meaning.specs.Basics.{choose, exists, count, every, either}
use Rattle.meaning.specs.Layout.{Slot, free, Host, is_live, live_at}
use Rattle.meaning.specs.Image.{RuleNode, Rule, is_type}
use Rattle.meaning.specs.References.{labels, rule_holds}
use Rattle.meaning.specs.Matching.{node_in, edge_in, node_at, edge_at, left_nodes, node_slot, edge_slot, Assignment, edge_runs, edge_leaves, edge_arrives, out_degree, in_degree, condition_holds, test_holds, Match}
use Rattle.meaning.specs.Assigned.{paired, value_from, assigned}
use Rattle.meaning.specs.FirstMatch.{first_match}
use Rattle.meaning.specs.Applying.{right_node, right_nodes, right_side}
use Rattle.meaning.specs.Laws.Tests.{both-no}
use Rattle.laws.specs.FirstMatch.{First, first_one, first-match}
use Rattle.meaning.specs.declared.Condition.{Condition}
use Rattle.meaning.specs.declared.Condition.TheVariants.{Edge as edge_between, InDegree, OutDegree, Equal, Less}
use Rattle.meaning.specs.declared.Test.{Test}

-- Numbers that do not pass do not count, however many of them there are.

module _ (f : ℕ → Bool) where
  exists-more : (n m : ℕ) → n ≤ m → ((x : ℕ) → n ≤ x → f x ≡ false) → exists f m ≡ exists f n
  unfolding exists either
  exists-more zero zero k h = refl
  exists-more (suc n) zero k h = absurd (omega arith)
  exists-more n (suc m) k h = at (dec_le n m) (exists-more n m)
    where
      at : Dec (n ≤ m) → (n ≤ m → ((x : ℕ) → n ≤ x → f x ≡ false) → exists f m ≡ exists f n) → exists f (suc m) ≡ exists f n
      at (yes l) r = rw (h m l) (r l h)
      at (no l) r = let e : suc m ≡ n = omega arith in ap (exists f) e

  count-more : (n m : ℕ) → n ≤ m → ((x : ℕ) → n ≤ x → f x ≡ false) → count f m ≡ count f n
  unfolding count choose
  count-more zero zero k h = refl
  count-more (suc n) zero k h = absurd (omega arith)
  count-more n (suc m) k h = at (dec_le n m) (count-more n m)
    where
      at : Dec (n ≤ m) → (n ≤ m → ((x : ℕ) → n ≤ x → f x ≡ false) → count f m ≡ count f n) → count f (suc m) ≡ count f n
      at (yes l) r = rw (h m l) (r l h)
      at (no l) r = let e : suc m ≡ n = omega arith in ap (count f) e

  exists-beyond : (n m : ℕ) → ((x : ℕ) → n ≤ x → f x ≡ false) → ((x : ℕ) → m ≤ x → f x ≡ false) → exists f n ≡ exists f m
  exists-beyond n m h k = at (dec_le n m)
    where
      at : Dec (n ≤ m) → exists f n ≡ exists f m
      at (yes l) = sym (exists-more n m l h)
      at (no l) = exists-more m n (omega arith) k

  count-beyond : (n m : ℕ) → ((x : ℕ) → n ≤ x → f x ≡ false) → ((x : ℕ) → m ≤ x → f x ≡ false) → count f n ≡ count f m
  count-beyond n m h k = at (dec_le n m)
    where
      at : Dec (n ≤ m) → count f n ≡ count f m
      at (yes l) = sym (count-more n m l h)
      at (no l) = count-more m n (omega arith) k

-- no slot behind a table is live
pub beyond : {A : Type 0} (t : List (Slot A)) (x : ℕ) → length t ≤ x → live_at t x ≡ false
unfolding is_live
beyond t x h = rw (get_or-eq_default t free h)

pub record Alike (h h' : Host) : Type 0 where
  pub nodes : (i : ℕ) → get_or h.nodes i free ≡ get_or h'.nodes i free
  pub edges : (i : ℕ) → get_or h.edges i free ≡ get_or h'.edges i free

pub alike-sym : (h h' : Host) → Alike h h' → Alike h' h
alike-sym h h' a = record { nodes = λ i. sym (a.nodes i); edges = λ i. sym (a.edges i) }

module _ (h h' : Host) (a : Alike h h') where
  -- a test of edges that live ones alone pass
  exists-alike : (f : Host → ℕ → Bool) → ((x : ℕ) → f h x ≡ f h' x) → ((g : Host) (x : ℕ) → live_at g.edges x ≡ false → f g x ≡ false)
      → exists (f h) (length h.edges) ≡ exists (f h') (length h'.edges)
  exists-alike f s n =
      exists-beyond (f h) (length h.edges) (length h'.edges) (λ x l. n h x (beyond h.edges x l))
      (λ x l. s x ∙ n h' x (beyond h'.edges x l))
      ∙ ap (λ (g : ℕ → Bool). exists g (length h'.edges)) (fun_ext s)

  count-alike : (f : Host → ℕ → Bool) → ((x : ℕ) → f h x ≡ f h' x) → ((g : Host) (x : ℕ) → live_at g.edges x ≡ false → f g x ≡ false)
      → count (f h) (length h.edges) ≡ count (f h') (length h'.edges)
  count-alike f s n =
      count-beyond (f h) (length h.edges) (length h'.edges) (λ x l. n h x (beyond h.edges x l))
      (λ x l. s x ∙ n h' x (beyond h'.edges x l))
      ∙ ap (λ (g : ℕ → Bool). count g (length h'.edges)) (fun_ext s)

  condition-alike : (p : List ℕ) (α : Assignment) (c : Condition) → condition_holds h p α c ≡ condition_holds h' p α c
  unfolding condition_holds in_degree out_degree edge_runs edge_leaves edge_arrives
  condition-alike p α (edge_between i j) =
      exists-alike (λ g. edge_runs g (node_slot p i) (node_slot p j)) (λ x. rw (a.edges x)) (λ g x. both-no _ _)
  condition-alike p α (InDegree i n) =
      ap (λ (m : ℕ). eqb m n)
      (count-alike (λ g. edge_arrives g (node_slot p i)) (λ x. rw (a.edges x)) (λ g x. both-no _ _))
  condition-alike p α (OutDegree i n) =
      ap (λ (m : ℕ). eqb m n)
      (count-alike (λ g. edge_leaves g (node_slot p i)) (λ x. rw (a.edges x)) (λ g x. both-no _ _))
  condition-alike p α (Equal i j) = refl
  condition-alike p α (Less i j) = refl

  pub test-alike : (p : List ℕ) (α : Assignment) (t : Test) → test_holds h p α t ≡ test_holds h' p α t
  unfolding test_holds
  test-alike p α t = ap (λ (b : Bool). choose t.negated (not b) b) (condition-alike p α t.condition)

  pub match-alike : (r : Rule) (p : List ℕ) → Match h r p → Match h' r p
  match-alike r p m =
      record {
        size = m.size;
        nodes_live = λ i k. rw (a.nodes (node_slot p i)) at (m.nodes_live i k);
        edges_live = λ k l. rw (a.edges (edge_slot r p k)) at (m.edges_live k l);
        nodes_apart = m.nodes_apart;
        edges_apart = m.edges_apart;
        node_marks = λ i k. rw (a.nodes (node_slot p i)) at (m.node_marks i k);
        edge_marks = λ k l. rw (a.edges (edge_slot r p k)) at (m.edge_marks k l);
        roots = λ i k. rw (a.nodes (node_slot p i)) at (m.roots i k);
        sources = λ k l. rw (a.edges (edge_slot r p k)) at (m.sources k l);
        targets = λ k l. rw (a.edges (edge_slot r p k)) at (m.targets k l);
        assignment = m.assignment;
        ints = m.ints;
        node_labels = λ i k. rw (a.nodes (node_slot p i)) at (m.node_labels i k);
        edge_labels = λ k l. rw (a.edges (edge_slot r p k)) at (m.edge_labels k l);
        dangling = λ x j. rw (a.edges x) at (m.dangling x j);
        tests = ap (λ (f : Test → Bool). every f r.tests) (fun_ext (λ t. sym (test-alike p m.assignment t))) ∙ m.tests;
      }

  -- The right side.

  pub node_at-alike : (x : ℕ) → node_at h x ≡ node_at h' x
  node_at-alike x = ap node_in (a.nodes x)

  pub edge_at_alike : (x : ℕ) → edge_at h x ≡ edge_at h' x
  edge_at_alike x = ap edge_in (a.edges x)

  pub assigned-alike : (r : Rule) (p : List ℕ) → assigned h r p ≡ assigned h' r p
  assigned-alike r p =
      ap (λ (f : (ℕ → List ℕ) × (ℕ → List ℕ)).
      value_from r (paired (labels r.left) (map f.0 (take (left_nodes r) p) ++ map f.1 (drop (left_nodes r) p))))
      (λ i. (λ x. (node_at-alike x i).label, λ x. (edge_at_alike x i).label))

  pub right_nodes-alike : (most : ℕ) (r : Rule) (α : Assignment) (p : List ℕ) (j : ℕ) (l : List RuleNode)
      → right_nodes most r α h p j l ≡ right_nodes most r α h' p j l
  unfolding right_nodes right_node
  right_nodes-alike most r α p j [] = refl
  right_nodes-alike most r α p j (n ∷ l) = rw (a.nodes (node_slot p j), right_nodes-alike most r α p (suc j) l)

  pub right_side-alike : (most : ℕ) (r : Rule) (p : List ℕ) → right_side most h r p ≡ right_side most h' r p
  unfolding right_side
  right_side-alike most r p =
      rw (assigned-alike r p, right_nodes-alike most r (assigned h' r p) p 0 r.right.nodes)

-- The first match.

pub first_alike : (h h' : Host) (r : Rule) (o : Option (List ℕ)) → Alike h h' → First h r o → First h' r o
first_alike h h' r none a f = λ p m. f p (match-alike h' h (alike-sym h h' a) r p m)
first_alike h h' r (some p) a f =
    (match-alike h h' a r p f.0, λ q m b. f.1 q (match-alike h' h (alike-sym h h' a) r q m) b)

pub first_match-alike : (h h' : Host) (r : Rule) → rule_holds r ≡ true → every is_type r.variables ≡ true → Alike h h'
    → first_match h' r ≡ first_match h r
first_match-alike h h' r holds types a =
    first_one h' r (first_match h' r) (first_match h r) (first-match h' r holds types)
    (first_alike h h' r (first_match h r) a (first-match h r holds types))
