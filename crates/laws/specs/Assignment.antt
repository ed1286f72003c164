-- The assignment that a placement gives. A variable that occurs in a placed item has its value from the placement so far; where
-- the label of each item agrees with the assignment so far, all agree with the whole and an int has one atom; where the labels
-- agree with any assignment, the placement's has its values and each label agrees with the assignment so far.
-- Rests on the meaning's Assigned and FirstMatch, and on References and Labels.
use Rattle.std.specs.Prelude.{◌≡◌, refl, false, ◌⊎◌, List, [], ◌∷◌, ◌++◌, map, ℕ, zero, suc, ◌+◌, ◌-◌, ◌<◌, ◌≤◌, get_or, take, drop}
use Rattle.std.proofs.Common.{◌∙◌, ap, inl, inr, arith, length-append, length-take, length-drop, get_or-append-add, get_or-take, get_or-drop, length-take-le}
use Rattle.std.proofs.Math.Bool.{true}
use Rattle.std.proofs.Math.Decide.{dec_lt}
use Rattle.std.proofs.Math.ListN.{length, get_or-append}
use Rattle.std.proofs.lemmas.List.{length-map}
use Rattle.meaning.specs.Basics.{every}
use Rattle.meaning.specs.Layout.{Host}
use Rattle.meaning.specs.Image.{Rule, is_type}
use Rattle.meaning.specs.References.{element_names, labels, is_int, is_list, is_plain, takes_list, lists, rule_holds}
use Rattle.meaning.specs.Matching.{Assignment, atoms_of, instance, node_at, edge_at, left_node, left_edge, left_nodes, left_edges, node_slot, edge_slot}
use Rattle.meaning.specs.Assigned.{Item, paired, host_labels, placed_items, value_from, assigned}
use Rattle.meaning.specs.FirstMatch.{label_agrees, has}
use Rattle.meaning.specs.Laws.Tests.{both_true, either_true, every_true}
use Rattle.meaning.specs.Laws.Every.{Every, Every-with}
use Rattle.laws.specs.References.{label-plain, label-simple, label-variables}
use Rattle.laws.specs.Labels.{Agrees, no_item, value-take, value-int, value-agrees, value-equal, labels-agree}
use Rattle.meaning.specs.declared.Element.{Element}
use Rattle.meaning.specs.declared.Element.TheVariants.{Constant, Variable, Sum, Difference}

-- The items of a placement.

pub paired-take : (n : ℕ) (ls : List (List Element)) (ms : List (List ℕ)) → paired ls (take n ms) ≡ take n (paired ls ms)
unfolding paired
paired-take zero [] ms = refl
paired-take zero (l ∷ ls) ms = refl
paired-take (suc n) [] ms = refl
paired-take (suc n) (l ∷ ls) [] = refl
paired-take (suc n) (l ∷ ls) (m ∷ ms) = rw (paired-take n ls ms)

pub paired-length : (ls : List (List Element)) (ms : List (List ℕ)) → length ms ≤ length ls → length (paired ls ms) ≡ length ms
unfolding paired
paired-length [] [] h = refl
paired-length [] (m ∷ ms) h = absurd (omega arith)
paired-length (l ∷ ls) [] h = refl
paired-length (l ∷ ls) (m ∷ ms) h = ap suc (paired-length ls ms (omega arith))

pub paired_at : (ls : List (List Element)) (ms : List (List ℕ)) (i : ℕ) → i < length ls → i < length ms
    → get_or (paired ls ms) i no_item ≡ record { pattern = get_or ls i []; atoms = get_or ms i [] }
unfolding paired
paired_at [] ms i h k = absurd (omega arith)
paired_at (l ∷ ls) [] i h k = absurd (omega arith)
paired_at (l ∷ ls) (m ∷ ms) zero h k = refl
paired_at (l ∷ ls) (m ∷ ms) (suc i) h k = paired_at ls ms i (omega arith) (omega arith)

module _ {A C : Type 0} where
  map-take : (f : A → C) (n : ℕ) (l : List A) → map f (take n l) ≡ take n (map f l)
  map-take f zero l = refl
  map-take f (suc n) [] = refl
  map-take f (suc n) (x ∷ l) = rw (map-take f n l)

  map_at : (f : A → C) (l : List A) (i : ℕ) (a : A) (d : C) → i < length l → get_or (map f l) i d ≡ f (get_or l i a)
  map_at f [] i a d h = absurd (omega arith)
  map_at f (x ∷ l) zero a d h = refl
  map_at f (x ∷ l) (suc i) a d h = map_at f l i a d (omega arith)

-- f of some, then g of others
module _ {A B C : Type 0} (f : A → C) (g : B → C) (l : List A) (m : List B) where
  joined_length : length (map f l ++ map g m) ≡ length l + length m
  joined_length = rw (length-append, length-map l f, length-map m g)

  joined-front : (i : ℕ) (a : A) (d : C) → i < length l → get_or (map f l ++ map g m) i d ≡ f (get_or l i a)
  joined-front i a d h = get_or-append (map f l) (map g m) d i (rw (length-map l f) h) ∙ map_at f l i a d h

  joined_back : (k : ℕ) (b : B) (d : C) → k < length m → get_or (map f l ++ map g m) (length l + k) d ≡ g (get_or m k b)
  joined_back k b d h = rw (length-map l f) at (get_or-append-add (map f l) (map g m) k d) ∙ map_at g m k b d h

-- what f makes of the first k numbers and g of the rest, for the first n of them
parted_take : (f g : ℕ → List ℕ) (k n : ℕ) (p : List ℕ)
    → map f (take k (take n p)) ++ map g (drop k (take n p)) ≡ take n (map f (take k p) ++ map g (drop k p))
parted_take f g zero n p = map-take g n p
parted_take f g (suc k) zero p = refl
parted_take f g (suc k) (suc n) [] = refl
parted_take f g (suc k) (suc n) (x ∷ p) = rw (parted_take f g k n p)

-- the left labels by number
module _ (r : Rule) where
  pub labels_length : length (labels r.left) ≡ left_nodes r + left_edges r
  labels_length = joined_length _ _ r.left.nodes r.left.edges

  pub label-node : (i : ℕ) → i < left_nodes r → get_or (labels r.left) i [] ≡ (left_node r i).label
  label-node i h = joined-front _ _ r.left.nodes r.left.edges i _ [] h

  pub label-edge : (k : ℕ) → k < left_edges r → get_or (labels r.left) (left_nodes r + k) [] ≡ (left_edge r k).label
  label-edge k h = joined_back _ _ r.left.nodes r.left.edges k _ [] h

-- a plain element but a list variable stands for one atom, where its variables exist
pub single : (r : Rule) (β : Assignment) → every is_type r.variables ≡ true → ((v : ℕ) → is_int r v ≡ true → length (β v) ≡ 1)
    → (x : Element) → is_plain x ≡ true → Every (λ v. v < length r.variables) (element_names x) → takes_list r x ≡ false
    → length (atoms_of β x) ≡ 1
unfolding is_plain element_names takes_list atoms_of is_type
single r β types ints (Constant c) p e q = refl
single r β types ints (Variable v) p e q = ints v (int (either_true _ _ (every_true is_type r.variables 0 types v e.0)))
  where
    int : (is_int r v ≡ true) ⊎ (is_list r v ≡ true) → is_int r v ≡ true
    int (inl i) = i
    int (inr i) = let z : ◌≡◌ {A = ℕ} 0 1 = cc in absurd (omega arith)
single r β types ints (Sum a b) p e q = let z : ◌≡◌ {A = ℕ} 0 1 = cc in absurd (omega arith)
single r β types ints (Difference a b) p e q = let z : ◌≡◌ {A = ℕ} 0 1 = cc in absurd (omega arith)

module _ (h : Host) (r : Rule) (p : List ℕ) where
  -- the items of left node i and of left edge k, and item i
  abbrev node_item : ℕ → Item
  node_item i = record { pattern = (left_node r i).label; atoms = (node_at h (node_slot p i)).label }

  abbrev edge_item : ℕ → Item
  edge_item k = record { pattern = (left_edge r k).label; atoms = (edge_at h (edge_slot r p k)).label }

  abbrev item_at : ℕ → Item
  item_at i = get_or (placed_items h r p) i no_item

  -- matching rule 4 under the assignment α
  pub record Labelled (α : Assignment) : Type 0 where
    pub ints : (v : ℕ) → is_int r v ≡ true → length (α v) ≡ 1
    pub nodes : (i : ℕ) → i < left_nodes r → (node_at h (node_slot p i)).label ≡ instance α (left_node r i).label
    pub edges : (k : ℕ) → k < left_edges r → (edge_at h (edge_slot r p k)).label ≡ instance α (left_edge r k).label

  -- the label of each item agrees with the assignment of the placement so far
  pub record LabelsAgree : Type 0 where
    pub nodes : (i : ℕ) → i < left_nodes r
        → label_agrees r (assigned h r (take (suc i) p)) (left_node r i).label (node_at h (node_slot p i)).label ≡ true
    pub edges : (k : ℕ) → k < left_edges r
        → label_agrees r (assigned h r (take (suc (left_nodes r + k)) p)) (left_edge r k).label (edge_at h (edge_slot r p k)).label ≡ true

  placed-take : (n : ℕ) → placed_items h r (take n p) ≡ take n (placed_items h r p)
  placed-take n =
      ap (paired (labels r.left)) (parted_take _ _ (left_nodes r) n p) ∙ paired-take n (labels r.left) (host_labels h r p)

  module _ (size : length p ≡ left_nodes r + left_edges r) where
    host-length : length (host_labels h r p) ≡ length p
    host-length = joined_length _ _ (take (left_nodes r) p) (drop (left_nodes r) p) ∙ rw (length-take, length-drop) (omega arith)

    placed-length : length (placed_items h r p) ≡ length p
    placed-length = paired-length (labels r.left) (host_labels h r p) (omega (arith, labels_length r, host-length)) ∙ host-length

    -- the label of item i, and the atoms of its slot
    placed_at : (i : ℕ) → i < length p → item_at i ≡ record { pattern = get_or (labels r.left) i []; atoms = get_or (host_labels h r p) i [] }
    placed_at i k =
        paired_at (labels r.left) (host_labels h r p) i (omega (arith, labels_length r)) (omega (arith, host-length))

    placed-node : (i : ℕ) → i < left_nodes r → item_at i ≡ node_item i
    placed-node i k =
        let inside : i < length (take (left_nodes r) p) = rw length-take (omega arith) in
        let e = joined-front (λ x. (node_at h x).label) (λ x. (edge_at h x).label) (take (left_nodes r) p) (drop (left_nodes r) p) i 0 [] inside in
        placed_at i (omega arith) ∙ rw (label-node r i k, e, get_or-take (left_nodes r) p i 0 k)

    placed-edge : (k : ℕ) → k < left_edges r → item_at (left_nodes r + k) ≡ edge_item k
    placed-edge k j =
        let inside : k < length (drop (left_nodes r) p) = rw length-drop (omega arith) in
        let front : length (take (left_nodes r) p) ≡ left_nodes r = length-take-le (left_nodes r) p (omega arith) in
        let e = joined_back (λ x. (node_at h x).label) (λ x. (edge_at h x).label) (take (left_nodes r) p) (drop (left_nodes r) p) k 0 [] inside in
        placed_at (left_nodes r + k) (omega arith) ∙ rw (label-edge r k j, rw front at e, get_or-drop (left_nodes r) p k 0)

    -- what holds of the node items and of the edge items holds of each item
    each_item : (P : ℕ → Item → Type 0) → ((i : ℕ) → i < left_nodes r → P i (node_item i))
        → ((k : ℕ) → k < left_edges r → P (left_nodes r + k) (edge_item k)) → (i : ℕ) → i < length p → P i (item_at i)
    each_item P n e i k = at (dec_lt i (left_nodes r))
      where
        at : Dec (i < left_nodes r) → P i (item_at i)
        at (yes j) = rw (placed-node i j) (n i j)
        at (no j) =
            let m : ℕ = i - left_nodes r in
            let f : left_nodes r + m ≡ i = omega arith in
            let g : P (left_nodes r + m) (item_at (left_nodes r + m)) = rw (placed-edge m (omega arith)) (e m (omega arith)) in
            rw f at g

    -- a variable that occurs in one of the first n items has its value from those
    pub assigned-take : (n i v : ℕ) → i < n → i < length p → has v (get_or (labels r.left) i []) ≡ true
        → assigned h r (take n p) v ≡ assigned h r p v
    assigned-take n i v k j e = rw (placed-take n) (value-take r v n i (placed_items h r p) k (rw (placed_at i j) e))

    module _ (holds : rule_holds r ≡ true) where
      simple : (i : ℕ) → i < length p → lists r (item_at i).pattern ≤ 1
      simple i k = rw (placed_at i k) (label-simple r holds i)

      -- what agrees with the assignment so far agrees with the whole
      pub labelled : LabelsAgree → Labelled (assigned h r p)
      unfolding label_agrees
      labelled a = record {
        ints = λ v e.
            let inside : (i : ℕ) → i < length (placed_items h r p) → i < length p = λ i k. omega (arith, placed-length) in
            value-int r v (placed_items h r p) e (λ i k. simple i (inside i k)) (λ i k. (both_true _ _ (so_far i (inside i k))).0);
        nodes = λ i k. rw (placed-node i k) at (value-equal r i (placed_items h r p) (so_far i (omega arith)));
        edges = λ k j. rw (placed-edge k j) at (value-equal r (left_nodes r + k) (placed_items h r p) (so_far (left_nodes r + k) (omega arith)));
      }
        where
          so_far : (i : ℕ) → i < length p
              → label_agrees r (value_from r (take (suc i) (placed_items h r p))) (item_at i).pattern (item_at i).atoms ≡ true
          so_far =
              each_item (λ i x. label_agrees r (value_from r (take (suc i) (placed_items h r p))) x.pattern x.atoms ≡ true)
              (λ i k. rw (placed-take (suc i)) at (a.nodes i k))
              (λ k j. rw (placed-take (suc (left_nodes r + k))) at (a.edges k j))

      module _ (types : every is_type r.variables ≡ true) (β : Assignment) (l : Labelled β) where
        agrees : (i : ℕ) → i < length (placed_items h r p) → Agrees r β (item_at i)
        agrees i k =
            let inside : i < length p = omega (arith, placed-length) in
            let ones = Every-with _ _ _ (single r β types l.ints) (get_or (labels r.left) i []) (label-plain r holds i) (label-variables r holds i) in
            record {
              singles = rw (placed_at i inside) ones;
              simple = simple i inside;
              equal = each_item (λ i x. x.atoms ≡ instance β x.pattern) l.nodes l.edges i inside;
            }

        -- the placement gives β's value to each variable of the left side
        pub assigned-is : (i v : ℕ) → i < length p → has v (get_or (labels r.left) i []) ≡ true → assigned h r p v ≡ β v
        assigned-is i v k e =
            value-agrees r β v i (placed_items h r p) agrees (omega (arith, placed-length)) (rw (placed_at i k) e)

        so_far : (i : ℕ) → i < length p
            → label_agrees r (assigned h r (take (suc i) p)) (item_at i).pattern (item_at i).atoms ≡ true
        so_far i k = rw (placed-take (suc i)) (labels-agree r β i (placed_items h r p) agrees (omega (arith, placed-length)))

        -- and each label agrees with the assignment so far
        pub agreed : LabelsAgree
        agreed = record {
          nodes = λ i k. rw (placed-node i k) at (so_far i (omega arith));
          edges = λ k j. rw (placed-edge k j) at (so_far (left_nodes r + k) (omega arith));
        }
