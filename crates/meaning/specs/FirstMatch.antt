-- The first match of a rule in a host, executable. A candidate is dropped as soon as the placement so far breaks a matching
-- rule, and a node also where a left edge to an earlier node or to itself has no host edge, or where it must go and has edges
-- that must dangle. Rests on Basics, Tags, Layout, Image, References, Matching, Assigned and Search, and on the code's Element
-- and Test.
use Rattle.std.specs.Prelude.{Bool, true, false, not, List, [], ◌∷◌, ◌++◌, map, ℕ, zero, suc, ◌-◌, max, length, drop, eqb, leb, ltb}
use Rattle.std.proofs.Math.Option.{Option}
use Rattle.meaning.specs.Basics.{choose, both, either, clauses, all, exists, count, every, absent, same, concat}
use Rattle.meaning.specs.Layout.{Host, live_at}
use Rattle.meaning.specs.Image.{Rule}
use Rattle.meaning.specs.Tags.{any_mark}
use Rattle.meaning.specs.References.{operand_names, condition_operands, condition_nodes, labels, lists}
use Rattle.meaning.specs.Matching.{node_at, edge_at, left_node, left_edge, left_nodes, left_edges, total, node_slot, Assignment, instance, edge_runs, edge_touches, test_holds, roots_agree}
use Rattle.meaning.specs.Assigned.{is_variable, assigned}
use Rattle.meaning.specs.Search.{deep}
use Rattle.meaning.specs.declared.Element.{Element}
use Rattle.meaning.specs.declared.Test.{Test}

-- Candidates.

unfoldable pub marks_agree : ℕ → ℕ → Bool
marks_agree left mark = either (eqb left any_mark) (eqb left mark)

-- as many atoms as a left label can take: one for each element that is no list variable, more if it has a list variable
unfoldable pub length_fits : Rule → List Element → List ℕ → Bool
length_fits r l atoms =
    choose (eqb (lists r l) 0) (eqb (length atoms) (length l)) (leb (length l - lists r l) (length atoms))

unfoldable pub label_agrees : Rule → Assignment → List Element → List ℕ → Bool
label_agrees r α l atoms = both (length_fits r l atoms) (same atoms (instance α l))

-- How many items must be placed before a test can be decided: those up to the last node that it names, and up to the first
-- item that has each of its variables.

unfoldable pub has : ℕ → List Element → Bool
has v [] = false
has v (e ∷ l) = either (is_variable v e) (has v l)

-- the number of the first label that has variable v
unfoldable pub first_with : ℕ → List (List Element) → ℕ
first_with v [] = zero
first_with v (l ∷ ls) = let later = first_with v ls in choose (has v l) zero (suc later)

unfoldable pub highest : List ℕ → ℕ
highest [] = zero
highest (n ∷ l) = max n (highest l)

unfoldable pub decided_at : Rule → Test → ℕ
decided_at r t =
    highest
    (map suc
    (condition_nodes t.condition
    ++ map (λ v. first_with v (labels r.left)) (concat (map operand_names (condition_operands t.condition)))))

module _ (h : Host) (r : Rule) where
  -- the tests that the last item of the placement so far decides hold
  unfoldable pub tests_so_far : List ℕ → Bool
  tests_so_far p = every (λ t. choose (eqb (decided_at r t) (length p)) (test_holds h p (assigned h r p) t) true) r.tests

  -- host edge x can stand for left edge k, as far as its mark and its ends' slots in p go
  unfoldable pub joins : List ℕ → ℕ → ℕ → Bool
  joins p k x =
      both (edge_runs h (node_slot p (left_edge r k).source) (node_slot p (left_edge r k).target) x)
      (marks_agree (left_edge r k).mark (edge_at h x).mark)

  -- some host edge can stand for left edge k, if left node i is the later of its ends
  unfoldable pub linked : List ℕ → ℕ → ℕ → Bool
  linked p i k =
      let found = exists (joins p k) (length h.edges) in
      choose (eqb (max (left_edge r k).source (left_edge r k).target) i) found true

  unfoldable pub left_touches : ℕ → ℕ → Bool
  left_touches i k = either (eqb (left_edge r k).source i) (eqb (left_edge r k).target i)

  -- left node i stays, or slot c is touched by no more edges than left node i
  unfoldable pub can_go : ℕ → ℕ → Bool
  can_go i c =
      either (ltb i r.interface) (leb (count (edge_touches h c) (length h.edges)) (count (left_touches i) (left_edges r)))

  -- slot c can stand for left node i behind the prefix p
  unfoldable pub node_fits : List ℕ → ℕ → ℕ → Bool
  node_fits p i c =
      clauses
      (live_at h.nodes c
      ∷ absent c p
      ∷ marks_agree (left_node r i).mark (node_at h c).mark
      ∷ roots_agree r.preserving (left_node r i).root (node_at h c).root
      ∷ label_agrees r (assigned h r (p ++ c ∷ [])) (left_node r i).label (node_at h c).label
      ∷ all (linked (p ++ c ∷ []) i) (left_edges r)
      ∷ can_go i c
      ∷ tests_so_far (p ++ c ∷ [])
      ∷ [])

  -- slot c can stand for left edge k behind the prefix p
  unfoldable pub edge_fits : List ℕ → ℕ → ℕ → Bool
  edge_fits p k c =
      clauses
      (joins p k c
      ∷ absent c (drop (left_nodes r) p)
      ∷ label_agrees r (assigned h r (p ++ c ∷ [])) (left_edge r k).label (edge_at h c).label
      ∷ tests_so_far (p ++ c ∷ [])
      ∷ [])

  unfoldable pub fits : List ℕ → ℕ → Bool
  fits p c =
      choose (ltb (length p) (left_nodes r)) (node_fits p (length p) c) (edge_fits p (length p - left_nodes r) c)

  unfoldable pub candidates : List ℕ → ℕ
  candidates p = choose (ltb (length p) (left_nodes r)) (length h.nodes) (length h.edges)

  -- Full placements.

  -- edge x touches the slot of left node j, which goes
  unfoldable pub touches_gone : List ℕ → ℕ → ℕ → Bool
  touches_gone p x j = both (leb r.interface j) (edge_touches h (node_slot p j) x)

  -- edge x would dangle: it touches a node that goes, and is not placed itself
  unfoldable pub dangles : List ℕ → ℕ → Bool
  dangles p x = both (exists (touches_gone p x) (left_nodes r)) (absent x (drop (left_nodes r) p))

  unfoldable pub complete : List ℕ → Bool
  complete p =
      both (not (exists (dangles p) (length h.edges))) (every (test_holds h p (assigned h r p)) r.tests)

  -- the first match, as its node slots in left order and then its edge slots
  unfoldable pub first_match : Option (List ℕ)
  first_match = deep candidates fits complete (total r) [] 0
