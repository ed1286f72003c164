-- Laws of lists of names and of tests; a label as a row of elements; and what is asked of a node or an edge, by its tag. Rests on
-- Asked and on parts' Series and Rows.
use mathlib.Core.Path.{◌≡◌, refl, ◌∙◌}
use mathlib.Core.Bool.{Bool, true, false, not}
use mathlib.Core.Option.{some}
use mathlib.Core.List.{List, [], ◌∷◌, ◌++◌}
use Prim.Native.Nat.{ℕ}
use native.Mathlib.Omega.{arith}
use lib.ListN.{get_or}
use lib.Dec.{eqb, ltb}
use Rattle.meaning.specs.Basics.{both, absent}
use Rattle.meaning.specs.Tags.{node_tag, any_mark}
use Rattle.meaning.specs.Image.{label, element, passes_all, limits}
use Rattle.meaning.specs.declared.Element.{Element}
use Rattle.parts.specs.Series.{For, Series, only-series}
use Rattle.parts.specs.Rows.{node, edge, graph_item, item-is, edge-is}
use Rattle.references.specs.Asked.{ends_below, edge_marked}

pub absent_append : (u : ℕ) (l m : List ℕ) → absent u (l ++ m) ≡ both (absent u l) (absent u m)
unfolding absent both
absent_append u [] m = refl
absent_append u (a ∷ l) m = at (not (eqb a u)) (absent_append u l m)
  where
    at : (b : Bool) → absent u (l ++ m) ≡ both (absent u l) (absent u m) → both b (absent u (l ++ m)) ≡ both (both b (absent u l)) (absent u m)
    at true e = e
    at false e = refl

-- two questions of each of two
pub both-swap : (a b c d : Bool) → both (both a b) (both c d) ≡ both (both a c) (both b d)
unfolding both
both-swap true b true d = refl
both-swap true true false d = refl
both-swap true false false d = refl
both-swap false b c d = refl

pub label-series : (bs : List ℕ) (l : List Element) → label bs ≡ some l → Series element l [] bs
unfolding label
label-series bs l e = only-series passes_all element element (λ t b a p x. x) limits.elements bs l e

module _ (tag : ℕ) (bs : List ℕ) where
  pub ends-node : (n : ℕ) → tag ≡ node_tag → For (graph_item tag bs) (λ i. true ≡ ends_below n i)
  unfolding ends_below
  ends-node n h (node x) e = refl
  ends-node n h (edge x) e = let t = (item-is tag bs (edge x) e).0 in absurd (omega arith)

  pub ends-edge : (n : ℕ) (r : Bool) (a b : ℕ) → (tag ≡ node_tag → ⊥) → a ≡ get_or bs 1 0 → b ≡ get_or bs 2 0 → r ≡ both (ltb a n) (ltb b n) → For (graph_item tag bs) (λ i. r ≡ ends_below n i)
  unfolding ends_below
  ends-edge n r a b h p q z (node x) e = absurd (h (item-is tag bs (node x) e).0)
  ends-edge n r a b h p q z (edge x) e =
      let i = edge-is bs x (item-is tag bs (edge x) e).1 in
      z ∙ rw (p ∙ i.source, q ∙ i.target)

  pub marks-node : tag ≡ node_tag → For (graph_item tag bs) (λ i. true ≡ edge_marked i)
  unfolding edge_marked
  marks-node h (node x) e = refl
  marks-node h (edge x) e = let t = (item-is tag bs (edge x) e).0 in absurd (omega arith)

  pub marks-edge : (m : ℕ) → (tag ≡ node_tag → ⊥) → m ≡ get_or bs 0 0 → For (graph_item tag bs) (λ i. not (eqb m any_mark) ≡ edge_marked i)
  unfolding edge_marked
  marks-edge m h q (node x) e = absurd (h (item-is tag bs (node x) e).0)
  marks-edge m h q (edge x) e = rw (q ∙ (edge-is bs x (item-is tag bs (edge x) e).1).mark)
