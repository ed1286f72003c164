-- The assignment that a placement gives: a variable has the value that it takes at the first left item that has it. The values
-- of a right side are by it. Rests on Basics, Layout, Image, References and Matching, and on the code's Element.
use Rattle.std.specs.Prelude.{Bool, false, List, [], ◌∷◌, ◌++◌, map, ℕ, ◌-◌, length, take, drop, eqb}
use Rattle.std.proofs.Math.Option.{Option, some, none}
use Rattle.meaning.specs.Basics.{choose}
use Rattle.meaning.specs.Layout.{Host}
use Rattle.meaning.specs.Image.{Rule}
use Rattle.meaning.specs.References.{labels, is_int, lists, takes_list}
use Rattle.meaning.specs.Matching.{node_at, edge_at, left_nodes, Assignment}
use Rattle.meaning.specs.declared.Element.{Element}
use Rattle.meaning.specs.declared.Element.TheVariants.{Constant, Variable, Sum, Difference}

unfoldable pub is_variable : ℕ → Element → Bool
is_variable v (Constant c) = false
is_variable v (Variable w) = eqb w v
is_variable v (Sum a b) = false
is_variable v (Difference a b) = false

-- how many atoms an element takes, where a list takes `spare` of them
abbrev pub share : Rule → ℕ → Element → ℕ
share r spare e = choose (takes_list r e) spare 1

-- how many atoms are left for a list, of n in all
abbrev pub spare : Rule → List Element → ℕ → ℕ
spare r l n = n - (length l - lists r l)

-- what variable v takes of the atoms at its first occurrence in the label
unfoldable pub taken : Rule → ℕ → ℕ → List Element → List ℕ → Option (List ℕ)
taken r v n [] atoms = none
taken r v n (e ∷ l) atoms =
    let later = taken r v n l (drop (share r n e) atoms) in
    choose (is_variable v e) (some (take (share r n e) atoms)) later

-- a left label and the host label that it is placed on
pub record Item : Type 0 where
  pub pattern : List Element
  pub atoms : List ℕ

unfoldable pub paired : List (List Element) → List (List ℕ) → List Item
paired [] ms = []
paired (l ∷ ls) [] = []
paired (l ∷ ls) (m ∷ ms) = record { pattern = l; atoms = m } ∷ paired ls ms

-- the host labels of a placement, or of the front of one: nodes', then edges'
abbrev pub host_labels : Host → Rule → List ℕ → List (List ℕ)
host_labels h r p =
    map (λ x. (node_at h x).label) (take (left_nodes r) p) ++ map (λ x. (edge_at h x).label) (drop (left_nodes r) p)

abbrev pub placed_items : Host → Rule → List ℕ → List Item
placed_items h r p = paired (labels r.left) (host_labels h r p)

unfoldable pub or_else : Option (List ℕ) → List ℕ → List ℕ
or_else none d = d
or_else (some l) d = l

-- a variable that no item has: one atom for an int, none for a list
unfoldable pub value_from : Rule → List Item → Assignment
value_from r [] v = choose (is_int r v) (0 ∷ []) []
value_from r (i ∷ is) v =
    or_else (taken r v (spare r i.pattern (length i.atoms)) i.pattern i.atoms) (value_from r is v)

abbrev pub assigned : Host → Rule → List ℕ → Assignment
assigned h r p = value_from r (placed_items h r p)
