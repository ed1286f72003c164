-- The theorem about matching: `first_match` is the first match in document 01's order, and `none` exactly where there is no match.
-- It holds of a rule that has the form and whose references hold. Rests on the meaning's Matching and FirstMatch,
-- and on Search and Levels.
use Rattle.std.specs.Prelude.{ℕ, ◌+◌, ◌<◌, ◌≡◌, refl, ◌↔◌, true, length}
use Rattle.std.proofs.Common.{sym, ◌∙◌, ap}
use Rattle.std.proofs.Math.Option.{Option, some, none}
use mathlib.Core.List.{List, []}
use Rattle.meaning.specs.Basics.{every}
use Rattle.meaning.specs.Layout.{Host}
use Rattle.meaning.specs.Image.{Rule, is_type}
use Rattle.meaning.specs.References.{rule_holds}
use Rattle.meaning.specs.Matching.{Match, left_nodes, left_edges, node_slot, edge_slot, Before}
use Rattle.meaning.specs.FirstMatch.{fits, candidates, complete, first_match}
use Rattle.laws.specs.Search.{In, Low, deep-low, from_zero, ext_full, ext_at, at_ext, before-apart}
use Rattle.meaning.specs.Laws.Slots.{live_at_lt}
use Rattle.laws.specs.Levels.{matched}

-- the first match of rule r in host h: a match that no match is before, or none where there is no match
abbrev pub First : Host → Rule → Option (List ℕ) → Type 0
First h r none = (p : List ℕ) → Match h r p → ⊥
First h r (some p) = Match h r p × ((q : List ℕ) → Match h r q → Before q p → ⊥)

-- there is only one
pub first_one : (h : Host) (r : Rule) (o o' : Option (List ℕ)) → First h r o → First h r o' → o ≡ o'
first_one h r none none f g = refl
first_one h r none (some q) f g = absurd (f q g.0)
first_one h r (some p) none f g = absurd (g p f.0)
first_one h r (some p) (some q) f g =
    ap some (before-apart p q (f.0.size ∙ sym g.0.size) (λ b. g.1 p f.0 b) (λ b. f.1 q g.0 b))

-- the slots of a match are inside the tables
pub node-inside : (h : Host) (r : Rule) (p : List ℕ) → Match h r p → (i : ℕ) → i < left_nodes r → node_slot p i < length h.nodes
node-inside h r p m i k = live_at_lt h.nodes (node_slot p i) (m.nodes_live i k)

pub edge-inside : (h : Host) (r : Rule) (p : List ℕ) → Match h r p → (k : ℕ) → k < left_edges r → edge_slot r p k < length h.edges
edge-inside h r p m k j = live_at_lt h.edges (edge_slot r p k) (m.edges_live k j)

module _ (h : Host) (r : Rule) (holds : rule_holds r ≡ true) (types : every is_type r.variables ≡ true) where
  abbrev Searched : List ℕ → Type 0
  Searched p = In (candidates h r) (fits h r) (complete h r) (left_nodes r + left_edges r) [] 0 p

  found : (p : List ℕ) → Searched p → Match h r p
  found p s =
      (matched h r holds types p).1
      (record { size = s.size; level = ext_at _ _ _ [] p s.good; full = ext_full _ _ _ [] p s.good })

  searched : (p : List ℕ) → Match h r p → Searched p
  searched p m =
      let a = (matched h r holds types p).0 m in
      record { size = a.size; good = at_ext _ _ _ [] p a.full a.level; from = from_zero p }

  lowest : (o : Option (List ℕ)) → Low (candidates h r) (fits h r) (complete h r) (left_nodes r + left_edges r) [] 0 o → First h r o
  lowest none l = λ p m. l p (searched p m)
  lowest (some p) l = rw l.1 (found _ l.2, λ q m b. l.3 q (searched q m) b)

  pub first-match : First h r (first_match h r)
  unfolding first_match
  first-match = lowest (first_match h r) (deep-low (candidates h r) (fits h r) (complete h r) (left_nodes r + left_edges r) [] 0)

  -- so it answers o exactly where o is the first match
  pub first-exactly : (o : Option (List ℕ)) → (first_match h r ≡ o) ↔ First h r o
  first-exactly o = (λ e. rw e at first-match, λ f. first_one h r (first_match h r) o first-match f)

  -- fails exactly where there is no match
  pub fails-exactly : (first_match h r ≡ none) ↔ ((p : List ℕ) → Match h r p → ⊥)
  fails-exactly = first-exactly none

  -- what it finds is a match
  pub found-match : (p : List ℕ) → first_match h r ≡ some p → Match h r p
  found-match p e = ((first-exactly (some p)).0 e).0
