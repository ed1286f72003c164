-- Two matches of a rule that a symmetry of the graph takes to each other give isomorphic graphs: an isomorphism of the graph with
-- itself. With it two nodes that no edge touches and that are labelled alike can change places. Rests on Isomorphism and SameMatch.
use Rattle.std.specs.Prelude.{ℕ, eqb}
use Rattle.meaning.specs.Basics.{choose}
use Rattle.published.specs.Graphs.{Graph, Edge}
use Rattle.published.specs.RuleApplication.{Incident}

-- no edge touches v
abbrev pub Lone : Graph → ℕ → Type 0
Lone G v = (e : ℕ) → Edge G e → Incident G e v → ⊥

-- v and w change places
abbrev pub swap : ℕ → ℕ → ℕ → ℕ
swap v w x = choose (eqb x v) w (choose (eqb x w) v x)
