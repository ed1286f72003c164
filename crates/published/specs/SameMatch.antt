-- The premorphism decides the result: it fixes the values of all variables of L, which are all that R has, so that two results of
-- one rule with one premorphism are isomorphic. Rests on OneResult.
use Rattle.std.specs.Prelude.{ℕ, ◌<◌, ◌≡◌, false, length}
use Rattle.meaning.specs.Basics.{absent}
use Rattle.meaning.specs.Image.{Rule}
use Rattle.meaning.specs.References.{names}
use Rattle.published.specs.Graphs.{Graph}
use Rattle.published.specs.RuleApplication.{Premorphism}

-- The values of the variables of L.

-- the premorphisms g and f agree on L
pub record Agree (r : Rule) (G : Graph) (g f : Premorphism r.left G) : Type 0 where
  pub nodes : (i : ℕ) → i < length r.left.nodes → g.node i ≡ f.node i
  pub edges : (k : ℕ) → k < length r.left.edges → g.edge k ≡ f.edge k

-- v occurs in L
abbrev pub OnLeft : Rule → ℕ → Type 0
OnLeft r v = absent v (names r.left) ≡ false
