-- Loops over a rule set whose results can always be brought together again: where two of its results are not isomorphic, it has one
-- result of each, and these are. Then the order does not matter, nor what was chosen: if one way ends, each way ends, after as many
-- steps and with the same graph. So what a loop over such a rule set comes to on a host graph is all that it can come to.
-- Rests on Answers, Steady and Endings.
use Rattle.std.specs.Prelude.{◌⊎◌, List}
use Rattle.meaning.specs.Image.{Rule}
use Rattle.published.specs.Graphs.{Graph, HostGraph, Iso}
use Rattle.published.specs.RuleApplication.{Applied}
use Rattle.published.specs.Semantics
use Rattle.published.specs.Semantics.{Configuration}

infix 20 ◌⟶◌
infix 20 ◌⟶⁺◌
infix 20 ◌⟶*◌
abbrev pub ◌⟶◌ : Configuration Graph → Configuration Graph → Type 0
a ⟶ b = Semantics.◌⟶◌ Graph Applied a b

abbrev pub ◌⟶⁺◌ : Configuration Graph → Configuration Graph → Type 0
a ⟶⁺ b = Semantics.◌⟶⁺◌ Graph Applied a b

abbrev pub ◌⟶*◌ : Configuration Graph → Configuration Graph → Type 0
a ⟶* b = Semantics.◌⟶*◌ Graph Applied a b

-- two results of R are isomorphic, or R has results of them that are
abbrev pub Diamond : List Rule → Type 0
Diamond R =
    (G H H' : Graph) → HostGraph G → Applied R G H → Applied R G H'
    → Iso H H' ⊎ ((K K' : Graph) × Applied R H K × Applied R H' K' × Iso K K')
