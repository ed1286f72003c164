-- The degrees of a node that a rule deletes: where the rule matches, as many edges of G arrive at it as edges of L do, and as many
-- leave it, since the dangling condition lets no other touch it. A loop counts once in each. In document 000 a search checks
-- these degrees (lemma 3.5); a condition that asks for them changes no match. Rests on RuleApplication and on Application's
-- Conditions.
use Rattle.std.specs.Prelude.{false, List, ◌∷◌, ℕ, eqb, length}
use Rattle.meaning.specs.Basics.{count}
use Rattle.meaning.specs.Image.{Rule}
use Rattle.meaning.specs.declared.Condition.TheVariants.{InDegree, OutDegree}
use Rattle.meaning.specs.declared.Test.{Test}
use Rattle.published.specs.RuleApplication.{edge_of}

-- the edges of L that arrive at its node j, and those that leave it
abbrev pub left_in : Rule → ℕ → ℕ
left_in r j = count (λ k. eqb (edge_of r.left k).target j) (length r.left.edges)

abbrev pub left_out : Rule → ℕ → ℕ
left_out r j = count (λ k. eqb (edge_of r.left k).source j) (length r.left.edges)

-- r with other tests
abbrev pub with_tests : Rule → List Test → Rule
with_tests r t =
    record { variables = r.variables; left = r.left; right = r.right; interface = r.interface; tests = t; preserving = r.preserving }

-- r with a condition more: node j has the degrees that it has in L
abbrev pub asking : Rule → ℕ → Rule
asking r j =
    with_tests r
    (record { negated = false; condition = InDegree j (left_in r j) }
    ∷ record { negated = false; condition = OutDegree j (left_out r j) }
    ∷ r.tests)
