-- `takes_list` meets its contract.
use Rattle.std.proofs.Common.{◌≡◌, refl, false, ℕ}
use Rattle.std.proofs.lemmas.Bool.{le-ltb}
use lib.ListN.{get_or-eq_default}
use Rattle.meaning.specs.Image.{Rule}
use Rattle.meaning.specs.References.{takes_list}
use Rattle.meaning.specs.declared.Element.{Element}
use Rattle.meaning.specs.declared.Element.TheVariants.{Constant, Variable, Sum, Difference}
use Rattle.parts.proofs.elements.takes_list.Goals as goal

pub returns-then-v-types : goal.returns-then-v-types
unfolding takes_list
returns-then-v-types c x q = rw (c.in-Variable.is, q)

pub returns-else-v-types : goal.returns-else-v-types
unfolding takes_list
returns-else-v-types c x q = rw (c.in-Variable.is, q, get_or-eq_default c.args.types.now 0 c.if-v-types.false) (le-ltb _ _ c.if-v-types.false)

-- only a variable is one
no_variable : (x : Rule) (e : Element) → ((v : ℕ) → e ≡ Variable v → ⊥) → false ≡ takes_list x e
unfolding takes_list
no_variable x (Constant a) h = refl
no_variable x (Variable v) h = absurd (h v refl)
no_variable x (Sum a b) h = refl
no_variable x (Difference a b) h = refl

pub returns-in_default : goal.returns-in_default
returns-in_default c x q = no_variable x c.args.e c.in_default.not-Variable
