-- What contracts say of structs that are lent. Rests on Next and Values.
use Rattle.std.specs.Prelude.{List, ℕ, Option}
use Rattle.meaning.specs.Image.{Rule}
use Rattle.graph.specs.declared.Graph.{Graph}
use Rattle.plan.specs.declared.PlannedRule.{PlannedRule}
use Rattle.values.specs.declared.Values.{Values}
use Rattle.matching.specs.Next.{Handed, Ready, Of}
use Rattle.matching.specs.Values.{Sought, IsFirst}

-- what is answered, of whichever rule the planned one is
abbrev pub OfRule : PlannedRule → (Rule → Type 0) → Type 0
OfRule r P = Of r.bytes.now r.plan.now P

module _ (g : Graph) (r : PlannedRule) where
  abbrev pub HandedIn : Type 0
  HandedIn = Handed g.layout g.nodes.now g.edges.now r.bytes.now r.plan.now

  -- the first items stand at slots
  abbrev pub ReadyIn : List ℕ → ℕ → Type 0
  ReadyIn at i = Ready g.layout g.nodes.now g.edges.now r.bytes.now r.plan.now at i

  abbrev pub SoughtIn : Option (List ℕ) → Values → Type 0
  SoughtIn x v = Sought g.layout g.nodes.now g.edges.now r.bytes.now r.plan.now x v.lens v.atoms

-- the first match of the rule that the bytes are
abbrev pub IsFirstIn : Graph → List ℕ → Option (List ℕ) → Values → Type 0
IsFirstIn g bs x v = IsFirst g.layout g.nodes.now g.edges.now bs x v.lens v.atoms
