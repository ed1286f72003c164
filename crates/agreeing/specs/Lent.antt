-- What contracts say of a host, a planned rule and a trial that are lent as structs. Rests on Placed, Agreeing and
-- Candidates.
use Rattle.std.specs.Prelude.{List, ℕ}
use Rattle.graph.specs.Hosts.{host_in}
use Rattle.graph.specs.declared.Graph.{Graph}
use Rattle.plan.specs.declared.PlannedRule.{PlannedRule}
use Rattle.agreeing.specs.declared.Trial.{Trial}
use Rattle.agreeing.specs.Placed.{Known, Tried}
use Rattle.agreeing.specs.Agreeing.{HasValue, HasElement, HasElements, OnLeft}
use Rattle.agreeing.specs.Candidates.{Candidate}

-- the rule is planned
abbrev pub KnownIn : PlannedRule → Type 0
KnownIn r = Known r.bytes.now r.plan.now

-- a variable stands on its left side
abbrev pub LeftIn : PlannedRule → ℕ → Type 0
LeftIn r v = OnLeft r.bytes.now r.plan.now v

-- a slot may stand for an item
abbrev pub CandidateIn : Graph → PlannedRule → ℕ → ℕ → Type 0
CandidateIn g r i c = Candidate (host_in g) r.bytes.now r.plan.now i c

module _ (g : Graph) (r : PlannedRule) (t : Trial) where
  -- an item is tried
  abbrev pub TriedIn : Type 0
  TriedIn = Tried (host_in g) r.bytes.now r.plan.now t.at.now t.item t.slot

  -- a variable has its value then
  abbrev pub ValueIn : ℕ → Type 0
  ValueIn v = HasValue (host_in g) r.bytes.now r.plan.now t.at.now t.item t.slot v

  -- an element of a left label, or the elements of one, have their values then
  abbrev pub ElementIn : ℕ → List ℕ → Type 0
  ElementIn tag q = HasElement (host_in g) r.bytes.now r.plan.now t.at.now t.item t.slot tag q

  abbrev pub ElementsIn : List ℕ → Type 0
  ElementsIn q = HasElements (host_in g) r.bytes.now r.plan.now t.at.now t.item t.slot q
