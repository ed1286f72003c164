-- What contracts say of structs that are lent. Rests on Testing.
use Rattle.std.specs.Prelude.{List, ℕ}
use Rattle.graph.specs.Hosts.{host_in}
use Rattle.graph.specs.declared.Graph.{Graph}
use Rattle.plan.specs.declared.PlannedRule.{PlannedRule}
use Rattle.agreeing.specs.declared.Trial.{Trial}
use Rattle.testing.specs.Testing.{HasOperand, HasCondition, HasTest}

module _ (g : Graph) (r : PlannedRule) (t : Trial) where
  -- an operand, a condition or a test has what it needs of a trial
  abbrev pub OperandIn : ℕ → List ℕ → Type 0
  OperandIn tag q = HasOperand (host_in g) r.bytes.now r.plan.now t.at.now t.item t.slot tag q

  abbrev pub ConditionIn : ℕ → List ℕ → Type 0
  ConditionIn tag q = HasCondition (host_in g) r.bytes.now r.plan.now t.at.now t.item t.slot tag q

  abbrev pub TestIn : ℕ → Type 0
  TestIn n = HasTest (host_in g) r.bytes.now r.plan.now t.at.now t.item t.slot n
