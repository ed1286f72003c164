-- What operands, conditions and tests need of a placement: that their nodes are placed and their variables have values.
-- Rests on agreeing's Placed and Agreeing and on the meaning's Image.
use Rattle.std.specs.Prelude.{◌≡◌, List, ℕ, ◌<◌, length}
use Rattle.std.proofs.Math.Option.{some}
use Rattle.meaning.specs.Layout.{Host}
use Rattle.meaning.specs.Image.{Rule, operand, condition}
use Rattle.meaning.specs.References.{operand_names, condition_operands, condition_nodes}
use Rattle.meaning.specs.Laws.Every.{Every}
use Rattle.meaning.specs.declared.Operand.{Operand}
use Rattle.meaning.specs.declared.Condition.{Condition}
use Rattle.plan.specs.Plan.{test_of}
use Rattle.agreeing.specs.Placed.{Trial}
use Rattle.agreeing.specs.Agreeing.{Valued}

-- each variable of the operand has a value
abbrev pub OperandValued : Rule → List ℕ → Operand → Type 0
OperandValued r q o = Every (Valued r q) (operand_names o)

-- so has each of the condition, and its nodes are placed
pub record Decided (r : Rule) (q : List ℕ) (k : Condition) : Type 0 where
  pub nodes : Every (λ a. a < length q) (condition_nodes k)
  pub operands : Every (OperandValued r q) (condition_operands k)

module _ (h : Host) (bs plan at : List ℕ) (i c : ℕ) where
  -- the tag and the bytes are read as an operand that has its value
  pub record HasOperand (tag : ℕ) (p : List ℕ) : Type 0 where
    pub trial : Trial h bs plan at i c
    pub o : Operand
    pub is : operand tag p ≡ some o
    pub valued : OperandValued trial.rule trial.placed o

  -- or as a condition that is decided
  pub record HasCondition (tag : ℕ) (p : List ℕ) : Type 0 where
    pub trial : Trial h bs plan at i c
    pub k : Condition
    pub is : condition tag p ≡ some k
    pub decided : Decided trial.rule trial.placed k

  pub record HasTest (t : ℕ) : Type 0 where
    pub trial : Trial h bs plan at i c
    pub there : t < length trial.rule.tests
    pub decided : Decided trial.rule trial.placed (test_of trial.rule t).condition
