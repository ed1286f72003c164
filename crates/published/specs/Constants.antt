-- Constants are read as they are written: the integer of a constant is the signed value of its 32 bits, on the right side and in
-- the tests of a legal rule, and so in every rule of an image that has the form and whose references hold. A legal rule has no
-- constant from 2^32 on, and nothing is read modulo 2^32. Rests on RuleApplication, Integers and laws' LegalImage.
use Rattle.std.specs.Prelude.{ℕ, ◌≡◌, List}
use Rattle.meaning.specs.Image.{Rule}
use Rattle.meaning.specs.References.{condition_operands}
use Rattle.meaning.specs.Laws.Every.{Every}
use Rattle.laws.specs.Numbers.{value}
use Rattle.meaning.specs.declared.Operand.{Operand}
use Rattle.meaning.specs.declared.Operand.TheVariants.{Constant as constant_operand, Variable as variable_operand}
use Rattle.meaning.specs.declared.Element.{Element}
use Rattle.meaning.specs.declared.Element.TheVariants.{Constant, Variable, Sum, Difference}
use Rattle.published.specs.Integers.{named}
use Rattle.published.specs.RuleApplication.{integer}

-- an operand that is a constant
abbrev pub SignedOperand : Operand → Type 0
SignedOperand (constant_operand c) = (α : ℕ → List ℕ) → integer α (constant_operand c) ≡ value c
SignedOperand (variable_operand v) = Unit {0}

-- a constant in a label, and those in a sum or a difference
abbrev pub SignedElement : Element → Type 0
SignedElement (Constant c) = named c ≡ value c
SignedElement (Variable v) = Unit {0}
SignedElement (Sum a b) = SignedOperand a × SignedOperand b
SignedElement (Difference a b) = SignedOperand a × SignedOperand b

pub record SignedConstants (r : Rule) : Type 0 where
  pub nodes : Every (λ n. Every SignedElement n.label) r.right.nodes
  pub edges : Every (λ e. Every SignedElement e.label) r.right.edges
  pub tests : Every (λ t. Every SignedOperand (condition_operands t.condition)) r.tests
