-- Constants are read as they are written: the integer of a constant is the signed value of its 32 bits, on the right side and in
-- the tests of a legal rule, and so in every rule of an image that has the form and whose references hold. A legal rule has no
-- constant from 2^32 on, and nothing is read modulo 2^32. Rests on RuleApplication, Integers and laws' LegalImage.
use Rattle.std.specs.Prelude.{ℕ, ◌≡◌, true, List}
use Rattle.std.proofs.Math.Option.{some}
use Rattle.meaning.specs.Image.{Rule, RawProgram, raw_program}
use Rattle.meaning.specs.References.{condition_operands, references}
use Rattle.meaning.specs.Laws.Every.{Every, Every-then}
use Rattle.laws.specs.Numbers.{Bytes}
use Rattle.laws.specs.Values.{LegalOperand, LegalElement, LegalRule}
use Rattle.laws.specs.LegalImage.{raw-legal}
use Rattle.meaning.specs.declared.Operand.{Operand}
use Rattle.meaning.specs.declared.Operand.TheVariants.{Constant as constant_operand, Variable as variable_operand}
use Rattle.meaning.specs.declared.Element.{Element}
use Rattle.meaning.specs.declared.Element.TheVariants.{Constant, Variable, Sum, Difference}
use Rattle.published.proofs.Integers.{named-word}
use Rattle.published.specs.Constants.{SignedOperand, SignedElement, SignedConstants}

operand-signed : (o : Operand) → LegalOperand o → SignedOperand o
operand-signed (constant_operand c) h = λ α. named-word c h
operand-signed (variable_operand v) h = tt

element-signed : (x : Element) → LegalElement x → SignedElement x
element-signed (Constant c) h = named-word c h
element-signed (Variable v) h = tt
element-signed (Sum a b) h = (operand-signed a h.0, operand-signed b h.1)
element-signed (Difference a b) h = (operand-signed a h.0, operand-signed b h.1)

pub constants_signed : (r : Rule) → LegalRule r → SignedConstants r
constants_signed r rule =
    record {
      nodes = Every-then _ _ (λ n k. Every-then _ _ element-signed n.label k.label) r.right.nodes rule.nodes;
      edges = Every-then _ _ (λ e k. Every-then _ _ element-signed e.label k.label) r.right.edges rule.edges;
      tests = Every-then _ _ (λ t k. Every-then _ _ operand-signed (condition_operands t.condition) k) r.tests rule.tests;
    }

pub image-signed : (bs : List ℕ) (p : RawProgram) → Bytes bs → raw_program bs ≡ some p → references p ≡ true → Every SignedConstants p.rules
image-signed bs p h e k = Every-then LegalRule SignedConstants constants_signed p.rules (raw-legal bs p h e k)
