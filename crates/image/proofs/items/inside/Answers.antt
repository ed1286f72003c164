-- `items::inside` meets its contract, row by row.
use Rattle.std.proofs.Common.{sym, arith, lit<}
use mathlib.Core.Logic.{inl, inr}
use Rattle.fields.specs.Image.{one_byte_ok}
use Rattle.image.proofs.Rows.{rule_fits, one-fits, graph-fits, tests-fit}
use Rattle.image.proofs.items.inside.Goals as goal

pub returns-in-Rules : goal.returns-in-Rules
returns-in-Rules c = rw c.in-Rules.is (record { lower = lit< tt; inside = omega arith; same = rule_fits _ })

pub returns-in-Procedures : goal.returns-in-Procedures
returns-in-Procedures c = rw c.in-Procedures.is (record { lower = lit< tt; inside = omega arith; same = one-fits _ _ })

pub returns-in-Variables : goal.returns-in-Variables
returns-in-Variables c = rw c.in-Variables.is c.types_ok.ensures

pub returns-in-Left : goal.returns-in-Left
returns-in-Left c =
    elim c.in-Left.is [
      | inl e ↦ rw e (record { lower = lit< tt; inside = omega arith; same = graph-fits _ })
      | inr e ↦ rw e (record { lower = lit< tt; inside = omega arith; same = graph-fits _ })
    ]

pub returns-in-Interface : goal.returns-in-Interface
returns-in-Interface c = rw c.in-Interface.is (sym (one_byte_ok _))

pub returns-in-Conditions : goal.returns-in-Conditions
returns-in-Conditions c = rw c.in-Conditions.is (record { lower = lit< tt; inside = omega arith; same = tests-fit _ })

pub returns-in-Modes : goal.returns-in-Modes
returns-in-Modes c = rw c.in-Modes.is c.mode_ok.ensures

pub returns-in-Nodes : goal.returns-in-Nodes
returns-in-Nodes c = rw c.in-Nodes.is c.node.ensures

pub returns-in-Edges : goal.returns-in-Edges
returns-in-Edges c = rw c.in-Edges.is c.edge.ensures

pub returns-in-Tests : goal.returns-in-Tests
returns-in-Tests c = rw c.in-Tests.is c.test.ensures

pub returns-in-Elements : goal.returns-in-Elements
returns-in-Elements c = rw c.in-Elements.is c.element.ensures

pub returns-in-Operands : goal.returns-in-Operands
returns-in-Operands c = rw c.in-Operands.is c.operand_ok.ensures

pub returns-in-Sequence : goal.returns-in-Sequence
returns-in-Sequence c =
    elim c.in-Sequence.is [ inl e ↦ rw e c.command.ensures | inr h ↦ elim h [ inl e ↦ rw e c.command.ensures | inr e ↦ rw e c.command.ensures ] ]
