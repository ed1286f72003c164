-- `decided` meets its contract, kind by kind.
use Rattle.std.proofs.Common.{arith}
use Rattle.planning.proofs.Deciding.{edge-nodes, degree-node, relation-operands, of-edge, of-degree, of-relation}
use Rattle.planning.proofs.decided.Goals as goal

pub overflow_add-result : goal.overflow_add-result
overflow_add-result c = let a = edge-nodes _ _ c.requires c.in-Edge.is in omega (arith, c.later.ensures)

pub overflow_add-result-in-InDegree : goal.overflow_add-result-in-InDegree
overflow_add-result-in-InDegree c = let a = degree-node _ _ c.requires c.in-InDegree.is in omega arith

pub operand_decided-requires : goal.operand_decided-requires
operand_decided-requires c = (relation-operands _ _ c.requires c.in-Equal.is).0

pub operand_decided-requires-in-Equal : goal.operand_decided-requires-in-Equal
operand_decided-requires-in-Equal c = (relation-operands _ _ c.requires c.in-Equal.is).1

pub returns-in-Edge : goal.returns-in-Edge
returns-in-Edge c = of-edge _ _ c.in-Edge.is c.later.ensures

pub returns-in-InDegree : goal.returns-in-InDegree
returns-in-InDegree c = of-degree _ _ c.in-InDegree.is

pub returns-in-Equal : goal.returns-in-Equal
returns-in-Equal c = of-relation _ _ c.later-in-Equal.ensures c.operand_decided.ensures c.operand_decided-in-Equal.ensures c.in-Equal.is
