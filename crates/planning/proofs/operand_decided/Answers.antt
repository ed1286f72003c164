-- `operand_decided` meets its contract: a constant is decided from the start, a variable by the first item that has it.
use Rattle.std.proofs.Common.{arith}
use Rattle.planning.proofs.Deciding.{valued, of-constant, of-variable}
use Rattle.planning.proofs.operand_decided.Goals as goal

pub overflow_add-result : goal.overflow_add-result
overflow_add-result c = let a = valued _ _ c.requires c.in-Variable.is in omega arith

pub offset_bounds-plan-v : goal.offset_bounds-plan-v
offset_bounds-plan-v c = let a = valued _ _ c.requires c.in-Variable.is in omega arith

pub bounds-plan-v : goal.bounds-plan-v
bounds-plan-v c = let a = valued _ _ c.requires c.in-Variable.is in omega arith

pub overflow_add-result-in-Variable : goal.overflow_add-result-in-Variable
overflow_add-result-in-Variable c = let a = valued _ _ c.requires c.in-Variable.is in omega arith

pub returns-in-Constant : goal.returns-in-Constant
returns-in-Constant c = of-constant _ _ c.in-Constant.is

pub returns-in-Variable : goal.returns-in-Variable
returns-in-Variable c = of-variable _ _ c.in-Variable.is
