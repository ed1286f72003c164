-- `making::change_node` meets its contract.
use Rattle.making.proofs.Loops.{change-takes, change-taken}
use Rattle.making.proofs.change_node.Goals as goal

pub take_values-requires-clause-takes : goal.take_values-requires-clause-takes
take_values-requires-clause-takes c = change-takes c.requires.changes _ _ c.if-i-k.true c.node_part-p.ensures c.keeps_root-keeps.ensures

pub returns-then-i-k : goal.returns-then-i-k
returns-then-i-k c = λ w. change-taken w _ c.if-i-k.true (c.take_values.ensures (change-takes w _ _ c.if-i-k.true c.node_part-p.ensures c.keeps_root-keeps.ensures))
