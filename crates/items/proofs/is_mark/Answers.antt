-- `is_mark` meets its contract.
use Rattle.std.proofs.Common.{arith, le-leb}
use borrow.Author.Tests.{lt-leb}
use Rattle.meaning.specs.Basics.{either}
use Rattle.meaning.specs.Layout.{is_node_mark, is_edge_mark}
use Rattle.items.proofs.is_mark.Goals as goal

pub returns-in-Nodes : goal.returns-in-Nodes
unfolding is_node_mark
returns-in-Nodes c = rw c.in-Nodes.is

pub returns-then-mark-le-BLUE : goal.returns-then-mark-le-BLUE
unfolding is_edge_mark either
returns-then-mark-le-BLUE c = rw (c.in-Edges.is, le-leb c.args.mark 3 (omega arith))

pub returns-else-mark-le-BLUE : goal.returns-else-mark-le-BLUE
unfolding is_edge_mark either
returns-else-mark-le-BLUE c = rw (c.in-Edges.is, lt-leb c.args.mark 3 (omega arith))
