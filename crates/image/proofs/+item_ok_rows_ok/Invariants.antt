-- The measure is the rank of the row: what is in an item is below its row. The outer loop's invariant: what is left is the next
-- row and the bytes that it begins; its measure is that row's rank. The inner loop's: n items of the row are read, and the definition goes on
-- from the place; its measure is what is left of the bytes.
use Rattle.std.proofs.Common.{◌+◌, ◌-◌, ◌*◌, length}
use Rattle.image.specs.Form.{rank}
use Rattle.image.proofs.Walks.{Along, Onto, rank_of}
use Rattle.image.proofs.+item_ok_rows_ok.Given as goal

abbrev pub decreases-item_ok : goal.decreases-item_ok
decreases-item_ok l = 2 * rank l.row

abbrev pub decreases-rows_ok : goal.decreases-rows_ok
decreases-rows_ok l = 2 * rank l.first + 1

abbrev pub invariant-rows_ok-loop-tag : goal.invariant-rows_ok-loop-tag
invariant-rows_ok-loop-tag l = Along l.row l.rest l.at l.n

abbrev pub decreases-rows_ok-loop-tag : goal.decreases-rows_ok-loop-tag
decreases-rows_ok-loop-tag l = length l.rest - l.at

abbrev pub invariant-rows_ok-loop-next : goal.invariant-rows_ok-loop-next
invariant-rows_ok-loop-next l = Onto l.fn.first l.fn.p l.next l.rest

abbrev pub decreases-rows_ok-loop-next : goal.decreases-rows_ok-loop-next
decreases-rows_ok-loop-next l = rank_of l.next
