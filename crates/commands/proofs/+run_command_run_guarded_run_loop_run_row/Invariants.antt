-- The cycle of `run_command`, `run_guarded`, `run_loop` and `run_row` meets its contracts. The measure is twice the fuel, and one
-- more for what has been entered. A row's invariant: the commands from the place on come to what the row comes to. A loop's invariant: from here it comes to what it comes to from its start; its measure is the fuel.
use Rattle.std.proofs.Common.{◌≡◌, ◌*◌, ◌+◌}
use Rattle.commands.proofs.Turns.{Going, Looping}
use Rattle.commands.proofs.+run_command_run_guarded_run_loop_run_row.Given as goal

abbrev pub decreases-run_row : goal.decreases-run_row
decreases-run_row l = 2 * l.t.fuel + 1

abbrev pub decreases-run_loop : goal.decreases-run_loop
decreases-run_loop l = 2 * l.t.fuel + 1

abbrev pub decreases-run_guarded : goal.decreases-run_guarded
decreases-run_guarded l = 2 * l.t.fuel + 1

abbrev pub decreases-run_command : goal.decreases-run_command
decreases-run_command l = 2 * l.t.fuel

abbrev pub invariant-run_loop-loop-now_t : goal.invariant-run_loop-loop-now_t
invariant-run_loop-loop-now_t l = Looping l.l l.image l.p l.initial.nodes l.initial.edges l.initial.journal l.initial.now_t l.nodes l.edges l.journal l.now_t

abbrev pub decreases-run_loop-loop-now_t : goal.decreases-run_loop-loop-now_t
decreases-run_loop-loop-now_t l = l.now_t.fuel

abbrev pub invariant-run_row-loop-field : goal.invariant-run_row-loop-field
invariant-run_row-loop-field l =
    (l.field-iterator.bytes.now ≡ l.row)
    × Going l.l l.image l.row l.initial.nodes l.initial.edges l.initial.journal l.initial.now_t l.field-iterator.place l.nodes l.edges l.journal l.now_t
