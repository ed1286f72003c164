-- The measure is twice the depth, and one more for commands in a row. The loop's invariant: what is asked of all is what is asked
-- from the place on.
use Rattle.std.proofs.Common.{◌≡◌, ◌+◌, ◌*◌}
use Rattle.command_checks.proofs.Commanding.{Parting}
use Rattle.command_checks.proofs.+command_holds_commands_hold.Given as goal

abbrev pub decreases-command_holds : goal.decreases-command_holds
decreases-command_holds l = 2 * l.depth

abbrev pub decreases-commands_hold : goal.decreases-commands_hold
decreases-commands_hold l = 2 * l.depth + 1

abbrev pub invariant-commands_hold-loop-field : goal.invariant-commands_hold-loop-field
invariant-commands_hold-loop-field l =
    (l.field-iterator.bytes.now ≡ l.p) × Parting l.initial.demand l.others l.heights l.depth l.p l.field-iterator.place l.demand
