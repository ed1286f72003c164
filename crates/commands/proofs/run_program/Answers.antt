-- `run_program` meets its contract.
use Rattle.std.proofs.Common.{sym}
use Rattle.commands.proofs.Parts.{main-known}
use Rattle.commands.proofs.Turns.{runs-main}
use Rattle.commands.proofs.run_program.Goals as goal

pub run_set-requires : goal.run_set-requires
run_set-requires c = record {
  begun = record { running = c.requires.running; sum = c.requires.runnable.1 };
  known = rw c.if-tag-eq-RULE_SET.true at (main-known c.requires.runnable.0 (c.main_tag-tag.ensures _ c.requires.runnable.0.programmed.is) (c.main_part-part.ensures _ c.requires.runnable.0.programmed.is));
}

pub returns-then-tag-eq-RULE_SET : goal.returns-then-tag-eq-RULE_SET
returns-then-tag-eq-RULE_SET c = runs-main _ c.requires.runnable.0 (c.main_tag-tag.ensures _ c.requires.runnable.0.programmed.is) (c.main_part-part.ensures _ c.requires.runnable.0.programmed.is) (rw (sym c.if-tag-eq-RULE_SET.true) at c.run_set.ensures)

pub run_command-requires : goal.run_command-requires
run_command-requires c = record {
  begun = record { running = c.requires.running; sum = c.requires.runnable.1 };
  known = main-known c.requires.runnable.0 (c.main_tag-tag.ensures _ c.requires.runnable.0.programmed.is) (c.main_part-part.ensures _ c.requires.runnable.0.programmed.is);
}

pub returns : goal.returns
returns c = runs-main _ c.requires.runnable.0 (c.main_tag-tag.ensures _ c.requires.runnable.0.programmed.is) (c.main_part-part.ensures _ c.requires.runnable.0.programmed.is) c.run_command.ensures
