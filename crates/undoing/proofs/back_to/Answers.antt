-- `undoing::back_to` meets its contract: what putting the records back and clearing them leaves holds the earlier ledger again.
use Rattle.undoing.proofs.Restored.{kept, undone-is}
use Rattle.undoing.proofs.back_to.Goals as goal

pub undo_to-requires : goal.undo_to-requires
undo_to-requires c =
    let a = c.args in
    record {
      sized = c.requires.running.held.sized;
      mark_le_used = (c.requires.mark_le_used, c.requires.running.held.room);
      journal_value = kept a.l a.nodes.now a.edges.now a.journal.now a.used a.mark c.requires.running c.requires.mark_le_used;
    }

pub returns : goal.returns
returns c =
    let a = c.args in
    let u = c.undo_to in
    undone-is a.l a.nodes.now a.edges.now a.journal.now a.used a.mark c.requires.running c.requires.mark_le_used u.new.nodes u.new.edges u.new.journal
    u.auto.nodes u.auto.edges u.ensures.0 u.ensures.1
