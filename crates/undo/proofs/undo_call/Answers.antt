-- `undo::undo_call` meets its contract: what it leaves, refused or not, is what the definition says.
use Rattle.std.proofs.Common.{sym, arith}
use Rattle.meaning.specs.Calls.{answer_number}
use Rattle.answers.specs.Answers.{refusal_of}
use Rattle.undo.proofs.Undone.{sound, leaves-refused, leaves-undone}
use Rattle.undo.proofs.undo_call.Goals as goal

pub returns-in-Err : goal.returns-in-Err
unfolding refusal_of answer_number
returns-in-Err c =
    let a = c.args in
    leaves-refused a.l a.nodes.now a.edges.now a.journal.now a.count a.report.now c.in-Err.why c.refuse.new.report c.in-Err.ensures c.refuse.ensures

pub undo_to-requires : goal.undo_to-requires
unfolding refusal_of
undo_to-requires c =
    let a = c.args in
    let s = sound a.l a.nodes.now a.edges.now a.journal.now a.count a.report.now (sym c.in_default.ensures) in
    record {
      sized = c.requires;
      mark_le_used = (omega arith, s.within);
      journal_value = s.kept;
    }

pub put_report-requires : goal.put_report-requires
unfolding refusal_of
put_report-requires c =
    let a = c.args in
    (sound a.l a.nodes.now a.edges.now a.journal.now a.count a.report.now (sym c.in_default.ensures)).reports

pub returns : goal.returns
unfolding refusal_of answer_number
returns c =
    let a = c.args in
    leaves-undone a.l a.nodes.now a.edges.now a.journal.now a.count a.report.now c.undo_to.new.nodes c.undo_to.new.edges c.undo_to.new.journal c.put_report.new.report c.in_default.ensures c.undo_to.auto.nodes c.undo_to.auto.edges c.undo_to.ensures.0 c.undo_to.ensures.1 c.put_report.ensures
