-- `running::run_call` meets its contract: refused or started, it leaves what the definition says.
use Rattle.std.proofs.Common.{sym}
use Rattle.meaning.specs.Calls.{answer_number}
use Rattle.answers.specs.Answers.{refusal_of}
use Rattle.interpreter.proofs.Started.{leaves-refused}
use Rattle.interpreter.proofs.running.run_call.Goals as goal

pub returns-in-Err : goal.returns-in-Err
unfolding refusal_of answer_number
returns-in-Err c =
    let a = c.args in
    leaves-refused a.l a.nodes.now a.edges.now a.journal.now a.image.now a.fuel a.report.now c.in-Err.why c.refuse.new.report (sym c.in-Err.ensures) c.refuse.ensures

pub start-requires : goal.start-requires
unfolding refusal_of
start-requires c = record {
  run_layout = c.requires;
  report_value = sym c.in_default.ensures;
}
