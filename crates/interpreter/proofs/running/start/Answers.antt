-- `running::start` meets its contract: input that is accepted runs, and its end is finished as the definition says.
use Rattle.std.proofs.Common.{ℕ, ◌∙◌, List, arith, get_or}
use mir.Syntax.{w8}
use mir.Val.{Fits}
use Rattle.laws.specs.Numbers.{Bytes}
use Rattle.interpreter.proofs.Started.{report-size, start-running, runnable, fuel-fits, leaves-finished}
use Rattle.interpreter.proofs.running.start.Goals as goal

known : (l : List ℕ) → ((i : ℕ) → Fits w8 (get_or l i 0)) → Bytes l
known l h i = omega (arith, h i)

pub run_program-ran-requires : goal.run_program-ran-requires
run_program-ran-requires c =
    let a = c.args in
    let n = known a.nodes.now c.slice_known-1.given in
    let e = known a.edges.now c.slice_known-2-1.given in
    let i = known a.image.now c.shared_slice_known-1.given in record {
      running = rw (c.clear.ensures, c.new.ensures) (start-running a.l a.nodes.now a.edges.now a.journal.now a.image.now a.fuel a.report.now c.requires.run_layout n e i c.requires.report_value);
      runnable = (runnable a.l a.nodes.now a.edges.now a.journal.now a.image.now a.fuel a.report.now c.requires.run_layout n e i c.requires.report_value, rw c.new.ensures (fuel-fits a.l a.nodes.now a.edges.now a.journal.now a.image.now a.fuel a.report.now c.requires.run_layout n e i c.requires.report_value));
    }

pub finish-requires : goal.finish-requires
finish-requires c =
    let a = c.args in
    let n = known a.nodes.now c.slice_known-1.given in
    let e = known a.edges.now c.slice_known-2-1.given in
    let i = known a.image.now c.shared_slice_known-1.given in
    record {
      running = c.run_program-ran.ensures.running;
      report_len = report-size a.l a.nodes.now a.edges.now a.journal.now a.image.now a.fuel a.report.now c.requires.run_layout n e i c.requires.report_value;
    }

pub returns : goal.returns
returns c =
    let a = c.args in
    let n = known a.nodes.now c.slice_known-1.given in
    let e = known a.edges.now c.slice_known-2-1.given in
    let i = known a.image.now c.shared_slice_known-1.given in
    let r = c.run_program-ran in
    let f = c.finish in
    leaves-finished a.l a.nodes.now a.edges.now a.journal.now a.image.now a.fuel a.report.now c.requires.run_layout n e i c.requires.report_value
    r.result r.new.nodes r.new.edges r.new.journal (rw (c.clear.ensures, c.new.ensures) at r.ensures)
    f.result f.new.nodes f.new.edges f.new.journal f.new.report
    (f.auto.journal ∙ r.auto.journal ∙ c.clear.auto.to) f.ensures
