-- `put_report` meets its contract.
use Rattle.answers.proofs.Answers.{report-put}
use Rattle.answers.proofs.put_report.Goals as goal

pub returns : goal.returns
returns c =
    report-put c.args.steps c.args.records c.args.report.now c.put_number.new.to c.put_number-2.new.to c.requires c.put_number.ensures c.put_number-2.ensures
