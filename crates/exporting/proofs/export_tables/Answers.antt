-- `export_tables` meets its contract: refused, nothing is written; else the text, where it fits.
use Rattle.answers.specs.Answers.{refusal_of}
use Rattle.exporting.proofs.Checks.{left-refused, taken-legal, left-taken}
use Rattle.exporting.proofs.export_tables.Goals as goal

pub returns-in-Err : goal.returns-in-Err
unfolding refusal_of
returns-in-Err c = let a = c.args in left-refused a.l a.nodes.now a.edges.now a.buffer.now _ c.in-Err.ensures

pub invariant_of-host : goal.invariant_of-host
unfolding refusal_of
invariant_of-host c =
    let a = c.args in
    record { legal = taken-legal a.l a.nodes.now a.edges.now c.in_default.ensures c.requires.sized c.requires.few.atoms }

pub returns : goal.returns
unfolding refusal_of
returns c = let a = c.args in left-taken a.l a.nodes.now a.edges.now c.in_default.ensures a.buffer.now _ _ _ c.export_host.ensures
