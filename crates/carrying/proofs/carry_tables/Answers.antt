-- `carry_tables` meets its contract: refused, nothing is written; else both tables.
use Rattle.meaning.specs.Carrying.{lending_tables}
use Rattle.answers.specs.Answers.{refusal_of}
use Rattle.carrying.proofs.Checks.{left-refused, left-taken, taken-legal, nodes-labels, edges-labels, nodes-size, edges-size}
use Rattle.carrying.proofs.carry_tables.Goals as goal

pub returns-in-Err : goal.returns-in-Err
unfolding refusal_of
returns-in-Err c =
    let a = c.args in
    left-refused a.manner a.from a.to (lending_tables a.nodes.now a.edges.now a.to_nodes.now a.to_edges.now) _ c.in-Err.ensures

pub invariant_of-host : goal.invariant_of-host
unfolding refusal_of
invariant_of-host c =
    let a = c.args in
    let x = lending_tables a.nodes.now a.edges.now a.to_nodes.now a.to_edges.now in
    record { legal = taken-legal a.manner a.from a.to x c.in_default.ensures c.requires.sized c.requires.atoms_le_most_atoms }

pub carry_slots-requires : goal.carry_slots-requires
unfolding refusal_of
carry_slots-requires c =
    let a = c.args in
    let x = lending_tables a.nodes.now a.edges.now a.to_nodes.now a.to_edges.now in
    let e = c.in_default.ensures in
    record {
      sized = c.requires.sized_2;
      out_len = nodes-size a.manner a.from a.to x e c.requires.sized_2;
      atoms_value = nodes-labels a.manner a.from a.to x e;
    }

pub carry_slots-requires-2 : goal.carry_slots-requires-2
unfolding refusal_of
carry_slots-requires-2 c =
    let a = c.args in
    let x = lending_tables a.nodes.now a.edges.now a.to_nodes.now a.to_edges.now in
    let e = c.in_default.ensures in
    record {
      sized = c.requires.sized_2;
      out_len = edges-size a.manner a.from a.to x e c.requires.sized_2;
      atoms_value = edges-labels a.manner a.from a.to x e;
    }

pub returns : goal.returns
unfolding refusal_of
returns c =
    let a = c.args in
    let x = lending_tables a.nodes.now a.edges.now a.to_nodes.now a.to_edges.now in
    left-taken a.manner a.from a.to x c.in_default.ensures c.requires.sized_2 _ _ c.carry_slots.ensures c.carry_slots-2.ensures
