-- `check` asks whether the labels fit of tables that keep their layout.
use Rattle.std.proofs.Common.{sym, ◌∙◌}
use Rattle.meaning.specs.Carrying.{lending_tables}
use Rattle.carrying.proofs.Checks.{legal}
use Rattle.carrying.proofs.check.Goals as goal

pub invariant_of-host : goal.invariant_of-host
invariant_of-host c =
    let a = c.args in
    record { legal = legal a.manner a.from a.to (lending_tables a.nodes.now a.edges.now a.to_nodes.now a.to_edges.now) c.requires.sized c.requires.sized_2 (sym c.lengths_agree.ensures ∙ c.if-not-lengths_agree.false) (sym c.lengths_agree-2.ensures ∙ c.if-not-lengths_agree-2.false) (sym c.keeps_layout.ensures ∙ c.if-not-keeps_layout.false) c.requires.atoms_le_most_atoms }
