-- `import_text` meets its contract: tables of other lengths are refused; places of identifiers are kept for all that tables may have.
use Rattle.std.proofs.Common.{sym, ◌∙◌}
use Rattle.importing.proofs.Imports.{other-nodes, other-edges, fitting}
use Rattle.importing.proofs.import_text.Goals as goal

pub returns-then-not-fits_table : goal.returns-then-not-fits_table
returns-then-not-fits_table c =
    let a = c.args in
    other-nodes a.l a.text.now a.nodes.now a.edges.now c.requires.sized (sym c.fits_table.ensures ∙ c.if-not-fits_table.true)

pub returns-then-not-fits_table-2 : goal.returns-then-not-fits_table-2
returns-then-not-fits_table-2 c =
    let a = c.args in
    other-edges a.l a.text.now a.nodes.now a.edges.now c.requires.sized (sym c.fits_table.ensures ∙ c.if-not-fits_table.false) (sym c.fits_table-2.ensures ∙ c.if-not-fits_table-2.true)

pub import_into-requires : goal.import_into-requires
import_into-requires c =
    let a = c.args in
    record {
      fitting = fitting a.l a.text.now a.nodes.now a.edges.now c.requires.sized c.requires.atoms_le_most_atoms (sym c.fits_table.ensures ∙ c.if-not-fits_table.false) (sym c.fits_table-2.ensures ∙ c.if-not-fits_table-2.false);
      nodes_in_bounds = c.requires.nodes_bound;
    }
