-- `carry_to` meets its contract: the tables are zero when they are carried to, and what is printed goes by the answer.
use Rattle.carrier.proofs.Printing.{carried-listed, not_carried}
use Rattle.carrier.proofs.carry_to.Goals as goal

pub carry_tables-answer-requires : goal.carry_tables-answer-requires
carry_tables-answer-requires c = let b = c.requires.between in record {
  sized = b.from;
  sized_2 = b.to;
  atoms_le_most_atoms = b.few;
}

pub returns-then-number-eq0 : goal.returns-then-number-eq0
returns-then-number-eq0 c = carried-listed _ c.from-number.result _ _ _ c.from-number.ensures (rw (c.clear.ensures, c.clear-2.ensures) at c.carry_tables-answer.ensures) c.if-number-eq0.true c.put_tables.ensures

pub returns-else-number-eq0 : goal.returns-else-number-eq0
returns-else-number-eq0 c = not_carried _ c.from-number.result _ _ _ c.from-number.ensures (rw (c.clear.ensures, c.clear-2.ensures) at c.carry_tables-answer.ensures) c.if-number-eq0.false c.put_refused.ensures
