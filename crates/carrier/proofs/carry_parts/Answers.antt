-- `carry_parts` meets its contract: the tables that are lent have the lengths that the definition says, and they fit.
use Rattle.std.proofs.Common.{sym, ◌∙◌, arith, take, length-take-le}
use Rattle.carrier.proofs.Printing.{tables-carried}
use Rattle.carrier.proofs.carry_parts.Goals as goal

pub length_for-n-requires : goal.length_for-n-requires
length_for-n-requires c = (omega (arith, c.requires.between.from.node), omega (arith, c.requires.between.room))

pub length_for-m-requires : goal.length_for-m-requires
length_for-m-requires c = (omega (arith, c.requires.between.from.edge), omega (arith, c.requires.between.room))

pub slice_bounds-to_nodes-end : goal.slice_bounds-to_nodes-end
slice_bounds-to_nodes-end c = omega (arith, c.length_for-n.ensures.1, c.requires.between.room, c.large_buffer-to_nodes.ensures)

pub slice_bounds-carry_to-end : goal.slice_bounds-carry_to-end
slice_bounds-carry_to-end c = sym (length-take-le c.length_for-n.result c.large_buffer-to_nodes.result (omega (arith, c.length_for-n.ensures.1, c.requires.between.room, c.large_buffer-to_nodes.ensures)))

pub slice_bounds-to_edges-end : goal.slice_bounds-to_edges-end
slice_bounds-to_edges-end c = omega (arith, c.length_for-m.ensures.1, c.requires.between.room, c.large_buffer-to_edges.ensures)

pub slice_bounds-carry_to-end-2 : goal.slice_bounds-carry_to-end-2
slice_bounds-carry_to-end-2 c = sym (length-take-le c.length_for-m.result c.large_buffer-to_edges.result (omega (arith, c.length_for-m.ensures.1, c.requires.between.room, c.large_buffer-to_edges.ensures)))

pub carry_to-requires : goal.carry_to-requires
carry_to-requires c = record {
  between = c.requires.between;
  most_input_in_bounds = omega (arith, c.requires.most_input_in_bounds);
  input_of = omega (arith, c.length_for-n.ensures.1, c.length_for-m.ensures.1, c.requires.between.room, length-take-le c.length_for-n.result c.large_buffer-to_nodes.result (omega (arith, c.length_for-n.ensures.1, c.requires.between.room, c.large_buffer-to_nodes.ensures)), length-take-le c.length_for-m.result c.large_buffer-to_edges.result (omega (arith, c.length_for-m.ensures.1, c.requires.between.room, c.large_buffer-to_edges.ensures)));
}

pub returns : goal.returns
returns c = tables-carried c.args.from c.args.to c.args.nodes.now c.args.edges.now (take c.length_for-n.result c.large_buffer-to_nodes.result) (take c.length_for-m.result c.large_buffer-to_edges.result) c.requires.between (length-take-le c.length_for-n.result c.large_buffer-to_nodes.result (omega (arith, c.length_for-n.ensures.1, c.requires.between.room, c.large_buffer-to_nodes.ensures)) ∙ c.length_for-n.ensures.0) (length-take-le c.length_for-m.result c.large_buffer-to_edges.result (omega (arith, c.length_for-m.ensures.1, c.requires.between.room, c.large_buffer-to_edges.ensures)) ∙ c.length_for-m.ensures.0) c.carry_to.ensures
