-- Opens every definition at once: a proof by computation names `computing` on its `unfolding` line.
use Rattle.meaning.specs.Basics
use Rattle.meaning.specs.Numbers
use Rattle.meaning.specs.Layout
use Rattle.meaning.specs.Image
use Rattle.meaning.specs.References
use Rattle.meaning.specs.Placement
use Rattle.meaning.specs.Procedures
use Rattle.meaning.specs.Matching
use Rattle.meaning.specs.Assigned
use Rattle.meaning.specs.Search
use Rattle.meaning.specs.FirstMatch
use Rattle.meaning.specs.Applying
use Rattle.meaning.specs.Commands
use Rattle.meaning.specs.Calls
use Rattle.meaning.specs.Carrying

unfoldable pub computing : Unit {0}
unfolding Basics.choose Basics.both Basics.either Basics.clauses Basics.all Basics.exists Basics.count Basics.every Basics.absent Basics.same Basics.zeros Basics.is_empty Basics.concat Basics.is_some Basics.◌>>=◌ Basics.ensure Basics.◌>>◌ Basics.each Basics.first_failing Numbers.number Numbers.bytes Numbers.height Numbers.less Numbers.sum Numbers.difference Layout.is_live Layout.put Layout.undone Layout.is_node_mark Layout.is_edge_mark Layout.fits_table Layout.pieces Layout.read_node Layout.read_edge Layout.node_bytes Layout.edge_bytes Layout.write_record Layout.keeps_node Layout.keeps_edge Layout.keeps_layout Image.field Image.expect Image.leading Image.only Image.constant Image.one_byte Image.flag Image.operand Image.as_pair Image.two_operands Image.element Image.label Image.rule_node Image.rule_edge Image.rule_graph Image.relation Image.condition Image.test Image.is_type Image.types Image.mode Image.preserves Image.rule Image.in_order Image.leaf Image.as_rule_set Image.as_sequence Image.as_guarded Image.as_loop Image.as_call Image.unguarded Image.command Image.one_command Image.program_by Image.raw_program References.operand_names References.element_operands References.element_names References.condition_operands References.condition_nodes References.variables_exist References.ends_exist References.test_nodes_exist References.interface_fits References.is_plain References.left_plain References.takes_list References.lists References.left_simple References.operand_int References.operands_int References.variables_on_left References.any_kept References.any_placed References.rule_holds References.references References.names_exist References.all_names_exist Placement.placement Placement.breaks_lie Placement.all_breaks_lie Procedures.put_all Procedures.put Procedures.depth_holds Procedures.put_in Procedures.program Matching.node_in Matching.edge_in Matching.atoms_of Matching.atom_of Matching.edge_runs Matching.edge_leaves Matching.edge_arrives Matching.out_degree Matching.in_degree Matching.condition_holds Matching.test_holds Matching.roots_agree Search.scan Search.deep Assigned.is_variable Assigned.taken Assigned.paired Assigned.or_else Assigned.value_from FirstMatch.marks_agree FirstMatch.length_fits FirstMatch.label_agrees FirstMatch.has FirstMatch.first_with FirstMatch.highest FirstMatch.decided_at FirstMatch.tests_so_far FirstMatch.joins FirstMatch.linked Matching.edge_touches FirstMatch.left_touches FirstMatch.can_go FirstMatch.node_fits FirstMatch.edge_fits FirstMatch.fits FirstMatch.candidates FirstMatch.touches_gone FirstMatch.dangles FirstMatch.complete FirstMatch.first_match Applying.element_value Applying.label_value Applying.root_taken Applying.right_node Applying.right_nodes Applying.right_edge Applying.right_side Applying.standing Applying.store Applying.stores Applying.lowest_free Applying.free_slots Applying.nodes_change Applying.add_nodes Applying.add_edges Applying.changed Applying.hindrance Applying.unhindered Applying.apply Commands.enter_at Commands.or_later Commands.first_rule Commands.after_applying Commands.next Commands.decide Commands.again Commands.rounds Commands.rule_call Commands.work Commands.works Calls.stop_number Calls.refusal_number Calls.answer_number Calls.refused Calls.holds Calls.refusal_as Calls.finished Calls.started Calls.run_on Calls.run Layout.read_record Layout.keeps_record Calls.keeps_records Calls.undo_refusal Calls.tables_undone Calls.undo_on Calls.undo Carrying.counts_agree Carrying.lengths_agree Carrying.label_fits Carrying.slots_fit Carrying.host_fits Carrying.unfit Carrying.carry_refusal Carrying.carry_on Carrying.carry
computing = tt
