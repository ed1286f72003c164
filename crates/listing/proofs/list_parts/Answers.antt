-- `list_parts` meets its contract: the copies are the parts of the input, and they fit.
use Rattle.std.proofs.Common.{sym, ◌∙◌, ◌*◌, arith, length-take-le}
use Rattle.run_input.specs.Reading.{input_of}
use Rattle.listing.specs.Rooms.{full_journal}
use Rattle.listing.proofs.Finished.{input-listed}
use Rattle.listing.proofs.Journals.{zeros-front, journal-fits}
use Rattle.listing.proofs.list_parts.Goals as goal

pub overflow_mul-j : goal.overflow_mul-j
overflow_mul-j c = omega (arith, journal-fits c.args.l c.requires.listable c.records_of.result c.records_of.ensures.1)

pub slice_bounds-list_run-end : goal.slice_bounds-list_run-end
slice_bounds-list_run-end c = sym (length-take-le _ _ (omega (arith, c.put-n.ensures.short, c.put-n.auto.out, c.nodes_of.ensures.small, c.large_buffer-nodes.ensures)))

pub slice_bounds-list_run-end-2 : goal.slice_bounds-list_run-end-2
slice_bounds-list_run-end-2 c = sym (length-take-le _ _ (omega (arith, c.put-m.ensures.short, c.put-m.auto.out, c.edges_of.ensures.small, c.large_buffer-edges.ensures)))

pub slice_bounds-journal-end : goal.slice_bounds-journal-end
slice_bounds-journal-end c = omega (arith, journal-fits c.args.l c.requires.listable c.records_of.result c.records_of.ensures.1, c.empty_journal-journal.ensures.long)

pub slice_bounds-list_run-end-3 : goal.slice_bounds-list_run-end-3
slice_bounds-list_run-end-3 c = sym (length-take-le _ _ (omega (arith, journal-fits c.args.l c.requires.listable c.records_of.result c.records_of.ensures.1, c.empty_journal-journal.ensures.long)))

pub list_run-requires : goal.list_run-requires
list_run-requires c = record {
  listable = c.requires.listable;
  listing_room_in_bounds = omega (arith, c.requires.listing_room_in_bounds);
}

pub returns : goal.returns
returns c =
    let records-of = c.records_of in
    input-listed c.args.l c.requires.listable (input_of c.args.image.now c.args.e) _ _ _ _ _ records-of.result (c.put-n.ensures.written ∙ c.nodes_of.ensures.same) (c.put-m.ensures.written ∙ c.edges_of.ensures.same) records-of.ensures.0 (zeros-front full_journal (c.args.l.change * records-of.result) _ c.empty_journal-journal.ensures (journal-fits c.args.l c.requires.listable records-of.result records-of.ensures.1)) c.fuel_of-fuel.ensures c.program_of-program.ensures.same c.list_run.ensures
