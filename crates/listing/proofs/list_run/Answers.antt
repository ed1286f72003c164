-- `list_run` meets its contract: the tables of a result keep the layout, and the outcome is that of the call.
use Rattle.std.proofs.Common.{arith, replicate}
use Rattle.listing.proofs.Finished.{result-ready, run-listed}
use Rattle.listing.proofs.list_run.Goals as goal

pub put_outcome-requires : goal.put_outcome-requires
put_outcome-requires c =
    let run_call = c.run_call-answer in
    let answer-number = c.from-number in
    record {
      listing_room_in_bounds = omega (arith, c.requires.listing_room_in_bounds);
      report_len = run_call.auto.report;
      ready = result-ready c.args.l c.args.nodes.now c.args.edges.now c.args.journal.now c.args.program.now c.args.fuel (replicate 8 0) (λ i. omega (arith, c.slice_known-1.given i)) (λ i. omega (arith, c.slice_known-2-1.given i)) (λ i. omega (arith, c.type_inv.program i)) c.requires.listable answer-number.result _ _ _ _ _ answer-number.ensures run_call.ensures run_call.auto.nodes run_call.auto.edges;
    }

pub returns : goal.returns
returns c =
    let run_call = c.run_call-answer in
    let answer-number = c.from-number in
    let put-outcome = c.put_outcome in
    run-listed c.args.l c.args.nodes.now c.args.edges.now c.args.journal.now c.args.program.now c.args.fuel answer-number.result _ _ _ _ _ answer-number.ensures run_call.ensures put-outcome.ensures (omega (arith, c.requires.listing_room_in_bounds, put-outcome.auto.out))
