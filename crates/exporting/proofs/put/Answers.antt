use Rattle.std.proofs.Common.{◌≡◌, length, arith}
use Rattle.exporting.proofs.Bytes.{put-none, put-more, put-out, put_all}
use Rattle.exporting.proofs.put.Goals as goal
use Rattle.exporting.proofs.put.Goals.{then-place-out, else-place-out}

pub loop-k-init : goal.loop-k-init
loop-k-init c = put-none c.args.text.now c.args.out.now c.args.at

pub loop-k-preserved : goal.loop-k-preserved
loop-k-preserved c =
    let loop = c.loop-k in
    put-more c.args.text.now c.args.out.now loop.out c.args.at loop.k loop.invariant _ (omega arith)
    (elim c.if-place-out.branch [
      | then-place-out w ↦ w.out-is
      | else-place-out w ↦ put-out _ _ _ _ (omega arith) w.out-is
    ])

pub returns : goal.returns
returns c =
    let loop = c.loop-k in
    let e : loop.k ≡ length c.args.text.now = omega arith in
    rw e at (put_all c.args.text.now c.args.out.now loop.out c.args.at loop.k loop.invariant e)
