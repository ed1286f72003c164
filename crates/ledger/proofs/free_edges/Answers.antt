use Rattle.std.proofs.Common.{◌≡◌, ◌-◌, List, ℕ, ◌+◌, ◌<◌, length, get_or, take, drop, ◌∙◌, arith, length-take, get_or-take, get_or-drop}
use Rattle.ledger.specs.Changes.{going_none, going_more}
use Rattle.ledger.proofs.free_edges.Goals as goal

-- number k of the m from number n on
part_at : (s : List ℕ) (n m k : ℕ) → k < m → get_or (take (n + m - n) (drop n s)) k 0 ≡ get_or s (n + k) 0
part_at s n m k h = get_or-take (n + m - n) (drop n s) k 0 (omega arith) ∙ get_or-drop n s k 0

in_part : (s : List ℕ) (n m k : ℕ) → k < length (take (n + m - n) (drop n s)) → k < m
in_part s n m k h = omega (arith, length-take (n + m - n) (drop n s))

pub loop-k-init : goal.loop-k-init
loop-k-init c = going_none c.args.l c.args.nodes.now c.args.edges.now c.args.journal.now c.args.used c.args.slots.now c.args.n c.requires.held

pub loop-k-preserved : goal.loop-k-preserved
loop-k-preserved c =
    let k = in_part c.args.slots.now c.args.n c.args.m c.loop-k.k c.loop-k-test.true in
    going_more c.args.l c.args.nodes.now c.args.edges.now c.args.journal.now c.args.used c.args.slots.now c.args.n c.loop-k.k c.loop-k.edges c.loop-k.journal c.loop-k.invariant _ _ (omega (arith, k, c.requires.m_in_bounds.1)) (rw (part_at c.args.slots.now c.args.n c.args.m c.loop-k.k k) at c.free_edge.ensures) c.free_edge.auto.edges c.free_edge.auto.journal
