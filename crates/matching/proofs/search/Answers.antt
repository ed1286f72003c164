use Rattle.std.proofs.Common.{◌+◌, ◌-◌, ◌≡◌, refl, sym, arith, le_refl, get_or, take}
use Rattle.meaning.specs.Layout.{host_of}
use Rattle.agreeing.specs.Placed.{Known}
use Rattle.agreeing.specs.Trials.{few-items}
use Rattle.matching.specs.Next.{IsStep}
use Rattle.matching.specs.declared.Step.TheVariants.{Full, Take}
use Rattle.matching.proofs.Plans.{nodes-of, levels-of}
use Rattle.matching.proofs.Odometer.{begin, pushed, pushed-less, ended, popped, popped-less, found_first, ready, small}
use Rattle.plan.specs.Plan.{edges_at, nodes_at}
use Rattle.matching.proofs.search.Goals as goal
use Rattle.matching.proofs.search.Goals.{In-Full, In-Take}

took : (c : In-Take)
    → let a = c.args in
    (w : Known a.rule.now.bytes.now a.rule.now.plan.now)
    → IsStep (host_of a.host.now.layout a.host.now.nodes.now a.host.now.edges.now) w.rule (take c.loop-x.i c.loop-x.at) c.loop-x.i c.loop-x.c
    (Take c.in-Take.x)
took c w = rw c.in-Take.is at (c.advance.ensures w)

stopped : (c : In-Full)
    → let a = c.args in
    (w : Known a.rule.now.bytes.now a.rule.now.plan.now)
    → IsStep (host_of a.host.now.layout a.host.now.nodes.now a.host.now.edges.now) w.rule (take c.loop-x.i c.loop-x.at) c.loop-x.i c.loop-x.c
    Full
stopped c w = rw c.in-Full.is at (c.advance.ensures w)

pub found-init : goal.found-init
found-init c = λ w. begin _ _ _ refl

pub loop-x-init : goal.loop-x-init
loop-x-init c = (c.found.invariant, le_refl _)

pub advance-requires : goal.advance-requires
advance-requires c =
    let loop = c.loop-x in record {
      ready = ready _ _ _ _ _ _ _ _ c.requires (loop.invariant.0 c.requires.known);
      i_bound = omega
          (arith, levels-of _ _ c.requires.known, (loop.invariant.0 c.requires.known).level);
    }

pub offset_bounds-at-i : goal.offset_bounds-at-i
offset_bounds-at-i c =
    omega (arith, (took (goal.at.offset_bounds-at-i c).In-Take c.requires.known).0, few-items c.requires.known)

pub bounds-at-i : goal.bounds-at-i
bounds-at-i c =
    omega (arith, (took (goal.at.bounds-at-i c).In-Take c.requires.known).0, few-items c.requires.known)

pub overflow_add-i : goal.overflow_add-i
overflow_add-i c =
    omega (arith, (took (goal.at.overflow_add-i c).In-Take c.requires.known).0, few-items c.requires.known)

pub loop-x-smaller : goal.loop-x-smaller
loop-x-smaller c =
    let a = c.args in
    let n = took (goal.at.loop-x-smaller c).In-Take c.requires.known in
    pushed-less (host_of a.host.now.layout a.host.now.nodes.now a.host.now.edges.now) c.requires.known.rule (few-items c.requires.known)
    c.loop-x.at c.loop-x.i c.loop-x.c (c.loop-x.invariant.0 c.requires.known) n.0 c.in-Take.x n.1
    (get_or a.rule.now.plan.now nodes_at 0 + get_or a.rule.now.plan.now edges_at 0) (levels-of _ _ c.requires.known)

pub loop-x-preserved : goal.loop-x-preserved
loop-x-preserved c =
    let a = c.args in (
      λ w. let n = took (goal.at.loop-x-preserved c).In-Take w in pushed (host_of a.host.now.layout a.host.now.nodes.now a.host.now.edges.now) w.rule (few-items w) c.loop-x.at
          c.loop-x.i c.loop-x.c (c.loop-x.invariant.0 w) n.0 c.in-Take.x n.1,
      omega (arith, loop-x-smaller c, c.loop-x.invariant.1),
    )

pub returns-then-i-eq0 : goal.returns-then-i-eq0
returns-then-i-eq0 c =
    let a = c.args in
    record {
      room = λ slots e. absurd (cc);
      arrays = c.args.values.now.stored;
      right = λ w. ended (host_of a.host.now.layout a.host.now.nodes.now a.host.now.edges.now) w.rule (few-items w) c.loop-x.at c.loop-x.i
          c.loop-x.c (c.loop-x.invariant.0 w)
          (rw c.in-Back.is at (c.advance.ensures w)) c.if-i-eq0.true;
      values = λ w slots e. absurd (cc);
    }

pub offset_bounds-at-i-in-found : goal.offset_bounds-at-i-in-found
offset_bounds-at-i-in-found c =
    let loop = c.loop-x in
    omega (arith, (loop.invariant.0 c.requires.known).level, few-items c.requires.known)

pub bounds-at-i-in-found : goal.bounds-at-i-in-found
bounds-at-i-in-found c =
    let loop = c.loop-x in
    omega (arith, (loop.invariant.0 c.requires.known).level, few-items c.requires.known)

pub overflow_add-c : goal.overflow_add-c
overflow_add-c c =
    let a = c.args in
    omega (
      arith,
      small a.host.now.layout a.host.now.nodes.now a.host.now.edges.now _ _ c.loop-x.at c.loop-x.i c.loop-x.c c.requires.known
          (c.loop-x.invariant.0 c.requires.known) (c.loop-x.i - 1) (omega arith),
    )

pub found-smaller : goal.found-smaller
found-smaller c =
    let a = c.args in
    omega (
      arith,
      c.loop-x.invariant.1,
      popped-less (host_of a.host.now.layout a.host.now.nodes.now a.host.now.edges.now) c.requires.known.rule
          (few-items c.requires.known) c.loop-x.at c.loop-x.i c.loop-x.c (c.loop-x.invariant.0 c.requires.known)
          (get_or a.rule.now.plan.now nodes_at 0 + get_or a.rule.now.plan.now edges_at 0) (levels-of _ _ c.requires.known) (omega arith),
    )

pub found-preserved : goal.found-preserved
found-preserved c =
    let a = c.args in
    λ w. popped (host_of a.host.now.layout a.host.now.nodes.now a.host.now.edges.now) w.rule (few-items w) c.loop-x.at c.loop-x.i
    c.loop-x.c (c.loop-x.invariant.0 w) (rw c.in-Back.is at (c.advance.ensures w))
    (omega arith)

pub assign-requires : goal.assign-requires
assign-requires c =
    let w = c.requires.known in
    record {
      legal = c.args.host.now.legal;
      known = w;
      room = (c.loop-x.invariant.0 w).room;
      inside = rw (levels-of _ _ w, sym (stopped (goal.at.assign-requires c).In-Full w).0, nodes-of _ _ w) (c.loop-x.invariant.0 w).inside;
    }

pub returns : goal.returns
returns c =
    let a = c.args in
    record {
      room = λ slots e. let q : c.loop-x.at ≡ slots = cc in rw q at (c.loop-x.invariant.0 c.requires.known).room;
      arrays = c.assign.new.values.stored;
      right = λ w. found_first (host_of a.host.now.layout a.host.now.nodes.now a.host.now.edges.now) w.rule (few-items w) c.loop-x.at
          c.loop-x.i c.loop-x.c (c.loop-x.invariant.0 w) (stopped (goal.at.returns c).In-Full w).0 (stopped (goal.at.returns c).In-Full w).1;
      values = λ w slots e. let q : c.loop-x.at ≡ slots = cc in rw q at (c.assign.ensures w);
    }
