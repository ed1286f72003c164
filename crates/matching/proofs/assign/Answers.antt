use Rattle.std.proofs.Common.{◌≡◌, ◌<◌, ap, arith, length, take}
use Rattle.meaning.specs.Image.{limits}
use Rattle.slots.specs.Laid.{laid}
use Rattle.meaning.specs.Layout.{host_of}
use Rattle.meaning.specs.Matching.{total}
use Rattle.agreeing.specs.Placed.{Known}
use Rattle.matching.proofs.Plans.{levels-of}
use Rattle.matching.proofs.Storing.{arrays-more, values-more, values-skip, has_value}
use Rattle.matching.proofs.assign.Goals as goal
use Rattle.matching.proofs.assign.Goals.{At-loop-v, then-rule-v, else-rule-v}

-- there are as many variables as the loop has turns
many : (c : At-loop-v) → (w : Known c.args.rule.now.bytes.now c.args.rule.now.plan.now) → length c.types-v-end.result.now ≡ length w.rule.variables
many c w = ap length (c.types-v-end.ensures w.rule w.planned.laid)

-- and no more than a rule may have
low : (c : At-loop-v) → c.loop-v.v < length c.types-v-end.result.now → c.loop-v.v < limits.variables
low c h = let w = c.requires.known in omega (arith, h, many c w, w.planned.laid.few_variables)

pub value-a-requires : goal.value-a-requires
value-a-requires c =
    let p = c.requires in
    has_value (host_of c.args.host.now.layout c.args.host.now.nodes.now c.args.host.now.edges.now) _ _ c.args.at.now p.known p.room p.inside c.loop-v.v
    (omega (arith, c.loop-v-test.true, many (goal.at.value-a-requires c).At-loop-v p.known)) c.if-rule-v.true

pub invariant_of-values : goal.invariant_of-values
invariant_of-values c =
    let fits = c.value-a.ensures in
    record {
      stored = arrays-more c.loop-v.v c.count.result c.loop-v.values.lens c.loop-v.values.atoms c.put_atoms.new.atoms (laid c.value-a.result.now)
          (low (goal.at.invariant_of-values c).At-loop-v c.loop-v-test.true) c.loop-v.values.stored c.put_atoms.ensures c.count.ensures (omega (arith, c.count.ensures, fits.0));
    }

pub loop-v-preserved : goal.loop-v-preserved
loop-v-preserved c =
    let p = c.requires in
    let h = host_of c.args.host.now.layout c.args.host.now.nodes.now c.args.host.now.edges.now in
    let j = (goal.at.loop-v-preserved c).At-loop-v in
    elim c.if-rule-v.branch [
      | then-rule-v k ↦
          let fits = k.value-a.ensures in
          rw k.values-is (
          λ w.
          values-more c.loop-v.v k.count.result c.loop-v.values.lens c.loop-v.values.atoms k.put_atoms.new.atoms (laid k.value-a.result.now) (low j c.loop-v-test.true) c.loop-v.values.stored k.put_atoms.ensures k.count.ensures (omega (arith, k.count.ensures, fits.0))
          h w.rule (take (total w.rule) c.args.at.now)
          (fits.1 (has_value h _ _ c.args.at.now w p.room p.inside c.loop-v.v (omega (arith, c.loop-v-test.true, many j w)) k.if-rule-v.true))
          (c.loop-v.invariant w)
          )
      | else-rule-v k ↦
          rw k.values-is (
          λ w.
          values-skip h w.rule (take (total w.rule) c.args.at.now) c.loop-v.v c.loop-v.values.lens c.loop-v.values.atoms
          (omega (arith, k.if-rule-v.false, levels-of _ _ w, (w.planned.first c.loop-v.v (omega (arith, c.loop-v-test.true, many j w))).item))
          (c.loop-v.invariant w)
          )
    ]
