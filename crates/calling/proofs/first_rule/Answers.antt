use Rattle.std.proofs.Common.{refl, arith}
use Rattle.calling.proofs.Choosing.{none-chosen, Tried, is-rule, chosen, passes}
use Rattle.calling.proofs.first_rule.Goals as goal
use Rattle.calling.proofs.first_rule.Goals.{After-rule_part-rule}

tried : (c : After-rule_part-rule)
    → Tried c.args.image.now c.args.numbers.now c.rule_part-rule.result.now c.loop-byte.byte-index c.from-number.result
tried c =
    record {
      listed = c.requires.listed;
      inside = c.loop-byte-test.true;
      number = c.from-number.ensures;
      part = c.rule_part-rule.ensures;
    }

pub loop-byte-init : goal.loop-byte-init
loop-byte-init c =
    (λ p e. refl, c.requires.plan_len)

pub first_match-requires : goal.first_match-requires
first_match-requires c =
    record {
      rule = is-rule (tried (goal.at.first_match-requires c).After-rule_part-rule);
      plan_len = c.loop-byte.invariant.1;
    }

pub returns-in-Some : goal.returns-in-Some
returns-in-Some c =
    chosen (tried (goal.at.returns-in-Some c).After-rule_part-rule) c.loop-byte.invariant.0 c.first_match.ensures.1 _ c.in-Some.is

pub loop-byte-preserved : goal.loop-byte-preserved
loop-byte-preserved c =
    let t = tried (goal.at.loop-byte-preserved c).After-rule_part-rule in
    let first = c.first_match.ensures in
    (passes t c.loop-byte.invariant.0 first.1 c.in_default.is, first.0)

pub returns : goal.returns
returns c =
    let a = c.args in
    let loop = c.loop-byte in
    none-chosen a.host.now.layout a.image.now a.numbers.now a.host.now.nodes.now a.host.now.edges.now loop.byte-index (omega arith) (omega arith) loop.invariant.0 _ _
