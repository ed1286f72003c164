-- `calling::call` meets its contract.
use Rattle.std.proofs.Common.{refl}
use Rattle.values.specs.Zeros.{stored-none}
use Rattle.calling.proofs.Ending.{running-searched, fails, Found, at-match, applies}
use Rattle.calling.proofs.call.Goals as goal
use Rattle.calling.proofs.call.Goals.{After-rule_part-rule}

found : (c : After-rule_part-rule)
    → let f = c.first_rule in
    Found c.args.l c.args.image.now c.args.numbers.now c.args.nodes.now c.args.edges.now
    c.rule_part-rule.result.now c.in-Some.chosen.0 c.in-Some.chosen.1 f.new.values.lens f.new.values.atoms
found c =
    record {
      choice = rw c.in-Some.is at c.first_rule.ensures;
      part = c.rule_part-rule.ensures;
    }

pub invariant_of-host : goal.invariant_of-host
invariant_of-host c = record { legal = running-searched _ _ _ _ _ c.requires.running }

pub invariant_of-values : goal.invariant_of-values
invariant_of-values c = record { stored = stored-none }

pub first_rule-requires : goal.first_rule-requires
first_rule-requires c =
    record {
      listed = c.requires.listed;
      plan_len = refl;
    }

pub apply-applied-requires : goal.apply-applied-requires
apply-applied-requires c =
    record {
      running = c.requires.running;
      at_match = at-match (found (goal.at.apply-applied-requires c).After-rule_part-rule) c.requires.listed;
    }

pub returns : goal.returns
returns c =
    applies (found (goal.at.returns c).After-rule_part-rule) c.args.t c.apply-applied.ensures c.after.ensures

pub returns-in_default : goal.returns-in_default
returns-in_default c =
    fails c.args.t c.first_rule.ensures c.in_default.is c.requires.running
