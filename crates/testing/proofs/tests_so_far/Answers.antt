use Rattle.std.proofs.Common.{◌<◌, refl, ◌∙◌, length, arith}
use Rattle.meaning.specs.Basics.{every}
use Rattle.meaning.specs.FirstMatch.{tests_so_far}
use Rattle.meaning.specs.Laws.Loops.{every-next, every-end, every-fails}
use Rattle.testing.proofs.Decisions.{no_test, so_far, tried-test, so_far-yes, so_far-no}
use Rattle.testing.proofs.tests_so_far.Goals as goal
use Rattle.testing.proofs.tests_so_far.Goals.{else-rule-t-via-then-rule-t+else-not-test_holds, else-rule-t-via-else-rule-t}

pub loop-t-init : goal.loop-t-init
unfolding every
loop-t-init c = λ w. refl

pub test_holds-requires : goal.test_holds-requires
test_holds-requires c =
    let w = c.requires in
    (tried-test w _ (omega (arith, w.trial.planned.tests, c.loop-t-test.true)) c.if-rule-t.true)

pub returns-then-not-test_holds : goal.returns-then-not-test_holds
unfolding tests_so_far
returns-then-not-test_holds c =
    λ w.
    let k = w.trial.planned.tests in
    let h : c.loop-t.t < length w.trial.rule.tests = omega (arith, c.loop-t-test.true) in
    every-fails (so_far w) w.trial.rule.tests c.loop-t.t no_test h (so_far-yes w _ h c.if-rule-t.true _ (c.test_holds.ensures (tried-test w _ h c.if-rule-t.true)) ∙ c.if-not-test_holds.true)

pub loop-t-preserved : goal.loop-t-preserved
loop-t-preserved c =
    λ w.
    let k = w.trial.planned.tests in
    let h : c.loop-t.t < length w.trial.rule.tests = omega (arith, c.loop-t-test.true) in
    every-next (so_far w) w.trial.rule.tests c.loop-t.t no_test h (c.loop-t.invariant w)
    (elim c.else-rule-t.branch [
      | else-rule-t-via-then-rule-t+else-not-test_holds b ↦ so_far-yes w _ h b.if-rule-t.true _ (b.test_holds.ensures (tried-test w _ h b.if-rule-t.true)) ∙ b.if-not-test_holds.false
      | else-rule-t-via-else-rule-t b ↦ so_far-no w _ h b.if-rule-t.false
    ])

pub returns : goal.returns
unfolding tests_so_far
returns c =
    λ w.
    let k = w.trial.planned.tests in
    every-end (so_far w) _ c.loop-t.t (omega arith) (c.loop-t.invariant w)
