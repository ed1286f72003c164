-- `test_holds` meets its contract: the field of the test's number is read as the test.
use Rattle.std.proofs.Common.{◌≡◌, refl, sym, ◌∙◌, ap, not, Some}
use Rattle.fields.specs.Fields.{found}
use Rattle.meaning.specs.Basics.{choose}
use Rattle.meaning.specs.Layout.{Host, host_of}
use Rattle.meaning.specs.Matching.{Assignment, test_holds}
use Rattle.meaning.specs.Assigned.{assigned}
use Rattle.meaning.specs.Laws.Tests.{choose_true, choose_false}
use Rattle.parts.proofs.Loops.{nth_in}
use Rattle.plan.specs.Plan.{test_of}
use Rattle.testing.specs.Testing.{HasTest}
use Rattle.testing.proofs.Conditions.{test-none, test-there, of_test, by_flag}
use Rattle.testing.proofs.test_holds.Goals as goal
use Rattle.testing.proofs.test_holds.Goals.{In-Some-Ok, After-flag}

abbrev host : (s : After-flag) → Host
host s = host_of s.args.host.now.layout s.args.host.now.nodes.now s.args.host.now.edges.now

abbrev Has : (s : After-flag) → Type 0
Has s = HasTest (host s) s.args.rule.now.bytes.now s.args.rule.now.plan.now s.args.trial.now.at.now s.args.trial.now.item s.args.trial.now.slot s.args.t

abbrev α : (s : After-flag) → Has s → Assignment
α s w = assigned (host s) w.trial.rule w.trial.placed

there : (c : In-Some-Ok) → c.nth_field.result ≡ found c.in-Some-Ok.field-0-0.tag c.in-Some-Ok.field-0-0.start c.in-Some-Ok.field-0-0.end
there c = c.in-Some-Ok.is ∙ ap Some c.in-Some-Ok.field-0-is

chosen : (c : After-flag) (w : Has c)
    → choose c.flag.result (not c.condition_holds-holds.result) c.condition_holds-holds.result
    ≡ test_holds (host c) w.trial.placed (α c w) (test_of w.trial.rule c.args.t)
chosen c w =
    let is = test-there w _ (c.tests-tests.ensures w.trial.rule w.trial.planned.laid) c.nth_field.ensures (there (goal.at.After-flag c).In-Some-Ok) refl in
    by_flag w is (α c w) _ _ c.flag.ensures (c.condition_holds-holds.ensures (of_test w is c.behind-rest.ensures))

pub returns-in_default : goal.returns-in_default
returns-in_default c = λ w. absurd (test-none w _ (c.tests-tests.ensures w.trial.rule w.trial.planned.laid) c.nth_field.ensures (λ tag start end e. cc))

pub returns-in_default-2 : goal.returns-in_default-2
returns-in_default-2 c = λ w. absurd (test-none w _ (c.tests-tests.ensures w.trial.rule w.trial.planned.laid) c.nth_field.ensures (λ tag start end e. cc))

pub slice_bounds-p-count : goal.slice_bounds-p-count
slice_bounds-p-count c = (nth_in _ _ c.nth_field.ensures (there (goal.at.slice_bounds-p-count c).In-Some-Ok)).0

pub slice_bounds-p-start : goal.slice_bounds-p-start
slice_bounds-p-start c = (nth_in _ _ c.nth_field.ensures (there (goal.at.slice_bounds-p-start c).In-Some-Ok)).0

pub slice_bounds-p-end : goal.slice_bounds-p-end
slice_bounds-p-end c = (nth_in _ _ c.nth_field.ensures (there (goal.at.slice_bounds-p-end c).In-Some-Ok)).1

pub condition_holds-holds-requires : goal.condition_holds-holds-requires
condition_holds-holds-requires c =
    let w = c.requires in
    (of_test w (test-there w _ (c.tests-tests.ensures w.trial.rule w.trial.planned.laid) c.nth_field.ensures (there (goal.at.condition_holds-holds-requires c).In-Some-Ok) refl) c.behind-rest.ensures)

pub returns-then-flag : goal.returns-then-flag
returns-then-flag c = λ w. sym (choose_true _ _ _ c.if-flag.true) ∙ chosen (goal.at.returns-then-flag c).After-flag w

pub returns-else-flag : goal.returns-else-flag
returns-else-flag c = λ w. sym (choose_false _ _ _ c.if-flag.false) ∙ chosen (goal.at.returns-else-flag c).After-flag w
