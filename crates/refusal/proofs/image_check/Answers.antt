-- `refusal::image_check` meets its contract: form, references, placement and depth in their order.
use Rattle.std.proofs.Common.{sym, ◌∙◌}
use Rattle.answers.specs.Answers.{refusal_of}
use Rattle.meaning.specs.References.{references}
use Rattle.meaning.specs.Placement.{placement}
use Rattle.meaning.specs.Procedures.{depth_holds}
use Rattle.meaning.specs.Laws.Checks.{first-no, first-yes, first-none}
use Rattle.refusal.proofs.Order.{holds_of}
use Rattle.refusal.proofs.image_check.Goals as goal

pub returns-then-not-form_ok : goal.returns-then-not-form_ok
unfolding refusal_of
returns-then-not-form_ok c = sym (first-no _ _ _ (sym c.form_ok.ensures ∙ c.if-not-form_ok.true))

pub returns-then-not-references_ok : goal.returns-then-not-references_ok
unfolding refusal_of
returns-then-not-references_ok c =
    let f = sym c.form_ok.ensures ∙ c.if-not-form_ok.false in
    sym (first-yes _ _ _ f ∙ first-no _ _ _ (holds_of references _ _ f c.references_ok.ensures ∙ c.if-not-references_ok.true))

pub returns-then-not-breaks_lie : goal.returns-then-not-breaks_lie
unfolding refusal_of
returns-then-not-breaks_lie c =
    let f = sym c.form_ok.ensures ∙ c.if-not-form_ok.false in
    let r = holds_of references _ _ f c.references_ok.ensures ∙ c.if-not-references_ok.false in
    sym (first-yes _ _ _ f ∙ first-yes _ _ _ r ∙ first-no _ _ _ (holds_of placement _ _ f c.breaks_lie.ensures ∙ c.if-not-breaks_lie.true))

pub returns-then-not-depth_holds : goal.returns-then-not-depth_holds
unfolding refusal_of
returns-then-not-depth_holds c =
    let f = sym c.form_ok.ensures ∙ c.if-not-form_ok.false in
    let r = holds_of references _ _ f c.references_ok.ensures ∙ c.if-not-references_ok.false in
    let p = holds_of placement _ _ f c.breaks_lie.ensures ∙ c.if-not-breaks_lie.false in
    sym (first-yes _ _ _ f ∙ first-yes _ _ _ r ∙ first-yes _ _ _ p ∙ first-no _ _ _ (holds_of depth_holds _ _ f c.depth_holds.ensures ∙ c.if-not-depth_holds.true))

pub returns : goal.returns
unfolding refusal_of
returns c =
    let f = sym c.form_ok.ensures ∙ c.if-not-form_ok.false in
    let r = holds_of references _ _ f c.references_ok.ensures ∙ c.if-not-references_ok.false in
    let p = holds_of placement _ _ f c.breaks_lie.ensures ∙ c.if-not-breaks_lie.false in
    let d = holds_of depth_holds _ _ f c.depth_holds.ensures ∙ c.if-not-depth_holds.false in
    sym (first-yes _ _ _ f ∙ first-yes _ _ _ r ∙ first-yes _ _ _ p ∙ first-yes _ _ _ d ∙ first-none)
