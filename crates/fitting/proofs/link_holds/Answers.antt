-- `link_holds` meets its contract.
use Rattle.std.proofs.Common.{sym, ◌∙◌, ne_eqb}
use Rattle.fitting.proofs.Joining.{linked_near, linked-far}
use Rattle.fitting.proofs.link_holds.Goals as goal

pub returns-then-later-trial : goal.returns-then-later-trial
returns-then-later-trial c =
    λ w.
    let r = w.trial.rule in
    let q = w.trial.planned.laid in
    rw (ne_eqb _ _ c.if-later-trial.true) (linked-far w _ _ _ (c.end_of-s.ensures r q) (c.end_of-t.ensures r q) (λ e. c.if-later-trial.true (c.later.ensures ∙ e)))

pub returns-else-later-trial : goal.returns-else-later-trial
returns-else-later-trial c =
    λ w.
    let r = w.trial.rule in
    let q = w.trial.planned.laid in
    linked_near w _ _ _ (c.end_of-s.ensures r q) (c.end_of-t.ensures r q) (sym c.later.ensures ∙ c.if-later-trial.false) _ _ _ c.slot_of.ensures c.slot_of-else-later-trial.ensures
    (c.any_joins.ensures r q)
