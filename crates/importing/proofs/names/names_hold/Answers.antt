-- `names_hold` meets its contract, test by test.
use Rattle.std.proofs.Common.{sym, ◌∙◌}
use Rattle.std.proofs.lemmas.Bool.{false≢true}
use Rattle.meaning.specs.Laws.Tests.{both_yes, both-no}
use Rattle.importing.proofs.Ends.{holds_at}
use Rattle.importing.proofs.names.names_hold.Goals as goal
use Rattle.importing.proofs.names.names_hold.Goals.{then-apart, else-apart}

pub returns-then-apart-2 : goal.returns-then-apart-2
returns-then-apart-2 c =
    let a = c.args in
    elim c.if-apart.branch [
      | then-apart w ↦
          λ g n e.
          c.all_ends_known.ensures g.edges e
          ∙ sym (both_yes _ _ (sym c.apart.ensures ∙ w.if-apart.true) ∙ both_yes _ _ (sym w.apart-then-apart.ensures ∙ sym w.value-is ∙ c.if-apart-2.true))
          ∙ holds_at a.text.now a.node_places.now a.edge_places.now g n e
      | else-apart w ↦ absurd (false≢true (sym w.if-apart.false ∙ sym w.value-is ∙ c.if-apart-2.true))
    ]

pub returns-else-apart-2 : goal.returns-else-apart-2
returns-else-apart-2 c =
    let a = c.args in
    elim c.if-apart.branch [
      | then-apart w ↦
          λ g n e.
          c.if-apart-2.false
          ∙ sym (both_yes _ _ (sym c.apart.ensures ∙ w.if-apart.true) ∙ both-no _ _ (sym w.apart-then-apart.ensures ∙ sym w.value-is ∙ c.if-apart-2.false))
          ∙ holds_at a.text.now a.node_places.now a.edge_places.now g n e
      | else-apart w ↦
          λ g n e.
          c.if-apart-2.false
          ∙ sym (both-no _ _ (sym c.apart.ensures ∙ w.if-apart.false))
          ∙ holds_at a.text.now a.node_places.now a.edge_places.now g n e
    ]
