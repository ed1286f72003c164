-- `is_end` meets its contract: the states of the table say it of its nodes.
use Rattle.std.proofs.Common.{ℕ, sym, ap, ◌∙◌}
use Rattle.meaning.specs.Layout.{live_at}
use Rattle.slots.specs.Slots.{states}
use Rattle.slots.specs.States.{live-nodes}
use Rattle.host.proofs.is_end.Goals as goal

pub returns : goal.returns
returns c =
    let a = c.args in
    c.live_slot.ensures ∙ ap (λ (w : ℕ). live_at (states w a.nodes.now) a.i) c.requires.node ∙ sym (live-nodes a.l a.nodes.now a.i)
