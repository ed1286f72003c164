-- `labels_held` meets its contract: each item of a right graph is asked whether its label can be held.
use Rattle.std.proofs.Common.{rules, sym, ◌∙◌}
use Rattle.meaning.specs.Basics.{is_some}
use Rattle.meaning.specs.Applying.{label_value}
use Rattle.parts.specs.Rows.{items, graph-series, graph_item, item_label}
use Rattle.parts.specs.Walked.{every_answers}
use Rattle.values.specs.Values.{values_of}
use Rattle.values.specs.Right.{held_items}
use Rattle.values.specs.Laws.{held_for}
use Rattle.values.proofs.labels_held.Goals as goal

pub returns : goal.returns
returns c g e =
    every_answers graph_item (λ i. is_some (label_value c.args.most (values_of c.args.values.now.lens c.args.values.now.atoms) (item_label i))) (λ tag part r q i k. search (rules, held_for)) c.every_field.ensures (items g) (graph-series _ g e) ∙ sym (held_items _ _ g)
