-- `asking::graph_holds` meets its contract.
use Rattle.std.proofs.Common.{rules}
use Rattle.parts.specs.Rows.{graph_item, graph-series, items}
use Rattle.references.specs.Asked.{graph_asked, item_asked}
use Rattle.parts.specs.Walked.{every_answers}
use Rattle.references.proofs.asking.graph_holds.Goals as goal

pub returns : goal.returns
unfolding graph_asked
returns c g e = every_answers graph_item (item_asked c.args.ask c.args.types.now) (λ tag part r q i k. search rules) c.every_field.ensures (items g) (graph-series _ g e)
