-- `ends_known` meets its contract: the edge is the one that is read again.
use Rattle.std.proofs.Common.{sym, ◌∙◌}
use Rattle.importing.proofs.Ends.{ends-known, source_unknown}
use Rattle.importing.proofs.names.ends_known.Goals as goal

pub returns-then-is_some : goal.returns-then-is_some
returns-then-is_some c =
    let a = c.args in
    λ e w. c.is_some-then-is_some.ensures ∙ ends-known a.text.now a.node_places.now a.at e w c.in-Ok.e c.in-Ok.ensures c.find.result c.find.ensures (sym c.is_some.ensures ∙ c.if-is_some.true) c.find-then-is_some.result c.find-then-is_some.ensures

pub returns-else-is_some : goal.returns-else-is_some
returns-else-is_some c =
    let a = c.args in
    λ e w. c.is_some.ensures ∙ source_unknown a.text.now a.node_places.now a.at e w c.in-Ok.e c.in-Ok.ensures c.find.result c.find.ensures (sym c.is_some.ensures ∙ c.if-is_some.false)
