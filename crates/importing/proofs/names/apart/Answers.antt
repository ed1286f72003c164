use Rattle.std.proofs.Common.{sym, ◌∙◌}
use Rattle.importing.proofs.Lookup.{apart_more, apart-found, apart-all}
use Rattle.importing.proofs.names.apart.Goals as goal

pub returns-then-is_some : goal.returns-then-is_some
returns-then-is_some c =
    let a = c.args in
    apart-found a.text.now a.places.now c.loop-i.i c.loop-i.invariant c.loop-i-test.true c.find.result c.find.ensures (sym c.is_some.ensures ∙ c.if-is_some.true)

pub loop-i-preserved : goal.loop-i-preserved
loop-i-preserved c =
    let a = c.args in
    apart_more a.text.now a.places.now c.loop-i.i c.loop-i.invariant c.loop-i-test.true c.find.result c.find.ensures (sym c.is_some.ensures ∙ c.if-is_some.false)

pub returns : goal.returns
returns c =
    let a = c.args in
    apart-all a.text.now a.places.now c.loop-i.i c.loop-i.invariant c.loop-i-test.false
