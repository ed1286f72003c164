-- `find` meets its contract.
use Rattle.std.proofs.Common.{rules, tests}
use Rattle.std.proofs.lemmas.Iterator.{YieldsList-from_slice}
use Rattle.std.proofs.lemmas.Iterator.Search.{position_from_yields_List}
use Rattle.meaning.specs.Basics.{same}
use Rattle.lexing.specs.Lexing.{name_at}
use Rattle.importing.proofs.Lookup.{found-at}
use Rattle.importing.proofs.names.find.Goals as goal

pub returns : goal.returns
returns c =
    let bs = c.args.text.now in
    let ps = c.args.places.now in
    let id = name_at bs c.args.at in
    found-at bs ps id c.position.result
    (position_from_yields_List (λ p. same (name_at bs p) id) _ _ c.position.result c.position.ensures.ran (YieldsList-from_slice ps cc) (λ x b q k. search (rules, tests)))
