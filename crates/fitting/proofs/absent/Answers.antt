-- `absent` meets its contract.
use Rattle.std.proofs.Common.{◌≡◌, ◌+◌, ◌-◌, ◌∙◌, not, eqb, take, drop, rules, tests, arith}
use Rattle.std.proofs.lemmas.Iterator.{YieldsList-from_slice}
use Rattle.std.proofs.lemmas.Iterator.Search.{all_from_yields_List}
use Rattle.std.proofs.lemmas.List.{drop-take}
use Rattle.laws.specs.Ranges.{absent_all}
use Rattle.fitting.proofs.absent.Goals as goal

pub returns : goal.returns
returns c =
    let at = c.args.at.now in
    let part = take (c.args.to - c.args.from) (drop c.args.from at) in
    let z : c.args.from + (c.args.to - c.args.from) ≡ c.args.to = omega arith in
    all_from_yields_List (λ y. not (eqb y c.args.c)) _ _ _ c.all.ensures.ran (YieldsList-from_slice part (cc)) (λ x b f k. search (rules, tests))
    ∙ rw (← (drop-take c.args.from (c.args.to - c.args.from) at), z, absent_all)
