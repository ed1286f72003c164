-- `all_digits` meets its contract: the part of the text that is asked begins and ends as the clause's.
use Rattle.std.proofs.Common.{◌≡◌, ◌+◌, ◌-◌, sym, ◌∙◌, ap, arith, drop, take, rules, tests}
use Rattle.std.proofs.lemmas.List.{drop-take}
use Rattle.std.proofs.lemmas.Iterator.{YieldsList-from_slice}
use Rattle.std.proofs.lemmas.Iterator.Search.{all_from_yields_List}
use Rattle.meaning.specs.Basics.{every}
use Rattle.text.specs.Words.{is_digit}
use Rattle.parsing.proofs.Digits.{every-listed}
use Rattle.parsing.proofs.integers.all_digits.Goals as goal

pub returns : goal.returns
returns c =
    let bs = c.args.text.now in
    let n = c.args.to - c.args.from in
    let l = take n (drop c.args.from bs) in
    let e : c.args.from + n ≡ c.args.to = omega arith in
    let part = rw e at (sym (drop-take c.args.from n bs)) in
    all_from_yields_List is_digit _ _ c.all.result c.all.ensures.ran (YieldsList-from_slice l cc) (λ x b q k. search (rules, tests))
    ∙ every-listed is_digit l
    ∙ ap (every is_digit) part
