-- `is_word` meets its contract: the part of the text that is compared begins and ends as the clause's.
use Rattle.std.proofs.Common.{◌≡◌, ◌+◌, ◌-◌, sym, ◌∙◌, ap, arith, drop, take}
use Rattle.std.proofs.lemmas.List.{drop-take}
use Rattle.meaning.specs.Basics.{same}
use Rattle.lexing.proofs.Bytes.{pointwise-same}
use Rattle.lexing.proofs.is_word.Goals as goal

pub returns : goal.returns
returns c =
    let bs = c.args.text.now in
    let n = c.args.to - c.args.from in
    let e : c.args.from + n ≡ c.args.to = omega arith in
    let part = rw e at (sym (drop-take c.args.from n bs)) in
    c.eq.ensures ∙ pointwise-same (take n (drop c.args.from bs)) c.args.word.now ∙ ap (λ l. same l c.args.word.now) part
