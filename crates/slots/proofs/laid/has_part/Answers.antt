-- `laid::has_part` meets its contract.
use Rattle.std.proofs.Common.{◌≡◌, ◌≤◌, ◌<◌, ◌+◌, ◌-◌, refl, arith, rules, tests, get_or, length}
use Rattle.std.proofs.lemmas.Iterator.{YieldsList-from_range, cases_from_all}
use Rattle.std.proofs.lemmas.Bool.{lt-leb, false≢true}
use Rattle.slots.specs.Laid.{laid}
use Rattle.laws.specs.Ranges.{all-below}
use Rattle.slots.specs.Comparing.{has_short, has_tested}
use Rattle.slots.proofs.laid.has_part.Goals as goal

pub returns-then-n-count : goal.returns-then-n-count
returns-then-n-count c =
    let a = laid c.args.a.now in
    let b = laid c.args.b.now in
    let n = c.count-n.result in
    let found = all-below _ _ n c.all.result
    (cases_from_all _ _ c.all.result (λ j. get_or a (c.args.from + j) 0 ≡ get_or b j 0) (λ j. get_or a (c.args.from + j) 0 ≡ get_or b j 0 → ⊥) c.all.ensures.ran (YieldsList-from_range 0 n n refl (omega arith)) (λ x q k. search (rules, tests)) (λ x q k. search (rules, tests))) in
    let fits : c.args.from + length b ≤ length a = omega (arith, c.count-n.ensures, c.count.ensures, c.if-n-count.true, c.requires) in
    (has_tested a b c.args.from fits c.all.result (rw (← c.count-n.ensures) found), λ e. fits)

pub returns-else-n-count : goal.returns-else-n-count
returns-else-n-count c =
    let short : length (laid c.args.a.now) - c.args.from < length (laid c.args.b.now) = omega (arith, c.count-n.ensures, c.count.ensures, c.if-n-count.false) in
    rw (lt-leb c.count-n.result (c.count.result - c.args.from) c.if-n-count.false)
    (has_short (laid c.args.a.now) (laid c.args.b.now) c.args.from short, λ e. absurd (false≢true e))
