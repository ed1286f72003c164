-- `numbers_below` meets its contract.
use Rattle.std.proofs.Common.{◌∙◌, ℕ, ltb, rules, tests}
use Rattle.std.proofs.lemmas.Iterator.{YieldsList-from_slice}
use Rattle.std.proofs.lemmas.Iterator.Search.{all_from_yields_List}
use Rattle.command_checks.proofs.Commanding.{every_is}
use Rattle.command_checks.proofs.numbers_below.Goals as goal

pub returns : goal.returns
returns c =
    all_from_yields_List (λ (i : ℕ). ltb i c.args.n) _ _ _ c.all.ensures.ran (YieldsList-from_slice c.args.p.now cc) (λ i b q k. search (rules, tests))
    ∙ every_is (λ (i : ℕ). ltb i c.args.n) c.args.p.now
