-- `rules::variables_on_left` meets its contract.
use Rattle.std.proofs.Common.{◌∙◌, ap, refl, arith, length, rules, tests}
use Rattle.std.proofs.lemmas.Iterator.{YieldsList-from_range}
use Rattle.std.proofs.lemmas.Iterator.Search.{all_from_yields_List}
use Rattle.meaning.specs.Basics.{all}
use Rattle.references.specs.Asked.{kept_on_left}
use Rattle.references.proofs.Ties.{kept-left, numbers-all}
use Rattle.references.proofs.rules.variables_on_left.Goals as goal

pub returns : goal.returns
returns c x e h =
    all_from_yields_List (kept_on_left x) _ _ _ c.all.ensures.ran (YieldsList-from_range 0 _ _ refl (omega arith)) (λ v b q k. search (rules, tests))
    ∙ numbers-all (kept_on_left x) (length c.variables_part.result.now)
    ∙ ap (λ l. all (kept_on_left x) (length l)) (c.variables_part.ensures x e)
    ∙ kept-left x h
