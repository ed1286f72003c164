-- `rules::all_kept` meets its contract.
use Rattle.std.proofs.Common.{◌∙◌, ap, refl, arith, rules, tests}
use Rattle.std.proofs.lemmas.Iterator.{YieldsList-from_range}
use Rattle.std.proofs.lemmas.Iterator.Search.{all_from_yields_List}
use Rattle.meaning.specs.Basics.{all}
use Rattle.meaning.specs.References.{any_kept}
use Rattle.references.proofs.Ties.{numbers-all}
use Rattle.references.proofs.rules.all_kept.Goals as goal

pub returns : goal.returns
returns c x e =
    all_from_yields_List (any_kept x) _ _ _ c.all.ensures.ran (YieldsList-from_range 0 _ _ refl (omega arith)) (λ j b q k. search (rules, tests))
    ∙ numbers-all (any_kept x) c.node_count.result
    ∙ ap (all (any_kept x)) (c.node_count.ensures.fact x.right (c.right_part.ensures x e))
