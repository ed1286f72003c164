-- `lowest_free` meets its contract: what the search from the first slot on gives.
use Rattle.std.proofs.Common.{◌≡◌, true, false, ◌∙◌, rules, tests}
use Rattle.std.proofs.lemmas.Iterator.{first_from_Range}
use Rattle.meaning.specs.Layout.{live_at}
use Rattle.slots.specs.Slots.{states}
use Rattle.slots.proofs.Slots.{lowest-found, length-states}
use Rattle.slots.proofs.lowest_free.Goals as goal

pub returns : goal.returns
returns c =
    let s = states c.args.w c.args.table.now in
    c.unwrap_or.ensures
    ∙ lowest-found s _ c.find.result (length-states c.args.w c.args.table.now)
    (first_from_Range _ _ _ c.find.result (λ i. live_at s i ≡ false) (λ i. live_at s i ≡ true) c.find.ensures.ran (λ x q k. search (rules, tests)) (λ x q k. search (rules, tests)))
