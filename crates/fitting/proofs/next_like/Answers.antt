-- `next_like` meets its contract: the slots passed do not fit, by what `node_like` says of them.
use Rattle.std.proofs.Common.{◌+◌, true, false, get_or, rules, tests}
use Rattle.std.proofs.lemmas.Iterator.{first_from_Range}
use Rattle.meaning.specs.Layout.{host_of}
use Rattle.plan.specs.Plan.{sort_at}
use Rattle.fitting.specs.Fitting.{NodeLike}
use Rattle.fitting.proofs.Candidates.{next_is}
use Rattle.fitting.proofs.next_like.Goals as goal

pub returns : goal.returns
returns c =
    λ w.
    let h = host_of c.args.host.now.layout c.args.host.now.nodes.now c.args.host.now.edges.now in
    let sort = get_or c.args.rule.now.plan.now (sort_at + c.args.i) 0 in
    next_is h w.rule sort c.args.i c.args.c c.args.n _ _
    (first_from_Range _ _ _ _ (λ y. NodeLike h w.rule sort c.args.i y true) (λ y. NodeLike h w.rule sort c.args.i y false) c.find.ensures.ran
    (λ x q k. search (rules, tests))
    (λ x q k. search (rules, tests)))
    c.unwrap_or.ensures
