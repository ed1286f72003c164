use Rattle.std.proofs.Common.{◌-◌, ◌/◌, [], sym, ap, ◌∙◌, arith, rules, length, get_or}
use Rattle.meaning.specs.Layout.{keeps_record, read_record, cut, put, node_length, edge_length}
use Rattle.journal.specs.Journal.{tables_of, put_back}
use Rattle.journal.proofs.Records.{kept_at, back_more, back_none}
use Rattle.journal.proofs.put_back_from.Goals as goal

pub put_back-requires-clause-b_value : goal.put_back-requires-clause-b_value
put_back-requires-clause-b_value c =
    let a = c.args in
    let l = a.l in
    let q = c.slot.ensures.0 ∙ ap (λ w. get_or (cut w a.journal.now) (c.loop-u.u - 1) []) c.requires.sized.change in
    rw (c.loop-u.invariant.2, c.loop-u.invariant.3, q)
    (kept_at l a.mark a.journal.now (keeps_record l (length a.nodes.now / node_length l) (length a.edges.now / edge_length l)) a.used (c.loop-u.u - 1) c.requires.journal_value (search rules) (search rules) c.requires.mark_le_used.1)

pub loop-u-preserved : goal.loop-u-preserved
loop-u-preserved c =
    let a = c.args in
    let l = a.l in
    let t = tables_of l c.loop-u.nodes c.loop-u.edges in
    let q = c.slot.ensures.0 ∙ ap (λ w. get_or (cut w a.journal.now) (c.loop-u.u - 1) []) c.requires.sized.change in
    let back =
    back_more l a.mark a.journal.now c.loop-u.u t (search rules) (omega (arith, c.requires.mark_le_used.1, c.loop-u.invariant.1))
    ∙ ap (λ b. put_back l a.mark (c.loop-u.u - 1) a.journal.now (put (read_record l b) t)) (sym q)
    ∙ ap (put_back l a.mark (c.loop-u.u - 1) a.journal.now) (sym c.put_back.ensures.0) in
    (search rules, search rules, c.put_back.auto.nodes ∙ c.loop-u.invariant.2, c.put_back.auto.edges ∙ c.loop-u.invariant.3, sym back ∙ c.loop-u.invariant.4, (c.put_back.ensures.1.0 ∙ c.loop-u.invariant.5.0, c.put_back.ensures.1.1 ∙ c.loop-u.invariant.5.1))

pub returns : goal.returns
returns c =
    let a = c.args in
    (sym (back_none a.l a.mark a.journal.now c.loop-u.u (tables_of a.l c.loop-u.nodes c.loop-u.edges) (search rules)) ∙ c.loop-u.invariant.4, c.loop-u.invariant.5)
