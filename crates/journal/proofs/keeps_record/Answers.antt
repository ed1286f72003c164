-- `keeps_record` meets its contract, clause by clause.
use Rattle.std.proofs.Common.{sym, ap, ◌∙◌, ltb, rules}
use Rattle.journal.proofs.Records.{record_filling, record_node, record_edge, record_kind}
use Rattle.journal.proofs.keeps_record.Goals as goal

pub returns-else-filled : goal.returns-else-filled
returns-else-filled c = c.if-filled.false ∙ record_filling c.args.l c.args.nodes c.args.edges c.args.b.now (sym c.filled.ensures ∙ c.if-filled.false)

pub returns-in-1 : goal.returns-in-1
returns-in-1 c =
    ap (λ i. ltb i c.args.nodes) c.slot_number-i.ensures
    ∙ record_node c.args.l c.args.nodes c.args.edges c.args.b.now (sym c.filled.ensures ∙ c.if-filled.true) c.in-1.is

pub returns-in-2 : goal.returns-in-2
returns-in-2 c =
    ap (λ i. ltb i c.args.edges) c.slot_number-i.ensures
    ∙ record_edge c.args.l c.args.nodes c.args.edges c.args.b.now (sym c.filled.ensures ∙ c.if-filled.true) c.in-2.is

pub returns-in_default : goal.returns-in_default
returns-in_default c =
    record_kind c.args.l c.args.nodes c.args.edges c.args.b.now (sym c.filled.ensures ∙ c.if-filled.true) (λ e. search rules) (λ e. search rules)
