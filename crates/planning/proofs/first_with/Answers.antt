use Rattle.std.proofs.Common.{sym, ◌∙◌, arith}
use Rattle.laws.specs.Assignment.{labels_length}
use Rattle.meaning.specs.References.{labels}
use Rattle.planning.proofs.Variables.{first-at, first-none, none_more}
use Rattle.planning.proofs.first_with.Goals as goal

pub returns-in-Some : goal.returns-in-Some
returns-in-Some c = λ r l.
    let o = c.in-Some.ensures r (sym (c.types-kinds.ensures r l)) _ (c.pattern.ensures r l) in
    record {
      item = first-at c.args.v c.loop-item.item (labels r.left) (omega (arith, labels_length r, l.items.nodes, l.items.edges, c.loop-item-test.true)) (c.loop-item.invariant r l) o.0;
      singles = λ h. o.1;
      lists = λ h. o.2;
    }

pub loop-item-preserved : goal.loop-item-preserved
loop-item-preserved c = λ r l. none_more c.args.v c.loop-item.item (labels r.left) (c.loop-item.invariant r l) (c.in_default.ensures r (sym (c.types-kinds.ensures r l)) _ (c.pattern.ensures r l))

pub returns : goal.returns
returns c = λ r l.
    let n = labels_length r in
    let a = l.items.nodes in
    let b = l.items.edges in
    sym (first-none c.args.v (labels r.left) (λ i h. c.loop-item.invariant r l i (omega (arith, c.loop-item-test.false)))) ∙ n
