-- `plan_label` meets its contract: each sort says what is so of the label.
use Rattle.std.proofs.Common.{sym, arith}
use Rattle.planning.proofs.Labelling.{said-length, said-constant, said-elements}
use Rattle.planning.proofs.plan_label.Goals as goal

pub pattern-p-requires : goal.pattern-p-requires
pattern-p-requires c = record { tree = c.requires.named.tree; laid = c.requires.named.named.laid; there = omega (arith, c.requires.named.named.laid.items.nodes, c.requires.named.named.laid.items.edges, c.requires.j_bound) }

pub returns-in-Length : goal.returns-in-Length
returns-in-Length c = λ r w.
    let t = c.types-kinds.ensures r w.laid in
    let l = c.pattern-p.ensures r w.laid in
    let k = c.shape-c.ensures.1 r (sym t) _ l in
    said-length w c.requires.j_bound k t _ (c.sort_of.ensures _ l) c.in-Length.is

pub returns-in-Constant : goal.returns-in-Constant
returns-in-Constant c = λ r w.
    let t = c.types-kinds.ensures r w.laid in
    let l = c.pattern-p.ensures r w.laid in
    let k = c.shape-c.ensures.1 r (sym t) _ l in
    said-constant w c.requires.j_bound k t _ (c.sort_of.ensures _ l) c.in-Constant.is

pub returns-in-Elements : goal.returns-in-Elements
returns-in-Elements c = λ r w.
    let t = c.types-kinds.ensures r w.laid in
    let l = c.pattern-p.ensures r w.laid in
    let k = c.shape-c.ensures.1 r (sym t) _ l in
    said-elements w c.requires.j_bound k
