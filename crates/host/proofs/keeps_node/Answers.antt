-- `keeps_node` meets its contract, clause by clause.
use Rattle.std.proofs.Common.{◌≡◌, refl, ◌∙◌, ap, leb, get_or, drop}
use Rattle.std.proofs.lemmas.Bool.{le-leb, lt-leb}
use Rattle.meaning.specs.Basics.{both, zeros}
use Rattle.meaning.specs.Layout.{mark_place, root_place, head_length}
use Rattle.slots.specs.Slots.{label_end}
use Rattle.host.proofs.Keeps.{and-then, and-else, node-clauses}
use Rattle.host.proofs.keeps_node.Goals as goal
use Rattle.host.proofs.keeps_node.Goals.{then-mark-le-GREY, else-mark-le-GREY}

pub returns-then-root-le1 : goal.returns-then-root-le1
returns-then-root-le1 c =
    let b = c.args.b.now in
    let rest = zeros (drop (label_end head_length b) b) in
    let head : c.if-mark-le-GREY.value ≡ both (leb (get_or b mark_place 0) 4) (leb (get_or b root_place 0) 1) =
    rw (← c.mark.ensures) (elim c.if-mark-le-GREY.branch [
      | then-mark-le-GREY w ↦ and-then (le-leb c.mark.result 4 w.if-mark-le-GREY.true) (w.value-is ∙ ap (λ k. leb k 1) w.root.ensures)
      | else-mark-le-GREY w ↦ and-else _ (lt-leb c.mark.result 4 w.if-mark-le-GREY.false) w.value-is
    ]) in
    and-then c.if-root-le1.true c.zeros_behind.ensures ∙ ap (λ v. both v rest) head ∙ node-clauses c.args.l b c.requires.b_len.1

pub returns-else-root-le1 : goal.returns-else-root-le1
returns-else-root-le1 c =
    let b = c.args.b.now in
    let rest = zeros (drop (label_end head_length b) b) in
    let head : c.if-mark-le-GREY.value ≡ both (leb (get_or b mark_place 0) 4) (leb (get_or b root_place 0) 1) =
    rw (← c.mark.ensures) (elim c.if-mark-le-GREY.branch [
      | then-mark-le-GREY w ↦ and-then (le-leb c.mark.result 4 w.if-mark-le-GREY.true) (w.value-is ∙ ap (λ k. leb k 1) w.root.ensures)
      | else-mark-le-GREY w ↦ and-else _ (lt-leb c.mark.result 4 w.if-mark-le-GREY.false) w.value-is
    ]) in
    and-else rest c.if-root-le1.false refl ∙ ap (λ v. both v rest) head ∙ node-clauses c.args.l b c.requires.b_len.1
