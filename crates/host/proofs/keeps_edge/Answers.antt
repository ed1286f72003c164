-- `keeps_edge` meets its contract, clause by clause.
use Rattle.std.proofs.Common.{◌≡◌, refl, ◌∙◌, ap, eqb, get_or, drop}
use Rattle.meaning.specs.Basics.{both, zeros}
use Rattle.meaning.specs.Layout.{is_edge_mark, live_at, read_nodes, mark_place, root_place, edge_atoms}
use Rattle.slots.specs.Slots.{label_end}
use Rattle.host.proofs.Keeps.{and-then, and-else, source-live, target-live, edge-clauses}
use Rattle.host.proofs.keeps_edge.Goals as goal
use Rattle.host.proofs.keeps_edge.Goals.{then-is_edge_mark, else-is_edge_mark, then-root-eq0, else-root-eq0, then-is_end, else-is_end}

pub returns-then-is_end-2 : goal.returns-then-is_end-2
returns-then-is_end-2 c =
    let l = c.args.l in
    let b = c.args.b.now in
    let ns = read_nodes l c.args.nodes.now in
    let rest = zeros (drop (label_end (edge_atoms l) b) b) in
    let mark = c.is_edge_mark.ensures ∙ ap is_edge_mark c.mark.ensures in
    let root : c.if-is_edge_mark.value ≡ both (is_edge_mark (get_or b mark_place 0)) (eqb (get_or b root_place 0) 0) =
    rw (← mark) (elim c.if-is_edge_mark.branch [
      | then-is_edge_mark w ↦ and-then w.if-is_edge_mark.true (w.value-is ∙ ap (λ k. eqb k 0) w.root.ensures)
      | else-is_edge_mark w ↦ and-else _ w.if-is_edge_mark.false w.value-is
    ]) in
    let source : c.if-root-eq0.value ≡ both c.if-is_edge_mark.value (source-live l ns b) = elim c.if-root-eq0.branch [
      | then-root-eq0 w ↦ and-then w.if-root-eq0.true (w.value-is ∙ w.is_end.ensures ∙ ap (live_at ns) w.source.ensures)
      | else-root-eq0 w ↦ and-else _ w.if-root-eq0.false w.value-is
    ] in
    let target : c.if-is_end.value ≡ both c.if-root-eq0.value (target-live l ns b) = elim c.if-is_end.branch [
      | then-is_end w ↦ and-then w.if-is_end.true (w.value-is ∙ w.is_end-then-is_end.ensures ∙ ap (live_at ns) w.target.ensures)
      | else-is_end w ↦ and-else _ w.if-is_end.false w.value-is
    ] in
    and-then c.if-is_end-2.true (rw c.edge_atoms.ensures at c.zeros_behind.ensures)
    ∙ ap (λ v. both v rest) (target ∙ ap (λ v. both v (target-live l ns b)) (source ∙ ap (λ v. both v (source-live l ns b)) root))
    ∙ edge-clauses l ns b c.requires.b_len.1

pub returns-else-is_end-2 : goal.returns-else-is_end-2
returns-else-is_end-2 c =
    let l = c.args.l in
    let b = c.args.b.now in
    let ns = read_nodes l c.args.nodes.now in
    let rest = zeros (drop (label_end (edge_atoms l) b) b) in
    let mark = c.is_edge_mark.ensures ∙ ap is_edge_mark c.mark.ensures in
    let root : c.if-is_edge_mark.value ≡ both (is_edge_mark (get_or b mark_place 0)) (eqb (get_or b root_place 0) 0) =
    rw (← mark) (elim c.if-is_edge_mark.branch [
      | then-is_edge_mark w ↦ and-then w.if-is_edge_mark.true (w.value-is ∙ ap (λ k. eqb k 0) w.root.ensures)
      | else-is_edge_mark w ↦ and-else _ w.if-is_edge_mark.false w.value-is
    ]) in
    let source : c.if-root-eq0.value ≡ both c.if-is_edge_mark.value (source-live l ns b) = elim c.if-root-eq0.branch [
      | then-root-eq0 w ↦ and-then w.if-root-eq0.true (w.value-is ∙ w.is_end.ensures ∙ ap (live_at ns) w.source.ensures)
      | else-root-eq0 w ↦ and-else _ w.if-root-eq0.false w.value-is
    ] in
    let target : c.if-is_end.value ≡ both c.if-root-eq0.value (target-live l ns b) = elim c.if-is_end.branch [
      | then-is_end w ↦ and-then w.if-is_end.true (w.value-is ∙ w.is_end-then-is_end.ensures ∙ ap (live_at ns) w.target.ensures)
      | else-is_end w ↦ and-else _ w.if-is_end.false w.value-is
    ] in
    and-else rest c.if-is_end-2.false refl
    ∙ ap (λ v. both v rest) (target ∙ ap (λ v. both v (target-live l ns b)) (source ∙ ap (λ v. both v (source-live l ns b)) root))
    ∙ edge-clauses l ns b c.requires.b_len.1
