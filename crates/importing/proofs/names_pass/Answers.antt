-- `names_pass` meets its contract: names are asked by the front of the places, or not at all.
use Rattle.importing.proofs.Checks.{many-nodes, many-edges, names-asked}
use Rattle.importing.proofs.names_pass.Goals as goal
use Rattle.importing.proofs.names_pass.Goals.{then-g-l-via-then-g-l, then-g-l-via-else-g-l+then-g-l-2}

pub returns-then-g-l : goal.returns-then-g-l
returns-then-g-l c =
    let a = c.args in
    λ w.
    elim c.then-g-l.branch [
      | then-g-l-via-then-g-l v ↦ many-nodes a.l a.text.now a.node_places.now a.edge_places.now a.g w v.if-g-l.true
      | then-g-l-via-else-g-l+then-g-l-2 v ↦ many-edges a.l a.text.now a.node_places.now a.edge_places.now a.g w v.if-g-l.false v.if-g-l-2.true
    ]

pub returns : goal.returns
returns c =
    let a = c.args in
    λ w. names-asked a.l a.text.now a.node_places.now a.edge_places.now a.g w c.if-g-l.false c.if-g-l-2.false c.names_hold.result c.names_hold.ensures
