-- `check_graph` meets its contract: the first check that fails.
use Rattle.answers.specs.Answers.{refusal_of}
use Rattle.importing.proofs.Checks.{other-names, no_room, all-fine}
use Rattle.importing.proofs.check_graph.Goals as goal

pub returns-then-not-names_pass : goal.returns-then-not-names_pass
unfolding refusal_of
returns-then-not-names_pass c =
    let a = c.args in
    other-names a.l a.text.now a.node_places.now a.edge_places.now a.g c.requires a.node_slots a.edge_slots _ (c.names_pass.ensures c.requires) c.if-not-names_pass.true

pub returns-then-not-has_room : goal.returns-then-not-has_room
unfolding refusal_of
returns-then-not-has_room c =
    let a = c.args in
    no_room a.l a.text.now a.node_places.now a.edge_places.now a.g c.requires a.node_slots a.edge_slots _ (c.names_pass.ensures c.requires) c.if-not-names_pass.false _ c.has_room.ensures c.if-not-has_room.true

pub returns : goal.returns
unfolding refusal_of
returns c =
    let a = c.args in
    all-fine a.l a.text.now a.node_places.now a.edge_places.now a.g c.requires a.node_slots a.edge_slots _ (c.names_pass.ensures c.requires) c.if-not-names_pass.false _ c.has_room.ensures c.if-not-has_room.false
