-- Interpreters with a worthless undo at document 01's layout, each with the demand that it does not meet: one that empties every buffer
-- where the tables break the layout, which no run leaves; one that stores the records back from first to last; one that leaves the
-- journal. Rests on Cases.
use Rattle.std.specs.Prelude.{ℕ, not, List, [], ◌∷◌, ◌++◌, map, replicate, eqb}
use Rattle.meaning.specs.Basics.{choose, both, concat, padded}
use Rattle.meaning.specs.Layout.{base, Tables, undone, node_length, edge_length, record_length, cut, read_record, keeps_layout}
use Rattle.meaning.specs.Calls.{LentUndo, counted}
use Rattle.demands.specs.Demands.{Outcome, Interpreter}
use Rattle.demands.specs.Ours.{ours}

-- an interpreter that has our run
abbrev pub undoing : (LentUndo → Outcome) → Interpreter
undoing f = record { run = (ours base).run; undo = f }

-- One that empties all buffers where no run has left the tables, at one free slot that isn't all zero, with nothing to store back.

abbrev pub empties_rest : Interpreter
empties_rest =
    undoing
    (λ y.
    let o : Outcome = (ours base).undo y in
    choose (both (not (keeps_layout base y.nodes y.edges)) (eqb o.answer 0))
    (record { answer = 0; nodes = []; edges = []; journal = []; report = [] }) o)

abbrev pub broken : LentUndo
broken = record { nodes = padded (node_length base) (0 ∷ 1 ∷ []); edges = []; journal = []; count = 0; report = replicate 8 7 }

-- One that stores back from first to last, at a slot that was free, then live, and is free.

abbrev pub twice : LentUndo
twice =
    record {
      nodes = padded (node_length base) [];
      edges = [];
      journal = padded (record_length base) (1 ∷ []) ++ padded (record_length base) (1 ∷ 0 ∷ 0 ∷ 0 ∷ 1 ∷ []);
      count = 2;
      report = replicate 8 7;
    }

abbrev pub first_to_last : Interpreter
first_to_last =
    undoing
    (λ y.
    let o : Outcome = (ours base).undo y in
    let t : Tables (List ℕ) (List ℕ) =
    undone (map (read_record base) (counted base y.count y.journal))
    (record { nodes = cut (node_length base) y.nodes; edges = cut (edge_length base) y.edges }) in
    record { answer = o.answer; nodes = concat t.nodes; edges = concat t.edges; journal = o.journal; report = o.report })

-- One that leaves the journal, at the same.

abbrev pub keeps_journal : Interpreter
keeps_journal =
    undoing
    (λ y.
    let o : Outcome = (ours base).undo y in
    record { answer = o.answer; nodes = o.nodes; edges = o.edges; journal = y.journal; report = o.report })
