-- The published table has no number too many, for either core: each of its numbers is answered on something that can be lent, by every
-- interpreter that meets the demands at the core's layout. Rests on OneOutcome and Cases.
use Rattle.std.specs.Prelude.{ℕ, List, [], ◌∷◌, ◌++◌, replicate}
use Rattle.meaning.specs.Tags.{constant_tag, sum_tag, call_tag}
use Rattle.meaning.specs.Calls.{Lent, LentUndo}
use Rattle.meaning.specs.ProvedSet.{field_bytes, rule_field, node_field, skip_field}

-- What is lent, in the order of the table.

abbrev pub eight : List ℕ
eight = replicate 8 0

-- a node's label becomes 2147483647 + 1
abbrev pub overflows : List ℕ
overflows =
    rule_field [] (node_field 0 [])
    (node_field 0 (field_bytes sum_tag (field_bytes constant_tag (127 ∷ 255 ∷ 255 ∷ 255 ∷ []) ++ field_bytes constant_tag (0 ∷ 0 ∷ 0 ∷ 1 ∷ []))))
    1

-- a call of procedure 0
abbrev pub call_field : List ℕ
call_field = field_bytes call_tag (0 ∷ [])

-- skip, with tables, journal, fuel and report
abbrev pub buffers : List ℕ → List ℕ → List ℕ → ℕ → List ℕ → Lent
buffers nodes edges journal fuel report =
    record { nodes = nodes; edges = edges; journal = journal; image = skip_field; fuel = fuel; report = report }

abbrev pub lent_undo : List ℕ → List ℕ → List ℕ → ℕ → List ℕ → LentUndo
lent_undo nodes edges journal count report = record { nodes = nodes; edges = edges; journal = journal; count = count; report = report }

abbrev pub undo_samples : List LentUndo
undo_samples =
    lent_undo [] [] [] 0 eight
    ∷ lent_undo [] [] [] 0 (0 ∷ [])
    ∷ lent_undo (0 ∷ []) [] [] 0 eight
    ∷ lent_undo [] (0 ∷ []) [] 0 eight
    ∷ lent_undo [] [] (0 ∷ []) 0 eight
    -- a record that isn't there
    ∷ lent_undo [] [] [] 1 eight
    ∷ []
