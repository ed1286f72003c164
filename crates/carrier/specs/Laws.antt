-- The layouts of `widen` and `narrow`; and the fields of two tables are read as those tables again. Rests on Carried, Rooms and
-- renewing's Written.
use Rattle.std.specs.Prelude.{◌≡◌, refl, List, [], ◌++◌, ℕ, ◌<◌, ◌≤◌, length}
use Rattle.std.proofs.Common.{sym, ◌∙◌, ap, append-nil, arith, le-leb, eq-eqb, length-append}
use Rattle.std.proofs.Math.Option.{some}
use Rattle.meaning.specs.Basics.{is_empty, ensure, ◌>>◌, ◌>>=◌}
use Rattle.meaning.specs.Layout.{base, four}
use Rattle.meaning.specs.Image.{expect}
use Rattle.meaning.specs.ProvedSet.{field_bytes}
use Rattle.laws.specs.Layout.{base-sized, four-sized}
use Rattle.renewing.specs.Written.{field-written, length-field}
use Rattle.run_input.specs.Input.{nodes_tag, edges_tag, most_input}
use Rattle.carrier.specs.Carried.{tables_in, table_fields}
use Rattle.carrier.specs.Rooms.{InputOf, Between}

-- Layouts.

pub widening : Between four base
widening = record { from = four-sized; to = base-sized; few = omega arith; room = omega arith }

pub narrowing : Between base four
narrowing = record { from = base-sized; to = four-sized; few = omega arith; room = omega arith }

-- Reading again.

expect-written : (tag : ℕ) (payload more : List ℕ) → length payload < 65536
    → expect tag (field_bytes tag payload ++ more) ≡ some (record { tag = tag; payload = payload; rest = more })
unfolding expect ensure ◌>>◌ ◌>>=◌
expect-written tag payload more h = rw (field-written tag payload more h, eq-eqb tag tag refl)

-- the fields of two tables that are an input are read as those tables
pub tables-again : (nodes edges : List ℕ) → InputOf (length nodes) (length edges)
    → tables_in (table_fields nodes edges) ≡ some (record { nodes = nodes; edges = edges })
unfolding tables_in is_empty ensure ◌>>◌ ◌>>=◌
tables-again nodes edges i =
    let size : length (table_fields nodes edges) ≤ most_input = omega (arith, length-append (field_bytes nodes_tag nodes) (field_bytes edges_tag edges), length-field nodes_tag nodes, length-field edges_tag edges) in
    let last : expect edges_tag (field_bytes edges_tag edges) ≡ some (record { tag = edges_tag; payload = edges; rest = [] }) = ap (expect edges_tag) (sym (append-nil (field_bytes edges_tag edges))) ∙ expect-written edges_tag edges [] (omega arith) in
    rw (le-leb (length (table_fields nodes edges)) most_input size, expect-written nodes_tag nodes (field_bytes edges_tag edges) (omega arith), last)
