-- What is printed of tables that are carried is read as the carried tables; carried back, it is the fields of the tables that were read.
-- Rests on Carried, Rooms, Laws, laws' Carrying and layouts' Carried.
use Rattle.std.specs.Prelude.{◌≡◌, List, ℕ, ◌*◌, ◌/◌, ◌^◌, ◌≤◌, min, length, replicate}
use Rattle.std.proofs.Common.{sym, ◌∙◌, mul-le-mul_right, arith}
use Rattle.std.proofs.Math.Path.{ap}
use Rattle.std.proofs.Math.Option.{some}
use Rattle.std.proofs.Math.Nat.{min-le_right}
use Rattle.std.proofs.lemmas.List.{length-replicate}
use Rattle.meaning.specs.Basics.{choose}
use Rattle.meaning.specs.Layout.{base, four, node_length, edge_length}
use Rattle.meaning.specs.Calls.{answer_number}
use Rattle.meaning.specs.Carrying.{LentTables, Carried, lending_tables}
use Rattle.meaning.specs.declared.Layout.{Layout}
use Rattle.meaning.specs.declared.Manner.TheVariants.{Exact}
use Rattle.meaning.specs.declared.Answer.TheVariants.{Result}
use Rattle.laws.specs.Numbers.{Bytes}
use Rattle.laws.specs.Pieces.{fits-length, fits_whole}
use Rattle.laws.specs.Carrying.{counts_same, LengthsAgree, Taken, taken}
use Rattle.laws.specs.Undoing.{base-numbered, four-numbered}
use Rattle.layouts.specs.Carried.{arriving, Kept}
use Rattle.layouts.proofs.Carried.{result-taken, carry-kept, carry_back}
use Rattle.carrier.specs.Carried.{tables_in, table_fields, length_for, carried_text, carried_tables, printed, carried_input}
use Rattle.carrier.specs.Rooms.{InputOf, Between}
use Rattle.carrier.specs.Laws.{widening, narrowing, tables-again}

-- a table that was carried is no longer than the largest of its layout
length-least : (n most v size : ℕ) (there : List ℕ) → length there ≡ length (replicate {A = ℕ} (min n most * v) 0) → size ≡ v
    → length there ≤ most * size
length-least n most v size there e s = rw (e, length-replicate {A = ℕ} (min n most * v) 0, s) (mul-le-mul_right v (min-le_right n most))

-- a table that came back is as long as the one that was carried
length_back : (w most : ℕ) (table : List ℕ) (v most' : ℕ) (to there : List ℕ) → LengthsAgree Exact w most table v most' to → length there ≡ length to
    → length_for v there w most ≡ length table
length_back w most table v most' to there s e =
    let n : length there / v ≡ length table / w = ap (λ (k : ℕ). k / v) e ∙ sym (counts_same _ _ s.counts) in
    let few : min (length table / w) most ≡ length table / w = omega (arith, (fits-length w most table s.from).1) in
    rw (n, few) (fits_whole w most table s.from)

module _ (L M : Layout) (b : Between L M) (numbered : M.nodes ≤ 256 ^ M.width) (nodes edges : List ℕ) (hn : Bytes nodes) (he : Bytes edges)
    (r : (carried_tables L M nodes edges).answer ≡ Result)
  where
    abbrev lent : LentTables
    lent =
        lending_tables nodes edges (replicate (length_for (node_length L) nodes (node_length M) M.nodes) 0)
        (replicate (length_for (edge_length L) edges (edge_length M) M.edges) 0)

    abbrev there : Carried
    there = carried_tables L M nodes edges

    kept : Kept Exact L M lent there
    unfolding carried_tables
    kept = carry-kept Exact L M numbered lent hn he r

    its : Taken Exact L M lent
    unfolding carried_tables
    its = taken Exact L M lent (result-taken Exact L M lent r)

    room : InputOf (length there.nodes) (length there.edges)
    room =
        let n = length-least (length nodes / node_length L) M.nodes (node_length M) M.node there.nodes kept.nodes_length b.to.node in
        let m = length-least (length edges / edge_length L) M.edges (edge_length M) M.edge there.edges kept.edges_length b.to.edge in
        omega (arith, n, m, b.room)

    back : carried_tables M L there.nodes there.edges ≡ arriving nodes edges
    unfolding carried_tables
    back =
        carry_back Exact L M numbered lent hn he r _ _
        (length-replicate _ 0 ∙ length_back _ _ nodes _ _ lent.to_nodes there.nodes its.nodes kept.nodes_length)
        (length-replicate _ 0 ∙ length_back _ _ edges _ _ lent.to_edges there.edges its.edges kept.edges_length)

    back-printed : printed M L (some (record { nodes = there.nodes; edges = there.edges })) ≡ table_fields nodes edges
    unfolding printed carried_text answer_number choose
    back-printed = rw back

    module _ (bs : List ℕ) (q : tables_in bs ≡ some (record { nodes = nodes; edges = edges })) where
      carried-printed : carried_input L M bs ≡ table_fields there.nodes there.edges
      unfolding carried_input printed carried_text answer_number choose
      carried-printed = rw (q, r)

      pub carried-again : tables_in (carried_input L M bs) ≡ some (record { nodes = there.nodes; edges = there.edges })
      carried-again = ap tables_in carried-printed ∙ tables-again there.nodes there.edges room

      pub carried-back : carried_input M L (carried_input L M bs) ≡ table_fields nodes edges
      unfolding carried_input
      carried-back = ap (printed M L) carried-again ∙ back-printed

-- `narrow` prints of what `widen` printed the tables that were widened, and `widen` of what `narrow` printed those that were narrowed.

module _ (nodes edges : List ℕ) (hn : Bytes nodes) (he : Bytes edges) (bs : List ℕ) (q : tables_in bs ≡ some (record { nodes = nodes; edges = edges })) where
  pub widened-back : (carried_tables four base nodes edges).answer ≡ Result → carried_input base four (carried_input four base bs) ≡ table_fields nodes edges
  widened-back r = carried-back four base widening base-numbered.nodes nodes edges hn he r bs q

  pub narrowed-back : (carried_tables base four nodes edges).answer ≡ Result → carried_input four base (carried_input base four bs) ≡ table_fields nodes edges
  narrowed-back r = carried-back base four narrowing four-numbered.nodes nodes edges hn he r bs q
