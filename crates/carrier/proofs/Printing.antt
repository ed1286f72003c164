-- What is printed, one writer after the other; and the lengths of the tables that are carried to. Rests on Carried, Rooms and
-- writing's Laws/Rows.
use mathlib.Core.Path.{◌≡◌, ap}
use mathlib.Core.List.{List, [], ◌∷◌}
use Prim.Native.Nat.{ℕ, ◌+◌, ◌≤◌}
use native.Mathlib.Omega.{arith}
use lib.ListN.{length, replicate}
use Rattle.meaning.specs.Numbers.{bytes}
use Rattle.meaning.specs.Carrying.{Carried, Carries, lending_tables, carry}
use Rattle.meaning.specs.ProvedSet.{field_bytes}
use Rattle.meaning.specs.declared.Layout.{Layout}
use Rattle.meaning.specs.declared.Manner.TheVariants.{Exact}
use Rattle.meaning.specs.Laws.Tests.{choose_eq, choose_ne}
use Rattle.laws.specs.Numbers.{length-bytes}
use Rattle.run_input.specs.Input.{nodes_tag, edges_tag, most_input}
use Rattle.writing.specs.Words.{letters, line_feed, space, decimal, number_size}
use Rattle.writing.specs.Lines.{onward, line}
use Rattle.writing.specs.Text.{Adds, Lists}
use Rattle.writing.specs.Laws.Rows.{within, saying, then, lists}
use Rattle.carrier.specs.Carried.{table_fields, length_for, carried_text, carried_tables}
use Rattle.carrier.specs.Rooms.{field_size, InputOf, Between}

-- Texts.

module _ {b0 b1 b2 b3 : List ℕ} {p1 p2 p3 : ℕ} where
  pub field-said : (tag : ℕ) (size payload : List ℕ) {at : ℕ} → size ≡ bytes 2 (length payload)
      → Adds 1 (tag ∷ []) b0 at b1 p1
      → Adds (length size) size b1 p1 b2 p2
      → Adds (length payload) payload b2 p2 b3 p3
      → Adds (field_size (length payload)) (field_bytes tag payload) b0 at b3 p3
  field-said tag size payload e a b c =
      let two : length size ≤ 2 = omega (arith, ap length e, length-bytes 2 (length payload)) in
      within (1 + (2 + length payload)) (field_size (length payload)) (omega arith)
      (then a (then (saying size (bytes 2 (length payload)) e (within (length size) 2 two b)) c))

  pub refused-listed : (answer : ℕ)
      → Adds 7 (letters "refused") b0 0 b1 p1
      → Adds number_size (space ∷ decimal answer) b1 p1 b2 p2
      → Adds 1 (line_feed ∷ []) b2 p2 b3 p3
      → most_input ≤ length b3
      → Lists (line (letters "refused") (decimal answer ∷ [])) b0 b3 p3
  unfolding onward
  refused-listed answer a b c h = lists _ (7 + (number_size + 1)) (then a (then b c)) (omega arith)

pub tables-listed : (nodes edges : List ℕ) {b0 b1 b2 : List ℕ} {p1 p2 : ℕ} → InputOf (length nodes) (length edges) → most_input ≤ length b2
    → Adds (field_size (length nodes)) (field_bytes nodes_tag nodes) b0 0 b1 p1
    → Adds (field_size (length edges)) (field_bytes edges_tag edges) b1 p1 b2 p2
    → Lists (table_fields nodes edges) b0 b2 p2
tables-listed nodes edges i h a b = lists (table_fields nodes edges) (field_size (length nodes) + field_size (length edges)) (then a b) (omega arith)

-- What comes of a carrying.

module _ (c : Carried) (number answer : ℕ) (nodes edges : List ℕ) {before after : List ℕ} {end : ℕ} (e : number ≡ answer)
    (w : Carries c answer nodes edges)
  where
    pub carried-listed : number ≡ 0 → Lists (table_fields nodes edges) before after end → Lists (carried_text c) before after end
    unfolding carried_text
    carried-listed z l = rw (← w.numbered, ← e, choose_eq number 0 _ _ z, ← w.nodes_returned, ← w.edges_returned) l

    pub not_carried : (number ≡ 0 → ⊥) → Lists (line (letters "refused") (decimal number ∷ [])) before after end
        → Lists (carried_text c) before after end
    unfolding carried_text
    not_carried z l = rw (← w.numbered, ← e, choose_ne number 0 _ _ z) l

-- the tables of zeros have the lengths that the definition says
pub tables-carried : (L M : Layout) (nodes edges n m : List ℕ) {before after : List ℕ} {end : ℕ} → Between L M
    → length n ≡ length_for L.node nodes M.node M.nodes → length m ≡ length_for L.edge edges M.edge M.edges
    → Lists (carried_text (carry Exact L M (lending_tables nodes edges (replicate (length n) 0) (replicate (length m) 0)))) before after end
    → Lists (carried_text (carried_tables L M nodes edges)) before after end
unfolding carried_tables
tables-carried L M nodes edges n m b i j l =
    rw (← b.from.node, ← b.from.edge, ← b.to.node, ← b.to.edge, ← i, ← j) l
