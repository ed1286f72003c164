-- A table that is written slot by slot from the front. Rests on laws' Filling, on specs/Tables and Slots.
use mathlib.Core.Path.{◌≡◌, sym, ◌∙◌, ap}
use mathlib.Core.List.{List, map}
use Prim.Native.Nat.{ℕ, ◌+◌, ◌-◌, ◌*◌, ◌/◌, ◌<◌, ◌≤◌}
use native.Mathlib.Nat.{mul-div_cancel}
use native.Mathlib.Numerals.{add-one}
use native.Mathlib.Omega.{arith}
use lib.ListN.{length, get_or, length-map}
use Rattle.meaning.specs.Layout.{Slot, free, live}
use Rattle.meaning.specs.declared.Layout.{Layout}
use Rattle.meaning.specs.declared.Table.{Table}
use Rattle.meaning.specs.declared.Table.TheVariants.{Nodes, Edges}
use Rattle.laws.specs.Pieces.{stored}
use Rattle.laws.specs.Filling.{front_written, front-none, front-all, front-next}
use Rattle.laws.specs.Resized.{free-behind}
use Rattle.host.specs.Tables.{slot_length}
use Rattle.text.specs.Text.{filled}
use Rattle.text.proofs.Closing.{length-filled}
use Rattle.importing.specs.Names.{names_at}
use Rattle.importing.specs.Tables.{HeldIn, held_of, write_slot, slot_of, table_of, Items}
use Rattle.importing.proofs.Slots.{slot-length}

-- the table has the slot
pub has-slot : (L : Layout) (t : Table) (n length : ℕ) → length ≡ n * slot_length L t → (x : ℕ) → x < n → x < length / slot_length L t
has-slot L Nodes n length e x h = let p : 0 < slot_length L Nodes = omega arith in rw (e, mul-div_cancel n p) h
has-slot L Edges n length e x h = let p : 0 < slot_length L Edges = omega arith in rw (e, mul-div_cancel n p) h

module _ (L : Layout) (bs node_places : List ℕ) (t : Table) (ps : List ℕ) (n : ℕ) (to : List ℕ) (w : Items L bs t ps) where
  abbrev names : List (List ℕ)
  names = names_at bs node_places

  abbrev slots : List (Slot (HeldIn t))
  slots = filled n (map (held_of names t) w.items)

  -- so many slots are written, of n
  abbrev pub so_far : ℕ → List ℕ
  so_far = front_written (slot_length L t) (write_slot L t) slots to

  pub so_far-none : to ≡ so_far 0
  so_far-none = sym (front-none (slot_length L t) (write_slot L t) slots to)

  module _ (room : length ps ≤ n) where
    count : length slots ≡ n
    count = length-filled n (map (held_of names t) w.items) (rw length-map (omega (arith, w.listed.count)))

    slot_at : (x : ℕ) → slot_of L names t w.items x ≡ write_slot L t (get_or slots x free)
    unfolding filled
    slot_at x = ap (write_slot L t) (sym (free-behind (map live (map (held_of names t) w.items)) (n - length (map (held_of names t) w.items)) x))

    pub so_far-all : length to ≡ n * slot_length L t → so_far n ≡ table_of L names t w.items n
    so_far-all size =
        ap so_far (sym count) ∙ front-all (slot_length L t) (write_slot L t) slots to (size ∙ ap (λ m. m * slot_length L t) (sym count))

    -- one slot more, stored in what was so far
    pub so_far_more : (x : ℕ) → x < n → (out out' : List ℕ) → out ≡ so_far x → out' ≡ stored (slot_length L t) x (slot_of L names t w.items x) out
        → out' ≡ so_far (x + 1)
    so_far_more x h out out' e q =
        rw (add-one x)
        (q
        ∙ ap (stored (slot_length L t) x (slot_of L names t w.items x)) e
        ∙ ap (λ b. stored (slot_length L t) x b (so_far x)) (slot_at x)
        ∙ front-next (slot_length L t) (write_slot L t) slots to
        (λ i j. ap length (sym (slot_at i)) ∙ slot-length L names t w.items w.fit i)
        x (omega (arith, count)))
