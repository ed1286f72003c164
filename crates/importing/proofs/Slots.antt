-- One slot of a table: the item of its number, or nothing, and how many bytes are written of either. Rests on specs/Tables, Places and the
-- laws' Layout.
use mathlib.Core.Path.{◌≡◌, sym, ◌∙◌, ap}
use mathlib.Core.Bool.{true}
use mathlib.Core.List.{List, [], map}
use Prim.Native.Nat.{ℕ, ◌<◌, ◌≤◌}
use native.Mathlib.Nat.{sub-zero}
use native.Mathlib.Decide.{dec_lt}
use native.Mathlib.Omega.{arith}
use borrow.Author.Tests.{leb-true}
use lib.ListN.{length, get_or, replicate, length-append, length-map, get_or-eq_default}
use Rattle.meaning.specs.Basics.{every}
use Rattle.meaning.specs.Layout.{free, live, node_length, edge_length, node_bytes, edge_bytes}
use Rattle.meaning.specs.Laws.Tests.{every_true, clauses-true}
use Rattle.meaning.specs.declared.Layout.{Layout}
use Rattle.meaning.specs.declared.Table.{Table}
use Rattle.meaning.specs.declared.Table.TheVariants.{Nodes, Edges}
use Rattle.laws.specs.Numbers.{length-bytes}
use Rattle.laws.specs.Pieces.{get_or-map_in}
use Rattle.laws.specs.Layout.{length-padded, length-atom_bytes}
use Rattle.host.specs.Tables.{slot_length}
use Rattle.text.specs.Integers.{atom}
use Rattle.text.specs.Text.{to_node, to_edge, label_fits}
use Rattle.items.specs.Items.{ItemOf, fits_in, label_of}
use Rattle.importing.specs.Tables.{held_of, write_slot, slot_of, Item, Items}
use Rattle.importing.proofs.Places.{no_item, listed_at}

module _ (L : Layout) where
  free_bytes : (t : Table) → replicate (slot_length L t) 0 ≡ write_slot L t free
  unfolding node_bytes edge_bytes
  free_bytes Nodes = ap (λ n. replicate n 0) (sym (sub-zero (node_length L)))
  free_bytes Edges = ap (λ n. replicate n 0) (sym (sub-zero (edge_length L)))

  free-length : (t : Table) → length (write_slot L t free) ≡ slot_length L t
  unfolding node_bytes edge_bytes
  free-length Nodes = length-padded (node_length L) [] (omega arith)
  free-length Edges = length-padded (edge_length L) [] (omega arith)

  size : (t : Table) (a : ItemOf t) → fits_in t L.atoms a ≡ true → length (map atom (label_of t a).atoms) ≤ L.atoms
  unfolding label_fits
  size t a e = rw (length-map (label_of t a).atoms atom) (leb-true _ _ (clauses-true _ e 1))

  live-length : (names : List (List ℕ)) (t : Table) (a : ItemOf t) → fits_in t L.atoms a ≡ true
      → length (write_slot L t (live (held_of names t a))) ≡ slot_length L t
  unfolding node_bytes edge_bytes to_node to_edge
  live-length names Nodes a e =
      let h = size Nodes a e in
      length-padded (node_length L) (node_bytes (live (to_node a))) (simp length-atom_bytes (omega arith))
  live-length names Edges a e =
      let h = size Edges a e in
      length-padded (edge_length L) (edge_bytes L (live (to_edge names a))) (simp (length-append, length-bytes, length-atom_bytes) (omega arith))

  module _ (names : List (List ℕ)) (t : Table) (l : List (ItemOf t)) where
    slot-live : (x : ℕ) → x < length l → write_slot L t (live (held_of names t (get_or l x (no_item t)))) ≡ slot_of L names t l x
    slot-live x h =
        let k : x < length (map (held_of names t) l) = rw (length-map l (held_of names t)) h in
        ap (write_slot L t)
        (ap live (sym (get_or-map_in (held_of names t) l x (no_item t) (held_of names t (no_item t)) h))
        ∙ sym (get_or-map_in live (map (held_of names t) l) x (held_of names t (no_item t)) free k))

    slot-none : (x : ℕ) → length l ≤ x → write_slot L t free ≡ slot_of L names t l x
    slot-none x h =
        ap (write_slot L t) (sym (get_or-eq_default (map live (map (held_of names t) l)) free (simp length-map h)))

    -- each slot has its bytes
    pub slot-length : every (fits_in t L.atoms) l ≡ true → (x : ℕ) → length (slot_of L names t l x) ≡ slot_length L t
    slot-length e x = at (dec_lt x (length l))
      where
        at : Dec (x < length l) → length (slot_of L names t l x) ≡ slot_length L t
        at (yes h) =
            ap length (sym (slot-live x h)) ∙ live-length names t (get_or l x (no_item t)) (every_true _ l (no_item t) e x h)
        at (no h) = ap length (sym (slot-none x (omega arith))) ∙ free-length t

  -- Items at places.

  module _ (bs : List ℕ) (t : Table) (ps : List ℕ) (w : Items L bs t ps) (x : ℕ) where
    pub item-at : x < length ps → Item L bs t (get_or ps x 0)
    item-at h = record {
      item = get_or w.items x (no_item t);
      at = listed_at bs t w.items ps w.listed x h;
      fits = every_true _ w.items (no_item t) w.fit x (omega (arith, w.listed.count));
    }

    module _ (names : List (List ℕ)) where
      pub item-bytes : (h : x < length ps) → write_slot L t (live (held_of names t (item-at h).item)) ≡ slot_of L names t w.items x
      unfolding item-at
      item-bytes h = slot-live names t w.items x (omega (arith, w.listed.count))

      pub none-bytes : length ps ≤ x → replicate (slot_length L t) 0 ≡ slot_of L names t w.items x
      none-bytes h = free_bytes t ∙ slot-none names t w.items x (omega (arith, w.listed.count))
