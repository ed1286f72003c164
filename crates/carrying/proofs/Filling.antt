-- A table that is filled slot by slot from the front. Rests on laws' Filling, on specs/Tables, Labels and Slots.
use mathlib.Core.Path.{◌≡◌, sym, ◌∙◌, ap}
use mathlib.Core.Bool.{true}
use mathlib.Core.List.{List, map}
use Prim.Native.Nat.{ℕ, suc, ◌+◌, ◌*◌, ◌/◌, ◌<◌, ◌≤◌}
use native.Mathlib.Nat.{mul-div_cancel}
use native.Mathlib.Numerals.{add-one}
use native.Mathlib.Omega.{arith}
use lib.ListN.{length, get_or}
use Rattle.meaning.specs.Basics.{concat}
use Rattle.meaning.specs.Layout.{Slot, free, write_node, write_edge, read_nodes, read_edges, node_length, edge_length}
use Rattle.meaning.specs.Carrying.{resized}
use Rattle.laws.specs.Pieces.{stored}
use Rattle.laws.specs.Filling.{front_written, front-none, front-all, front-next, front_kept}
use Rattle.laws.specs.Resized.{length-resized, resized-at}
use Rattle.meaning.specs.declared.Layout.{Layout}
use Rattle.meaning.specs.declared.Table.{Table}
use Rattle.meaning.specs.declared.Table.TheVariants.{Nodes, Edges}
use Rattle.host.specs.Tables.{slot_length}
use Rattle.carrying.specs.Tables.{labels_fit_in, slot_carried, table_carried}
use Rattle.carrying.proofs.Labels.{fit_at}
use Rattle.carrying.proofs.Slots.{node-length, edge-length}

module _ (L M : Layout) (nodes edges : List ℕ) (n : ℕ) (to : List ℕ) where
  -- so many slots of a table are carried, of n
  abbrev pub so_far : Table → ℕ → List ℕ
  so_far Nodes = front_written (node_length M) (write_node M) (resized n (read_nodes L nodes)) to
  so_far Edges = front_written (edge_length M) (write_edge M) (resized n (read_edges L edges)) to

  pub so_far-none : (t : Table) → so_far t 0 ≡ to
  so_far-none Nodes = front-none (node_length M) (write_node M) (resized n (read_nodes L nodes)) to
  so_far-none Edges = front-none (edge_length M) (write_edge M) (resized n (read_edges L edges)) to

  module _ (t : Table) (size : length to ≡ n * slot_length M t) where
    pub so_far-all : so_far t n ≡ table_carried L M nodes edges t n
    so_far-all = at t size
      where
        all : {A : Type 0} (w : ℕ) (write : Slot A → List ℕ) (l : List (Slot A)) → length to ≡ n * w
            → front_written w write (resized n l) to n ≡ concat (map write (resized n l))
        all w write l s =
            let e = length-resized n l in
            ap (front_written w write (resized n l) to) (sym e) ∙ front-all w write (resized n l) to (s ∙ ap (λ (m : ℕ). m * w) (sym e))

        at : (t : Table) → length to ≡ n * slot_length M t → so_far t n ≡ table_carried L M nodes edges t n
        at Nodes s = all (node_length M) (write_node M) (read_nodes L nodes) s
        at Edges s = all (edge_length M) (write_edge M) (read_edges L edges) s

    module _ (fit : labels_fit_in L nodes edges t M.atoms ≡ true) where
      so_far-length : (x : ℕ) → x ≤ n → length (so_far t x) ≡ length to
      so_far-length x h = at t size fit ∙ sym size
        where
          long : {A : Type 0} (w : ℕ) (write : Slot A → List ℕ) (l : List (Slot A)) → length to ≡ n * w
              → ((i : ℕ) → length (write (get_or l i free)) ≡ w) → length (front_written w write (resized n l) to x) ≡ n * w
          long w write l s k =
              let e = length-resized n l in
              front_kept w write (resized n l) to (λ i j. rw (resized-at n l i (omega (arith, e))) (k i)) x (omega (arith, e))
              (s ∙ ap (λ (m : ℕ). m * w) (sym e))
              ∙ ap (λ (m : ℕ). m * w) e

          at : (t : Table) → length to ≡ n * slot_length M t → labels_fit_in L nodes edges t M.atoms ≡ true
              → length (so_far t x) ≡ n * slot_length M t
          at Nodes s f = long _ _ (read_nodes L nodes) s (λ i. node-length M _ (fit_at L nodes edges M.atoms Nodes f i))
          at Edges s f = long _ _ (read_edges L edges) s (λ i. edge-length M _ (fit_at L nodes edges M.atoms Edges f i))

      module _ (x : ℕ) (h : x < n) where
        so_far-next : stored (slot_length M t) x (slot_carried L M nodes edges t x) (so_far t x) ≡ so_far t (x + 1)
        so_far-next = rw (add-one x) (at t fit)
          where
            next : {A : Type 0} (w : ℕ) (write : Slot A → List ℕ) (l : List (Slot A)) → ((i : ℕ) → length (write (get_or l i free)) ≡ w)
                → stored w x (write (get_or l x free)) (front_written w write (resized n l) to x) ≡ front_written w write (resized n l) to (suc x)
            next {A} w write l k =
                let e = length-resized n l in
                ap (λ (s : Slot A). stored w x (write s) (front_written w write (resized n l) to x)) (sym (resized-at n l x h))
                ∙ front-next w write (resized n l) to (λ i j. rw (resized-at n l i (omega (arith, e))) (k i)) x (omega (arith, e))

            at : (t : Table) → labels_fit_in L nodes edges t M.atoms ≡ true
                → stored (slot_length M t) x (slot_carried L M nodes edges t x) (so_far t x) ≡ so_far t (suc x)
            at Nodes f = next _ _ (read_nodes L nodes) (λ i. node-length M _ (fit_at L nodes edges M.atoms Nodes f i))
            at Edges f = next _ _ (read_edges L edges) (λ i. edge-length M _ (fit_at L nodes edges M.atoms Edges f i))

        -- one slot more, stored in what was so far
        pub so_far_more : (out out' : List ℕ) → out ≡ so_far t x → out' ≡ stored (slot_length M t) x (slot_carried L M nodes edges t x) out
            → (length out' ≡ length to) × (out' ≡ so_far t (x + 1))
        so_far_more out out' e q =
            let i : out' ≡ so_far t (x + 1) = q ∙ ap (stored (slot_length M t) x (slot_carried L M nodes edges t x)) e ∙ so_far-next in
            (ap length i ∙ so_far-length (x + 1) (omega arith), i)

        -- the table has the slot
        pub so_far-room : x < length to / slot_length M t
        so_far-room = at t size
          where
            room : (w : ℕ) → 0 < w → length to ≡ n * w → x < length to / w
            room w p e = rw (e, mul-div_cancel n p) h

            at : (t : Table) → length to ≡ n * slot_length M t → x < length to / slot_length M t
            at Nodes s = room (node_length M) (omega arith) s
            at Edges s = room (edge_length M) (omega arith) s
