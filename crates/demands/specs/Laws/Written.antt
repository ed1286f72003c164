-- What is written of legal slots and records holds bytes. Rests on the meaning's Layout and laws' Layout, Hosts and Records.
use Rattle.std.specs.Prelude.{ℕ, zero, suc, ◌-◌, ◌<◌, length, get_or, replicate}
use mathlib.Core.List.{List, [], ◌∷◌, ◌++◌, map}
use native.Mathlib.Omega.{arith}
use Rattle.meaning.specs.Basics.{concat, padded}
use Rattle.meaning.specs.Numbers.{bytes}
use Rattle.meaning.specs.Layout.{Slot, free, live, Node, Edge, Change, of_node, of_edge, node_length, edge_length, atom_bytes, node_bytes, edge_bytes, write_node, write_edge, record_bytes, write_record}
use Rattle.meaning.specs.Laws.Tests.{zero-at}
use Rattle.meaning.specs.Laws.Every.{Every}
use Rattle.laws.specs.Numbers.{Bytes}
use Rattle.meaning.specs.Laws.Slots.{OnLive}
use Rattle.laws.specs.Hosts.{LegalNode, LegalEdge, node_mark_le, edge_mark_le}
use Rattle.laws.specs.Records.{LegalChange}
use Rattle.meaning.specs.declared.Layout.{Layout}

pub Bytes-bytes : (w n : ℕ) → Bytes (bytes w n)
unfolding bytes
Bytes-bytes zero n i = omega arith
Bytes-bytes (suc w) n zero = omega arith
Bytes-bytes (suc w) n (suc i) = Bytes-bytes w n i

pub Bytes-append : (bs cs : List ℕ) → Bytes bs → Bytes cs → Bytes (bs ++ cs)
Bytes-append [] cs h k i = k i
Bytes-append (b ∷ bs) cs h k zero = h 0
Bytes-append (b ∷ bs) cs h k (suc i) = Bytes-append bs cs (λ j. h (suc j)) k i

pub Bytes-zeros : (n : ℕ) → Bytes (replicate n 0)
Bytes-zeros n i = omega (arith, zero-at n i)

pub Bytes-padded : (n : ℕ) (bs : List ℕ) → Bytes bs → Bytes (padded n bs)
Bytes-padded n bs h = Bytes-append bs (replicate (n - length bs) 0) h (Bytes-zeros (n - length bs))

pub Bytes-write : {A : Type 0} (write : A → List ℕ) (l : List A) (d : A) → ((i : ℕ) → Bytes (write (get_or l i d)))
    → Bytes (concat (map write l))
unfolding concat
Bytes-write write [] d h = λ i. omega arith
Bytes-write write (a ∷ l) d h = Bytes-append (write a) (concat (map write l)) (h 0) (Bytes-write write l d (λ i. h (suc i)))

Bytes-atom_bytes : (l : List ℕ) → Bytes (atom_bytes l)
Bytes-atom_bytes l = Bytes-write (bytes 4) l 0 (λ i. Bytes-bytes 4 (get_or l i 0))

-- Slots.

Bytes-four : (a b c d : ℕ) (l : List ℕ) → (a < 256) × (b < 256) × (c < 256) × (d < 256) → Bytes l → Bytes (a ∷ b ∷ c ∷ d ∷ l)
Bytes-four a b c d l f h zero = f.0
Bytes-four a b c d l f h (suc zero) = f.1
Bytes-four a b c d l f h (suc (suc zero)) = f.2
Bytes-four a b c d l f h (suc (suc (suc zero))) = f.3
Bytes-four a b c d l f h (suc (suc (suc (suc i)))) = h i

module _ (L : Layout) (few : L.atoms < 256) where
  pub Bytes-write_node : (s : Slot Node) → OnLive (LegalNode L) s → Bytes (write_node L s)
  unfolding node_bytes
  Bytes-write_node free h = Bytes-padded (node_length L) [] (λ i. omega arith)
  Bytes-write_node (live n) h =
      let m = node_mark_le n.mark h.mark in
      let r = h.root in
      let k = h.size in
      Bytes-padded (node_length L) (node_bytes (live n))
      (Bytes-four 1 n.mark n.root (length n.label) (atom_bytes n.label) (omega arith) (Bytes-atom_bytes n.label))

  pub Bytes-write_edge : (s : Slot Edge) → OnLive (LegalEdge L) s → Bytes (write_edge L s)
  unfolding edge_bytes
  Bytes-write_edge free h = Bytes-padded (edge_length L) [] (λ i. omega arith)
  Bytes-write_edge (live e) h =
      let m = edge_mark_le e.mark h.mark in
      let k = h.size in
      let w = L.width in
      Bytes-padded (edge_length L) (edge_bytes L (live e))
      (Bytes-four 1 e.mark 0 (length e.label) (bytes w e.source ++ bytes w e.target ++ atom_bytes e.label) (omega arith)
      (Bytes-append (bytes w e.source ++ bytes w e.target) (atom_bytes e.label)
      (Bytes-append (bytes w e.source) (bytes w e.target) (Bytes-bytes w _) (Bytes-bytes w _))
      (Bytes-atom_bytes e.label)))

  -- Records.

  Bytes-one : (a : ℕ) → a < 256 → Bytes (a ∷ [])
  Bytes-one a h zero = h
  Bytes-one a h (suc i) = omega arith

  Bytes-record_bytes : (kind i : ℕ) (before : List ℕ) → kind < 256 → Bytes before → Bytes (record_bytes L kind i before)
  Bytes-record_bytes kind i before h k =
      Bytes-append (padded L.width (kind ∷ []) ++ bytes L.width i) (padded (edge_length L) before)
      (Bytes-append (padded L.width (kind ∷ [])) (bytes L.width i) (Bytes-padded L.width (kind ∷ []) (Bytes-one kind h))
      (Bytes-bytes L.width i))
      (Bytes-padded (edge_length L) before k)

  Bytes-write_record : (c : Change (Slot Node) (Slot Edge)) → LegalChange L c → Bytes (write_record L c)
  unfolding write_record LegalChange
  Bytes-write_record (of_node i s) h = Bytes-record_bytes 1 i (write_node L s) (omega arith) (Bytes-write_node s h.1)
  Bytes-write_record (of_edge i s) h = Bytes-record_bytes 2 i (write_edge L s) (omega arith) (Bytes-write_edge s h.1)

  pub Bytes-records : (cs : List (Change (Slot Node) (Slot Edge))) → Every (LegalChange L) cs → Bytes (concat (map (write_record L) cs))
  unfolding concat
  Bytes-records [] h = λ i. omega arith
  Bytes-records (c ∷ cs) h =
      Bytes-append (write_record L c) (concat (map (write_record L) cs)) (Bytes-write_record c h.0) (Bytes-records cs h.1)
