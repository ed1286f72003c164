-- One slot: what a live one holds, what is written of a free one, and how many bytes are written of either. Rests on the laws' Layout.
use mathlib.Core.Path.{◌≡◌, sym, ap}
use mathlib.Core.Bool.{true, false}
use mathlib.Core.List.{List, []}
use Prim.Native.Nat.{ℕ, ◌≤◌}
use native.Mathlib.Nat.{sub-zero}
use native.Mathlib.Omega.{arith}
use lib.ListN.{length, replicate, length-append}
use Rattle.meaning.specs.Layout.{Slot, free, live, Node, Edge, is_live, node_length, edge_length, node_bytes, edge_bytes, write_node, write_edge}
use Rattle.meaning.specs.Matching.{node_in, edge_in}
use Rattle.laws.specs.Numbers.{length-bytes}
use Rattle.laws.specs.Layout.{length-padded, length-atom_bytes}
use Rattle.meaning.specs.declared.Layout.{Layout}

-- A live slot is what is read of it.

pub node-again : (s : Slot Node) (mark root : ℕ) (label : List ℕ) → is_live s ≡ true → mark ≡ (node_in s).mark → root ≡ (node_in s).root
    → label ≡ (node_in s).label → live (record { mark = mark; root = root; label = label }) ≡ s
unfolding is_live node_in
node-again free mark root label e m r l = let z : ◌≡◌ {A = ℕ} 0 1 = cc in absurd (omega arith)
node-again (live n) mark root label e m r l = λ i. live (record { mark = m i; root = r i; label = l i })

pub edge-again : (s : Slot Edge) (mark source target : ℕ) (label : List ℕ) → is_live s ≡ true → mark ≡ (edge_in s).mark
    → source ≡ (edge_in s).source → target ≡ (edge_in s).target → label ≡ (edge_in s).label
    → live (record { mark = mark; source = source; target = target; label = label }) ≡ s
unfolding is_live edge_in
edge-again free mark source target label e m s t l = let z : ◌≡◌ {A = ℕ} 0 1 = cc in absurd (omega arith)
edge-again (live n) mark source target label e m s t l = λ i. live (record { mark = m i; source = s i; target = t i; label = l i })

module _ (M : Layout) where
  pub node-gone : (s : Slot Node) → is_live s ≡ false → replicate (node_length M) 0 ≡ write_node M s
  unfolding is_live node_bytes
  node-gone free e = ap (λ (n : ℕ). replicate n 0) (sym (sub-zero (node_length M)))
  node-gone (live n) e = let z : ◌≡◌ {A = ℕ} 0 1 = cc in absurd (omega arith)

  pub edge-gone : (s : Slot Edge) → is_live s ≡ false → replicate (edge_length M) 0 ≡ write_edge M s
  unfolding is_live edge_bytes
  edge-gone free e = ap (λ (n : ℕ). replicate n 0) (sym (sub-zero (edge_length M)))
  edge-gone (live n) e = let z : ◌≡◌ {A = ℕ} 0 1 = cc in absurd (omega arith)

  pub node-length : (s : Slot Node) → length (node_in s).label ≤ M.atoms → length (write_node M s) ≡ node_length M
  unfolding node_in node_bytes
  node-length free h = length-padded (node_length M) [] (omega arith)
  node-length (live n) h = length-padded (node_length M) (node_bytes (live n)) (simp length-atom_bytes (omega arith))

  pub edge-length : (s : Slot Edge) → length (edge_in s).label ≤ M.atoms → length (write_edge M s) ≡ edge_length M
  unfolding edge_in edge_bytes
  edge-length free h = length-padded (edge_length M) [] (omega arith)
  edge-length (live e) h = length-padded (edge_length M) (edge_bytes M (live e)) (simp (length-append, length-bytes, length-atom_bytes) (omega arith))
