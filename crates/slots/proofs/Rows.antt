-- Laws of slots in a row: where they lie, and the table with them zeroed.
use Prim.Native.Nat.{ℕ, ◌+◌, ◌-◌, ◌*◌, ◌/◌, ◌≤◌}
use mathlib.Core.Path.{◌≡◌, sym, ◌∙◌, ap}
use mathlib.Core.List.{List, append_assoc}
use native.Mathlib.Omega.{arith}
use native.Mathlib.Nat.{add-mul, mul-le-mul_right, div-mul-le_self}
use borrow.Rule.Slice.PartMut.{put_mid}
use lib.ListN.{length, take, drop, replicate, length-drop}
use lib.Seq.{drop-drop, length-take-le}
use Rattle.slots.specs.Slots.{slots_cleared}

module _ (w from to : ℕ) (bs : List ℕ) (h : from ≤ to) (k : to ≤ length bs / w) where
  row-starts : from * w ≤ to * w
  row-starts = mul-le-mul_right w h

  row_ends : to * w ≤ length bs
  row_ends =
      let l : to * w ≤ length bs / w * w = mul-le-mul_right w k in
      omega (arith, div-mul-le_self (length bs) w)

  row_splits : to * w ≡ from * w + (to - from) * w
  row_splits = ap (λ (n : ℕ). n * w) (omega arith) ∙ add-mul from (to - from) w

  pub row-cleared : {zeroed : List ℕ} → zeroed ≡ replicate (length (take (to * w - from * w) (drop (from * w) bs))) 0
      → put_mid (from * w) (to * w - from * w) bs zeroed ≡ slots_cleared w from to bs
  row-cleared z =
      let e : to * w - from * w ≡ (to - from) * w = omega (arith, row_splits) in
      let n : length (take ((to - from) * w) (drop (from * w) bs)) ≡ (to - from) * w =
      length-take-le ((to - from) * w) (drop (from * w) bs) (rw length-drop (omega (arith, row_splits, row_ends))) in
      rw (z, e, n, drop-drop ((to - from) * w) (from * w) bs, ← row_splits)
      (sym (append_assoc (take (from * w) bs) (replicate ((to - from) * w) 0) (drop (to * w) bs)))
