-- Laws of parts of a table that are lent on and come back: where a slot lies, and what the table is when its part is another.
-- Rests on laws' Pieces.
use Rattle.std.specs.Prelude.{ℕ, ◌+◌, ◌-◌, ◌*◌, ◌/◌, ◌<◌, ◌≤◌, ◌≡◌, List, [], ◌++◌, length, get_or, take, drop, replicate}
use Rattle.std.proofs.Common.{sym, ◌∙◌, ap, append_assoc, arith, length-drop, take_at, drop_at, drop-drop, length-take-le}
use borrow.Rule.Slice.PartMut.{put_mid}
use Rattle.std.proofs.lemmas.List.{replicate-append-replicate}
use Rattle.meaning.specs.Layout.{cut}
use Rattle.laws.specs.Pieces.{get_or-pieces, stored}

-- A slot that starts at s: the part that it is, and the table when another part comes back in its place.

module _ (w i : ℕ) (bs : List ℕ) {s : ℕ} (start : s ≡ i * w) where
  pub slot-part : i < length bs / w → take (s + w - s) (drop s bs) ≡ get_or (cut w bs) i []
  slot-part h =
      let e : s + w - s ≡ w = omega arith in
      rw (e, start) (sym (get_or-pieces w (length bs / w) bs i h))

  pub slot-back : {b last : List ℕ} → last ≡ b → put_mid s (s + w - s) bs last ≡ stored w i b bs
  slot-back {b} e =
      let q : s + w - s ≡ w = omega arith in
      rw (e, q, drop-drop w s bs, start) (sym (append_assoc (take (i * w) bs) b (drop (i * w + w) bs)))

  -- the same, where the layout holds the slot's length
  pub sized-back : {v : ℕ} {b last : List ℕ} → w ≡ v → last ≡ b → put_mid s (s + w - s) bs last ≡ stored v i b bs
  sized-back {v} {b} size e = slot-back e ∙ ap (λ (n : ℕ). stored n i b bs) size

-- a part put in the middle
pub put_mid_lem : (a b c d : List ℕ) (n k : ℕ) → length a ≡ n → length b ≡ k → put_mid n k (a ++ (b ++ c)) d ≡ a ++ (d ++ c)
put_mid_lem a b c d n k h e = rw (take_at a (b ++ c) n h, drop_at a (b ++ c) n h, drop_at b c k e)

pub zeros-split : (n p q : ℕ) → n ≡ p + q → replicate {A = ℕ} n 0 ≡ replicate p 0 ++ replicate q 0
zeros-split n p q e = rw e (sym (replicate-append-replicate p q 0))

pub part_length : (start w : ℕ) (b r : List ℕ) → r ≡ take (start + w - start) (drop start b) → start + w ≤ length b → length r ≡ w
part_length start w b r e h =
    let q : start + w - start ≡ w = omega arith in
    rw (e, q) (length-take-le w (drop start b) (rw length-drop (omega arith)))
