-- A table that is written slot by slot from the front, where each slot's bytes are of one width. Rests on the meaning's Layout and on Pieces.
use Rattle.std.specs.Prelude.{◌≡◌, ℕ, suc, ◌+◌, ◌*◌, ◌<◌, ◌≤◌, length, get_or, take, drop}
use Rattle.std.proofs.Common.{sym, ◌∙◌, suc-mul, mul-le-mul_right, arith, length-take, length-append, length-drop, drop_of_length-le, take-suc, take_at, drop_at, drop-drop, get_or-take}
use Rattle.std.proofs.Math.Path.{ap}
use mathlib.Core.List.{List, [], ◌∷◌, ◌++◌, map, append-nil, map-append}
use Rattle.std.proofs.Math.Nat.{zero-mul}
use Rattle.std.proofs.Math.Seq.{take-length}
use Rattle.meaning.specs.Basics.{concat}
use Rattle.meaning.specs.Layout.{Slot, free}
use Rattle.laws.specs.Pieces.{concat_append, stored, length_write}

module _ {A : Type 0} (w : ℕ) (write : Slot A → List ℕ) (l : List (Slot A)) (to : List ℕ) where
  -- the first i slots are written, the others are as they were lent
  abbrev pub front_written : ℕ → List ℕ
  front_written i = concat (map write (take i l)) ++ drop (i * w) to

  pub front-none : front_written 0 ≡ to
  unfolding concat
  front-none = rw zero-mul

  pub front-all : length to ≡ length l * w → front_written (length l) ≡ concat (map write l)
  front-all size =
      let e : drop (length l * w) to ≡ [] = drop_of_length-le to {i = length l * w} (omega arith) in
      rw (e, take-length l) (append-nil (concat (map write l)))

  module _ (wide : (i : ℕ) → i < length l → length (write (get_or l i free)) ≡ w) where
    front_length : (i : ℕ) → i ≤ length l → length (concat (map write (take i l))) ≡ i * w
    front_length i h =
        let n : length (take i l) ≡ i = length-take i l ∙ omega arith in
        length_write w write (take i l) free (λ j k. rw (get_or-take i l j free (omega arith)) (wide j (omega arith)))
        ∙ ap (λ (m : ℕ). m * w) n

    one_more : (i : ℕ) → i < length l → concat (map write (take (suc i) l)) ≡ concat (map write (take i l)) ++ write (get_or l i free)
    unfolding concat
    one_more i h =
        ap (λ (m : List (Slot A)). concat (map write m)) (take-suc l i free h)
        ∙ ap concat (map-append write (take i l) (get_or l i free ∷ []))
        ∙ concat_append (map write (take i l)) (write (get_or l i free) ∷ [])
        ∙ ap (λ (m : List ℕ). concat (map write (take i l)) ++ m) (append-nil (write (get_or l i free)))

    pub front-next : (i : ℕ) → i < length l → stored w i (write (get_or l i free)) (front_written i) ≡ front_written (suc i)
    front-next i h =
        let front : List ℕ = concat (map write (take i l)) in
        let n = front_length i (omega arith) in
        let e : i * w + w ≡ suc i * w = omega (arith, suc-mul i w) in
        let rest : drop (i * w + w) (front_written i) ≡ drop (suc i * w) to =
        sym (drop-drop w (i * w) (front_written i)) ∙ ap (drop w) (drop_at front (drop (i * w) to) (i * w) n) ∙ drop-drop w (i * w) to
        ∙ ap (λ (m : ℕ). drop m to) e in
        rw (take_at front (drop (i * w) to) (i * w) n, rest, one_more i h)

    pub front_kept : (i : ℕ) → i ≤ length l → length to ≡ length l * w → length (front_written i) ≡ length l * w
    front_kept i h size =
        let n = front_length i h in
        let m : i * w ≤ length l * w = mul-le-mul_right w h in
        simp (length-append, length-drop) (omega (arith, n, m, size))
