-- Laws of writing one slot: its head, its ends, its atoms.
use Prim.Native.Nat.{ℕ, zero, suc, ◌+◌, ◌-◌, ◌*◌, ◌<◌, ◌≤◌}
use mathlib.Core.Path.{◌≡◌, refl, sym, ◌∙◌, ap}
use mathlib.Core.List.{List, [], ◌∷◌, ◌++◌, append_assoc, append-nil}
use native.Mathlib.Omega.{arith}
use native.Mathlib.Numerals.{add-one}
use borrow.Rule.Slice.PartMut.{put_mid}
use lib.ListN.{length, get_or, set, take, drop, replicate, length-append, length-drop, length-replicate}
use lib.Seq.{take_at, drop_at, drop-drop, take-suc, take-length, drop-length, length-take-le}
use Rattle.meaning.specs.Basics.{concat, padded}
use Rattle.meaning.specs.Numbers.{bytes}
use Rattle.meaning.specs.Layout.{live, head_length, atom_length, atom_bytes, node_bytes}
use Rattle.laws.specs.Numbers.{length-bytes}
use Rattle.laws.specs.Pieces.{stored}
use Rattle.laws.specs.Layout.{length-atom_bytes}
use Rattle.slots.specs.Parts.{put_mid_lem, zeros-split}

-- Writing atoms.

-- the first j atoms are written
abbrev pub labelling : List ℕ → ℕ → List ℕ → List ℕ
labelling label j to = atom_bytes (take j label) ++ drop (j * atom_length) to

atom_bytes_snoc : (l : List ℕ) (a : ℕ) → atom_bytes (l ++ (a ∷ [])) ≡ atom_bytes l ++ bytes atom_length a
unfolding concat
atom_bytes_snoc [] a = append-nil (bytes atom_length a)
atom_bytes_snoc (b ∷ l) a = rw (atom_bytes_snoc l a) (sym (append_assoc (bytes atom_length b) (atom_bytes l) (bytes atom_length a)))

module _ (label to : List ℕ) (j : ℕ) where
  front_length : j ≤ length label → length (atom_bytes (take j label)) ≡ j * atom_length
  front_length h = length-atom_bytes (take j label) ∙ ap (λ (n : ℕ). n * atom_length) (length-take-le j label h)

  pub labelling-more : j < length label → length label * atom_length ≤ length to
      → stored atom_length j (bytes atom_length (get_or label j 0)) (labelling label j to) ≡ labelling label (j + 1) to
  labelling-more h k =
      let a : List ℕ = atom_bytes (take j label) in
      let l : length a ≡ j * atom_length = front_length (omega arith) in
      let d : drop (j * atom_length + atom_length) (a ++ drop (j * atom_length) to) ≡ drop (j * atom_length + atom_length) to =
      sym (drop-drop atom_length (j * atom_length) (a ++ drop (j * atom_length) to)) ∙ ap (drop atom_length) (drop_at a (drop (j * atom_length) to) (j * atom_length) l) ∙ drop-drop atom_length (j * atom_length) to in
      let e : suc j * atom_length ≡ j * atom_length + atom_length = omega arith in
      rw (take_at a (drop (j * atom_length) to) (j * atom_length) l, d, add-one j, take-suc label j 0 h, atom_bytes_snoc (take j label) (get_or label j 0), e)

  pub length-labelling : j ≤ length label → length label * atom_length ≤ length to → length (labelling label j to) ≡ length to
  length-labelling h k = rw (length-append (atom_bytes (take j label)) (drop (j * atom_length) to), front_length h, length-drop (j * atom_length) to) (omega arith)

  pub labelling-all : length label ≤ j → j ≤ length label → labelling label j to ≡ atom_bytes label ++ drop (length label * atom_length) to
  labelling-all h k = let e : j ≡ length label = omega arith in rw (e, take-length label)

-- Writing a slot.

-- an edge's bytes once its ends are written
abbrev pub edge_front : ℕ → List ℕ → List ℕ → List ℕ → List ℕ
edge_front width head one two = put_mid (head_length + width) (head_length + width + width - (head_length + width)) (put_mid head_length (head_length + width - head_length) head one) two

pub head_put : (to zeroed : List ℕ) (mark third size : ℕ) → head_length ≤ length to → zeroed ≡ replicate (length to) 0
    → set (set (set (set zeroed 0 1) 1 mark) 2 third) 3 size ≡ 1 ∷ mark ∷ third ∷ size ∷ replicate (length to - head_length) 0
head_put to zeroed mark third size h z =
    let e : length to ≡ suc (suc (suc (suc (length to - head_length)))) = omega arith in
    ap (λ (l : List ℕ). set (set (set (set l 0 1) 1 mark) 2 third) 3 size) (z ∙ ap (λ (n : ℕ). replicate {A = ℕ} n 0) e)

-- a part to the end
tail_put : (a z last : List ℕ) (k : ℕ) → length a ≡ k → put_mid k (length (a ++ z) - k) (a ++ z) last ≡ a ++ last
tail_put a z last k h =
    let e : length (a ++ z) - k ≡ length z = rw (length-append a z) (omega arith) in
    rw (take_at a z k h, drop_at a z k h, e, drop-length z, append-nil last)

tail_part : (a z : List ℕ) (k : ℕ) → length a ≡ k → take (length (a ++ z) - k) (drop k (a ++ z)) ≡ z
tail_part a z k h =
    let e : length (a ++ z) - k ≡ length z = rw (length-append a z) (omega arith) in
    rw (drop_at a z k h, e, take-length z)

drop-zeros : (k m : ℕ) → drop k (replicate m 0) ≡ replicate {A = ℕ} (m - k) 0
drop-zeros zero m = let e : m ≡ m - 0 = omega arith in ap (λ (n : ℕ). replicate {A = ℕ} n 0) e
drop-zeros (suc k) zero = let e : 0 ≡ 0 - suc k = omega arith in ap (λ (n : ℕ). replicate {A = ℕ} n 0) e
drop-zeros (suc k) (suc m) =
    let e : m - k ≡ suc m - suc k = omega arith in
    drop-zeros k m ∙ ap (λ (n : ℕ). replicate {A = ℕ} n 0) e

-- what a tail of a slot holds, once atoms are written in front of its zeros
pub slot_tail : (a : List ℕ) (label last : List ℕ) (k m : ℕ) → length a ≡ k
    → last ≡ atom_bytes label ++ drop (length label * atom_length) (take (length (a ++ replicate m 0) - k) (drop k (a ++ replicate m 0)))
    → put_mid k (length (a ++ replicate m 0) - k) (a ++ replicate m 0) last ≡ padded (k + m) (a ++ atom_bytes label)
slot_tail a label last k m h e =
    let l = length-atom_bytes label in
    let n : length (a ++ atom_bytes label) ≡ k + length label * atom_length = rw (length-append a (atom_bytes label)) (omega arith) in
    let q : k + m - (k + length label * atom_length) ≡ m - length label * atom_length = omega arith in
    tail_put a (replicate m 0) last k h
    ∙ rw (e, tail_part a (replicate m 0) k h, drop-zeros (length label * atom_length) m, n, q)
    (sym (append_assoc a (atom_bytes label) (replicate (m - length label * atom_length) 0)))

pub node-put : (mark root len : ℕ) (label head last : List ℕ) → head_length ≤ len
    → head ≡ 1 ∷ mark ∷ root ∷ length label ∷ replicate (len - head_length) 0
    → last ≡ atom_bytes label ++ drop (length label * atom_length) (take (length head - head_length) (drop head_length head))
    → put_mid head_length (length head - head_length) head last ≡ padded len (node_bytes (live (record { mark = mark; root = root; label = label })))
unfolding node_bytes
node-put mark root len label head last h e f =
    let a : List ℕ = 1 ∷ mark ∷ root ∷ length label ∷ [] in
    let q : head_length + (len - head_length) ≡ len = omega arith in
    let f' : last ≡ atom_bytes label ++ drop (length label * atom_length) (take (length (a ++ replicate (len - head_length) 0) - head_length) (drop head_length (a ++ replicate (len - head_length) 0))) =
    f ∙ ap (λ (l : List ℕ). atom_bytes label ++ drop (length label * atom_length) (take (length l - head_length) (drop head_length l))) e in
    ap (λ (l : List ℕ). put_mid head_length (length l - head_length) l last) e
    ∙ slot_tail a label last head_length (len - head_length) refl f'
    ∙ ap (λ (n : ℕ). padded n (a ++ atom_bytes label)) q

pub edge-put : (mark source target width rest : ℕ) (label head one two last : List ℕ)
    → head ≡ 1 ∷ mark ∷ 0 ∷ length label ∷ replicate (head_length + 2 * width + rest - head_length) 0
    → one ≡ bytes (length (take (head_length + width - head_length) (drop head_length head))) source
    → two ≡ bytes (length (take (head_length + width + width - (head_length + width)) (drop (head_length + width) (put_mid head_length (head_length + width - head_length) head one)))) target
    → last ≡ atom_bytes label ++ drop (length label * atom_length) (take (length (edge_front width head one two) - (head_length + width + width)) (drop (head_length + width + width) (edge_front width head one two)))
    → put_mid (head_length + width + width) (length (edge_front width head one two) - (head_length + width + width)) (edge_front width head one two) last
    ≡ padded (head_length + 2 * width + rest) (1 ∷ mark ∷ 0 ∷ length label ∷ bytes width source ++ bytes width target ++ atom_bytes label)
edge-put mark source target width rest label head one two last e f g h =
    let a : List ℕ = 1 ∷ mark ∷ 0 ∷ length label ∷ [] in
    let S : List ℕ = bytes width source in
    let T : List ℕ = bytes width target in
    let A : List ℕ = atom_bytes label in
    let Z : List ℕ = replicate width 0 in
    let R : List ℕ = replicate rest 0 in
    let z : length Z ≡ width = length-replicate width 0 in
    let l_s : length S ≡ width = length-bytes width source in
    let l_t : length T ≡ width = length-bytes width target in
    let n : head_length + 2 * width + rest - head_length ≡ width + (width + rest) = omega arith in
    let q1 : width ≡ head_length + width - head_length = omega arith in
    let q2 : width ≡ head_length + width + width - (head_length + width) = omega arith in
    let q3 : head_length + width + width + rest ≡ head_length + 2 * width + rest = omega arith in
    let e' : head ≡ a ++ (Z ++ (Z ++ R)) =
    e ∙ ap (λ (k : ℕ). a ++ replicate k 0) n
    ∙ ap (λ (l : List ℕ). a ++ l) (zeros-split (width + (width + rest)) width (width + rest) refl
    ∙ ap (λ (l : List ℕ). Z ++ l) (zeros-split (width + rest) width rest refl)) in
    let p_s : length (take (head_length + width - head_length) (drop head_length head)) ≡ width =
    ap (λ (l : List ℕ). length (take (head_length + width - head_length) (drop head_length l))) e' ∙ ap length (take_at Z (Z ++ R) (head_length + width - head_length) (z ∙ q1)) ∙ z in
    let f' : one ≡ S = f ∙ ap (λ (k : ℕ). bytes k source) p_s in
    let s1 : put_mid head_length (head_length + width - head_length) head one ≡ a ++ S ++ (Z ++ R) =
    ap (λ (l : List ℕ). put_mid head_length (head_length + width - head_length) l one) e'
    ∙ ap (λ (l : List ℕ). put_mid head_length (head_length + width - head_length) (a ++ (Z ++ (Z ++ R))) l) f'
    ∙ put_mid_lem a Z (Z ++ R) S head_length (head_length + width - head_length) refl (z ∙ q1)
    ∙ sym (append_assoc a S (Z ++ R)) in
    let l_a : length (a ++ S) ≡ head_length + width = omega (arith, l_s) in
    let p_t : length (take (head_length + width + width - (head_length + width)) (drop (head_length + width) (put_mid head_length (head_length + width - head_length) head one))) ≡ width =
    ap (λ (l : List ℕ). length (take (head_length + width + width - (head_length + width)) (drop (head_length + width) l))) s1
    ∙ ap (λ (l : List ℕ). length (take (head_length + width + width - (head_length + width)) l)) (drop_at (a ++ S) (Z ++ R) (head_length + width) l_a)
    ∙ ap length (take_at Z R (head_length + width + width - (head_length + width)) (z ∙ q2))
    ∙ z in
    let g' : two ≡ T = g ∙ ap (λ (k : ℕ). bytes k target) p_t in
    let s2 : edge_front width head one two ≡ a ++ S ++ T ++ R =
    ap (λ (l : List ℕ). put_mid (head_length + width) (head_length + width + width - (head_length + width)) l two) s1
    ∙ ap (λ (l : List ℕ). put_mid (head_length + width) (head_length + width + width - (head_length + width)) (a ++ S ++ (Z ++ R)) l) g'
    ∙ put_mid_lem (a ++ S) Z R T (head_length + width) (head_length + width + width - (head_length + width)) l_a (z ∙ q2)
    ∙ sym (append_assoc (a ++ S) T R) in
    let l_b : length (a ++ S ++ T) ≡ head_length + width + width = length-append (a ++ S) T ∙ omega (arith, l_a, l_t) in
    let h' : last ≡ A ++ drop (length label * atom_length) (take (length (a ++ S ++ T ++ R) - (head_length + width + width)) (drop (head_length + width + width) (a ++ S ++ T ++ R))) =
    h ∙ ap (λ (l : List ℕ). A ++ drop (length label * atom_length) (take (length l - (head_length + width + width)) (drop (head_length + width + width) l))) s2 in
    ap (λ (l : List ℕ). put_mid (head_length + width + width) (length l - (head_length + width + width)) l last) s2
    ∙ slot_tail (a ++ S ++ T) label last (head_length + width + width) rest l_b h'
    ∙ ap (λ (k : ℕ). padded k (a ++ S ++ T ++ A)) q3
