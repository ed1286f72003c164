-- Laws of pieces: bytes cut into pieces of one width, pieces joined again, one piece stored.
-- Rests on the meaning's Basics and Layout, and on Numbers.
use Rattle.std.specs.Prelude.{ℕ, zero, suc, ◌+◌, ◌-◌, ◌*◌, ◌/◌, ◌%◌, ◌<◌, ◌≤◌, ◌≡◌, List, [], ◌∷◌, ◌++◌, map, Bool, true, length, get_or, set, take, drop}
use Rattle.std.proofs.Math.Path.{refl}
use Rattle.std.proofs.Common.{sym, ◌∙◌, ap, append_assoc, append-nil, suc-mul, zero-mul, zero-add, add_comm, div-add-mod', div-mul-le_self, mul-div_cancel, mul-le-mul_right, arith, length-append, length-take, length-drop, take-append-drop, length-take-le, take_all, take_at, drop_at, take-add, drop-drop, eqb-true, leb-true}
use Rattle.std.proofs.Math.Nat.{sub-zero}
use Rattle.std.proofs.lemmas.List.{length-map}
use Rattle.std.proofs.Math.Seq.{take-append-add, drop-append-add}
use Rattle.meaning.specs.Basics.{every, concat}
use Rattle.meaning.specs.Layout.{pieces, cut, fits_table}
use Rattle.meaning.specs.Laws.Tests.{both_true, every_of}
use Rattle.laws.specs.Numbers.{Bytes, Bytes-take, Bytes-drop}

-- Lists, element by element.

module _ {A B : Type 0} (f : A → B) where
  pub get_or-map_in : (l : List A) (i : ℕ) (d : A) (e : B) → i < length l → get_or (map f l) i e ≡ f (get_or l i d)
  get_or-map_in [] i d e h = absurd (omega arith)
  get_or-map_in (a ∷ l) zero d e h = refl
  get_or-map_in (a ∷ l) (suc i) d e h = get_or-map_in l i d e (omega arith)

  pub map-set : (l : List A) (i : ℕ) (a : A) → map f (set l i a) ≡ set (map f l) i (f a)
  map-set [] i a = refl
  map-set (b ∷ l) zero a = refl
  map-set (b ∷ l) (suc i) a = ap (λ (m : List B). f b ∷ m) (map-set l i a)

-- what g brings back element by element it brings back as a list
pub map_back : {A B : Type 0} (f : A → B) (g : B → A) (l : List A) (d : A)
    → ((i : ℕ) → i < length l → g (f (get_or l i d)) ≡ get_or l i d) → map g (map f l) ≡ l
map_back f g [] d h = refl
map_back f g (a ∷ l) d h =
    let p : g (f a) ≡ a = h 0 (omega arith) in
    let q = map_back f g l d (λ i k. h (suc i) (omega arith)) in
    cc

-- Cutting.

pub length-pieces : (w n : ℕ) (bs : List ℕ) → length (pieces w n bs) ≡ n
unfolding pieces
length-pieces w zero bs = refl
length-pieces w (suc n) bs = ap suc (length-pieces w n (drop w bs))

pub get_or-pieces : (w n : ℕ) (bs : List ℕ) (i : ℕ) → i < n → get_or (pieces w n bs) i [] ≡ take w (drop (i * w) bs)
unfolding pieces
get_or-pieces w zero bs i h = absurd (omega arith)
get_or-pieces w (suc n) bs zero h = rw zero-mul
get_or-pieces w (suc n) bs (suc i) h =
    get_or-pieces w n (drop w bs) i (omega arith) ∙ rw (drop-drop (i * w) w bs, suc-mul i w, add_comm (i * w) w)

-- each list has w elements
abbrev pub Wide : ℕ → List (List ℕ) → Type 0
Wide w ls = (i : ℕ) → i < length ls → length (get_or ls i []) ≡ w

pub Wide-pieces : (w n : ℕ) (bs : List ℕ) → n * w ≤ length bs → Wide w (pieces w n bs)
Wide-pieces w n bs h i k =
    let j : i < n = rw (length-pieces w n bs) at k in
    let l : suc i * w ≤ n * w = mul-le-mul_right w j in
    rw (get_or-pieces w n bs i j) (length-take-le w (drop (i * w) bs) (rw length-drop (omega (arith, suc-mul i w))))

pub length-slot : (w : ℕ) (bs : List ℕ) (i : ℕ) → i < length bs / w → length (get_or (cut w bs) i []) ≡ w
length-slot w bs i h =
    Wide-pieces w (length bs / w) bs (div-mul-le_self (length bs) w) i (rw (length-pieces w (length bs / w) bs) h)

pub Bytes-pieces : (w n : ℕ) (bs : List ℕ) (i : ℕ) → Bytes bs → i < n → Bytes (get_or (pieces w n bs) i [])
Bytes-pieces w n bs i h k = rw (get_or-pieces w n bs i k) (Bytes-take w (drop (i * w) bs) (Bytes-drop (i * w) bs h))

-- the pieces from a number on
pub pieces-drop : (w m n : ℕ) (bs : List ℕ) → m ≤ n → pieces w (n - m) (drop (m * w) bs) ≡ drop m (pieces w n bs)
pieces-drop w zero n bs h = rw (sub-zero n, zero-mul w)
pieces-drop w (suc m) zero bs h = absurd (omega arith)
pieces-drop w (suc m) (suc n) bs h =
    let e : suc n - suc m ≡ n - m = omega arith in
    rw (e, suc-mul m w, add_comm (m * w) w, ← (drop-drop (m * w) w bs), pieces-drop w m n (drop w bs) (omega arith)) (unfold pieces in refl)

-- Joining.

pub concat_append : (ls ms : List (List ℕ)) → concat (ls ++ ms) ≡ concat ls ++ concat ms
unfolding concat
concat_append [] ms = refl
concat_append (l ∷ ls) ms = ap (λ (m : List ℕ). l ++ m) (concat_append ls ms) ∙ sym (append_assoc l (concat ls) (concat ms))

pub concat-pieces : (w n : ℕ) (bs : List ℕ) → concat (pieces w n bs) ≡ take (n * w) bs
unfolding pieces concat
concat-pieces w zero bs = rw zero-mul
concat-pieces w (suc n) bs = rw (concat-pieces w n (drop w bs), suc-mul n w, add_comm (n * w) w) (sym (take-add w (n * w) bs))

pub concat-cut : (w : ℕ) (bs : List ℕ) → length bs % w ≡ 0 → concat (cut w bs) ≡ bs
concat-cut w bs h = concat-pieces w (length bs / w) bs ∙ take_all (length bs / w * w) bs (omega (arith, div-add-mod' (length bs) w))

pub length-concat : (w : ℕ) (ls : List (List ℕ)) → Wide w ls → length (concat ls) ≡ length ls * w
unfolding concat
length-concat w [] h = sym (zero-mul w)
length-concat w (l ∷ ls) h =
    rw (length-append l (concat ls), length-concat w ls (λ i k. h (suc i) (omega arith)), h 0 (omega arith))
    (omega (arith, suc-mul (length ls) w))

pieces_append : (w n : ℕ) (l bs : List ℕ) → length l ≡ w → pieces w (suc n) (l ++ bs) ≡ l ∷ pieces w n bs
unfolding pieces
pieces_append w n l bs h = rw (take_at l bs w h, drop_at l bs w h)

-- what stands behind the lists does not matter
pub pieces-concat : (w : ℕ) (ls : List (List ℕ)) (bs : List ℕ) → Wide w ls → pieces w (length ls) (concat ls ++ bs) ≡ ls
unfolding concat
pieces-concat w [] bs h = unfold pieces in refl
pieces-concat w (l ∷ ls) bs h =
    rw (
      append_assoc l (concat ls) bs,
      pieces_append w (length ls) l (concat ls ++ bs) (h 0 (omega arith)),
      pieces-concat w ls bs (λ i k. h (suc i) (omega arith)),
    )

pub cut-concat : (w : ℕ) (ls : List (List ℕ)) → 0 < w → Wide w ls → cut w (concat ls) ≡ ls
cut-concat w ls h k =
    rw (length-concat w ls k, mul-div_cancel (length ls) h, ← (append-nil (concat ls)), pieces-concat w ls [] k)

-- two pieces in front
module _ (w : ℕ) (S T R : List ℕ) (hs : length S ≡ w) (ht : length T ≡ w) where
  pub take-first : take w (S ++ T ++ R) ≡ S
  take-first = rw (append_assoc S T R) (take_at S (T ++ R) w hs)

  pub take_second : take w (drop w (S ++ T ++ R)) ≡ T
  take_second = rw (append_assoc S T R, drop_at S (T ++ R) w hs) (take_at T R w ht)

  pub drop-both : drop (2 * w) (S ++ T ++ R) ≡ R
  drop-both = drop_at (S ++ T) R (2 * w) (rw length-append (omega arith))

-- one piece more
pub pieces-suc : (w n : ℕ) (bs : List ℕ) → pieces w (suc n) bs ≡ pieces w n bs ++ (take w (drop (n * w) bs) ∷ [])
unfolding pieces
pieces-suc w zero bs = rw zero-mul
pieces-suc w (suc n) bs =
    ap (λ (l : List (List ℕ)). take w bs ∷ l) (pieces-suc w n (drop w bs) ∙ rw (drop-drop (n * w) w bs, suc-mul n w, add_comm (n * w) w))

-- A table that fits.

pub fits-length : (slot most : ℕ) (bs : List ℕ) → fits_table slot most bs ≡ true → (length bs % slot ≡ 0) × (length bs / slot ≤ most)
unfolding fits_table
fits-length slot most bs e = let t = both_true _ _ e in (eqb-true _ _ t.0, leb-true _ _ t.1)

-- it is its slots and nothing behind them
pub fits_whole : (slot most : ℕ) (bs : List ℕ) → fits_table slot most bs ≡ true → length bs / slot * slot ≡ length bs
fits_whole slot most bs e = omega (arith, (fits-length slot most bs e).0, div-add-mod' (length bs) slot)

-- a table of the same length fits too
pub fits-same : (slot most : ℕ) (a b : List ℕ) → length b ≡ length a → fits_table slot most a ≡ true → fits_table slot most b ≡ true
unfolding fits_table
fits-same slot most a b e h = rw e h

-- a slot of the table lies in it
pub slot-within : (w i n : ℕ) → i < n / w → i * w + w ≤ n
slot-within w i n h =
    let k : suc i * w ≤ n / w * w = mul-le-mul_right w h in
    omega (arith, suc-mul i w, div-mul-le_self n w)

-- Storing.

-- the bytes with piece i replaced by b
abbrev pub stored : ℕ → ℕ → List ℕ → List ℕ → List ℕ
stored w i b bs = take (i * w) bs ++ b ++ drop (i * w + w) bs

pub stored-zero : (w : ℕ) (b bs : List ℕ) → stored w 0 b bs ≡ b ++ drop w bs
stored-zero w b bs = rw (zero-mul w, zero-add w)

pub stored-suc : (w i : ℕ) (b l bs : List ℕ) → length l ≡ w → stored w (suc i) b (l ++ bs) ≡ l ++ stored w i b bs
stored-suc w i b l bs h =
    let e : suc i * w ≡ length l + i * w = omega (arith, suc-mul i w) in
    let f : suc i * w + w ≡ length l + (i * w + w) = omega arith in
    rw (f, e, take-append-add l bs (i * w), drop-append-add l bs (i * w + w)) (simp append_assoc)

pub length-stored : (w i : ℕ) (b bs : List ℕ) → i * w + w ≤ length bs → length b ≡ w → length (stored w i b bs) ≡ length bs
length-stored w i b bs h k = simp (length-append, length-take, length-drop) (omega arith)

pub pieces-stored : (w n i : ℕ) (b bs : List ℕ) → i < n → n * w ≤ length bs → length b ≡ w
    → pieces w n (stored w i b bs) ≡ set (pieces w n bs) i b
pieces-stored w zero i b bs h k l = absurd (omega arith)
pieces-stored w (suc n) zero b bs h k l = rw (stored-zero w b bs, pieces_append w n b (drop w bs) l) (unfold pieces in refl)
pieces-stored w (suc n) (suc i) b bs h k l =
    let j : w + n * w ≤ length bs = omega (arith, suc-mul n w) in
    let t : length (take w bs) ≡ w = length-take-le w bs (omega arith) in
    ap (λ (c : List ℕ). pieces w (suc n) (stored w (suc i) b c)) (sym (take-append-drop w bs))
    ∙ rw (
      stored-suc w i b (take w bs) (drop w bs) t,
      pieces_append w n (take w bs) (stored w i b (drop w bs)) t,
      pieces-stored w n i b (drop w bs) (omega arith) (rw length-drop (omega arith)) l,
    )
    (unfold pieces in refl)

pub cut-stored : (w i : ℕ) (b bs : List ℕ) → i < length bs / w → length b ≡ w → cut w (stored w i b bs) ≡ set (cut w bs) i b
cut-stored w i b bs h k =
    rw (length-stored w i b bs (slot-within w i (length bs) h) k)
    (pieces-stored w (length bs / w) i b bs h (div-mul-le_self (length bs) w) k)

pub concat-set : (w : ℕ) (ls : List (List ℕ)) (i : ℕ) (b : List ℕ) → Wide w ls → i < length ls
    → concat (set ls i b) ≡ stored w i b (concat ls)
unfolding concat
concat-set w [] i b h k = absurd (omega arith)
concat-set w (l ∷ ls) zero b h k = rw (stored-zero w b (l ++ concat ls), drop_at l (concat ls) w (h 0 (omega arith)))
concat-set w (l ∷ ls) (suc i) b h k =
    rw (stored-suc w i b l (concat ls) (h 0 (omega arith)), concat-set w ls i b (λ j m. h (suc j) (omega arith)) (omega arith))

-- Tables: each piece read as a slot.

module _ {A : Type 0} (w : ℕ) (read : List ℕ → A) where
  pub length-read : (bs : List ℕ) → length (map read (cut w bs)) ≡ length bs / w
  length-read bs = length-map (cut w bs) read ∙ length-pieces w (length bs / w) bs

  pub read-stored : (i : ℕ) (b bs : List ℕ) → i < length bs / w → length b ≡ w
      → map read (cut w (stored w i b bs)) ≡ set (map read (cut w bs)) i (read b)
  read-stored i b bs h k = ap (map read) (cut-stored w i b bs h k) ∙ map-set read (cut w bs) i b

  -- bytes whose slots are written as they were read
  pub write_read : (write : A → List ℕ) (bs : List ℕ) → length bs % w ≡ 0
      → ((i : ℕ) → i < length bs / w → write (read (get_or (cut w bs) i [])) ≡ get_or (cut w bs) i [])
      → concat (map write (map read (cut w bs))) ≡ bs
  write_read write bs h k =
      ap concat (map_back read write (cut w bs) [] (λ i j. k i (rw (length-pieces w (length bs / w) bs) at j))) ∙ concat-cut w bs h

-- Tables: each slot written as a piece.

-- each slot of the list in w bytes
module _ {A : Type 0} (w : ℕ) (write : A → List ℕ) (l : List A) (d : A)
    (wide : (i : ℕ) → i < length l → length (write (get_or l i d)) ≡ w) where
  Wide-write : Wide w (map write l)
  Wide-write i j =
      let n : i < length l = rw (length-map l write) at j in
      rw (get_or-map_in write l i d [] n) (wide i n)

  pub length_write : length (concat (map write l)) ≡ length l * w
  length_write = length-concat w (map write l) Wide-write ∙ ap (λ (n : ℕ). n * w) (length-map l write)

  pub cut_write : 0 < w → cut w (concat (map write l)) ≡ map write l
  cut_write h = cut-concat w (map write l) h Wide-write

  -- slots that are read as they were written
  pub read_write : 0 < w → (read : List ℕ → A) → ((i : ℕ) → i < length l → read (write (get_or l i d)) ≡ get_or l i d)
      → map read (cut w (concat (map write l))) ≡ l
  read_write h read k = ap (map read) (cut_write h) ∙ map_back write read l d k

  pub every_write : 0 < w → (f : List ℕ → Bool) → ((i : ℕ) → i < length l → f (write (get_or l i d)) ≡ true)
      → every f (cut w (concat (map write l))) ≡ true
  every_write h f k = rw (cut_write h) (every_of f (map write l) [] each)
    where
      each : (i : ℕ) → i < length (map write l) → f (get_or (map write l) i []) ≡ true
      each i j =
          let n : i < length l = rw (length-map l write) at j in
          rw (get_or-map_in write l i d [] n) (k i n)
