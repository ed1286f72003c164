-- Laws of Fields: what each answer of the reader says of the field in the bytes, and which answer there is; the items of
-- a series by the numbers of their fields; numbers of two and four bytes. Rests on Fields and Image.
use Rattle.std.proofs.Math.Path.{◌≡◌, sym, ap}
use Rattle.std.specs.Prelude.{Some, None, Ok, Err, refl, List, ◌∷◌, ℕ, zero, suc, ◌+◌, ◌-◌, ◌*◌, ◌<◌, ◌≤◌, length, get_or, take, drop}
use Rattle.std.proofs.Common.{◌∙◌, le-leb, length-drop, drop-drop, drop-cons}
use Rattle.std.proofs.Math.Option.{Option, some, none}
use native.Mathlib.Omega.{arith}
use Rattle.std.proofs.Math.Decide.{dec_lt}
use Rattle.std.proofs.lemmas.Bool.{lt-leb}
use Rattle.meaning.specs.Numbers.{number}
use Rattle.meaning.specs.Image.{field, stated, Field as Whole}
use Rattle.meaning.specs.Laws.Tests.{choose_true, choose_false}
use Rattle.fields.specs.Image.{first-at, field_is, field_of, field-small, field_cut}
use Rattle.fields.specs.declared.Field.{Field}
use Rattle.fields.specs.declared.CutShort.{CutShort}
use Rattle.fields.specs.Fields.{Found, found, cut_short, nothing_left, placed, field_at, onward, nth_field}

-- Numbers.

next-two : (bs : List ℕ) (at : ℕ) → at + 2 ≤ length bs → drop at bs ≡ get_or bs at 0 ∷ get_or bs (at + 1) 0 ∷ drop (at + 2) bs
next-two bs at h =
    let e : suc at ≡ at + 1 = omega arith in
    let f : suc (at + 1) ≡ at + 2 = omega arith in
    drop-cons bs at 0 (omega arith) ∙ rw (e, drop-cons bs (at + 1) 0 (omega arith), f)

two-of : (a b : ℕ) (l m : List ℕ) → l ≡ a ∷ b ∷ m → number (take 2 l) ≡ 256 * a + b
unfolding number
two-of a b l m e = rw e (omega arith)

four-of : (a b c d : ℕ) (l m n : List ℕ) → l ≡ a ∷ b ∷ m → m ≡ c ∷ d ∷ n → number (take 4 l) ≡ 65536 * number (take 2 l) + number (take 2 m)
unfolding number
four-of a b c d l m n e f = rw (e, f) (omega arith)

module _ (bs : List ℕ) (at : ℕ) where
  pub two_bytes : at + 2 ≤ length bs → number (take 2 (drop at bs)) ≡ 256 * get_or bs at 0 + get_or bs (at + 1) 0
  two_bytes h = two-of _ _ _ _ (next-two bs at h)

  pub four_bytes : at + 4 ≤ length bs → number (take 4 (drop at bs)) ≡ 65536 * number (take 2 (drop at bs)) + number (take 2 (drop (at + 2) bs))
  four_bytes h = four-of _ _ _ _ _ _ _ (next-two bs at (omega arith)) (next-two bs (at + 2) (omega arith))

-- What is found.

-- the field whose payload lies between two places
pub record Lies (bs : List ℕ) (at tag start end : ℕ) : Type 0 where
  pub whole : Whole
  pub is : field (drop at bs) ≡ some whole
  pub tagged : whole.tag ≡ tag
  pub first : tag ≡ get_or bs at 0
  pub payload : whole.payload ≡ take (end - start) (drop start bs)
  pub rest : whole.rest ≡ drop end bs
  pub starts : start ≡ at + 3
  pub ends : end ≡ at + 3 + length whole.payload
  pub inside : end ≤ length bs

-- one answer, one field
found-same : (f g : Field) → ◌≡◌ {A = Found} (Some (Ok f)) (Some (Ok g)) → f ≡ g
found-same f g e = cc

module _ (bs : List ℕ) (at : ℕ) where
  pub at-end : length bs ≤ at → nothing_left ≡ field_at bs at
  unfolding field_at
  at-end h = sym (choose_true _ _ _ (le-leb _ _ h))

  inside-at : at < length bs → field_at bs at ≡ placed at (field (drop at bs))
  unfolding field_at
  inside-at h = choose_false _ _ _ (lt-leb _ _ h)

  pub at-short : at < length bs → field (drop at bs) ≡ none → cut_short ≡ field_at bs at
  unfolding placed
  at-short h e = sym (inside-at h ∙ ap (placed at) e)

  pub at_field : at < length bs → (d : Whole) → field (drop at bs) ≡ some d → found d.tag (at + 3) (at + 3 + length d.payload) ≡ field_at bs at
  unfolding placed
  at_field h d e = sym (inside-at h ∙ ap (placed at) e)

  -- a place with too little behind it
  pub short-small : at < length bs → length bs - at < 3 → cut_short ≡ field_at bs at
  short-small h k = at-short h (field-small (drop at bs) (rw (length-drop at bs) k))

  module _ (n : ℕ) (e : n ≡ number (take 2 (drop (at + 1) bs))) (k : at + 3 ≤ length bs) where
    states : stated (drop at bs) ≡ n
    states = rw (drop-drop 1 at bs) (sym e)

    pub short_cut : length bs - (at + 3) < n → cut_short ≡ field_at bs at
    short_cut h = at-short (omega arith) (field_cut (drop at bs) (rw (length-drop at bs) (omega arith)) (rw (length-drop at bs, states) (omega arith)))

    pub field-there : n ≤ length bs - (at + 3) → found (get_or bs at 0) (at + 3) (at + 3 + n) ≡ field_at bs at
    field-there h =
        let l = length-drop at bs in
        let f = field_of (drop at bs) (omega arith) (rw (l, states) (omega arith)) in
        let i = field_is (drop at bs) _ f in
        rw (← (first-at bs at), ← (i.states ∙ states)) (at_field (omega arith) _ f)

  placed-never : (o : Option Whole) → nothing_left ≡ placed at o → ⊥
  unfolding placed
  placed-never none e = let z : ◌≡◌ {A = ℕ} 0 1 = cc in omega arith
  placed-never (some d) e = let z : ◌≡◌ {A = ℕ} 0 1 = cc in omega arith

  pub found-end : nothing_left ≡ field_at bs at → length bs ≤ at
  found-end e = go (dec_lt at (length bs))
    where
      go : Dec (at < length bs) → length bs ≤ at
      go (yes h) = absurd (placed-never (field (drop at bs)) (e ∙ inside-at h))
      go (no h) = omega arith

  placed-short : (o : Option Whole) → field (drop at bs) ≡ o → cut_short ≡ placed at o → field (drop at bs) ≡ none
  unfolding placed
  placed-short none q e = q
  placed-short (some d) q e = let z : ◌≡◌ {A = ℕ} 0 1 = cc in absurd (omega arith)

  -- no field is there
  pub end_none : nothing_left ≡ field_at bs at → field (drop at bs) ≡ none
  end_none e = let h = found-end e in field-small (drop at bs) (rw (length-drop at bs) (omega arith))

  pub found-cut : cut_short ≡ field_at bs at → at < length bs
  found-cut e = go (dec_lt at (length bs))
    where
      go : Dec (at < length bs) → at < length bs
      go (yes h) = h
      go (no h) = let k = at-end (omega arith) in let z : ◌≡◌ {A = ℕ} 0 1 = cc in absurd (omega arith)

  pub short_none : cut_short ≡ field_at bs at → field (drop at bs) ≡ none
  short_none e = go (dec_lt at (length bs))
    where
      go : Dec (at < length bs) → field (drop at bs) ≡ none
      go (yes h) = placed-short (field (drop at bs)) refl (e ∙ inside-at h)
      go (no h) = let k = at-end (omega arith) in let z : ◌≡◌ {A = ℕ} 0 1 = cc in absurd (omega arith)

  module _ (tag start end : ℕ) where
    lies : (d : Whole) → field (drop at bs) ≡ some d → found tag start end ≡ found d.tag (at + 3) (at + 3 + length d.payload) → Lies bs at tag start end
    lies d q e =
        let i = field_is (drop at bs) d q in
        let l = length-drop at bs in
        let g = found-same _ _ e in
        let t : tag ≡ d.tag = ap (λ (x : Field). x.tag) g in
        let s : start ≡ at + 3 = ap (λ (x : Field). x.start) g in
        let f : end ≡ at + 3 + length d.payload = ap (λ (x : Field). x.end) g in
        let n : length d.payload ≡ end - start = omega arith in
        let m : at + 3 ≡ start = omega arith in
        let k : at + (3 + length d.payload) ≡ end = omega arith in
        record {
          whole = d;
          is = q;
          tagged = sym t;
          first = t ∙ i.tag ∙ first-at bs at;
          payload = i.payload ∙ rw (n, drop-drop 3 at bs, m);
          rest = i.rest ∙ drop-drop (3 + length d.payload) at bs ∙ ap (λ (x : ℕ). drop x bs) k;
          starts = s;
          ends = f;
          inside = omega (arith, i.long);
        }

    lies_placed : (o : Option Whole) → field (drop at bs) ≡ o → found tag start end ≡ placed at o → Lies bs at tag start end
    unfolding placed
    lies_placed none q e = let z : ◌≡◌ {A = ℕ} 0 1 = cc in absurd (omega arith)
    lies_placed (some d) q e = lies d q e

    pub found-field : found tag start end ≡ field_at bs at → Lies bs at tag start end
    found-field e = go (dec_lt at (length bs))
      where
        go : Dec (at < length bs) → Lies bs at tag start end
        go (yes h) = lies_placed (field (drop at bs)) refl (e ∙ inside-at h)
        go (no h) = let k = at-end (omega arith) in let z : ◌≡◌ {A = ℕ} 0 1 = cc in absurd (omega arith)

-- The field of a number: the next one lies behind it.

pub nth-next : (n : ℕ) (bs : List ℕ) (at : ℕ) {tag start end : ℕ} → nth_field n bs at ≡ found tag start end → nth_field (suc n) bs at ≡ field_at bs end
unfolding nth_field onward
nth-next zero bs at e = rw e
nth-next (suc n) bs at {tag} {start} {end} e = go (field_at bs at) (λ x q. nth-next n bs x q) e
  where
    go : (f : Found) → ((x : ℕ) → nth_field n bs x ≡ found tag start end → nth_field (suc n) bs x ≡ field_at bs end)
        → onward f (λ x. nth_field n bs x) ≡ found tag start end → onward f (λ x. nth_field (suc n) bs x) ≡ field_at bs end
    go (Some (Ok f)) i e = i f.end e
    go (Some (Err x)) i e = let z : ◌≡◌ {A = ℕ} 0 1 = cc in absurd (omega arith)
    go None i e = let z : ◌≡◌ {A = ℕ} 0 1 = cc in absurd (omega arith)

-- n fields on from a place: behind a field one fewer, and what is found where there is none.

module _ (n k : ℕ) (h : n ≡ suc k) (bs : List ℕ) (at : ℕ) (f : Found) (e : f ≡ field_at bs at) where
  on-next : nth_field n bs at ≡ onward f (λ x. nth_field k bs x)
  unfolding nth_field
  on-next = rw (h, ← e)

  pub on-field : {g : Field} → f ≡ Some (Ok g) → nth_field k bs g.end ≡ nth_field n bs at
  unfolding onward
  on-field q = sym (on-next ∙ rw q)

  pub on-cut : {x : CutShort} → f ≡ Some (Err x) → cut_short ≡ nth_field n bs at
  unfolding onward
  on-cut q = sym (on-next ∙ rw q)

  pub on-end : f ≡ None → nothing_left ≡ nth_field n bs at
  unfolding onward
  on-end q = sym (on-next ∙ rw q)

pub on-none : (n : ℕ) (bs : List ℕ) (at : ℕ) → n ≡ 0 → field_at bs at ≡ nth_field n bs at
unfolding nth_field
on-none n bs at h = rw h

-- the item of a series that was read from a field
pub record ReadFrom {A : Type 0} (item : ℕ → List ℕ → Option A) (bs : List ℕ) (a : A) (f : Found) : Type 0 where
  pub tag : ℕ
  pub start : ℕ
  pub end : ℕ
  pub is : f ≡ found tag start end
  pub ordered : start ≤ end
  pub inside : end ≤ length bs
  pub reads : item tag (take (end - start) (drop start bs)) ≡ some a

there : (bs : List ℕ) (at : ℕ) (d : Whole) → field (drop at bs) ≡ some d → at < length bs
there bs at d e = omega (arith, (field_is (drop at bs) d e).long, length-drop at bs)
