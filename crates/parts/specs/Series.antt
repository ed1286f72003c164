-- Series of fields: what stands one after the other in bytes, each field read by `item` from its tag and payload; the walk of
-- a loop over them; and the field of a number among them. Rests on the meaning's Image and on fields' Fields and Laws.
use Rattle.std.proofs.Math.Path.{◌≡◌, refl, sym, ap}
use Rattle.std.proofs.Common.{◌∙◌}
use Rattle.std.specs.Prelude.{Some, None, Ok, Err, Bool, get_or, take, drop}
use Rattle.std.proofs.Math.Bool.{true, false}
use Rattle.std.proofs.Math.Option.{Option, some, none}
use mathlib.Core.List.{List, [], ◌∷◌, ◌++◌, map}
use Prim.Native.Nat.{ℕ, zero, suc, ◌+◌, ◌-◌, ◌<◌, ◌≤◌}
use native.Mathlib.Omega.{arith}
use Rattle.std.proofs.Math.ListN.{length, length-drop}
use Rattle.meaning.specs.Basics.{every}
use Rattle.meaning.specs.Image.{field, leading, only, Read, Field as Whole}
use Rattle.meaning.specs.Laws.Tests.{both_yes, both-no, bind_some, ensure-some, choose_true, choose_false, some_inj, empty-true}
use Rattle.fields.specs.Image.{field_is}
use Rattle.fields.specs.Fields.{Found, found, cut_short, nothing_left, field_at, onward, nth_field}
use Rattle.fields.specs.Laws.{Lies, found-field, at_field, at-end}

-- what holds of the value that is there, if there is one
abbrev pub For : {A : Type 0} → Option A → (A → Type 0) → Type 0
For {A} o P = (a : A) → o ≡ some a → P a

-- a field that is read as `a`, and what is said of the bytes behind it
pub record Next {A : Type 0} (item : ℕ → List ℕ → Option A) (a : A) (More : List ℕ → Type 0) (bs : List ℕ) : Type 0 where
  pub whole : Whole
  pub there : field bs ≡ some whole
  pub read : item whole.tag whole.payload ≡ some a
  pub more : More whole.rest

-- the bytes are fields that are read as the items of the list, and then the rest
unfoldable pub Series : {A : Type 0} → (ℕ → List ℕ → Option A) → List A → List ℕ → List ℕ → Type 0
Series item [] rest bs = bs ≡ rest
Series item (a ∷ l) rest bs = Next item a (Series item l rest) bs

-- What `leading` and `only` read, each item read in the same way by `other` where its tag passes.

module _ {A : Type 0} (passes : ℕ → Bool) (item other : ℕ → List ℕ → Option A) (keeps : (tag : ℕ) (bs : List ℕ) (a : A) → passes tag ≡ true → item tag bs ≡ some a → other tag bs ≡ some a) where
  stop-series : (bs : List ℕ) (r : Read A) → some (record { items = []; rest = bs }) ≡ some r → Series other r.items r.rest bs
  unfolding Series
  stop-series bs r e = rw (← (some_inj (record { items = []; rest = bs }) r e))

  pub leading-series : (n : ℕ) (bs : List ℕ) (r : Read A) → leading passes item n bs ≡ some r → Series other r.items r.rest bs
  unfolding leading Series
  leading-series zero bs r e = stop-series bs r e
  leading-series (suc n) [] r e = stop-series [] r e
  leading-series (suc n) (t ∷ bs) r e = at (passes t) refl (λ cs x h. leading-series n cs x h)
    where
      at : (b : Bool) → passes t ≡ b → ((cs : List ℕ) (x : Read A) → leading passes item n cs ≡ some x → Series other x.items x.rest cs) → Series other r.items r.rest (t ∷ bs)
      at false h later = stop-series (t ∷ bs) r (sym (choose_false _ _ _ h) ∙ e)
      at true h later =
          let u = bind_some (field (t ∷ bs)) _ r (sym (choose_true _ _ _ h) ∙ e) in
          let v = bind_some (item u.0.tag u.0.payload) _ r u.2 in
          let w = bind_some (leading passes item n u.0.rest) _ r v.2 in
          let passed : passes u.0.tag ≡ true = ap passes (field_is (t ∷ bs) u.0 u.1).tag ∙ h in
          rw (← (some_inj (record { items = v.0 ∷ w.0.items; rest = w.0.rest }) r w.2)) (record { whole = u.0; there = u.1; read = keeps _ _ _ passed v.1; more = later u.0.rest w.0 w.1 })

  pub only-series : (n : ℕ) (bs : List ℕ) (l : List A) → only passes item n bs ≡ some l → Series other l [] bs
  unfolding only
  only-series n bs l e =
      let t = bind_some (leading passes item n bs) _ l e in
      let u = ensure-some _ _ l t.2 in
      let k = leading-series n bs t.0 t.1 in
      rw (empty-true t.0.rest u.0, some_inj t.0.items l u.1) at k

-- two rows, one behind the other; a row read in another way
module _ {A : Type 0} (item : ℕ → List ℕ → Option A) where
  pub series_append : (l m : List A) (rest bs cs : List ℕ) → Series item l rest bs → Series item m cs rest → Series item (l ++ m) cs bs
  unfolding Series
  series_append [] m rest bs cs r s = rw r s
  series_append (a ∷ l) m rest bs cs r s = record { whole = r.whole; there = r.there; read = r.read; more = series_append l m rest r.whole.rest cs r.more s }

  pub series-map : {B : Type 0} (other : ℕ → List ℕ → Option B) (h : A → B) → ((tag : ℕ) (bs : List ℕ) (a : A) → item tag bs ≡ some a → other tag bs ≡ some (h a)) → (l : List A) (rest bs : List ℕ) → Series item l rest bs → Series other (map h l) rest bs
  unfolding Series
  series-map other h f [] rest bs r = r
  series-map other h f (a ∷ l) rest bs r = record { whole = r.whole; there = r.there; read = f _ _ a r.read; more = series-map other h f l rest r.whole.rest r.more }

-- One step of a row that ends with the bytes.

-- the first item, read from the part of the bytes where it lies, and the row behind it
pub record Taken {A : Type 0} (item : ℕ → List ℕ → Option A) (l : List A) (bs : List ℕ) (tag start end : ℕ) : Type 0 where
  pub first : A
  pub others : List A
  pub parts : l ≡ first ∷ others
  pub read : item tag (take (end - start) (drop start bs)) ≡ some first
  pub series : Series item others [] (drop end bs)

module _ {A : Type 0} (item : ℕ → List ℕ → Option A) (bs : List ℕ) (at : ℕ) where
  pub series-none : (l : List A) → Series item l [] (drop at bs) → length bs ≤ at → l ≡ []
  unfolding Series
  series-none [] r h = refl
  series-none (a ∷ l) r h =
      let i = (field_is (drop at bs) r.whole r.there).long in
      let d = length-drop at bs in
      absurd (omega arith)

  -- a row that is not empty begins with a field
  pub series-field : (a : A) (l : List A) → Series item (a ∷ l) [] (drop at bs) → field (drop at bs) ≡ none → ⊥
  unfolding Series
  series-field a l r e =
      let z : ◌≡◌ {A = ℕ} 0 1 = cc r.there in
      omega arith

  -- which is read as its first item, and the row goes on behind it
  pub series-first : (a : A) (l : List A) → Series item (a ∷ l) [] (drop at bs) → {tag start end : ℕ} → Lies bs at tag start end
      → (item tag (take (end - start) (drop start bs)) ≡ some a) × Series item l [] (drop end bs)
  unfolding Series
  series-first a l r f =
      let same : r.whole ≡ f.whole = some_inj _ _ (sym r.there ∙ f.is) in
      (rw (← f.tagged, ← f.payload, ← same) r.read, rw (← f.rest, ← same) r.more)

  pub series-some : (l : List A) → Series item l [] (drop at bs) → at < length bs → (tag start end : ℕ) → Lies bs at tag start end → Taken item l bs tag start end
  unfolding Series
  series-some [] r h tag start end f =
      let d : length (drop at bs) ≡ 0 = ap length r in
      let e = length-drop at bs in
      absurd (omega arith)
  series-some (a ∷ l) r h tag start end f =
      let t = series-first a l r f in
      record { first = a; others = l; parts = refl; read = t.0; series = t.1 }

  -- a row that has not ended has a field
  pub series-there : (l : List A) → Series item l [] (drop at bs) → at < length bs → field (drop at bs) ≡ none → ⊥
  unfolding Series
  series-there [] r h e =
      let d : length (drop at bs) ≡ 0 = ap length r in
      let k = length-drop at bs in
      omega arith
  series-there (a ∷ l) r h e = series-field a l r e

-- A loop that asks the same of every item of a row: `total` is what it is to answer, from what the bytes stand for.

pub record Left {A : Type 0} (item : ℕ → List ℕ → Option A) (f : A → Bool) (bs : List ℕ) (at : ℕ) (total : Bool) : Type 0 where
  pub items : List A
  pub series : Series item items [] (drop at bs)
  pub same : total ≡ every f items

pub record Walk {A L : Type 0} (item : ℕ → List ℕ → Option A) (f : A → Bool) (bs : List ℕ) (o : Option L) (total : L → Bool) (at : ℕ) : Type 0 where
  pub left : For o (λ x. Left item f bs at (total x))

module _ {A L : Type 0} {item : ℕ → List ℕ → Option A} {f : A → Bool} {bs : List ℕ} {o : Option L} {total : L → Bool} where
  pub walk_start : ((x : L) → o ≡ some x → (l : List A) × (Series item l [] bs) × (total x ≡ every f l)) → Walk item f bs o total 0
  walk_start h = record { left = λ x e. let t = h x e in record { items = t.0; series = t.1; same = t.2 } }

  module _ {at : ℕ} (w : Walk item f bs o total at) where
    pub walk_done : length bs ≤ at → For o (λ x. true ≡ total x)
    unfolding every
    walk_done h x e =
        let l = w.left x e in
        sym (l.same ∙ ap (every f) (series-none item bs at l.items l.series h))

    pub walk_cut : at < length bs → field (drop at bs) ≡ none → For o (λ x. false ≡ total x)
    walk_cut h k x e = let l = w.left x e in absurd (series-there item bs at l.items l.series h k)

    module _ {tag start end : ℕ} {part : List ℕ} {r : Bool} (h : at < length bs) (k : Lies bs at tag start end) (p : part ≡ take (end - start) (drop start bs)) (q : For (item tag part) (λ a. r ≡ f a)) where
      pub walk_next : r ≡ true → Walk item f bs o total end
      unfolding every
      walk_next g = record {
        left = λ x e.
            let l = w.left x e in
            let t = series-some item bs at l.items l.series h tag start end k in
            record {
              items = t.others;
              series = t.series;
              same = l.same ∙ ap (every f) t.parts ∙ both_yes (f t.first) (every f t.others) (sym (q t.first (ap (item tag) p ∙ t.read)) ∙ g);
            };
      }

      pub walk_stop : r ≡ false → For o (λ x. false ≡ total x)
      unfolding every
      walk_stop g x e =
          let l = w.left x e in
          let t = series-some item bs at l.items l.series h tag start end k in
          sym (l.same ∙ ap (every f) t.parts ∙ both-no (f t.first) (every f t.others) (sym (q t.first (ap (item tag) p ∙ t.read)) ∙ g))

-- The field of a number.

-- the part of the bytes that is the payload of a field that was found, and its tag
unfoldable pub part_of : List ℕ → Found → List ℕ
part_of bs (Some (Ok f)) = take (f.end - f.start) (drop f.start bs)
part_of bs (Some (Err e)) = []
part_of bs None = []

unfoldable pub tag_of : Found → ℕ
tag_of (Some (Ok f)) = f.tag
tag_of (Some (Err e)) = 0
tag_of None = 0

abbrev pub nth_part : ℕ → List ℕ → List ℕ
nth_part n bs = part_of bs (nth_field n bs 0)

abbrev pub nth_tag : ℕ → List ℕ → ℕ
nth_tag n bs = tag_of (nth_field n bs 0)

pub part_field : (bs : List ℕ) (f : Found) (tag start end : ℕ) → f ≡ found tag start end → part_of bs f ≡ take (end - start) (drop start bs)
unfolding part_of
part_field bs f tag start end e = rw e

pub tag-field : (f : Found) (tag start end : ℕ) → f ≡ found tag start end → tag_of f ≡ tag
unfolding tag_of
tag-field f tag start end e = rw e

pub part-short : (bs : List ℕ) (f : Found) → f ≡ cut_short → part_of bs f ≡ []
unfolding part_of
part-short bs f e = rw e

pub part_end : (bs : List ℕ) (f : Found) → f ≡ nothing_left → part_of bs f ≡ []
unfolding part_of
part_end bs f e = rw e

pub tag-short : (f : Found) → f ≡ cut_short → tag_of f ≡ 0
unfolding tag_of
tag-short f e = rw e

pub tag-end : (f : Found) → f ≡ nothing_left → tag_of f ≡ 0
unfolding tag_of
tag-end f e = rw e

module _ (bs : List ℕ) where
  -- a field that is found lies in the bytes
  pub nth_inside : (n at tag start end : ℕ) → found tag start end ≡ nth_field n bs at → (start ≤ end) × (end ≤ length bs)
  unfolding nth_field onward
  nth_inside zero at tag start end e =
      let l = found-field bs at tag start end e in
      (omega (arith, l.starts, l.ends), l.inside)
  nth_inside (suc n) at tag start end e = go (field_at bs at) (λ x k. nth_inside n x tag start end k) e
    where
      go : (f : Found) → ((x : ℕ) → found tag start end ≡ nth_field n bs x → (start ≤ end) × (end ≤ length bs)) → found tag start end ≡ onward f (λ x. nth_field n bs x) → (start ≤ end) × (end ≤ length bs)
      go (Some (Ok f)) i e = i f.end e
      go (Some (Err x)) i e = let z : ◌≡◌ {A = ℕ} 0 1 = cc in absurd (omega arith)
      go None i e = let z : ◌≡◌ {A = ℕ} 0 1 = cc in absurd (omega arith)

  -- a field of a row, with its place
  row_field : {A : Type 0} (item : ℕ → List ℕ → Option A) (a : A) (l : List A) (at : ℕ) → Series item (a ∷ l) [] (drop at bs) → (tag : ℕ) × (start : ℕ) × (end : ℕ) × (field_at bs at ≡ found tag start end) × (item tag (take (end - start) (drop start bs)) ≡ some a) × (Series item l [] (drop end bs))
  unfolding Series
  row_field item a l at r =
      let i = (field_is (drop at bs) r.whole r.there).long in
      let d = length-drop at bs in
      let h : at < length bs = omega arith in
      let f = at_field bs at h r.whole r.there in
      let t = series-first item bs at a l r (found-field bs at _ _ _ f) in
      (r.whole.tag, at + 3, at + 3 + length r.whole.payload, sym f, t.0, t.1)

  nth-series : {A : Type 0} (item : ℕ → List ℕ → Option A) (l : List A) (at n : ℕ) (d : A) → Series item l [] (drop at bs) → n < length l → item (tag_of (nth_field n bs at)) (part_of bs (nth_field n bs at)) ≡ some (get_or l n d)
  unfolding nth_field onward
  nth-series item [] at n d r h = absurd (omega arith)
  nth-series item (a ∷ l) at zero d r h =
      let t = row_field item a l at r in
      rw (tag-field _ _ _ _ t.3, part_field bs _ _ _ _ t.3) t.4
  nth-series item (a ∷ l) at (suc n) d r h =
      let t = row_field item a l at r in
      rw t.3 (nth-series item l t.2 n d t.5 (omega arith))

  -- a field of a row is there
  there : {A : Type 0} (item : ℕ → List ℕ → Option A) (l : List A) (at n : ℕ) → Series item l [] (drop at bs) → n < length l
      → (tag : ℕ) × (start : ℕ) × (end : ℕ) × (nth_field n bs at ≡ found tag start end)
  unfolding nth_field onward
  there item [] at n r h = absurd (omega arith)
  there item (a ∷ l) at zero r h = let t = row_field item a l at r in (t.0, t.1, t.2, t.3)
  there item (a ∷ l) at (suc n) r h =
      let t = row_field item a l at r in
      let u = there item l t.2 n t.5 (omega arith) in
      (u.0, u.1, u.2, rw t.3 u.3)

  pub nth-there : {A : Type 0} (item : ℕ → List ℕ → Option A) (l : List A) (n : ℕ) → Series item l [] bs → n < length l
      → (tag : ℕ) × (start : ℕ) × (end : ℕ) × (nth_field n bs 0 ≡ found tag start end)
  nth-there item l n r h = there item l 0 n r h

  -- behind the last of a row there is none
  beyond : {A : Type 0} (item : ℕ → List ℕ → Option A) (l : List A) (at n : ℕ) → Series item l [] (drop at bs) → length l ≤ n → nth_field n bs at ≡ nothing_left
  unfolding Series nth_field onward
  beyond item [] at n r h = at_last n (sym (at-end bs at (omega (arith, length-drop at bs, ap length r))))
    where
      at_last : (n : ℕ) → field_at bs at ≡ nothing_left → nth_field n bs at ≡ nothing_left
      at_last zero e = e
      at_last (suc n) e = rw e
  beyond item (a ∷ l) at zero r h = absurd (omega arith)
  beyond item (a ∷ l) at (suc n) r h =
      let t = row_field item a l at r in
      rw t.3 (beyond item l t.2 n t.5 (omega arith))

  pub nth_beyond : {A : Type 0} (item : ℕ → List ℕ → Option A) (l : List A) (n : ℕ) → Series item l [] bs → length l ≤ n → nth_part n bs ≡ []
  nth_beyond item l n r h = part_end bs _ (beyond item l 0 n r h)

  -- the item of a number is read from the field of that number
  pub nth-item : {A : Type 0} (item : ℕ → List ℕ → Option A) (l : List A) (n : ℕ) (d : A) → Series item l [] bs → n < length l → item (nth_tag n bs) (nth_part n bs) ≡ some (get_or l n d)
  nth-item item l n d r h = nth-series item l 0 n d r h
