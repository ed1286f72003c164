-- Fields and rows of fields that are written one behind the other: a field is read back, what stands behind a row can be exchanged,
-- and a row is what `leading` and `only` read. Rests on fields' Image, parts' Series and laws' Numbers.
use Rattle.std.specs.Prelude.{◌≡◌, refl, Bool, length, get_or, drop}
use Rattle.std.proofs.Common.{sym, ◌∙◌, ap₂, arith, length-append, take-append-drop}
use Rattle.std.proofs.Math.Path.{ap}
use Rattle.std.proofs.Math.Bool.{true}
use Rattle.std.proofs.Math.Option.{Option, some}
use mathlib.Core.List.{List, [], ◌∷◌, ◌++◌, append_assoc}
use Prim.Native.Nat.{ℕ, zero, suc, ◌+◌, ◌<◌, ◌≤◌}
use Rattle.std.proofs.Math.Seq.{take-append_seam, drop-append_seam, drop-append-add}
use Rattle.meaning.specs.Basics.{is_empty}
use Rattle.meaning.specs.Numbers.{number, bytes}
use Rattle.meaning.specs.Image.{Field, stated, field, leading, only, passes_all}
use Rattle.meaning.specs.ProvedSet.{field_bytes}
use Rattle.meaning.specs.Laws.Tests.{ensure-yes}
use Rattle.fields.specs.Image.{field_of, field_is, leading-empty, leading_step, bind_yes}
use Rattle.laws.specs.Numbers.{number-bytes}
use Rattle.parts.specs.Series.{Series}

-- Fields.

field_cons : (t h l : ℕ) (payload more : List ℕ) → length payload ≡ number (h ∷ l ∷ []) → field (t ∷ h ∷ l ∷ payload ++ more) ≡ some (record { tag = t; payload = payload; rest = more })
field_cons t h l payload more e =
    let bs : List ℕ = t ∷ h ∷ l ∷ payload ++ more in
    let n = length-append payload more in
    let s : stated bs ≡ length payload = sym e in
    let b : drop (3 + length payload) bs ≡ more = drop-append-add (t ∷ h ∷ l ∷ []) (payload ++ more) (length payload) ∙ drop-append_seam payload more in
    field_of bs (omega arith) (omega arith) ∙ rw (s, take-append_seam payload more, b)

pub field-written : (tag : ℕ) (payload more : List ℕ) → length payload < 65536 → field (field_bytes tag payload ++ more) ≡ some (record { tag = tag; payload = payload; rest = more })
unfolding bytes
field-written tag payload more h = field_cons tag _ _ payload more (sym (number-bytes 2 (length payload) h))

pub length-field : (tag : ℕ) (payload : List ℕ) → length (field_bytes tag payload) ≡ 3 + length payload
unfolding bytes
length-field tag payload = omega arith

field-split : (bs : List ℕ) (d : Field) → field bs ≡ some d → (h l : ℕ) × (length d.payload ≡ number (h ∷ l ∷ [])) × (bs ≡ d.tag ∷ h ∷ l ∷ d.payload ++ d.rest)
field-split [] d e = let i = (field_is [] d e).long in absurd (omega arith)
field-split (t ∷ []) d e = let i = (field_is (t ∷ []) d e).long in absurd (omega arith)
field-split (t ∷ h ∷ []) d e = let i = (field_is (t ∷ h ∷ []) d e).long in absurd (omega arith)
field-split (t ∷ h ∷ l ∷ bs) d e =
    let i = field_is (t ∷ h ∷ l ∷ bs) d e in
    let b : d.rest ≡ drop (length d.payload) bs = i.rest ∙ drop-append-add (t ∷ h ∷ l ∷ []) bs (length d.payload) in
    let j : d.payload ++ d.rest ≡ bs = ap₂ ◌++◌ i.payload b ∙ take-append-drop (length d.payload) bs in
    (h, l, i.states, rw (i.tag, j))

-- Rows of fields.

module _ {A : Type 0} (item : ℕ → List ℕ → Option A) where
  -- what stands behind a row can be exchanged
  pub series-front : (l : List A) (rest bs : List ℕ) → Series item l rest bs → (front : List ℕ) × (bs ≡ front ++ rest) × ((other : List ℕ) → Series item l other (front ++ other))
  unfolding Series
  series-front [] rest bs r = ([], r, λ other. refl)
  series-front (a ∷ l) rest bs r =
      let f = field-split bs r.whole r.there in
      let i = series-front l rest r.whole.rest r.more in
      let p = r.whole.payload in
      let head : List ℕ → List ℕ = λ x. r.whole.tag ∷ f.0 ∷ f.1 ∷ x in (
        head (p ++ i.0),
        f.3 ∙ ap (λ (x : List ℕ). head (p ++ x)) i.1 ∙ ap head (sym (append_assoc p i.0 rest)),
        λ other. record {
          whole = record { tag = r.whole.tag; payload = p; rest = i.0 ++ other };
          there = ap (λ (x : List ℕ). field (head x)) (append_assoc p i.0 other) ∙ field_cons r.whole.tag f.0 f.1 p (i.0 ++ other) f.2;
          read = r.read;
          more = i.2 other;
        },
      )

-- a row, each item of it read as `item` reads it and with a tag that passes, up to what `leading` stops at
module _ {A : Type 0} (passes : ℕ → Bool) (item other : ℕ → List ℕ → Option A) (passed : (tag : ℕ) (bs : List ℕ) (a : A) → other tag bs ≡ some a → (passes tag ≡ true) × (item tag bs ≡ some a))
    (rest : List ℕ) (stops : (n : ℕ) → leading passes item n rest ≡ some (record { items = []; rest = rest }))
  where
    pub series-leading : (l : List A) (n : ℕ) (bs : List ℕ) → length l ≤ n → Series other l rest bs → leading passes item n bs ≡ some (record { items = l; rest = rest })
    unfolding Series
    series-leading [] n bs h r = rw r (stops n)
    series-leading (a ∷ l) zero bs h r = absurd (omega arith)
    series-leading (a ∷ l) (suc n) bs h r =
        let p = passed _ _ a r.read in
        let first : passes (get_or bs 0 0) ≡ true = ap passes (sym (field_is bs r.whole r.there).tag) ∙ p.0 in
        leading_step passes item n bs r.whole a first r.there p.1 ∙ bind_yes _ _ _ (series-leading l n r.whole.rest (omega arith) r.more)

pub series-only : {A : Type 0} (item : ℕ → List ℕ → Option A) (l : List A) (n : ℕ) (bs : List ℕ) → length l ≤ n → Series item l [] bs → only passes_all item n bs ≡ some l
unfolding only is_empty
series-only item l n bs h r =
    bind_yes _ _ _ (series-leading passes_all item item (λ tag bs a e. (refl, e)) [] (λ m. leading-empty passes_all item m) l n bs h r) ∙ ensure-yes _ _ refl
