-- What a walk answers that asks a question of each field of bytes, up to the first that does not pass, and what that says of the
-- items that the fields are read as. Rests on the meaning's Image, on fields' Laws and on Series.
use mathlib.Core.Path.{◌≡◌, sym, ◌∙◌, ap}
use mathlib.Core.Bool.{Bool, true, false}
use mathlib.Core.Option.{Option, none}
use mathlib.Core.List.{List, []}
use Prim.Native.Nat.{ℕ, ◌≤◌, ◌<◌, ◌-◌}
use native.Mathlib.Omega.{arith}
use lib.ListN.{length, take, drop}
use Rattle.std.specs.Borrow.{Bor}
use Rattle.meaning.specs.Basics.{every}
use Rattle.meaning.specs.Image.{field}
use Rattle.meaning.specs.Laws.Tests.{both_yes, both-no}
use Rattle.fields.specs.Laws.{Lies}
use Rattle.parts.specs.Series.{For, Series, series-none, series-some, series-there}

-- the answer from a place on, where the question may answer r of a tag and a lent payload if `R tag payload r`
pub data Answers (R : ℕ → Bor (List ℕ) → Bool → Type 0) (bs : List ℕ) : ℕ → Bool → Type 0 where
  -- the bytes have ended
  done : {at : ℕ} → length bs ≤ at → Answers R bs at true
  -- a field is cut short
  cut : {at : ℕ} → at < length bs → field (drop at bs) ≡ none → Answers R bs at false
  -- the field at the place does not pass, or it passes and the walk goes on behind it
  stop : {at tag start end : ℕ} (part : Bor (List ℕ)) → Lies bs at tag start end → part.now ≡ take (end - start) (drop start bs) → R tag part false → Answers R bs at false
  next : {at tag start end : ℕ} {r : Bool} (part : Bor (List ℕ)) → Lies bs at tag start end → part.now ≡ take (end - start) (drop start bs) → R tag part true → Answers R bs end r → Answers R bs at r

-- where the question answers what is asked of the item, the walk answers what is asked of every item
module _ {A : Type 0} (item : ℕ → List ℕ → Option A) (f : A → Bool) {R : ℕ → Bor (List ℕ) → Bool → Type 0} {bs : List ℕ}
    (h : (tag : ℕ) (part : Bor (List ℕ)) (r : Bool) → R tag part r → For (item tag part.now) (λ a. r ≡ f a)) where
  pub every_answers : {at : ℕ} {r : Bool} → Answers R bs at r → (l : List A) → Series item l [] (drop at bs) → r ≡ every f l
  unfolding every
  every_answers {at} (done k) l s = sym (ap (every f) (series-none item bs at l s k))
  every_answers {at} (cut k n) l s = absurd (series-there item bs at l s k n)
  every_answers {at} (stop {tag = tag} {start = start} {end = end} part k p q) l s =
      let t = series-some item bs at l s (omega (arith, k.starts, k.ends, k.inside)) tag start end k in
      sym (ap (every f) t.parts ∙ both-no (f t.first) (every f t.others) (sym (h tag part false q t.first (ap (item tag) p ∙ t.read))))
  every_answers {at} {r} (next {tag = tag} {start = start} {end = end} part k p q w) l s =
      let t = series-some item bs at l s (omega (arith, k.starts, k.ends, k.inside)) tag start end k in
      every_answers w t.others t.series
      ∙ sym (ap (every f) t.parts ∙ both_yes (f t.first) (every f t.others) (sym (h tag part true q t.first (ap (item tag) p ∙ t.read))))
