-- What is found at a place is what the definition expects there. Rests on Reading and on fields' Fields and Laws.
use mathlib.Core.Path.{◌≡◌, refl, sym, ◌∙◌, ap}
use mathlib.Core.Bool.{Bool, true, false}
use mathlib.Core.Option.{some, none}
use mathlib.Core.List.{List}
use Prim.Native.Nat.{ℕ, ◌+◌, ◌-◌}
use native.Mathlib.Omega.{arith}
use borrow.Author.Tests.{eqb-true, eqb-false, eq-eqb, ne_eqb}
use lib.ListN.{take, drop}
use Rattle.std.specs.Prelude.{Some, None, Result, Ok, Err, nat_eq}
use Rattle.std.specs.Bool.{then_some}
use Rattle.std.specs.Result.{result_ok}
use Rattle.meaning.specs.Basics.{ensure, ◌>>◌, ◌>>=◌}
use Rattle.meaning.specs.Image.{Field as Whole, field, expect}
use Rattle.fields.specs.declared.Field.{Field}
use Rattle.fields.specs.declared.CutShort.{CutShort}
use Rattle.fields.specs.Fields.{nothing_left, field_at}
use Rattle.fields.specs.Laws.{Lies, found-field, end_none, short_none}
use Rattle.run_input.specs.Reading.{Expected, Expects, field_head}

same-field : (d : Whole) (t : ℕ) (p r : List ℕ) → d.tag ≡ t → d.payload ≡ p → d.rest ≡ r → d ≡ record { tag = t; payload = p; rest = r }
same-field d t p r a b c = rw (← a, ← b, ← c) refl

module _ (bs : List ℕ) (at tag : ℕ) where
  expect-some : (d : Whole) → field (drop at bs) ≡ some d → d.tag ≡ tag → expect tag (drop at bs) ≡ some d
  unfolding expect ◌>>=◌ ◌>>◌ ensure
  expect-some d e h = rw (e, eq-eqb d.tag tag h)

  expect-other : (d : Whole) → field (drop at bs) ≡ some d → (d.tag ≡ tag → ⊥) → expect tag (drop at bs) ≡ none
  unfolding expect ◌>>=◌ ◌>>◌ ensure
  expect-other d e h = rw (e, ne_eqb d.tag tag h)

  expect-none : field (drop at bs) ≡ none → expect tag (drop at bs) ≡ none
  unfolding expect ◌>>=◌
  expect-none e = rw e

  pub expect-end : nothing_left ≡ field_at bs at → expect tag (drop at bs) ≡ none
  expect-end e = expect-none (end_none bs at e)

  pub expect-cut : (r : Result Field CutShort) → Some r ≡ field_at bs at → result_ok r ≡ None → expect tag (drop at bs) ≡ none
  expect-cut (Ok f) e h = cc
  expect-cut (Err x) e h = expect-none (short_none bs at e)

  module _ (f : Field) (e : Some (Ok f) ≡ field_at bs at) where
    lies : Lies bs at f.tag f.start f.end
    lies = found-field bs at f.tag f.start f.end e

    expect-unlike : (f.tag ≡ tag → ⊥) → expect tag (drop at bs) ≡ none
    expect-unlike h = expect-other lies.whole lies.is (λ q. h (sym lies.tagged ∙ q))

    expect-like : f.tag ≡ tag → Expected bs at tag f.end
    expect-like h =
        let p : lies.whole.payload ≡ take (f.end - (at + field_head)) (drop (at + field_head) bs) = rw (← lies.starts) lies.payload in
        record {
          is = expect-some lies.whole lies.is (lies.tagged ∙ h) ∙ ap some (same-field lies.whole tag _ _ (lies.tagged ∙ h) p lies.rest);
          ordered = omega (arith, lies.ends);
          inside = lies.inside;
        }

    pub expect-told : Expects bs at tag (then_some (nat_eq f.tag tag) f.end)
    expect-told = go (nat_eq f.tag tag) refl
      where
        go : (t : Bool) → nat_eq f.tag tag ≡ t → Expects bs at tag (then_some t f.end)
        go true q = expect-like (eqb-true f.tag tag q)
        go false q = expect-unlike (eqb-false f.tag tag q)

  pub expect-found : (r : Result Field CutShort) (f : Field) → Some r ≡ field_at bs at → result_ok r ≡ Some f
      → Expects bs at tag (then_some (nat_eq f.tag tag) f.end)
  expect-found (Ok g) f e h = let q : g ≡ f = cc in expect-told f (rw q at e)
  expect-found (Err x) f e h = cc
