-- Words by the byte at their place: white space is none, a sign is itself. Rests on Places and on the text's Words.
use mathlib.Core.Path.{◌≡◌, ◌∙◌}
use mathlib.Core.Bool.{true, false}
use mathlib.Core.List.{List, ◌∷◌}
use Prim.Native.Nat.{ℕ, ◌+◌, ◌<◌}
use native.Mathlib.Omega.{arith}
use borrow.Author.Tests.{ne_eqb, eqb-true}
use lib.Dec.{eqb}
use lib.ListN.{length, drop}
use Rattle.meaning.specs.Basics.{choose, either}
use Rattle.meaning.specs.Laws.Tests.{not_so}
use Rattle.text.specs.Words.{between, sign, slash, is_letter, is_white, is_sign, signs, begun, told, next, words}
use Rattle.lexing.proofs.Places.{byte, step}

white_no-slash : (b : ℕ) → is_white b ≡ true → eqb b slash ≡ false
unfolding is_white either
white_no-slash b e =
    not_so _ (λ q. let k = eqb-true b slash q in let f = rw k at e in let z : ◌≡◌ {A = ℕ} 0 1 = cc in absurd (omega arith))

module _ (bs : List ℕ) (at : ℕ) (h : at < length bs) (e : is_letter (byte bs at) ≡ false) where
  pub words_white : is_white (byte bs at) ≡ true → words (drop at bs) ≡ words (drop (at + 1) bs)
  unfolding told next begun signs is_sign choose either
  words_white f = step bs at between h ∙ rw (e, f, white_no-slash (byte bs at) f)

  pub words-sign : is_white (byte bs at) ≡ false → (byte bs at ≡ slash → ⊥) → words (drop at bs) ≡ sign (byte bs at) ∷ words (drop (at + 1) bs)
  unfolding told next begun signs is_sign choose either
  words-sign f g = step bs at between h ∙ rw (e, f, ne_eqb (byte bs at) slash g)
