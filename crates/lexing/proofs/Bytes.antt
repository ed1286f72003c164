-- Classes of bytes and equal bytes, as std tests them, by the names of the text. Rests on the text's Words.
use Rattle.std.proofs.Common.{◌≡◌, refl, ◌∙◌, ap, Bool, true, false, ℕ, List, [], ◌∷◌, ◌&&◌, ◌||◌, nat_eq}
use Rattle.std.specs.Char.{is_ascii_digit, is_ascii_alphanumeric}
use lib.Pointwise.{pointwise}
use Rattle.meaning.specs.Basics.{both, either, same}
use Rattle.text.specs.Words.{is_digit, is_letter, within}

pub and-both : (a b : Bool) → (a && b) ≡ both a b
unfolding both
and-both true b = refl
and-both false b = refl

pub or-either : (a b : Bool) → (a || b) ≡ either a b
unfolding either
or-either true b = refl
or-either false b = refl

either_assoc : (a b c : Bool) → either (either a b) c ≡ either a (either b c)
unfolding either
either_assoc true b c = refl
either_assoc false b c = refl

pub digit-ascii : (b : ℕ) → is_ascii_digit b ≡ is_digit b
unfolding is_digit within
digit-ascii b = and-both _ _

pub letter-ascii : (b : ℕ) → (is_ascii_alphanumeric b || nat_eq b 0x5f) ≡ is_letter b
unfolding is_letter is_digit within
letter-ascii b = simp (and-both, or-either, either_assoc) refl

pub pointwise-same : (l m : List ℕ) → pointwise nat_eq l m ≡ same l m
unfolding same both
pointwise-same [] [] = refl
pointwise-same [] (b ∷ m) = refl
pointwise-same (a ∷ l) [] = refl
pointwise-same (a ∷ l) (b ∷ m) = and-both (nat_eq a b) (pointwise nat_eq l m) ∙ ap (both (nat_eq a b)) (pointwise-same l m)
