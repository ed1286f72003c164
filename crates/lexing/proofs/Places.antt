-- One byte of a text: the words from a place on, in any mode, by the byte there and by where the next one stands; slices grown by one.
-- Rests on the text's Words.
use mathlib.Core.Path.{◌≡◌, ap}
use mathlib.Core.List.{List, [], ◌∷◌, ◌++◌}
use Prim.Native.Nat.{ℕ, ◌+◌, ◌<◌, ◌≤◌}
use native.Mathlib.Numerals.{add-one}
use native.Mathlib.Omega.{arith}
use lib.ListN.{length, get_or, take, drop, drop_of_length-le}
use lib.Seq.{take-suc, drop-cons, drop-append-le, length-take-le, slice}
use Rattle.text.specs.Words.{Mode, told, next, last, words_in}

abbrev pub byte : List ℕ → ℕ → ℕ
byte bs at = get_or bs at 0

module _ (bs : List ℕ) (at : ℕ) where
  pub ended : (m : Mode) → length bs ≤ at → words_in m (drop at bs) ≡ last m
  unfolding words_in
  ended m h = rw (drop_of_length-le bs h)

  pub here : at < length bs → drop at bs ≡ byte bs at ∷ drop (at + 1) bs
  here h = rw (add-one at) (drop-cons bs at 0 h)

  pub step : (m : Mode) → at < length bs → words_in m (drop at bs) ≡ told m (byte bs at) ++ words_in (next m (byte bs at)) (drop (at + 1) bs)
  unfolding words_in
  step m h = ap (words_in m) (here h)

pub slice-more : (bs : List ℕ) (from at : ℕ) → from ≤ at → at < length bs → slice from (at + 1) bs ≡ slice from at bs ++ byte bs at ∷ []
slice-more bs from at h k =
    rw (add-one at, take-suc bs at 0 k) (drop-append-le from (take at bs) (byte bs at ∷ []) (rw (length-take-le at bs (omega arith)) h))
