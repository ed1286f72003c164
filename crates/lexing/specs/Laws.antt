-- The words behind the end of a text: none. Rests on the text's Words.
use Rattle.std.specs.Prelude.{◌≡◌, List, [], ℕ, ◌≤◌, length, drop}
use Rattle.std.proofs.Common.{drop_of_length-le}
use Rattle.text.specs.Words.{last, words_in, words}

pub words-end : (bs : List ℕ) (at : ℕ) → length bs ≤ at → words (drop at bs) ≡ []
unfolding words_in last
words-end bs at h = rw (drop_of_length-le bs h)
