-- What copying bytes leaves in a buffer. Rests on nothing but lists.
use Rattle.std.specs.Prelude.{◌≡◌, List, ◌++◌, ℕ, ◌≤◌, length, take, drop}

-- the first n bytes of the buffer are the first n of what is copied: all of them, or as many as the buffer holds; those behind
-- them are as they were
pub record Copied (from before buffer : List ℕ) (n : ℕ) : Type 0 where
  pub within : n ≤ length buffer
  pub counts : n ≡ length (take n buffer)
  pub is : buffer ≡ take n from ++ drop n before
  pub whole : length from ≤ length buffer → n ≡ length from
  pub full : length buffer ≤ length from → n ≡ length buffer
