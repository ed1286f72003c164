-- What a writer of text leaves in a lent buffer, byte for byte.
use Rattle.std.specs.Prelude.{◌≡◌, List, ◌++◌, ℕ, ◌+◌, ◌≤◌, length, take, drop}

-- up to its end the buffer holds what it held up to the place, and then the text, of at most so many bytes; from there on, what it held
pub record Adds (most : ℕ) (text before : List ℕ) (at : ℕ) (after : List ℕ) (end : ℕ) : Type 0 where
  pub written : take end after ≡ take at before ++ text
  pub rest : drop end after ≡ drop end before
  pub ahead : at ≤ end
  pub short : end ≤ at + most

-- the buffer is the text, of so many bytes, and then what it held
pub record Lists (text before after : List ℕ) (end : ℕ) : Type 0 where
  pub whole : after ≡ text ++ drop end before
  pub ends : end ≡ length text
  pub within : end ≤ length after
  pub counts : end ≡ length (take end after)
