-- A table at another count of slots: how many there are, and which slot has a number. Rests on the meaning's Carrying.
use Rattle.std.specs.Prelude.{◌≡◌, refl, List, [], ◌∷◌, ◌++◌, ℕ, zero, suc, ◌-◌, ◌<◌, length, get_or, take, replicate}
use Rattle.std.proofs.Common.{◌∙◌, append-nil, arith, length-append, length-take, get_or-take}
use Rattle.std.proofs.Math.Nat.{sub_self}
use Rattle.std.proofs.lemmas.List.{length-replicate}
use Rattle.std.proofs.Math.Seq.{take-length}
use Rattle.meaning.specs.Layout.{Slot, free}
use Rattle.meaning.specs.Carrying.{resized}

pub length-resized : {A : Type 0} (n : ℕ) (t : List (Slot A)) → length (resized n t) ≡ n
length-resized n t = simp (length-append, length-take, length-replicate) (omega arith)

-- at its own count it is the same
pub resized-same : {A : Type 0} (t : List (Slot A)) → resized (length t) t ≡ t
resized-same t = rw (take-length t, sub_self (length t)) (append-nil t)

-- free slots behind a table are those that it has not
pub free-behind : {A : Type 0} (t : List (Slot A)) (n i : ℕ) → get_or (t ++ replicate n free) i free ≡ get_or t i free
free-behind [] zero i = refl
free-behind [] (suc n) zero = refl
free-behind [] (suc n) (suc i) = free-behind [] n i
free-behind (s ∷ t) n zero = refl
free-behind (s ∷ t) n (suc i) = free-behind t n i

-- the same slot at each number that there is
pub resized-at : {A : Type 0} (n : ℕ) (t : List (Slot A)) (i : ℕ) → i < n → get_or (resized n t) i free ≡ get_or t i free
resized-at n t i h = free-behind (take n t) (n - length t) i ∙ get_or-take n t i free h
