-- Laws of the rounds in which the heights of procedures are found. Rests on Heights and Putting, and on fields' Parsed.
use mathlib.Core.Path.{◌≡◌, refl, sym, ◌∙◌}
use mathlib.Core.Bool.{Bool, true, false}
use mathlib.Core.Option.{some}
use Rattle.std.specs.Prelude.{Option, Some, None}
use Rattle.std.specs.Bool.{then_some}
use mathlib.Core.List.{List}
use Prim.Native.Nat.{ℕ, zero, suc, ◌+◌, ◌<◌, ◌≤◌}
use native.Mathlib.Omega.{arith}
use native.Mathlib.Decide.{ℕ_discrete, dec_lt}
use borrow.Author.Tests.{leb-true, leb-false, le-leb}
use lib.Dec.{leb}
use lib.ListN.{length, get_or, set, take, replicate, length-replicate, length-set, get_or-replicate, get_or-eq_default}
use lib.Seq.{get_or-set_same, get_or-set_other, get_or-take, length-take-le}
use Rattle.meaning.specs.Basics.{is_some}
use Rattle.meaning.specs.Image.{Raw, skip, RawProgram, limits, command, raw_program}
use Rattle.meaning.specs.Procedures.{put}
use Rattle.fields.specs.Image.{leading-led}
use Rattle.fields.specs.Parsed.{program-is}
use Rattle.command_checks.specs.Heights.{Height, Heights}
use Rattle.command_checks.proofs.Putting.{put-more, put-less}

module _ (procedures : List Raw) where
  -- One height.

  -- one that is known is known in every round
  pub still-known : (b n : ℕ) (h : Option ℕ) (c : Raw) → (h ≡ None → ⊥) → Height procedures b h c → Height procedures n h c
  still-known b n h c k w = record { exact = w.exact; beyond = λ z. absurd (k z) }

  still_unknown : (n : ℕ) (c : Raw) → is_some (put procedures n c) ≡ false → Height procedures n None c
  still_unknown n c e = record { exact = λ h z. cc; beyond = λ z. e }

  -- one that was beyond b, and is not beyond n, the next
  now-known : (b n : ℕ) (c : Raw) → n ≤ suc b → is_some (put procedures b c) ≡ false → is_some (put procedures n c) ≡ true → Height procedures n (Some n) c
  now-known b n c k e q = record { exact = λ h z m. (let same : n ≡ h = cc in rw (← same) (at m (leb n m) refl)); beyond = λ z. cc }
    where
      at : (m : ℕ) (x : Bool) → leb n m ≡ x → is_some (put procedures m c) ≡ x
      at m true h = put-more procedures n m (leb-true n m h) c q
      at m false h = put-less procedures m b (omega (arith, leb-false n m h)) c e

  -- one that was not known, by whether the procedures can be put in at depth n
  pub asked-height : (b n : ℕ) (h : Option ℕ) (c : Raw) → h ≡ None → n ≤ suc b → Height procedures b h c → (r : Bool) → is_some (put procedures n c) ≡ r → Height procedures n (then_some r n) c
  asked-height b n h c z k w true e = now-known b n c k (w.beyond z) e
  asked-height b n h c z k w false e = still_unknown n c e

  before-it : (m n : ℕ) (h : Option ℕ) (c : Raw) → m ≤ n → Height procedures n h c → Height procedures m h c
  before-it m n h c k w = record { exact = w.exact; beyond = λ z. put-less procedures m n k c (w.beyond z) }

  skip-height : (b : ℕ) → Height procedures b (Some 1) skip
  unfolding put is_some
  skip-height b = record { exact = λ h z n. (let same : 1 ≡ h = cc in rw (← same) (at n)); beyond = λ z. cc }
    where
      at : (n : ℕ) → is_some (put procedures n skip) ≡ leb 1 n
      at zero = refl
      at (suc n) = sym (le-leb 1 (suc n) (omega arith))

  -- All heights.

  -- a procedure that there is not stands for skip
  none-there : (b j : ℕ) (heights : List (Option ℕ)) → length heights ≡ length procedures → length procedures ≤ j → Height procedures b (get_or heights j (Some 1)) (get_or procedures j skip)
  none-there b j heights e h =
      rw (get_or-eq_default heights (Some 1) {n = j} (omega arith), get_or-eq_default procedures skip {n = j} h) (skip-height b)

  -- in a round that finds heights up to n where they were known up to b, those below i are found
  pub record Raising (b n i : ℕ) (heights : List (Option ℕ)) : Type 0 where
    pub known : Heights procedures b heights
    pub found : (j : ℕ) → j < i → Height procedures n (get_or heights j (Some 1)) (get_or procedures j skip)

  pub raising_start : (b n : ℕ) (heights : List (Option ℕ)) → Heights procedures b heights → Raising b n 0 heights
  raising_start b n heights w = record { known = w; found = λ j h. absurd (omega arith) }

  pub raising_next : (b n i : ℕ) (heights : List (Option ℕ)) (h : Option ℕ) → b ≤ n → i < length heights → Raising b n i heights → Height procedures n h (get_or procedures i skip) → Raising b n (i + 1) (set heights i h)
  raising_next b n i heights h k l w x = record {
    known = record { long = length-set heights i h ∙ w.known.long; height = λ j. at j (ℕ_discrete j i) };
    found = λ j m. up_to j (ℕ_discrete j i) m;
  }
    where
      here : (m : ℕ) → Height procedures m h (get_or procedures i skip) → Height procedures m (get_or (set heights i h) i (Some 1)) (get_or procedures i skip)
      here m y = rw (get_or-set_same heights i h (Some 1) l) y

      other : (m j : ℕ) → (j ≡ i → ⊥) → Height procedures m (get_or heights j (Some 1)) (get_or procedures j skip) → Height procedures m (get_or (set heights i h) j (Some 1)) (get_or procedures j skip)
      other m j q y = rw (get_or-set_other heights i j h (Some 1) q) y

      at : (j : ℕ) → Dec (j ≡ i) → Height procedures b (get_or (set heights i h) j (Some 1)) (get_or procedures j skip)
      at j (yes q) = rw q (here b (before-it b n h _ k x))
      at j (no q) = other b j q (w.known.height j)

      up_to : (j : ℕ) → Dec (j ≡ i) → j < i + 1 → Height procedures n (get_or (set heights i h) j (Some 1)) (get_or procedures j skip)
      up_to j (yes q) m = rw q (here n x)
      up_to j (no q) m = other n j q (w.found j (omega arith))

  pub raising_end : (b n i : ℕ) (heights : List (Option ℕ)) → length heights ≤ i → Raising b n i heights → Heights procedures n heights
  raising_end b n i heights h w = record { long = w.known.long; height = λ j. at j (dec_lt j i) }
    where
      at : (j : ℕ) → Dec (j < i) → Height procedures n (get_or heights j (Some 1)) (get_or procedures j skip)
      at j (yes k) = w.found j k
      at j (no k) = none-there n j heights w.known.long (omega (arith, w.known.long))

  -- before the first round
  pub none-known : (most count : ℕ) → count ≤ most → count ≡ length procedures → Heights procedures 0 (take count (replicate most None))
  unfolding put is_some
  none-known most count h e = record { long = long ∙ e; height = λ j. at j (dec_lt j count) }
    where
      unknown : List (Option ℕ)
      unknown = replicate most None

      long : length (take count unknown) ≡ count
      long = length-take-le count unknown (simp length-replicate h)

      at : (j : ℕ) → Dec (j < count) → Height procedures 0 (get_or (take count unknown) j (Some 1)) (get_or procedures j skip)
      at j (yes k) = rw (get_or-take count unknown j (Some 1) k, get_or-replicate {A = Option ℕ} most j None (Some 1) (omega arith)) (still_unknown 0 (get_or procedures j skip) refl)
      at j (no k) = none-there 0 j (take count unknown) (long ∙ e) (omega arith)

-- there are no more procedures than may be
pub few-procedures : (bs : List ℕ) (p : RawProgram) → raw_program bs ≡ some p → length p.procedures ≤ limits.procedures
unfolding raw_program
few-procedures bs p e =
    let i = program-is limits.procedures (command limits.depth) bs p e in
    (leading-led _ _ limits.procedures i.behind _ i.procedures).few
