-- Bytes that are copied into a part of a buffer are what `put` adds there. Rests on Text.
use mathlib.Core.Path.{◌≡◌, refl, sym, ◌∙◌, ap}
use mathlib.Core.List.{List, ◌++◌, append_assoc}
use Prim.Native.Nat.{ℕ, ◌+◌, ◌-◌, ◌≤◌}
use native.Mathlib.Omega.{arith}
use borrow.Rule.Slice.PartMut.{put_mid, post_of, drop_put}
use lib.ListN.{length, take, length-append}
use lib.Seq.{length-take-le, take_at}
use Rattle.writing.specs.Text.{Adds}

pub put-bytes : (text before part : List ℕ) (at : ℕ) → part ≡ text → at + length text ≤ length before
    → Adds (length text) text before at (put_mid at (at + length text - at) before part) (at + length text)
put-bytes text before part at e h =
    let rest : List ℕ = post_of at (at + length text - at) before in
    let size : length (take at before ++ text) ≡ at + length text = rw (length-append (take at before) text, length-take-le at before (omega arith)) refl in
    record {
      written = rw e (ap (take (at + length text)) (sym (append_assoc (take at before) text rest)) ∙ take_at (take at before ++ text) rest (at + length text) size);
      rest = drop_put at (at + length text) before part (omega arith) h (ap length e ∙ omega arith);
      ahead = omega arith;
      short = omega arith;
    }
