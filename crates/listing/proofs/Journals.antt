-- Arrays of zeros, and the front of the empty journal that a run is lent. Rests on Rooms.
use mathlib.Core.Path.{◌≡◌, sym, ◌∙◌}
use mathlib.Core.List.{List}
use Prim.Native.Nat.{ℕ, ◌*◌, ◌≤◌}
use native.Mathlib.Nat.{mul-le-mul_right}
use native.Mathlib.Omega.{arith}
use lib.ListN.{length, take, replicate, length-replicate}
use lib.Seq.{get_or-take, length-take-le, ext_get_or}
use Rattle.meaning.specs.Laws.Tests.{zero-at}
use Rattle.meaning.specs.Layout.{base}
use Rattle.meaning.specs.declared.Layout.{Layout}
use Rattle.run_input.specs.Input.{most_records}
use Rattle.listing.specs.Rooms.{full_journal, Zeros, Listable}

pub zeros-are : (n : ℕ) → Zeros n (replicate n 0)
zeros-are n = record { long = length-replicate n 0; zero = zero-at n }

pub zeros-front : (n k : ℕ) (l : List ℕ) → Zeros n l → k ≤ n → take k l ≡ replicate k 0
zeros-front n k l z h =
    let t : length (take k l) ≡ k = length-take-le k l (omega (arith, z.long)) in
    ext_get_or 0 (take k l) (replicate k 0) (t ∙ sym (length-replicate k 0))
    (λ i i<. get_or-take k l i 0 (omega (arith, t)) ∙ z.zero i ∙ sym (zero-at k i))

-- the records that an input asks for have room
pub journal-fits : (L : Layout) → Listable L → (count : ℕ) → count ≤ most_records → L.change * count ≤ full_journal
journal-fits L s count h = let k : L.change * count ≤ base.change * count = mul-le-mul_right count s.change in omega (arith, k)
