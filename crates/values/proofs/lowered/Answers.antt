-- `lowered` meets its contract.
use Rattle.std.proofs.Common.{◌<◌, ◌≤◌, ◌≡◌, ℕ, true, false, inl, inr, arith, is_le, is_lt, tests}
use Rattle.std.specs.Ordering.{nat_cmp}
use Rattle.values.specs.Laws.{lowered-low, lowered_high, lowered-at}
use Rattle.values.proofs.lowered.Goals as goal

-- what the tests of a range's two ends say
le-from_test : (a b : ℕ) → is_le (nat_cmp a b) ≡ true → a ≤ b
le-from_test a b h = grind (arith, tests)

gt-from_test : (a b : ℕ) → is_le (nat_cmp a b) ≡ false → b < a
gt-from_test a b h = grind (arith, tests)

lt-from_test : (a b : ℕ) → is_lt (nat_cmp a b) ≡ true → a < b
lt-from_test a b h = grind (arith, tests)

ge-from_test : (a b : ℕ) → is_lt (nat_cmp a b) ≡ false → b ≤ a
ge-from_test a b h = grind (arith, tests)

pub returns-then-contains : goal.returns-then-contains
returns-then-contains c =
    let i = c.if-contains.ensures.cases in
    lowered-at _ _ (le-from_test _ _ i.0) (lt-from_test _ _ i.1) c.height.ensures.0

pub returns-else-contains : goal.returns-else-contains
returns-else-contains c =
    elim c.if-contains.ensures.cases [
      | inl e ↦ lowered-low _ (gt-from_test _ _ e)
      | inr e ↦ let k = ge-from_test _ _ e in lowered_high _ (omega arith) k
    ]
