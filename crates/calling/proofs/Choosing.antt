-- Laws of the search over a list of rule numbers: a rule without a match is passed, the first with a match is chosen.
-- Rests on specs/Choosing, specs/Called and matching's Values.
use Prim.Native.Nat.{ℕ, ◌+◌, ◌<◌, ◌≤◌}
use mathlib.Core.Path.{◌≡◌, sym, ◌∙◌, ap}
use mathlib.Core.Option.{Option, some, none}
use mathlib.Core.List.{List}
use native.Mathlib.Numerals.{add-one}
use native.Mathlib.Omega.{arith}
use borrow.Author.Tests.{ltb-true}
use lib.Dec.{ltb}
use lib.ListN.{length, get_or, drop}
use lib.Seq.{drop-cons, drop-length}
use Rattle.std.specs.Prelude.{Some, None}
use Rattle.std.specs.Prelude as Rust
use Rattle.meaning.specs.Layout.{Host, host_of}
use Rattle.meaning.specs.Image.{Rule, RawProgram, rule, raw_program}
use Rattle.meaning.specs.FirstMatch.{first_match}
use Rattle.meaning.specs.Commands.{or_later, rule_at, first_rule}
use Rattle.meaning.specs.Laws.Tests.{some_inj, every_true}
use Rattle.laws.specs.LegalCommands.{legal-rule}
use Rattle.meaning.specs.declared.Layout.{Layout}
use Rattle.parts.specs.Series.{For}
use Rattle.plan.specs.Plan.{IsRule}
use Rattle.matching.specs.Values.{IsFirst}
use Rattle.calling.specs.Called.{Listed}
use Rattle.calling.specs.Choosing.{IsChoice}

-- The list from a place on.

module _ (rules : List Rule) (h : Host) where
  -- where nothing is left, no rule has a match
  none_left : (l : List ℕ) (i : ℕ) → i ≤ length l → length l ≤ i → first_rule rules h (drop i l) ≡ none
  unfolding first_rule
  none_left l i a b =
      let e : i ≡ length l = omega arith in
      ap (λ (j : ℕ). first_rule rules h (drop j l)) e ∙ ap (first_rule rules h) (drop-length l)

  module _ (l : List ℕ) (i n : ℕ) (inside : i < length l) (number : n ≡ get_or l i 0) where
    -- the rule at the place is tried first
    tried : (o : Option (List ℕ)) → first_match h (rule_at rules n) ≡ o
        → first_rule rules h (drop i l) ≡ or_later n (rule_at rules n) o (first_rule rules h (drop (i + 1) l))
    unfolding first_rule
    tried o e = ap (first_rule rules h) (drop-cons l i 0 inside) ∙ rw (← number, e, add-one i)

    tried-none : first_match h (rule_at rules n) ≡ none → first_rule rules h (drop i l) ≡ first_rule rules h (drop (i + 1) l)
    unfolding or_later
    tried-none e = tried none e

    tried-some : (p : List ℕ) → first_match h (rule_at rules n) ≡ some p
        → first_rule rules h (drop i l) ≡ some (record { number = n; rule = rule_at rules n; slots = p })
    unfolding or_later
    tried-some p e = tried (some p) e

-- the numbers are those of rules
module _ (image numbers : List ℕ) (listed : Listed image numbers) where
  same-program : For (raw_program image) (λ p. listed.programmed.tree ≡ p)
  same-program p e = some_inj _ _ (sym listed.programmed.is ∙ e)

  listed-inside : (i n : ℕ) → i < length numbers → n ≡ get_or numbers i 0 → For (raw_program image) (λ p. n < length p.rules)
  listed-inside i n h q p e =
      let m : ℕ = length listed.programmed.tree.rules in
      let k : get_or numbers i 0 < m = ltb-true (get_or numbers i 0) m (every_true (λ j. ltb j m) numbers 0 listed.exist i h) in
      let z : m ≡ length p.rules = ap (λ (x : RawProgram). length x.rules) (same-program p e) in
      omega (arith, q, k, z)

-- The search.

module _ (L : Layout) (image numbers nodes edges : List ℕ) where
  -- the rules before place i have no match
  abbrev pub Passed : ℕ → Type 0
  Passed i = For (raw_program image)
      (λ p. first_rule p.rules (host_of L nodes edges) numbers ≡ first_rule p.rules (host_of L nodes edges) (drop i numbers))

  -- all were passed
  pub none-chosen : (i : ℕ) → i ≤ length numbers → length numbers ≤ i → Passed i → (lens atoms : List ℕ) → IsChoice L image numbers nodes edges None lens atoms
  none-chosen i a b passed lens atoms =
      record {
        right = λ p e. sym (passed p e ∙ none_left p.rules (host_of L nodes edges) numbers i a b);
        match = λ p e j s w. absurd (cc);
      }

-- the bytes are the part of the rule of number n, which is listed at place i
pub record Tried (image numbers bs : List ℕ) (i n : ℕ) : Type 0 where
  pub listed : Listed image numbers
  pub inside : i < length numbers
  pub number : n ≡ get_or numbers i 0
  pub part : For (raw_program image) (λ p. n < length p.rules → (d : Rule) → rule bs ≡ some (get_or p.rules n d))

module _ {image numbers bs : List ℕ} {i n : ℕ} (t : Tried image numbers bs i n) where
  exists : For (raw_program image) (λ p. n < length p.rules)
  exists p e = listed-inside image numbers t.listed i n t.inside t.number p e

  there : For (raw_program image) (λ p. rule bs ≡ some (rule_at p.rules n))
  there p e = t.part p e (exists p e) _

  pub is-rule : IsRule bs
  is-rule =
      let p = t.listed.programmed in
      record {
        tree = rule_at p.tree.rules n;
        is = there p.tree p.is;
        holds = (legal-rule p.tree.rules p.legal n).holds;
      }

  module _ {L : Layout} {nodes edges lens atoms : List ℕ} {m : Rust.Option (List ℕ)} (passed : Passed L image numbers nodes edges i)
      (first : IsFirst L nodes edges bs m lens atoms)
    where
      -- it has a match
      pub chosen : (slots : List ℕ) → m ≡ Some slots → IsChoice L image numbers nodes edges (Some (n, slots)) lens atoms
      chosen slots q =
          record {
            right = λ p e.
                let k = rw q at (first.right (rule_at p.rules n) (there p e)) in
                sym (passed p e ∙ tried-some p.rules (host_of L nodes edges) numbers i n t.inside t.number _ (sym k));
            match = λ p e j s w.
                let z : ◌≡◌ {A = ℕ × List ℕ} (n, slots) (j, s) = cc in
                let a = ap (λ (x : ℕ × List ℕ). x.0) z in
                let b = ap (λ (x : ℕ × List ℕ). x.1) z in
                rw (← a, ← b)
                (record {
                  there = exists p e;
                  room = first.room slots q;
                  arrays = first.arrays;
                  values = first.values (rule_at p.rules n) (there p e) slots q;
                });
          }

      -- it has none
      pub passes : m ≡ None → Passed L image numbers nodes edges (i + 1)
      passes q p e =
          let k = rw q at (first.right (rule_at p.rules n) (there p e)) in
          passed p e ∙ tried-none p.rules (host_of L nodes edges) numbers i n t.inside t.number (sym k)
