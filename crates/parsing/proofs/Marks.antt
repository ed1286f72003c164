-- The number of a mark's name, and the name as a reader takes it. Rests on specs/Labels and on Tokens.
use mathlib.Core.Path.{◌≡◌, refl, sym}
use mathlib.Core.Bool.{Bool, true, false}
use mathlib.Core.List.{List}
use Prim.Native.Nat.{ℕ, suc}
use native.Mathlib.Omega.{arith}
use lib.Seq.{slice}
use Rattle.std.specs.Prelude.{Some, None, Err, Ok}
use Rattle.meaning.specs.Basics.{choose, same}
use Rattle.writing.specs.Words.{letters}
use Rattle.text.specs.Grammar.{index, known, marks, a_mark}
use Rattle.parsing.specs.Reading.{Reads, Breaks, ReadsName}
use Rattle.parsing.specs.Labels.{mark_number}
use Rattle.parsing.specs.Laws.{done, then, breaks}
use Rattle.parsing.specs.declared.BrokenAt.{BrokenAt}
use Rattle.parsing.specs.declared.NameAt.{NameAt}
use Rattle.parsing.proofs.Tokens.{same-turned, named-yes, named-no, not-named}

some_same : {a b : ℕ} → Some a ≡ Some b → a ≡ b
some_same e = cc

none_some : {a : ℕ} → None ≡ Some a → ⊥
none_some e = let z : ◌≡◌ {A = ℕ} 0 1 = cc in omega arith

module _ (id : List ℕ) where
  -- the number, by which of the names it is

  pub is-red : same id (letters "red") ≡ true → Some 1 ≡ mark_number id
  unfolding marks index known choose
  is-red a = rw (same-turned id _ true a)

  module _ (a : same id (letters "red") ≡ false) where
    pub is_green : same id (letters "green") ≡ true → Some 2 ≡ mark_number id
    unfolding marks index known choose
    is_green b = rw (same-turned id _ false a, same-turned id _ true b)

    module _ (b : same id (letters "green") ≡ false) where
      pub is_blue : same id (letters "blue") ≡ true → Some 3 ≡ mark_number id
      unfolding marks index known choose
      is_blue c = rw (same-turned id _ false a, same-turned id _ false b, same-turned id _ true c)

      module _ (c : same id (letters "blue") ≡ false) where
        pub is-grey : same id (letters "grey") ≡ true → Some 4 ≡ mark_number id
        unfolding marks index known choose
        is-grey d = rw (same-turned id _ false a, same-turned id _ false b, same-turned id _ false c, same-turned id _ true d)

        module _ (d : same id (letters "grey") ≡ false) where
          pub is_dashed : same id (letters "dashed") ≡ true → Some 5 ≡ mark_number id
          unfolding marks index known choose
          is_dashed e =
              rw (same-turned id _ false a, same-turned id _ false b, same-turned id _ false c, same-turned id _ false d, same-turned id _ true e)

          pub is_none : same id (letters "dashed") ≡ false → None ≡ mark_number id
          unfolding marks index known choose
          is_none e =
              rw (same-turned id _ false a, same-turned id _ false b, same-turned id _ false c, same-turned id _ false d, same-turned id _ false e)

  -- a name is known where it has a number

  mark-known : (m : ℕ) → Some m ≡ mark_number id → (known id marks ≡ true) × (suc (index id marks) ≡ m)
  unfolding choose
  mark-known m e = at (known id marks) e
    where
      at : (b : Bool) → Some m ≡ choose b (Some (suc (index id marks))) None → (b ≡ true) × (suc (index id marks) ≡ m)
      at true e = (refl, sym (some_same e))
      at false e = absurd (none_some (sym e))

  mark_unknown : None ≡ mark_number id → known id marks ≡ false
  unfolding choose
  mark_unknown e = at (known id marks) e
    where
      at : (b : Bool) → None ≡ choose b (Some (suc (index id marks))) None → b ≡ false
      at true e = absurd (none_some e)
      at false e = refl

module _ (bs : List ℕ) (at : ℕ) where
  pub mark-unnamed : {b : BrokenAt} → ReadsName bs at (Err b) → Breaks bs at a_mark b
  unfolding a_mark
  mark-unnamed n = breaks bs _ (not-named bs at (λ id. known id marks) n)

  module _ {r : NameAt} (n : ReadsName bs at (Ok r)) where
    pub mark-met : {m : ℕ} → Some m ≡ mark_number (slice r.from r.next bs) → Reads bs at a_mark r.next m
    unfolding a_mark
    mark-met {m} e =
        let g = mark-known (slice r.from r.next bs) m e in
        then bs _ (named-yes bs at n (λ id. known id marks) g.0) (rw (sym g.1) (done bs _ _))

    pub mark-other : None ≡ mark_number (slice r.from r.next bs) → Breaks bs at a_mark (record { place = at })
    unfolding a_mark
    mark-other e = breaks bs _ (named-no bs at n (λ id. known id marks) (mark_unknown (slice r.from r.next bs) e))
