-- The next word at a place, as a reader takes it: the sign or the name that is asked for, or none. Rests on lexing's Lexing and on
-- specs/Laws.
use mathlib.Core.Path.{◌≡◌, refl, sym, ◌∙◌, ap}
use mathlib.Core.Bool.{Bool, true, false}
use mathlib.Core.List.{List, [], ◌∷◌}
use Prim.Native.Nat.{ℕ, ◌≤◌}
use native.Mathlib.Omega.{arith}
use borrow.Author.Tests.{eq-eqb, ne_eqb}
use lib.ListN.{length}
use lib.Seq.{slice}
use Rattle.std.specs.Prelude.{Some, None, Ok, Err}
use Rattle.meaning.specs.Basics.{choose, same}
use Rattle.meaning.specs.Laws.Tests.{not_so, same_true, same_of}
use Rattle.text.specs.Words.{Word, name, sign, same_word}
use Rattle.text.specs.Grammar.{Parsed, got, broke, begins, expect, named, a_name}
use Rattle.lexing.specs.Lexing.{Next}
use Rattle.lexing.specs.declared.Token.TheVariants.{Sign, Name}
use Rattle.parsing.specs.Reading.{ahead, Reads, Breaks, Passed, ReadsName}
use Rattle.parsing.specs.Laws.{got-broke}
use Rattle.parsing.specs.declared.BrokenAt.{BrokenAt}
use Rattle.parsing.specs.declared.NameAt.{NameAt}

pub same-turned : (l m : List ℕ) (b : Bool) → same l m ≡ b → same m l ≡ b
same-turned l m true e = same_of m l (sym (same_true l m e))
same-turned l m false e = not_so _ (λ f. let g = same_of l m (sym (same_true m l f)) in let z : ◌≡◌ {A = ℕ} 0 1 = cc in omega arith)

-- the words do not go on as a reader's do
pub stays : {A : Type 0} (bs : List ℕ) (at : ℕ) {item : List Word → Parsed A} → item (ahead bs at) ≡ broke (ahead bs at)
    → Breaks bs at item (record { place = at })
stays bs at e = record { read = e; onward = omega arith }

-- A sign that is asked for.

module _ (bs : List ℕ) (at : ℕ) where
  pub sign-met : {b next s : ℕ} → Next bs at (Some (Sign b next)) → b ≡ s → Passed bs at (sign s) (Ok next)
  sign-met {b} {next} {s} m e = (
    record { read = unfold expect choose begins same_word in rw (m.0, eq-eqb s b (sym e)); onward = omega (arith, m.1) },
    m.1,
    m.2,
  )

  pub sign-other : {b next s : ℕ} → Next bs at (Some (Sign b next)) → (b ≡ s → ⊥) → Breaks bs at (expect (sign s)) (record { place = at })
  sign-other {b} {next} {s} m e = stays bs at (unfold expect choose begins same_word in rw (m.0, ne_eqb s b (λ p. e (sym p))))

  pub sign-name : {from to : ℕ} (s : ℕ) → Next bs at (Some (Name from to)) → Breaks bs at (expect (sign s)) (record { place = at })
  sign-name s m = stays bs at (unfold expect choose begins same_word in rw (m.0, m.1))

  pub sign-none : (s : ℕ) → Next bs at None → Breaks bs at (expect (sign s)) (record { place = at })
  sign-none s m = stays bs at (unfold expect choose begins same_word in rw m)

  -- A name, whichever it is.

  pub name-met : {from to : ℕ} → Next bs at (Some (Name from to)) → ReadsName bs at (Ok (record { next = to; from = from }))
  name-met m = record {
    reads = record { read = unfold named choose in rw (m.0, m.1, m.2); onward = omega (arith, m.3, m.4) };
    here = m.0;
    same = m.2;
    behind = m.3;
    onward = m.4;
    within = m.5;
  }

  pub name-sign : {b next : ℕ} → Next bs at (Some (Sign b next)) → ReadsName bs at (Err (record { place = at }))
  name-sign m = stays bs at (unfold named in rw m.0)

  pub name-none : Next bs at None → ReadsName bs at (Err (record { place = at }))
  name-none m = stays bs at (unfold named in rw m)

-- A name that was read, or was not, where one is asked for that passes.

rebuilt : Parsed (List ℕ) → List Word
rebuilt (got x) = name x.value ∷ x.rest
rebuilt (broke ws) = ws

a-name-of : (ws : List Word) → ws ≡ rebuilt (a_name ws)
unfolding named choose rebuilt
a-name-of [] = refl
a-name-of (name r ∷ ws) = refl
a-name-of (sign c ∷ ws) = refl

named-broke : (passes : List ℕ → Bool) (ws vs : List Word) → a_name ws ≡ broke vs → named passes ws ≡ broke vs
unfolding named choose
named-broke passes [] vs e = e
named-broke passes (name r ∷ ws) vs e = absurd (got-broke e)
named-broke passes (sign c ∷ ws) vs e = e

left_of : Parsed (List ℕ) → Parsed (Unit {0})
left_of (got x) = broke x.rest
left_of (broke ws) = broke ws

expect-unnamed : (w : List ℕ) (ws vs : List Word) → a_name ws ≡ broke vs → expect (name w) ws ≡ broke vs
unfolding named choose expect begins same_word left_of
expect-unnamed w [] vs e = ap left_of e
expect-unnamed w (name r ∷ ws) vs e = absurd (got-broke e)
expect-unnamed w (sign c ∷ ws) vs e = ap left_of e

module _ (bs : List ℕ) (at : ℕ) where
  pub not-named : (passes : List ℕ → Bool) {b : BrokenAt} → ReadsName bs at (Err b) → Breaks bs at (named passes) b
  not-named passes n = record { read = named-broke passes _ _ n.read; onward = n.onward }

  pub not-expected : (w : List ℕ) {b : BrokenAt} → ReadsName bs at (Err b) → Passed bs at (name w) (Err b)
  not-expected w n = record { read = expect-unnamed w _ _ n.read; onward = n.onward }

  module _ {r : NameAt} (n : ReadsName bs at (Ok r)) where
    ahead-is : ahead bs at ≡ name (slice r.from r.next bs) ∷ ahead bs r.next
    unfolding rebuilt
    ahead-is = a-name-of (ahead bs at) ∙ ap rebuilt n.reads.read ∙ ap (λ l. name l ∷ ahead bs r.next) n.same

    pub name-lies : (r.from ≤ r.next) × (r.next ≤ length bs)
    name-lies = (omega (arith, n.onward), n.within)

    pub word-met : (w : List ℕ) → same (slice r.from r.next bs) w ≡ true → Passed bs at (name w) (Ok r.next)
    word-met w e =
        let h = n.behind in
        let k = n.onward in (
          record { read = unfold expect choose begins same_word in rw (ahead-is, same-turned _ w true e); onward = omega arith },
          omega arith,
          n.within,
        )

    pub word-other : (w : List ℕ) → same (slice r.from r.next bs) w ≡ false → Passed bs at (name w) (Err (record { place = at }))
    word-other w e = stays bs at (unfold expect choose begins same_word in rw (ahead-is, same-turned _ w false e))

    pub named-yes : (passes : List ℕ → Bool) → passes (slice r.from r.next bs) ≡ true → Reads bs at (named passes) r.next (slice r.from r.next bs)
    named-yes passes e =
        let h = n.behind in
        let k = n.onward in
        record { read = unfold named choose in rw (ahead-is, e); onward = omega arith }

    pub named-no : (passes : List ℕ → Bool) → passes (slice r.from r.next bs) ≡ false → Breaks bs at (named passes) (record { place = at })
    named-no passes e = stays bs at (unfold named choose in rw (ahead-is, e))
