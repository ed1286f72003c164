-- The laws at any place of a program: (P; Q); R and P; (Q; R) give the same but for the steps, and skip before or after P changes only
-- the steps; so does any grouping of a long sequence, a skip anywhere in it, and a call of a procedure P for P. The steps differ by the
-- sequence, skip and call commands entered. How P, Q and R end does not matter. Rests on Runs and Places.
use Rattle.std.specs.Prelude.{◌≡◌}
use Rattle.meaning.specs.Procedures.{Program, Command, sequence, skip, called, Commands, then}
use Rattle.meaning.specs.Calls.{Lent}
use Rattle.laws.specs.Undoing.{Numbered}
use Rattle.demands.specs.Demands.{Interpreter, Demand1, Demand2}
use Rattle.wrapping.specs.Wrapping.{joined, Alike}
use Rattle.wrapping.specs.Places.{two, Place, put}
use Rattle.wrapping.proofs.Places.{alike_at, regrouped, call-of, skip-before, skip-after, grouped, skip-between}
use Rattle.wrapping.specs.Agreement.{SameTables, Starts, Fuelled}
use Rattle.wrapping.proofs.Runs.{alike-agree}
use Rattle.meaning.specs.declared.Layout.{Layout}
use Rattle.wrapping.specs.Regrouping as Defs

module _ (L : Layout) (numbered : Numbered L) (I : Interpreter) (first : Demand1 L I) (second : Demand2 L I) (p q : Program)
    (rules : p.rules ≡ q.rules) (x y : Lent) (a : Starts L x p) (b : Starts L y q) (tables : SameTables x y) (fuelled : Fuelled I x)
    (fuelled' : Fuelled I y)
  where
    abbrev Agreed : Type 0
    Agreed = Defs.Agreed L numbered I first second p q rules x y a b tables fuelled fuelled'

    -- c at a place of the one, d at the same place of the other
    pub at_place : (place : Place) (c d : Command) → Alike c d → p.main ≡ put place c → q.main ≡ put place d → Agreed
    at_place place c d h e e' =
        alike-agree L numbered I first second x p a fuelled q (record { rules = rules; main = rw (e, e') (alike_at c d h place) }) y b tables fuelled'

    pub regrouping : (place : Place) (P Q R : Command) → p.main ≡ put place (two (two P Q) R) → q.main ≡ put place (two P (two Q R))
        → Agreed
    regrouping place P Q R = at_place place (two (two P Q) R) (two P (two Q R)) (regrouped P Q R)

    pub skipping-before : (place : Place) (P : Command) → p.main ≡ put place (two skip P) → q.main ≡ put place P → Agreed
    skipping-before place P = at_place place (two skip P) P (skip-before P)

    pub skipping-after : (place : Place) (P : Command) → p.main ≡ put place (two P skip) → q.main ≡ put place P → Agreed
    skipping-after place P = at_place place (two P skip) P (skip-after P)

    -- one call written out
    pub calling : (place : Place) (P : Command) → p.main ≡ put place (called P) → q.main ≡ put place P → Agreed
    calling place P = at_place place (called P) P (call-of P)

    -- any stretch of a long sequence made a sequence of its own
    pub grouping : (place : Place) (before inner after : Commands)
        → p.main ≡ put place (sequence (joined before (then (sequence inner) after)))
        → q.main ≡ put place (sequence (joined before (joined inner after))) → Agreed
    grouping place before inner after =
        at_place place (sequence (joined before (then (sequence inner) after))) (sequence (joined before (joined inner after)))
        (grouped before inner after)

    -- a skip anywhere in a long sequence
    pub skipping : (place : Place) (before after : Commands) → p.main ≡ put place (sequence (joined before (then skip after)))
        → q.main ≡ put place (sequence (joined before after)) → Agreed
    skipping place before after =
        at_place place (sequence (joined before (then skip after))) (sequence (joined before after)) (skip-between before after)
