-- Breaks: where they stand in a command; that in what a program stands for they stand inside loops, where it keeps the placement; and
-- that then none comes out. Rests on the meaning's Placement, Procedures and Commands, and on Procedures.
use Prim.Native.Nat.{ℕ, zero, suc}
use Rattle.std.proofs.Math.Path.{◌≡◌, refl}
use Rattle.std.specs.Prelude.{List, Bool, get_or}
use Rattle.std.proofs.Math.Bool.{true, false}
use Rattle.std.proofs.Math.Option.{Option, some, none}
use Rattle.std.proofs.Common.{arith}
use Rattle.meaning.specs.Basics.{both, every}
use Rattle.meaning.specs.Image as Image
use Rattle.meaning.specs.Image.{Rule, Raw, Raws, RawProgram}
use Rattle.meaning.specs.Placement.{breaks_lie, all_breaks_lie, placement}
use Rattle.meaning.specs.Procedures.{Command, rule_set, sequence, guarded, loop, skip, fail, break, called, Commands, no_more, then, Program, put_all, put, put_in}
use Rattle.meaning.specs.Applying.{Applied, applied, hindered}
use Rattle.meaning.specs.Commands.{State, Out, enter_at, Chosen, after_applying, next, decide, again, rounds, rule_call, work, works, exec}
use Rattle.meaning.specs.Laws.Tests.{both_true, both_of, some_inj, bind_some}
use Rattle.meaning.specs.Laws.Every.{Every-true, Every-at}
use Rattle.laws.specs.Procedures.{put_in_some}
use Rattle.meaning.specs.declared.End.{End}
use Rattle.meaning.specs.declared.End.TheVariants.{Done, Failed, Broke, Stopped}

-- Where breaks stand.

-- each break lies in a loop body with no guard and no call between them; the flag says whether one may stand outside
unfoldable mutual
  pub breaks_stay : Command → Bool → Bool
  breaks_stay (rule_set l) ok = true
  breaks_stay (sequence cs) ok = all_breaks_stay cs ok
  breaks_stay (guarded keep g a b) ok = both (breaks_stay g false) (both (breaks_stay a ok) (breaks_stay b ok))
  breaks_stay (loop c) ok = breaks_stay c true
  breaks_stay skip ok = true
  breaks_stay fail ok = true
  breaks_stay break ok = ok
  breaks_stay (called c) ok = breaks_stay c false

  pub all_breaks_stay : Commands → Bool → Bool
  all_breaks_stay no_more ok = true
  all_breaks_stay (then c cs) ok = both (breaks_stay c ok) (all_breaks_stay cs ok)

-- Procedures that keep the placement, put into what keeps it, leave breaks that stay.

put_all_stay : (f : Raw → Option Command) (ok : Bool)
    → ((c : Raw) (d : Command) → f c ≡ some d → breaks_lie c ok ≡ true → breaks_stay d ok ≡ true)
    → (cs : Raws) (ds : Commands) → put_all f cs ≡ some ds → all_breaks_lie cs ok ≡ true → all_breaks_stay ds ok ≡ true
unfolding put_all all_breaks_lie all_breaks_stay
put_all_stay f ok h Image.no_more ds e b = rw (← (some_inj _ ds e))
put_all_stay f ok h (Image.then c cs) ds e b =
    let t = bind_some (f c) _ ds e in
    let u = bind_some (put_all f cs) _ ds t.2 in
    let k = both_true _ _ b in
    rw (← (some_inj _ ds u.2))
    (both_of _ _ (h c t.0 t.1 k.0) (put_all_stay f ok h cs u.0 u.1 k.1))

module _ (procedures : List Raw) (kept : every (λ r. breaks_lie r false) procedures ≡ true) where
  -- what a number stands for as a procedure, also where there is none of that number
  procedure-lies : (i : ℕ) → breaks_lie (get_or procedures i Image.skip) false ≡ true
  unfolding breaks_lie
  procedure-lies = Every-at _ Image.skip refl procedures (Every-true _ _ (λ r q. q) procedures kept)

  pub put-stays : (n : ℕ) (c : Raw) (ok : Bool) (d : Command) → put procedures n c ≡ some d → breaks_lie c ok ≡ true
      → breaks_stay d ok ≡ true
  unfolding put breaks_lie breaks_stay
  put-stays zero c ok d e b = let z : ◌≡◌ {A = ℕ} 0 1 = cc in absurd (omega arith)
  put-stays (suc n) (Image.rule_set l) ok d e b = rw (← (some_inj _ d e))
  put-stays (suc n) (Image.sequence cs) ok d e b =
      let t = bind_some (put_all (put procedures n) cs) _ d e in
      rw (← (some_inj _ d t.2)) (put_all_stay (put procedures n) ok (λ c. put-stays n c ok) cs t.0 t.1 b)
  put-stays (suc n) (Image.guarded keep g x y) ok d e b =
      let t = bind_some (put procedures n g) _ d e in
      let u = bind_some (put procedures n x) _ d t.2 in
      let v = bind_some (put procedures n y) _ d u.2 in
      let k = both_true _ _ b in
      let j = both_true _ _ k.1 in
      rw (← (some_inj _ d v.2))
      (both_of (breaks_stay t.0 false) (both (breaks_stay u.0 ok) (breaks_stay v.0 ok)) (put-stays n g false t.0 t.1 k.0)
      (both_of (breaks_stay u.0 ok) (breaks_stay v.0 ok) (put-stays n x ok u.0 u.1 j.0) (put-stays n y ok v.0 v.1 j.1)))
  put-stays (suc n) (Image.loop c) ok d e b =
      let t = bind_some (put procedures n c) _ d e in
      rw (← (some_inj _ d t.2)) (put-stays n c true t.0 t.1 b)
  put-stays (suc n) Image.skip ok d e b = rw (← (some_inj _ d e))
  put-stays (suc n) Image.fail ok d e b = rw (← (some_inj _ d e))
  put-stays (suc n) Image.break ok d e b = rw (← (some_inj _ d e)) b
  put-stays (suc n) (Image.call i) ok d e b =
      let t = bind_some (put procedures n (get_or procedures i Image.skip)) _ d e in
      rw (← (some_inj _ d t.2)) (put-stays n (get_or procedures i Image.skip) false t.0 t.1 (procedure-lies i))

pub put_in_stays : (r : RawProgram) (p : Program) → put_in r ≡ some p → placement r ≡ true → breaks_stay p.main false ≡ true
unfolding placement
put_in_stays r p e b =
    let k = both_true _ _ b in
    put-stays r.procedures k.0 _ r.main false p.main (put_in_some r p e).main k.1

-- Where no break may stand, none comes out.

abbrev pub Unbroken : End → Type 0
Unbroken Done = Unit {0}
Unbroken Failed = Unit {0}
Unbroken Broke = ⊥
Unbroken (Stopped w) = Unit {0}

enter-unbroken : (f : ℕ) (k : State → Out) → ((t : State) → Unbroken (k t).end) → (s : State)
    → Unbroken (enter_at f k s).end
unfolding enter_at
enter-unbroken zero k h s = tt
enter-unbroken (suc f) k h s = h _

next-unbroken : (e : End) (t : State) (k : State → Out) → Unbroken e → ((u : State) → Unbroken (k u).end)
    → Unbroken (next e t k).end
unfolding next
next-unbroken Done t k h u = u t
next-unbroken Failed t k h u = tt
next-unbroken Broke t k h u = h
next-unbroken (Stopped w) t k h u = tt

decide-unbroken : (e : End) (keep : Bool) (s t : State) (a b : State → Out) → Unbroken e
    → ((u : State) → Unbroken (a u).end)
    → ((u : State) → Unbroken (b u).end) → Unbroken (decide e keep s t a b).end
unfolding decide
decide-unbroken Done keep s t a b h u v = u _
decide-unbroken Failed keep s t a b h u v = v _
decide-unbroken Broke keep s t a b h u v = h
decide-unbroken (Stopped w) keep s t a b h u v = tt

again-unbroken : (e : End) (s t : State) (k : State → Out) → ((u : State) → Unbroken (k u).end)
    → Unbroken (again e s t k).end
unfolding again
again-unbroken Done s t k u = u t
again-unbroken Failed s t k u = tt
again-unbroken Broke s t k u = tt
again-unbroken (Stopped w) s t k u = tt

-- a loop takes the breaks of its body
pub rounds-unbroken : (n : ℕ) (body : State → Out) (s : State) → Unbroken (rounds n body s).end
unfolding rounds
rounds-unbroken zero body s = tt
rounds-unbroken (suc n) body s = again-unbroken (body s).end s _ _ (rounds-unbroken n body)

after-unbroken : (a : Applied) (s : State) → Unbroken (after_applying a s).end
unfolding after_applying
after-unbroken (applied g) s = tt
after-unbroken (hindered w) s = tt

module _ (most room : ℕ) (rules : List Rule) where
  pub call-unbroken : (o : Option Chosen) (s : State) → Unbroken (rule_call most room rules o s).end
  unfolding rule_call
  call-unbroken none s = tt
  call-unbroken (some c) s = after-unbroken _ s

  mutual
    unfolding work works breaks_stay all_breaks_stay

    pub work-unbroken : (c : Command) (s : State) → breaks_stay c false ≡ true → Unbroken (work most room rules c s).end
    work-unbroken (rule_set l) s b = call-unbroken _ s
    work-unbroken (sequence cs) s b = works-unbroken cs s b
    work-unbroken (guarded keep g a c) s b =
        let l = both_true _ _ b in
        let m = both_true _ _ l.1 in
        decide-unbroken _ keep s _ _ _ (enter-unbroken s.fuel _ (λ t. work-unbroken g t l.0) s)
        (λ u. enter-unbroken u.fuel _ (λ t. work-unbroken a t m.0) u)
        (λ u. enter-unbroken u.fuel _ (λ t. work-unbroken c t m.1) u)
    work-unbroken (loop c) s b = rounds-unbroken s.fuel _ s
    work-unbroken skip s b = tt
    work-unbroken fail s b = tt
    work-unbroken break s b = let z : ◌≡◌ {A = ℕ} 0 1 = cc in omega arith
    work-unbroken (called c) s b = enter-unbroken s.fuel _ (λ t. work-unbroken c t b) s

    pub works-unbroken : (cs : Commands) (s : State) → all_breaks_stay cs false ≡ true
        → Unbroken (works most room rules cs s).end
    works-unbroken no_more s b = tt
    works-unbroken (then c cs) s b =
        let l = both_true _ _ b in
        next-unbroken _ _ _ (enter-unbroken s.fuel _ (λ t. work-unbroken c t l.0) s) (λ u. works-unbroken cs u l.1)

  pub exec-unbroken : (c : Command) (s : State) → breaks_stay c false ≡ true → (exec most room rules c s).end ≡ Broke → ⊥
  exec-unbroken c s b e = rw e at (enter-unbroken s.fuel (λ t. work most room rules c t) (λ t. work-unbroken c t b) s)

  -- no guard breaks
  pub guard-unbroken : (keep ok : Bool) (g a b : Command) (s : State) → breaks_stay (guarded keep g a b) ok ≡ true
      → (exec most room rules g s).end ≡ Broke → ⊥
  unfolding breaks_stay
  guard-unbroken keep ok g a b s h = exec-unbroken g s (both_true _ _ h).0
