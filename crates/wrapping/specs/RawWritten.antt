-- Calls written out in what is read from an image: each number of a procedure replaced by that procedure's command, and the calls in it
-- too. Such an image stands for the other's program with its calls written out, and keeps the depth where the other does. Rests on
-- WrittenOut, the meaning's Procedures and laws' Procedures.
use Rattle.std.proofs.Math.Path.{◌≡◌}
use Rattle.std.proofs.Common.{sym, ◌∙◌, ap, arith, le_refl}
use Rattle.std.proofs.Math.Option.{Option, some}
use Rattle.std.specs.Prelude.{List, get_or}
use Prim.Native.Nat.{ℕ, zero, suc, ◌≤◌}
use Rattle.meaning.specs.Basics.{◌>>=◌}
use Rattle.meaning.specs.Image as Image
use Rattle.meaning.specs.Image.{Raw, Raws, RawProgram, limits, raw_program}
use Rattle.meaning.specs.Procedures.{Program, Command, guarded, Commands, put_all, put, put_in, program}
use Rattle.meaning.specs.Laws.Tests.{some_inj, bind_some}
use Rattle.laws.specs.Procedures.{put_in_some, written, all_written}
use Rattle.wrapping.specs.WrittenOut.{WrittenOut}

unfoldable pub each_raw : (Raw → Raw) → Raws → Raws
each_raw f Image.no_more = Image.no_more
each_raw f (Image.then c cs) = Image.then (f c) (each_raw f cs)

-- the command with its calls written out, n levels deep
unfoldable pub written_raw : List Raw → ℕ → Raw → Raw
written_raw procedures zero c = c
written_raw procedures (suc n) (Image.rule_set l) = Image.rule_set l
written_raw procedures (suc n) (Image.sequence cs) = Image.sequence (each_raw (written_raw procedures n) cs)
written_raw procedures (suc n) (Image.guarded keep g a b) =
    Image.guarded keep (written_raw procedures n g) (written_raw procedures n a) (written_raw procedures n b)
written_raw procedures (suc n) (Image.loop c) = Image.loop (written_raw procedures n c)
written_raw procedures (suc n) Image.skip = Image.skip
written_raw procedures (suc n) Image.fail = Image.fail
written_raw procedures (suc n) Image.break = Image.break
written_raw procedures (suc n) (Image.call i) = written_raw procedures n (get_or procedures i Image.skip)

-- q is read as p with its calls written out
pub record RawWrittenOut (p q : RawProgram) : Type 0 where
  pub rules : p.rules ≡ q.rules
  pub main : q.main ≡ written_raw p.procedures limits.depth p.main

-- What it stands for.

put_all_written : (f f' : Raw → Option Command) (k : Raw → Raw) → ((c : Raw) (d : Command) → f c ≡ some d → f' (k c) ≡ some (written d))
    → (cs : Raws) (ds : Commands) → put_all f cs ≡ some ds → put_all f' (each_raw k cs) ≡ some (all_written ds)
unfolding put_all each_raw all_written ◌>>=◌
put_all_written f f' k h Image.no_more ds e = rw (← (some_inj _ ds e))
put_all_written f f' k h (Image.then c cs) ds e =
    let t = bind_some (f c) _ ds e in
    let u = bind_some (put_all f cs) _ ds t.2 in
    rw (h c t.0 t.1, put_all_written f f' k h cs u.0 u.1) (ap (λ (x : Commands). some (all_written x)) (some_inj _ ds u.2))

as_written : (b d : Command) → some b ≡ some d → some (written b) ≡ some (written d)
as_written b d e = ap (λ (x : Command). some (written x)) (some_inj b d e)

-- procedures, and others, since no call is left to ask for them
module _ (procedures others : List Raw) where
  put_written : (n m : ℕ) (c : Raw) (d : Command) → n ≤ m → put procedures n c ≡ some d
      → put others m (written_raw procedures n c) ≡ some (written d)
  unfolding put written_raw written all_written ◌>>=◌
  put_written zero m c d l e = let z : ◌≡◌ {A = ℕ} 0 1 = cc in absurd (omega arith)
  put_written (suc n) zero c d l e = absurd (omega arith)
  put_written (suc n) (suc m) (Image.rule_set x) d l e = as_written _ d e
  put_written (suc n) (suc m) (Image.sequence cs) d l e =
      let t = bind_some (put_all (put procedures n) cs) _ d e in
      rw (put_all_written (put procedures n) (put others m) (written_raw procedures n) (λ c b. put_written n m c b (omega arith)) cs t.0 t.1) (as_written _ d t.2)
  put_written (suc n) (suc m) (Image.guarded keep g a b) d l e =
      let t = bind_some (put procedures n g) _ d e in
      let u = bind_some (put procedures n a) _ d t.2 in
      let v = bind_some (put procedures n b) _ d u.2 in
      rw (put_written n m g t.0 (omega arith) t.1, put_written n m a u.0 (omega arith) u.1, put_written n m b v.0 (omega arith) v.1) (as_written (guarded keep t.0 u.0 v.0) d v.2)
  put_written (suc n) (suc m) (Image.loop c) d l e =
      let t = bind_some (put procedures n c) _ d e in
      rw (put_written n m c t.0 (omega arith) t.1) (as_written _ d t.2)
  put_written (suc n) (suc m) Image.skip d l e = as_written _ d e
  put_written (suc n) (suc m) Image.fail d l e = as_written _ d e
  put_written (suc n) (suc m) Image.break d l e = as_written _ d e
  put_written (suc n) (suc m) (Image.call i) d l e =
      let t = bind_some (put procedures n (get_or procedures i Image.skip)) _ d e in
      rw (put_written n (suc m) (get_or procedures i Image.skip) t.0 (omega arith) t.1) (as_written _ d t.2)

module _ (r r' : RawProgram) (out : RawWrittenOut r r') (p : Program) (stands : put_in r ≡ some p) where
  main-written : put r'.procedures limits.depth r'.main ≡ some (written p.main)
  main-written =
      rw out.main
      (put_written r.procedures r'.procedures limits.depth limits.depth r.main p.main (le_refl _) (put_in_some r p stands).main)

  -- what it stands for is the program with its calls written out
  pub raw-written : (q : Program) → put_in r' ≡ some q → WrittenOut p q
  raw-written q e =
      let k = put_in_some r p stands in
      let j = put_in_some r' q e in
      record { rules = k.rules ∙ out.rules ∙ sym j.rules; main = some_inj _ _ (sym j.main ∙ main-written) }

  -- and it stands for one: the depth is kept
  pub raw-stands : put_in r' ≡ some (record { rules = r'.rules; main = written p.main })
  unfolding put_in ◌>>=◌
  raw-stands = rw main-written

pub images_written : (bs bs' : List ℕ) (r r' : RawProgram) (p q : Program) → raw_program bs ≡ some r → raw_program bs' ≡ some r' → RawWrittenOut r r'
    → program bs ≡ some p → program bs' ≡ some q → WrittenOut p q
unfolding program ◌>>=◌
images_written bs bs' r r' p q e e' out k k' = raw-written r r' out p (rw e at k) q (rw e' at k')
