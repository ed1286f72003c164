-- Putting procedures in, undone: what a command was before, by what it is then, and rows of commands before and after.
-- Rests on the meaning's Procedures and on parts' Series.
use mathlib.Core.Path.{◌≡◌, refl, sym, ◌∙◌, ap}
use mathlib.Core.Bool.{true}
use mathlib.Core.Option.{some}
use mathlib.Core.List.{List, [], ◌∷◌}
use Prim.Native.Nat.{ℕ, zero, suc}
use native.Mathlib.Omega.{arith}
use lib.ListN.{length, get_or}
use Rattle.meaning.specs.Image as Image
use Rattle.meaning.specs.Image.{Raw, RawProgram, command}
use Rattle.meaning.specs.References.{names_exist, all_names_exist}
use Rattle.meaning.specs.Procedures.{Command, rule_set, sequence, guarded, loop, skip, fail, break, called, Commands, then, put_all, put}
use Rattle.meaning.specs.Laws.Tests.{both_true, bind_some, some_inj, ensure-some, ensure-yes}
use Rattle.fields.specs.Image.{bind_yes}
use Rattle.parts.specs.Series.{Series}
use Rattle.commands.specs.Cycle.{stands_for, in_order}

-- What a command becomes, by its constructor.

module _ (procedures : List Raw) where
  abbrev pub Becomes : Raw → Command → Type 0
  Becomes (Image.rule_set l) d = d ≡ rule_set l
  Becomes (Image.sequence cs) d = (n : ℕ) × (ds : Commands) × (put_all (put procedures n) cs ≡ some ds) × (d ≡ sequence ds)
  Becomes (Image.guarded keep g a b) d =
      (n : ℕ) × (x y z : Command) × (put procedures n g ≡ some x) × (put procedures n a ≡ some y) × (put procedures n b ≡ some z) × (d ≡ guarded keep x y z)
  Becomes (Image.loop c) d = (n : ℕ) × (x : Command) × (put procedures n c ≡ some x) × (d ≡ loop x)
  Becomes Image.skip d = d ≡ skip
  Becomes Image.fail d = d ≡ fail
  Becomes Image.break d = d ≡ break
  Becomes (Image.call i) d = (n : ℕ) × (x : Command) × (put procedures n (get_or procedures i Image.skip) ≡ some x) × (d ≡ called x)

  pub becomes : (n : ℕ) (c : Raw) (d : Command) → put procedures n c ≡ some d → Becomes c d
  unfolding put
  becomes zero c d e = let z : ◌≡◌ {A = ℕ} 0 1 = cc in absurd (omega arith)
  becomes (suc n) (Image.rule_set l) d e = sym (some_inj _ d e)
  becomes (suc n) (Image.sequence cs) d e =
      let t = bind_some (put_all (put procedures n) cs) _ d e in
      (n, t.0, t.1, sym (some_inj _ d t.2))
  becomes (suc n) (Image.guarded keep g a b) d e =
      let x = bind_some (put procedures n g) _ d e in
      let y = bind_some (put procedures n a) _ d x.2 in
      let z = bind_some (put procedures n b) _ d y.2 in
      (n, x.0, y.0, z.0, x.1, y.1, z.1, sym (some_inj _ d z.2))
  becomes (suc n) (Image.loop c) d e =
      let t = bind_some (put procedures n c) _ d e in
      (n, t.0, t.1, sym (some_inj _ d t.2))
  becomes (suc n) Image.skip d e = sym (some_inj _ d e)
  becomes (suc n) Image.fail d e = sym (some_inj _ d e)
  becomes (suc n) Image.break d e = sym (some_inj _ d e)
  becomes (suc n) (Image.call i) d e =
      let t = bind_some (put procedures n (get_or procedures i Image.skip)) _ d e in
      (n, t.0, t.1, sym (some_inj _ d t.2))

  -- a command that is known to be c
  pub becomes_as : (n : ℕ) (r c : Raw) (d : Command) → r ≡ c → put procedures n r ≡ some d → Becomes c d
  becomes_as n r c d h e = becomes n c d (ap (put procedures n) (sym h) ∙ e)

module _ (p : RawProgram) where
  abbrev pub Exist : Raw → Type 0
  Exist c = names_exist c (length p.rules) (length p.procedures) ≡ true

  -- What bytes that stand for a command are.

  pub record Stands (own deep tag : ℕ) (bs : List ℕ) (d : Command) : Type 0 where
    pub raw : Raw
    pub read : command own tag bs ≡ some raw
    pub exist : Exist raw
    pub whole : put p.procedures deep raw ≡ some d

  pub stands : (own deep tag : ℕ) (bs : List ℕ) (d : Command) → stands_for p own deep tag bs ≡ some d → Stands own deep tag bs d
  unfolding stands_for
  stands own deep tag bs d e =
      let t = bind_some (command own tag bs) _ d e in
      let u = ensure-some _ _ d t.2 in
      record { raw = t.0; read = t.1; exist = u.0; whole = u.1 }

  pub stands_for_lem : (own deep tag : ℕ) (bs : List ℕ) (r : Raw) (d : Command) → command own tag bs ≡ some r → Exist r → put p.procedures deep r ≡ some d → stands_for p own deep tag bs ≡ some d
  unfolding stands_for
  stands_for_lem own deep tag bs r d e h k = bind_yes _ _ r e ∙ ensure-yes _ _ h ∙ k

  -- Rows.

  -- each of the one becomes that of the other at its place, and all that they name exists
  abbrev pub Puts : ℕ → List Raw → List Command → Type 0
  Puts n [] [] = Unit {0}
  Puts n [] (d ∷ ds) = ⊥
  Puts n (c ∷ cs) [] = ⊥
  Puts n (c ∷ cs) (d ∷ ds) = Exist c × (put p.procedures n c ≡ some d) × Puts n cs ds

  pub puts-length : (n : ℕ) (cs : List Raw) (ds : List Command) → Puts n cs ds → length cs ≡ length ds
  puts-length n [] [] h = refl
  puts-length n [] (d ∷ ds) h = absurd h
  puts-length n (c ∷ cs) [] h = absurd h
  puts-length n (c ∷ cs) (d ∷ ds) h = ap suc (puts-length n cs ds h.2)

  pub puts-all : (n : ℕ) (cs : List Raw) (ds : Commands) → all_names_exist (Image.in_order cs) (length p.rules) (length p.procedures) ≡ true
      → put_all (put p.procedures n) (Image.in_order cs) ≡ some ds → (l : List Command) × Puts n cs l × (ds ≡ in_order l)
  unfolding put_all all_names_exist Image.in_order in_order
  puts-all n [] ds h e = ([], tt, sym (some_inj _ ds e))
  puts-all n (c ∷ cs) ds h e =
      let b = both_true _ _ h in
      let x = bind_some (put p.procedures n c) _ ds e in
      let y = bind_some (put_all (put p.procedures n) (Image.in_order cs)) _ ds x.2 in
      let t = puts-all n cs y.0 b.1 y.1 in
      (x.0 ∷ t.0, (b.0, x.1, t.1), sym (some_inj _ ds y.2) ∙ ap (then x.0) t.2)

  pub series-puts : (own n : ℕ) (cs : List Raw) (ds : List Command) (bs : List ℕ) → Series (command own) cs [] bs → Puts n cs ds → Series (stands_for p own n) ds [] bs
  unfolding Series
  series-puts own n [] [] bs r h = r
  series-puts own n [] (d ∷ ds) bs r h = absurd h
  series-puts own n (c ∷ cs) [] bs r h = absurd h
  series-puts own n (c ∷ cs) (d ∷ ds) bs r h =
      record {
        whole = r.whole;
        there = r.there;
        read = stands_for_lem own n r.whole.tag r.whole.payload c d r.read h.0 h.1;
        more = series-puts own n cs ds r.whole.rest r.more h.2;
      }
