-- Where procedures can be put in: less depth may be too little, and more is never. Rests on the meaning's Procedures and on
-- fields' Image.
use mathlib.Core.Path.{◌≡◌, refl, sym, ◌∙◌}
use mathlib.Core.Bool.{true, false}
use mathlib.Core.Option.{Option, some, none}
use mathlib.Core.List.{List}
use Prim.Native.Nat.{ℕ, zero, suc, ◌<◌, ◌≤◌}
use native.Mathlib.Omega.{arith}
use lib.ListN.{get_or}
use Rattle.meaning.specs.Basics.{both, is_some, ◌>>=◌}
use Rattle.meaning.specs.Image.{Raw, rule_set, sequence, guarded, loop, skip, fail, break, call, Raws, no_more, then}
use Rattle.meaning.specs.Procedures as Procedures
use Rattle.meaning.specs.Procedures.{Command, put_all, put}
use Rattle.meaning.specs.Laws.Tests.{both_true, both_of, not_so}
use Rattle.fields.specs.Image.{is_some_map}

-- Values that rest on others are there where those are.

pub both-test : {A B D : Type 0} (o : Option A) (q : Option B) (f : A → B → D) → is_some (o >>= λ a. q >>= λ b. some (f a b)) ≡ both (is_some o) (is_some q)
unfolding is_some ◌>>=◌ both
both-test none q f = refl
both-test (some a) q f = is_some_map q (f a)

pub three-test : {A B D E : Type 0} (o : Option A) (q : Option B) (r : Option D) (f : A → B → D → E)
    → is_some (o >>= λ a. q >>= λ b. r >>= λ d. some (f a b d)) ≡ both (is_some o) (both (is_some q) (is_some r))
unfolding is_some ◌>>=◌ both
three-test none q r f = refl
three-test (some a) q r f = both-test q r (f a)

-- More depth.

-- what can be put in one way can be put in the other
abbrev Follows : (Raw → Option Command) → (Raw → Option Command) → Type 0
Follows f g = (c : Raw) → is_some (f c) ≡ true → is_some (g c) ≡ true

all_follow : (f g : Raw → Option Command) → Follows f g → (cs : Raws) → is_some (put_all f cs) ≡ true → is_some (put_all g cs) ≡ true
unfolding put_all is_some
all_follow f g h no_more e = refl
all_follow f g h (then c cs) e =
    let t = both_true _ _ (sym (both-test (f c) (put_all f cs) Procedures.then) ∙ e) in
    both-test (g c) (put_all g cs) Procedures.then ∙ both_of _ _ (h c t.0) (all_follow f g h cs t.1)

module _ (procedures : List Raw) where
  -- a command is one deep at least
  pub some-depth : (n : ℕ) (c : Raw) → is_some (put procedures n c) ≡ true → 0 < n
  unfolding put is_some
  some-depth zero c e = let z : ◌≡◌ {A = ℕ} 0 1 = cc in absurd (omega arith)
  some-depth (suc n) c e = omega arith

  pub put-more : (m n : ℕ) → m ≤ n → Follows (put procedures m) (put procedures n)
  unfolding put is_some
  put-more zero n h c e = absurd (omega (arith, some-depth zero c e))
  put-more (suc m) zero h c e = absurd (omega arith)
  put-more (suc m) (suc n) h (rule_set l) e = refl
  put-more (suc m) (suc n) h (sequence cs) e =
      is_some_map (put_all (put procedures n) cs) Procedures.sequence
      ∙ all_follow (put procedures m) (put procedures n) (put-more m n (omega arith)) cs (sym (is_some_map (put_all (put procedures m) cs) Procedures.sequence) ∙ e)
  put-more (suc m) (suc n) h (guarded keep g a b) e =
      let f = put-more m n (omega arith) in
      let t = both_true _ _ (sym (three-test (put procedures m g) (put procedures m a) (put procedures m b) (Procedures.guarded keep)) ∙ e) in
      let u = both_true _ _ t.1 in
      three-test (put procedures n g) (put procedures n a) (put procedures n b) (Procedures.guarded keep)
      ∙ both_of _ _ (f g t.0) (both_of _ _ (f a u.0) (f b u.1))
  put-more (suc m) (suc n) h (loop c) e =
      is_some_map (put procedures n c) Procedures.loop ∙ put-more m n (omega arith) c (sym (is_some_map (put procedures m c) Procedures.loop) ∙ e)
  put-more (suc m) (suc n) h skip e = refl
  put-more (suc m) (suc n) h fail e = refl
  put-more (suc m) (suc n) h break e = refl
  put-more (suc m) (suc n) h (call i) e =
      let c = get_or procedures i skip in
      is_some_map (put procedures n c) Procedures.called
      ∙ put-more m n (omega arith) c (sym (is_some_map (put procedures m c) Procedures.called) ∙ e)

  pub put-less : (m n : ℕ) → m ≤ n → (c : Raw) → is_some (put procedures n c) ≡ false → is_some (put procedures m c) ≡ false
  put-less m n h c e = not_so _ (λ k. let q = put-more m n h c k in let z : ◌≡◌ {A = ℕ} 0 1 = cc in omega arith)
