-- What the walk asks, put beside References, Placement and Procedures: a law for each demand. Rests on Asked, Heights and
-- Putting, and on the meaning's References, Placement and Procedures.
use mathlib.Core.Path.{◌≡◌, refl, sym, ◌∙◌}
use mathlib.Core.Bool.{Bool, true, false}
use mathlib.Core.Option.{Option}
use mathlib.Core.List.{List}
use Prim.Native.Nat.{ℕ, zero, suc, ◌-◌, ◌≤◌}
use native.Mathlib.Omega.{arith}
use borrow.Author.Tests.{lt-ltb}
use lib.Dec.{ltb, leb-suc-suc}
use lib.ListN.{length, get_or}
use Rattle.std.specs.Prelude.{Option as Known, Some, None}
use Rattle.meaning.specs.Basics.{both, is_some}
use Rattle.meaning.specs.Image.{Raw, rule_set, sequence, guarded, loop, skip, fail, break, call, Raws, no_more, then, RawProgram, limits}
use Rattle.meaning.specs.Procedures as Procedures
use Rattle.meaning.specs.Procedures.{Command, put_all, put, everywhere, depth_holds}
use Rattle.meaning.specs.References.{names_exist, all_names_exist}
use Rattle.meaning.specs.Placement.{breaks_lie, all_breaks_lie, placement}
use Rattle.meaning.specs.Laws.Tests.{both_yes, both-no}
use Rattle.fields.specs.Image.{is_some_map}
use Rattle.command_checks.specs.declared.Demand.{Demand}
use Rattle.command_checks.specs.declared.Demand.TheVariants.{Names, Breaks, Depth}
use Rattle.command_checks.specs.Asked.{room_asked, numbers_asked, is_low, call_asked, command_asked, commands_asked}
use Rattle.command_checks.specs.Heights.{Height, Heights}
use Rattle.command_checks.proofs.Putting.{both-test, three-test, put-less}

-- Names and breaks.

mutual
  unfolding command_asked commands_asked numbers_asked call_asked names_exist all_names_exist both

  names-asked : (n m : ℕ) (t : List (Known ℕ)) (c : Raw) → command_asked (Names n m) t c ≡ names_exist c n m
  names-asked n m t (rule_set l) = refl
  names-asked n m t (sequence cs) = all-names-asked n m t cs
  names-asked n m t (guarded keep g a b) = rw (names-asked n m t g, names-asked n m t a, names-asked n m t b)
  names-asked n m t (loop c) = names-asked n m t c
  names-asked n m t skip = refl
  names-asked n m t fail = refl
  names-asked n m t break = refl
  names-asked n m t (call i) = refl

  all-names-asked : (n m : ℕ) (t : List (Known ℕ)) (cs : Raws) → commands_asked (Names n m) t cs ≡ all_names_exist cs n m
  all-names-asked n m t no_more = refl
  all-names-asked n m t (then c cs) = rw (names-asked n m t c, all-names-asked n m t cs)

mutual
  unfolding command_asked commands_asked numbers_asked call_asked breaks_lie all_breaks_lie both

  breaks-asked : (ok : Bool) (t : List (Known ℕ)) (c : Raw) → command_asked (Breaks ok) t c ≡ breaks_lie c ok
  breaks-asked ok t (rule_set l) = refl
  breaks-asked ok t (sequence cs) = all-breaks-asked ok t cs
  breaks-asked ok t (guarded keep g a b) = rw (breaks-asked false t g, breaks-asked ok t a, breaks-asked ok t b)
  breaks-asked ok t (loop c) = breaks-asked true t c
  breaks-asked ok t skip = refl
  breaks-asked ok t fail = refl
  breaks-asked ok t break = refl
  breaks-asked ok t (call i) = refl

  all-breaks-asked : (ok : Bool) (t : List (Known ℕ)) (cs : Raws) → commands_asked (Breaks ok) t cs ≡ all_breaks_lie cs ok
  all-breaks-asked ok t no_more = refl
  all-breaks-asked ok t (then c cs) = rw (breaks-asked ok t c, all-breaks-asked ok t cs)

-- Depth.

-- where there is no room, nothing may stand
pub nothing-stands : (d : Demand) (t : List (Known ℕ)) → room_asked d ≡ false → (c : Raw) → command_asked d t c ≡ false
unfolding command_asked
nothing-stands d t e (rule_set l) = both-no _ _ e
nothing-stands d t e (sequence cs) = both-no _ _ e
nothing-stands d t e (guarded keep g a b) = both-no _ _ e
nothing-stands d t e (loop c) = both-no _ _ e
nothing-stands d t e skip = e
nothing-stands d t e fail = e
nothing-stands d t e break = both-no _ _ e
nothing-stands d t e (call i) = both-no _ _ e

some-room : (n : ℕ) (b : Bool) → both (ltb 0 (suc n)) b ≡ b
some-room n b = both_yes _ _ (lt-ltb 0 (suc n) (omega arith))

one_less : (n : ℕ) → suc n - 1 ≡ n
one_less n = omega arith

all_asked : (d : Demand) (t : List (Known ℕ)) (f : Raw → Option Command) → ((c : Raw) → command_asked d t c ≡ is_some (f c)) → (cs : Raws)
    → commands_asked d t cs ≡ is_some (put_all f cs)
unfolding commands_asked put_all is_some
all_asked d t f h no_more = refl
all_asked d t f h (then c cs) = (λ i. both (h c i) (all_asked d t f h cs i)) ∙ sym (both-test (f c) (put_all f cs) Procedures.then)

module _ (procedures : List Raw) where
  -- what is asked of a call is what its procedure answers
  call-asked : (b m : ℕ) (h : Known ℕ) (c : Raw) → m ≤ b → Height procedures b h c → is_low (suc m) h ≡ is_some (put procedures m c)
  unfolding is_low
  call-asked b m None c k w = sym (put-less procedures m b k c (w.beyond refl))
  call-asked b m (Some h) c k w = leb-suc-suc h m ∙ sym (w.exact h refl m)

  module _ (b : ℕ) (t : List (Known ℕ)) (w : Heights procedures b t) where
    pub depth-asked : (n : ℕ) → n ≤ suc b → (c : Raw) → command_asked (Depth n) t c ≡ is_some (put procedures n c)
    unfolding command_asked numbers_asked call_asked put is_some
    depth-asked zero k c = nothing-stands (Depth 0) t refl c
    depth-asked (suc n) k (rule_set l) = some-room n _
    depth-asked (suc n) k (sequence cs) =
        some-room n _
        ∙ rw (one_less n) (all_asked (Depth n) t (put procedures n) (depth-asked n (omega arith)) cs)
        ∙ sym (is_some_map (put_all (put procedures n) cs) Procedures.sequence)
    depth-asked (suc n) k (guarded keep g x y) =
        let f = depth-asked n (omega arith) in
        some-room n _
        ∙ rw (one_less n) (λ i. both (f g i) (both (f x i) (f y i)))
        ∙ sym (three-test (put procedures n g) (put procedures n x) (put procedures n y) (Procedures.guarded keep))
    depth-asked (suc n) k (loop c) =
        some-room n _ ∙ rw (one_less n) (depth-asked n (omega arith) c) ∙ sym (is_some_map (put procedures n c) Procedures.loop)
    depth-asked (suc n) k skip = lt-ltb 0 (suc n) (omega arith)
    depth-asked (suc n) k fail = lt-ltb 0 (suc n) (omega arith)
    depth-asked (suc n) k break = some-room n _
    depth-asked (suc n) k (call i) =
        let c = get_or procedures i skip in
        some-room n _ ∙ call-asked b n (get_or t i (Some 1)) c (omega arith) (w.height i) ∙ sym (is_some_map (put procedures n c) Procedures.called)

    pub put-asked : (m n : ℕ) → m ≡ n → n ≤ suc b → (c : Raw) (r : Bool) → r ≡ command_asked (Depth m) t c → is_some (put procedures n c) ≡ r
    put-asked m n q k c r e = sym (e ∙ rw q (depth-asked n k c))

-- The whole.

pub names-are : (p : RawProgram) (n m : ℕ) (t : List (Known ℕ)) → n ≡ length p.rules → m ≡ length p.procedures
    → everywhere (command_asked (Names n m) t) p ≡ everywhere (λ c. names_exist c (length p.rules) (length p.procedures)) p
names-are p n m t h k = rw (h, k) (λ i. everywhere (λ c. names-asked (length p.rules) (length p.procedures) t c i) p)

pub placement-is : (p : RawProgram) (t : List (Known ℕ)) → everywhere (command_asked (Breaks false) t) p ≡ placement p
unfolding placement
placement-is p t = λ i. everywhere (λ c. breaks-asked false t c i) p

pub depth_is : (p : RawProgram) (b : ℕ) (t : List (Known ℕ)) → limits.depth ≤ suc b → Heights p.procedures b t
    → everywhere (command_asked (Depth limits.depth) t) p ≡ depth_holds p
unfolding depth_holds
depth_is p b t h w = λ i. everywhere (λ c. depth-asked p.procedures b t w limits.depth h c i) p
