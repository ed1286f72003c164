-- Laws for the code that walks commands: a command by its tag, commands one after the other, and a test of each element of a
-- list. Rests on Asked and Demands.
use mathlib.Core.Path.{◌≡◌, refl, sym, ◌∙◌, ap}
use mathlib.Core.Bool.{Bool, true, false}
use mathlib.Core.Option.{some, none}
use mathlib.Core.List.{List, [], ◌∷◌}
use Prim.Native.Nat.{ℕ, suc, ◌-◌, ◌<◌, ◌≤◌}
use native.Mathlib.Omega.{arith}
use lib.ListN.{length, get_or, take, drop}
use Rattle.std.specs.Prelude.{Option as Known}
use Rattle.std.specs.Prelude.{◌&&◌}
use Rattle.std.specs.List.{list_all}
use Rattle.meaning.specs.Basics.{both, every, is_empty, ensure, ◌>>◌, ◌>>=◌}
use Rattle.meaning.specs.Tags.{rule_set_tag, sequence_tag, loop_tag, break_tag, call_tag, guarded_tag}
use Rattle.meaning.specs.Image.{Raw, rule_set, sequence, guarded, loop, skip, fail, break, call, field, leading, only, passes_all, in_order, command}
use Rattle.meaning.specs.Laws.Tests.{both_yes, both-no, both-last, choose_eq, choose_ne}
use Rattle.fields.specs.Parsed.{tag_of, command-tag, rule-set-read, sequence-read, guarded-read, loop-read, skip_read, fail-read, break-read, call-read}
use Rattle.fields.specs.Laws.{Lies}
use Rattle.command_checks.specs.declared.Demand.{Demand}
use Rattle.parts.specs.Series.{For, Series, only-series, series-none, series-some, series-there}
use Rattle.command_checks.specs.Asked.{room_asked, numbers_asked, break_asked, call_asked, inside, breaking, command_asked, commands_asked, parts_asked, of_first, inner_of}
use Rattle.command_checks.proofs.Demands.{nothing-stands}

-- A command by its tag.

sequence-parts : (d : Demand) (t : List (Known ℕ)) (l : List Raw) → parts_asked d d t l ≡ commands_asked d t (in_order l)
unfolding parts_asked commands_asked in_order
sequence-parts d t [] = refl
sequence-parts d t (c ∷ l) = ap (both (command_asked d t c)) (sequence-parts d t l)

empty-parts : (n : ℕ) → only passes_all (command n) 16 [] ≡ some []
unfolding only leading ◌>>=◌ ensure ◌>>◌ is_empty
empty-parts n = refl

module _ (d : Demand) (t : List (Known ℕ)) (n tag : ℕ) (bs : List ℕ) where
  pub no-depth : (r : Bool) → n ≡ 0 → For (command n tag bs) (λ c. r ≡ command_asked d t c)
  no-depth r h c e = absurd (omega (arith, (command-tag n tag bs c e).0))

  pub no_room : room_asked d ≡ false → For (command n tag bs) (λ c. false ≡ command_asked d t c)
  no_room h c e = sym (nothing-stands d t h c)

module _ (d : Demand) (t : List (Known ℕ)) (n tag : ℕ) (bs : List ℕ) (r : Bool) (room : room_asked d ≡ true) where
  -- besides, there is room
  besides : (b : Bool) → r ≡ b → r ≡ both (room_asked d) b
  besides b q = q ∙ sym (both_yes (room_asked d) b room)

  rule-set-is : r ≡ numbers_asked d bs → tag ≡ rule_set_tag → For (command (suc n) tag bs) (λ c. r ≡ command_asked d t c)
  unfolding command_asked
  rule-set-is q h c e = rw (rule-set-read n tag bs c e h).0 (besides _ q)

  break-is : r ≡ break_asked d → tag ≡ break_tag → For (command (suc n) tag bs) (λ c. r ≡ command_asked d t c)
  unfolding command_asked
  break-is q h c e = rw (break-read n tag bs c e h).1 (besides _ q)

  call-is : r ≡ call_asked d t (get_or bs 0 0) → tag ≡ call_tag → For (command (suc n) tag bs) (λ c. r ≡ command_asked d t c)
  unfolding command_asked
  call-is q h c e = rw (call-read n tag bs c e h).1 (besides _ q)

  module _ (q : For (only passes_all (command n) 16 (inner_of tag bs)) (λ l. r ≡ parts_asked (of_first (inside d) tag) (inside d) t l)) where
    -- what is asked of the parts, where it is known what is asked of the first, and where they lie
    of_parts : (f : Demand) → of_first (inside d) tag ≡ f → (lie : List ℕ) → inner_of tag bs ≡ lie → (l : List Raw) → only passes_all (command n) 16 lie ≡ some l → r ≡ parts_asked f (inside d) t l
    of_parts f h lie i l e = q l (ap (only passes_all (command n) 16) i ∙ e) ∙ ap (λ (x : Demand). parts_asked x (inside d) t l) h

    whole : (tag ≡ guarded_tag → ⊥) → inner_of tag bs ≡ bs
    unfolding inner_of
    whole h = choose_ne tag guarded_tag _ _ h

    bare : (tag ≡ guarded_tag → ⊥) → bs ≡ [] → r ≡ room_asked d
    unfolding parts_asked
    bare k h = of_parts _ refl [] (whole k ∙ h) [] (empty-parts n) ∙ sym room

    module _ (c : Raw) (e : command (suc n) tag bs ≡ some c) where
      of-sequence : tag ≡ sequence_tag → r ≡ command_asked d t c
      unfolding command_asked of_first
      of-sequence h =
          let s = sequence-read n tag bs c e h in
          let f = choose_ne tag loop_tag _ _ (λ x. omega arith) ∙ choose_eq tag sequence_tag _ _ h in
          besides _ (of_parts (inside d) f bs (whole (λ x. omega arith)) s.0 s.1 ∙ sequence-parts (inside d) t s.0) ∙ ap (command_asked d t) (sym s.4)

      of-guarded : tag ≡ guarded_tag → r ≡ command_asked d t c
      unfolding command_asked parts_asked of_first inner_of
      of-guarded h =
          let s = guarded-read n tag bs c e h in
          let f = choose_ne tag loop_tag _ _ (λ x. omega arith) ∙ choose_ne tag sequence_tag _ _ (λ x. omega arith) in
          rw s.4 (besides _ (of_parts (breaking (inside d) false) f (drop 1 bs) (choose_eq tag guarded_tag _ _ h) _ s.3 ∙ rw (← (both-last (command_asked (inside d) t s.2)))))

      of-loop : tag ≡ loop_tag → r ≡ command_asked d t c
      unfolding command_asked parts_asked of_first
      of-loop h =
          let s = loop-read n tag bs c e h in
          rw s.2 (besides _ (of_parts (breaking (inside d) true) (choose_eq tag loop_tag _ _ h) bs (whole (λ x. omega arith)) _ s.1 ∙ sym (both-last _)))

    parts_is : (tag ≡ rule_set_tag → ⊥) → (tag ≡ break_tag → ⊥) → (tag ≡ call_tag → ⊥) → For (command (suc n) tag bs) (λ c. r ≡ command_asked d t c)
    unfolding command_asked
    parts_is h0 h7 h8 c e = at c e (command-tag (suc n) tag bs c e).1
      where
        at : (c : Raw) → command (suc n) tag bs ≡ some c → tag ≡ tag_of c → r ≡ command_asked d t c
        at (rule_set l) e k = absurd (h0 k)
        at (sequence cs) e k = of-sequence _ e k
        at (guarded keep x y z) e k = of-guarded _ e k
        at (loop c) e k = of-loop _ e k
        at skip e k = bare (λ x. omega arith) (skip_read n tag bs _ e k).0
        at fail e k = bare (λ x. omega arith) (fail-read n tag bs _ e k).0
        at break e k = absurd (h7 k)
        at (call i) e k = absurd (h8 k)

-- the same at a depth that is not 0
module _ (d : Demand) (t : List (Known ℕ)) (depth tag : ℕ) (bs : List ℕ) (r : Bool) (h : depth ≡ 0 → ⊥) (room : room_asked d ≡ true) where
  deeper : (c : Raw) → command depth tag bs ≡ some c → command (suc (depth - 1)) tag bs ≡ some c
  deeper c e =
      let z : suc (depth - 1) ≡ depth = omega arith in
      ap (λ (m : ℕ). command m tag bs) z ∙ e

  pub rule-set-at : r ≡ numbers_asked d bs → tag ≡ rule_set_tag → For (command depth tag bs) (λ c. r ≡ command_asked d t c)
  rule-set-at q k c e = rule-set-is d t (depth - 1) tag bs r room q k c (deeper c e)

  pub break-at : r ≡ break_asked d → tag ≡ break_tag → For (command depth tag bs) (λ c. r ≡ command_asked d t c)
  break-at q k c e = break-is d t (depth - 1) tag bs r room q k c (deeper c e)

  pub call_at : (i : ℕ) → i ≡ get_or bs 0 0 → r ≡ call_asked d t i → tag ≡ call_tag → For (command depth tag bs) (λ c. r ≡ command_asked d t c)
  call_at i j q k c e = call-is d t (depth - 1) tag bs r room (q ∙ ap (call_asked d t) j) k c (deeper c e)

  pub parts_at : (others : Demand) → others ≡ inside d → (first : Demand) → first ≡ of_first others tag → (lie : List ℕ) → lie ≡ inner_of tag bs
      → For (only passes_all (command (depth - 1)) 16 lie) (λ l. r ≡ parts_asked first others t l)
      → (tag ≡ rule_set_tag → ⊥) → (tag ≡ break_tag → ⊥) → (tag ≡ call_tag → ⊥) → For (command depth tag bs) (λ c. r ≡ command_asked d t c)
  parts_at others o first f lie i q h0 h7 h8 c e =
      let g : first ≡ of_first (inside d) tag = f ∙ ap (λ (x : Demand). of_first x tag) o in
      parts_is d t (depth - 1) tag bs r room (λ l x. q l (ap (only passes_all (command (depth - 1)) 16) i ∙ x) ∙ rw (g, o)) h0 h7 h8 c (deeper c e)

-- Commands one after the other: what is asked from the place on is what is asked of all.

pub record Parting (first others : Demand) (t : List (Known ℕ)) (n : ℕ) (bs : List ℕ) (at : ℕ) (d : Demand) : Type 0 where
  pub left : For (only passes_all (command n) 16 bs) (λ l. (m : List Raw) × (Series (command n) m [] (drop at bs)) × (parts_asked first others t l ≡ parts_asked d others t m))

pub parting_start : (first others : Demand) (t : List (Known ℕ)) (n : ℕ) (bs : List ℕ) → Parting first others t n bs 0 first
parting_start first others t n bs = record { left = λ l e. (l, only-series passes_all (command n) (command n) (λ t b a p x. x) 16 bs l e, refl) }

module _ {first others : Demand} {t : List (Known ℕ)} {n : ℕ} {bs : List ℕ} {at : ℕ} {d : Demand} (w : Parting first others t n bs at d) where
  pub parting_done : length bs ≤ at → For (only passes_all (command n) 16 bs) (λ l. true ≡ parts_asked first others t l)
  unfolding parts_asked
  parting_done h l e =
      let s = w.left l e in
      sym (s.2 ∙ ap (parts_asked d others t) (series-none (command n) bs at s.0 s.1 h))

  pub parting_cut : at < length bs → field (drop at bs) ≡ none → For (only passes_all (command n) 16 bs) (λ l. false ≡ parts_asked first others t l)
  parting_cut h k l e = let s = w.left l e in absurd (series-there (command n) bs at s.0 s.1 h k)

  module _ {tag start end : ℕ} {part : List ℕ} {r : Bool} (h : at < length bs) (k : Lies bs at tag start end) (p : part ≡ take (end - start) (drop start bs)) (q : For (command n tag part) (λ c. r ≡ command_asked d t c)) where
    pub parting_next : r ≡ true → Parting first others t n bs end others
    unfolding parts_asked
    parting_next g = record {
      left = λ l e.
          let s = w.left l e in
          let u = series-some (command n) bs at s.0 s.1 h tag start end k in
          (u.others, u.series, s.2 ∙ ap (parts_asked d others t) u.parts ∙ both_yes (command_asked d t u.first) (parts_asked others others t u.others) (sym (q u.first (ap (command n tag) p ∙ u.read)) ∙ g));
    }

    pub parting_stop : r ≡ false → For (only passes_all (command n) 16 bs) (λ l. false ≡ parts_asked first others t l)
    unfolding parts_asked
    parting_stop g l e =
        let s = w.left l e in
        let u = series-some (command n) bs at s.0 s.1 h tag start end k in
        sym (s.2 ∙ ap (parts_asked d others t) u.parts ∙ both-no (command_asked d t u.first) (parts_asked others others t u.others) (sym (q u.first (ap (command n tag) p ∙ u.read)) ∙ g))

-- a test of each element, one after the other
pub every_is : {A : Type 0} (f : A → Bool) (l : List A) → list_all f l ≡ every f l
unfolding every both
every_is f [] = refl
every_is f (a ∷ l) = at (f a) (every_is f l)
  where
    at : (b : Bool) → list_all f l ≡ every f l → b && list_all f l ≡ both b (every f l)
    at true e = e
    at false e = refl
