-- With procedures put in, whatever they are, a command of the old form is no deeper than it is: it has no calls. Rests on OldForm,
-- the meaning's Procedures, fields' Parsed and parts' Series.
use Rattle.std.proofs.Math.Path.{◌≡◌, ap}
use Rattle.std.specs.Prelude.{refl, Bool, true, false}
use Rattle.std.proofs.Common.{◌∙◌, arith}
use Rattle.std.proofs.Math.Option.{some}
use mathlib.Core.List.{List, [], ◌∷◌}
use Prim.Native.Nat.{ℕ, zero, suc}
use Rattle.meaning.specs.Basics.{◌>>=◌}
use Rattle.meaning.specs.Image as Image
use Rattle.meaning.specs.Image.{Raw, in_order, limits, only, passes_all, as_rule_set, as_sequence, as_guarded, as_loop, unguarded}
use Rattle.meaning.specs.Procedures.{Command, rule_set, sequence, guarded, loop, skip, fail, break, Commands, no_more, then, put_all, put}
use Rattle.meaning.specs.Laws.Tests.{choose_either, some_inj, bind_some, ensure-some}
use Rattle.fields.specs.Image.{bind_yes}
use Rattle.fields.specs.Parsed.{as_sequence-is, as_guarded-is, as_loop-is, leaf-is}
use Rattle.parts.specs.Series.{Series, only-series}
use Rattle.renewing.specs.OldForm.{old_command}

module _ (procedures : List Raw) where
  -- what stands for a command that is at most n deep
  abbrev Put : ℕ → Raw → Type 0
  Put n c = (d : Command) × (put procedures n c ≡ some d)

  -- a command of commands
  module _ (n : ℕ) (puts : (tag : ℕ) (bs : List ℕ) (c : Raw) → old_command n tag bs ≡ some c → Put n c) (bs : List ℕ) (c : Raw) where
    row_put : (cs : List Raw) (bs : List ℕ) → Series (old_command n) cs [] bs → (ds : Commands) × (put_all (put procedures n) (in_order cs) ≡ some ds)
    unfolding Series put_all in_order
    row_put [] bs r = (no_more, refl)
    row_put (c ∷ cs) bs r =
        let d = puts r.whole.tag r.whole.payload c r.read in
        let ds = row_put cs r.whole.rest r.more in
        (then d.0 ds.0, bind_yes _ _ _ d.1 ∙ bind_yes _ _ _ ds.1)

    in_row : (cs : List Raw) → only passes_all (old_command n) limits.commands bs ≡ some cs → Series (old_command n) cs [] bs
    in_row cs e = only-series passes_all (old_command n) (old_command n) (λ t b a p x. x) limits.commands bs cs e

    sequence-put : (only passes_all (old_command n) limits.commands bs >>= as_sequence) ≡ some c → Put (suc n) c
    unfolding put
    sequence-put e =
        let t = bind_some (only passes_all (old_command n) limits.commands bs) _ c e in
        let ds = row_put t.0 bs (in_row t.0 t.1) in
        (sequence ds.0, ap (put procedures (suc n)) (as_sequence-is t.0 c t.2).1 ∙ bind_yes _ _ _ ds.1)

    guarded-put : (keep : Bool) → (only passes_all (old_command n) limits.commands bs >>= as_guarded keep) ≡ some c → Put (suc n) c
    unfolding put Series
    guarded-put keep e =
        let t = bind_some (only passes_all (old_command n) limits.commands bs) _ c e in
        let s = as_guarded-is keep t.0 c t.2 in
        let r = in_row (s.0 ∷ s.1 ∷ s.2 ∷ []) (t.1 ∙ ap some s.3) in
        let x = puts _ _ s.0 r.read in
        let y = puts _ _ s.1 r.more.read in
        let z = puts _ _ s.2 r.more.more.read in
        (guarded keep x.0 y.0 z.0, ap (put procedures (suc n)) s.4 ∙ bind_yes _ _ _ x.1 ∙ bind_yes _ _ _ y.1 ∙ bind_yes _ _ _ z.1)

    loop-put : (only passes_all (old_command n) limits.commands bs >>= as_loop) ≡ some c → Put (suc n) c
    unfolding put Series
    loop-put e =
        let t = bind_some (only passes_all (old_command n) limits.commands bs) _ c e in
        let s = as_loop-is t.0 c t.2 in
        let r = in_row (s.0 ∷ []) (t.1 ∙ ap some s.1) in
        let x = puts _ _ s.0 r.read in
        (loop x.0, ap (put procedures (suc n)) s.2 ∙ bind_yes _ _ _ x.1)

  pub old-put : (n tag : ℕ) (bs : List ℕ) (c : Raw) → old_command n tag bs ≡ some c → Put n c
  unfolding old_command unguarded as_rule_set put
  old-put zero tag bs c e = let z : ◌≡◌ {A = ℕ} 0 1 = cc in absurd (omega arith)
  old-put (suc n) tag bs c e =
      choose_either _ _ _ _ e (guarded-put n (old-put n) bs c false)
      (λ e. choose_either _ _ _ _ e (guarded-put n (old-put n) bs c true)
      (λ e. choose_either _ _ _ _ e (λ e. rw (← (some_inj _ c (ensure-some _ _ c e).1)) (rule_set bs, refl))
      (λ e. choose_either _ _ _ _ e (sequence-put n (old-put n) bs c)
      (λ e. choose_either _ _ _ _ e (loop-put n (old-put n) bs c)
      (λ e. choose_either _ _ _ _ e (λ e. rw (leaf-is Image.skip bs c e).1 (skip, refl))
      (λ e. choose_either _ _ _ _ e (λ e. rw (leaf-is Image.fail bs c e).1 (fail, refl))
      (λ e. choose_either _ _ _ _ e (λ e. rw (leaf-is Image.break bs c e).1 (break, refl))
      (λ e. let z : ◌≡◌ {A = ℕ} 0 1 = cc in absurd (omega arith)))))))))
