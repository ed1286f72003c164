-- A command of the old form, rewritten: it is as many bytes longer as there are guarded commands in it, and it is read as the same
-- command, if it is no longer than an image may be. Rests on OldForm, Written and fields' Parsed.
use Rattle.std.proofs.Math.Path.{◌≡◌, refl, sym, ap}
use Rattle.std.proofs.Common.{◌∙◌, ne_eqb, le-leb}
use Rattle.std.specs.Prelude.{Bool, true, false, ℕ, zero, suc, ◌+◌, ◌≤◌, eqb}
use Rattle.std.proofs.Math.Option.{Option, some, none}
use mathlib.Core.List.{List, [], ◌∷◌}
use native.Mathlib.Omega.{arith}
use Rattle.std.proofs.Math.Decide.{ℕ_discrete}
use Rattle.std.proofs.Math.ListN.{length, length-append}
use Rattle.meaning.specs.Basics.{choose, either, concat, ◌>>=◌}
use Rattle.meaning.specs.Tags.{rule_set_tag, sequence_tag, loop_tag, call_tag, guarded_tag}
use Rattle.meaning.specs.Image.{Raw, rule_set, sequence, guarded, loop, skip, fail, break, call, Raws, no_more, then, in_order, limits, flag, only, passes_all, as_rule_set, as_sequence, as_guarded, as_loop, unguarded, command}
use Rattle.meaning.specs.ProvedSet.{field_bytes}
use Rattle.meaning.specs.Laws.Tests.{choose_eq, choose_ne, choose_either, both_of, some_inj, bind_some, ensure-some, ensure-yes}
use Rattle.fields.specs.Image.{field_is, bind_yes, command-sequence, command-guarded, command-loop}
use Rattle.fields.specs.Parsed.{only-few, as_sequence-is, as_guarded-is, as_loop-is, leaf-is}
use Rattle.parts.specs.Series.{Series, only-series}
use Rattle.renewing.specs.OldForm.{if_tag, try_tag, old_command, renewed_command}
use Rattle.renewing.specs.Written.{field-written, length-field, series-only}

-- how many guarded commands there are in a command
unfoldable mutual
  pub guards : Raw → ℕ
  guards (rule_set l) = 0
  guards (sequence cs) = all_guards cs
  guards (guarded keep a b c) = 1 + guards a + guards b + guards c
  guards (loop c) = guards c
  guards skip = 0
  guards fail = 0
  guards break = 0
  guards (call i) = 0

  pub all_guards : Raws → ℕ
  all_guards no_more = 0
  all_guards (then c cs) = guards c + all_guards cs

-- what a command of the old form becomes
pub record New (n tag : ℕ) (bs : List ℕ) (c : Raw) : Type 0 where
  pub new_tag : ℕ
  pub payload : List ℕ
  pub is : renewed_command n tag bs ≡ some (field_bytes new_tag payload)
  pub longer : length payload ≡ length bs + guards c
  pub reads : length payload ≤ limits.bytes → command n new_tag payload ≡ some c

-- Commands in a row.

record NewRow (n : ℕ) (cs : List Raw) (bs : List ℕ) : Type 0 where
  news : List (List ℕ)
  is : Series (renewed_command n) news [] bs
  counted : length news ≡ length cs
  longer : length (concat news) ≡ length bs + all_guards (in_order cs)
  reads : length (concat news) ≤ limits.bytes → Series (command n) cs [] (concat news)

module _ (n : ℕ) (renews : (tag : ℕ) (bs : List ℕ) (c : Raw) → old_command n tag bs ≡ some c → New n tag bs c) where
  new_row : (cs : List Raw) (bs : List ℕ) → Series (old_command n) cs [] bs → NewRow n cs bs
  unfolding Series concat guards in_order
  new_row [] bs r = record { news = []; is = r; counted = refl; longer = let z : length bs ≡ 0 = ap length r in omega arith; reads = λ h. refl }
  new_row (c ∷ cs) bs r =
      let i = renews r.whole.tag r.whole.payload c r.read in
      let m = new_row cs r.whole.rest r.more in
      let l = (field_is bs r.whole r.there).long in
      let f = length-field i.new_tag i.payload in
      let s : length (concat (field_bytes i.new_tag i.payload ∷ m.news)) ≡ 3 + length i.payload + length (concat m.news) = length-append (field_bytes i.new_tag i.payload) (concat m.news) ∙ omega arith in
      record {
        news = field_bytes i.new_tag i.payload ∷ m.news;
        is = record { whole = r.whole; there = r.there; read = i.is; more = m.is };
        counted = omega (arith, m.counted);
        longer = s ∙ omega (arith, l, i.longer, m.longer);
        reads = λ h.
            record {
              whole = record { tag = i.new_tag; payload = i.payload; rest = concat m.news };
              there = field-written i.new_tag i.payload (concat m.news) (omega arith);
              read = i.reads (omega arith);
              more = m.reads (omega arith);
            };
      }

  -- the commands in a command
  record NewParts (cs : List Raw) (bs : List ℕ) : Type 0 where
    new : List ℕ
    is : (f : List ℕ → List ℕ) → (only passes_all (renewed_command n) limits.commands bs >>= λ l. some (f (concat l))) ≡ some (f new)
    longer : length new ≡ length bs + all_guards (in_order cs)
    reads : length new ≤ limits.bytes → only passes_all (command n) limits.commands new ≡ some cs

  new-parts : (cs : List Raw) (bs : List ℕ) → only passes_all (old_command n) limits.commands bs ≡ some cs → NewParts cs bs
  new-parts cs bs e =
      let r = new_row cs bs (only-series passes_all (old_command n) (old_command n) (λ t b a p x. x) limits.commands bs cs e) in
      let few = only-few passes_all (old_command n) limits.commands bs cs e in
      record {
        new = concat r.news;
        is = λ f. bind_yes _ _ _ (series-only (renewed_command n) r.news limits.commands bs (omega (arith, few, r.counted)) r.is);
        longer = r.longer;
        reads = λ h. series-only (command n) cs limits.commands (concat r.news) few (r.reads h);
      }

  module _ (tag : ℕ) (bs : List ℕ) (c : Raw) where
    -- If and try.

    new-guarded : (keep : Bool) (byte : ℕ) → ((l : List ℕ) → flag (byte ∷ l) ≡ some keep)
        → (only passes_all (old_command n) limits.commands bs >>= as_guarded keep) ≡ some c
        → renewed_command (suc n) tag bs ≡ (only passes_all (renewed_command n) limits.commands bs >>= λ new. some (field_bytes guarded_tag (byte ∷ concat new)))
        → New (suc n) tag bs c
    unfolding guards in_order
    new-guarded keep byte flagged e r =
        let t = bind_some (only passes_all (old_command n) limits.commands bs) _ c e in
        let s = as_guarded-is keep t.0 c t.2 in
        let p = new-parts (s.0 ∷ s.1 ∷ s.2 ∷ []) bs (t.1 ∙ ap some s.3) in
        let z : guards c ≡ 1 + guards s.0 + guards s.1 + guards s.2 = ap guards s.4 in
        record {
          new_tag = guarded_tag;
          payload = byte ∷ p.new;
          is = r ∙ p.is (λ l. field_bytes guarded_tag (byte ∷ l));
          longer = omega (arith, p.longer);
          reads = λ h.
              command-guarded n guarded_tag (byte ∷ p.new) refl
              ∙ bind_yes _ _ keep (flagged p.new)
              ∙ bind_yes _ _ _ (p.reads (omega arith))
              ∙ ap (as_guarded keep) (sym s.3) ∙ t.2;
        }

    -- Sequences and loops.

    new-series : (make : List Raw → Option Raw) → ((l : List Raw) (x : Raw) → make l ≡ some x → guards x ≡ all_guards (in_order l))
        → (only passes_all (old_command n) limits.commands bs >>= make) ≡ some c
        → renewed_command (suc n) tag bs ≡ (only passes_all (renewed_command n) limits.commands bs >>= λ new. some (field_bytes tag (concat new)))
        → ((l : List ℕ) → command (suc n) tag l ≡ (only passes_all (command n) limits.commands l >>= make))
        → New (suc n) tag bs c
    new-series make count e r q =
        let t = bind_some (only passes_all (old_command n) limits.commands bs) _ c e in
        let p = new-parts t.0 bs t.1 in
        record {
          new_tag = tag;
          payload = p.new;
          is = r ∙ p.is (λ l. field_bytes tag l);
          longer = omega (arith, p.longer, count t.0 c t.2);
          reads = λ h. q p.new ∙ bind_yes _ _ _ (p.reads h) ∙ t.2;
        }

    -- Rule sets, skip, fail and break: there is no command in them.

    alone : (parts other : List ℕ → Option (List Raw)) → (tag ≡ sequence_tag → ⊥) → (tag ≡ loop_tag → ⊥) → unguarded parts tag bs ≡ unguarded other tag bs
    unfolding unguarded
    alone parts other h k =
        ap (choose (eqb tag rule_set_tag) (as_rule_set bs)) (choose_ne tag sequence_tag _ _ h ∙ choose_ne tag loop_tag _ _ k ∙ sym (choose_ne tag sequence_tag _ _ h ∙ choose_ne tag loop_tag _ _ k))

    no-guards : unguarded (λ l. none) tag bs ≡ some c → guards c ≡ 0
    unfolding unguarded as_rule_set ◌>>=◌ guards
    no-guards e =
        choose_either _ _ _ _ e (λ e. rw (← (some_inj _ c (ensure-some _ _ c e).1)))
        (λ e. choose_either _ _ _ _ e (λ e. let z : ◌≡◌ {A = ℕ} 0 1 = cc in absurd (omega arith))
        (λ e. choose_either _ _ _ _ e (λ e. let z : ◌≡◌ {A = ℕ} 0 1 = cc in absurd (omega arith))
        (λ e. choose_either _ _ _ _ e (λ e. rw (leaf-is skip bs c e).1)
        (λ e. choose_either _ _ _ _ e (λ e. rw (leaf-is fail bs c e).1)
        (λ e. choose_either _ _ _ _ e (λ e. rw (leaf-is break bs c e).1)
        (λ e. let z : ◌≡◌ {A = ℕ} 0 1 = cc in absurd (omega arith)))))))

    -- none of them has a tag that the old form lacked
    not_new : (parts : List ℕ → Option (List Raw)) → unguarded parts tag bs ≡ some c → (tag ≡ guarded_tag → ⊥) × (tag ≡ call_tag → ⊥)
    unfolding unguarded choose
    not_new parts e = (other guarded_tag refl, other call_tag refl)
      where
        other : (t : ℕ) → unguarded parts t bs ≡ none → tag ≡ t → ⊥
        other t q h =
            let k : unguarded parts t bs ≡ some c = ap (λ (t : ℕ). unguarded parts t bs) (sym h) ∙ e in
            let z : ◌≡◌ {A = ℕ} 0 1 = cc in
            omega arith

    new-leaf : unguarded (only passes_all (old_command n) limits.commands) tag bs ≡ some c → (tag ≡ sequence_tag → ⊥) → (tag ≡ loop_tag → ⊥)
        → renewed_command (suc n) tag bs ≡ some (field_bytes tag bs) → New (suc n) tag bs c
    unfolding command
    new-leaf e h k r =
        let z = no-guards (alone (λ l. none) _ h k ∙ e) in
        let u = not_new _ e in
        record {
          new_tag = tag;
          payload = bs;
          is = r;
          longer = omega arith;
          reads = λ l. choose_ne tag guarded_tag _ _ u.0 ∙ choose_ne tag call_tag _ _ u.1 ∙ alone _ (only passes_all (old_command n) limits.commands) h k ∙ e;
        }

module _ (parts : List ℕ → Option (List Raw)) (tag : ℕ) (bs : List ℕ) where
  unguarded-sequence : tag ≡ sequence_tag → unguarded parts tag bs ≡ (parts bs >>= as_sequence)
  unfolding unguarded choose
  unguarded-sequence h = rw h

  unguarded-loop : tag ≡ loop_tag → unguarded parts tag bs ≡ (parts bs >>= as_loop)
  unfolding unguarded choose
  unguarded-loop h = rw h

flag-front : (byte : ℕ) (l : List ℕ) → byte ≤ 1 → flag (byte ∷ l) ≡ some (eqb byte 1)
unfolding flag
flag-front byte l h = ensure-yes _ _ (both_of _ _ (le-leb 1 (length (byte ∷ l)) (omega arith)) (le-leb byte 1 h))

sequence-guards : (l : List Raw) (x : Raw) → as_sequence l ≡ some x → guards x ≡ all_guards (in_order l)
unfolding guards
sequence-guards l x e = rw (as_sequence-is l x e).1

loop-guards : (l : List Raw) (x : Raw) → as_loop l ≡ some x → guards x ≡ all_guards (in_order l)
unfolding guards in_order
loop-guards l x e =
    let s = as_loop-is l x e in
    let g : guards x ≡ guards s.0 = ap guards s.2 in
    let h : all_guards (in_order l) ≡ guards s.0 + 0 = ap (λ (m : List Raw). all_guards (in_order m)) s.1 in
    omega arith

-- a command that is neither if nor try
module _ (n tag : ℕ) (bs : List ℕ) (g : tag ≡ if_tag → ⊥) (h : tag ≡ try_tag → ⊥) where
  old-unguarded : old_command (suc n) tag bs ≡ unguarded (only passes_all (old_command n) limits.commands) tag bs
  unfolding old_command
  old-unguarded = choose_ne tag if_tag _ _ g ∙ choose_ne tag try_tag _ _ h

  new-unguarded : renewed_command (suc n) tag bs
      ≡ choose (either (eqb tag sequence_tag) (eqb tag loop_tag)) (only passes_all (renewed_command n) limits.commands bs >>= λ new. some (field_bytes tag (concat new))) (some (field_bytes tag bs))
  unfolding renewed_command
  new-unguarded = choose_ne tag if_tag _ _ g ∙ choose_ne tag try_tag _ _ h

pub renews : (n tag : ℕ) (bs : List ℕ) (c : Raw) → old_command n tag bs ≡ some c → New n tag bs c
unfolding old_command renewed_command either choose
renews zero tag bs c e = let z : ◌≡◌ {A = ℕ} 0 1 = cc in absurd (omega arith)
renews (suc n) tag bs c e = at (ℕ_discrete tag if_tag) (ℕ_discrete tag try_tag) (ℕ_discrete tag sequence_tag) (ℕ_discrete tag loop_tag) (λ t b x y. renews n t b x y)
  where
    parts : List ℕ → Option (List Raw)
    parts = only passes_all (old_command n) limits.commands

    at : Dec (tag ≡ if_tag) → Dec (tag ≡ try_tag) → Dec (tag ≡ sequence_tag) → Dec (tag ≡ loop_tag) → ((t : ℕ) (b : List ℕ) (x : Raw) → old_command n t b ≡ some x → New n t b x) → New (suc n) tag bs c
    at (yes h) k l m i = new-guarded n i tag bs c false 0 (λ l. flag-front 0 l (omega arith)) (sym (choose_eq tag if_tag _ _ h) ∙ e) (choose_eq tag if_tag _ _ h)
    at (no g) (yes h) l m i = new-guarded n i tag bs c true 1 (λ l. flag-front 1 l (omega arith)) (sym (choose_ne tag if_tag _ _ g ∙ choose_eq tag try_tag _ _ h) ∙ e) (choose_ne tag if_tag _ _ g ∙ choose_eq tag try_tag _ _ h)
    at (no g) (no h) (yes k) m i =
        new-series n i tag bs c as_sequence sequence-guards (sym (old-unguarded n tag bs g h ∙ unguarded-sequence parts tag bs k) ∙ e) (new-unguarded n tag bs g h ∙ rw k) (λ l. command-sequence n tag l k)
    at (no g) (no h) (no k) (yes m) i =
        new-series n i tag bs c as_loop loop-guards (sym (old-unguarded n tag bs g h ∙ unguarded-loop parts tag bs m) ∙ e) (new-unguarded n tag bs g h ∙ rw m) (λ l. command-loop n tag l m)
    at (no g) (no h) (no k) (no m) i =
        new-leaf n i tag bs c (sym (old-unguarded n tag bs g h) ∙ e) k m (new-unguarded n tag bs g h ∙ rw (ne_eqb tag sequence_tag k, ne_eqb tag loop_tag m))
