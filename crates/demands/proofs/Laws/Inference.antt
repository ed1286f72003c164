-- The rules of inference and the definitions of commands say the same: what a command is computed to do follows by the rules,
-- and nothing else does. Rests on Inference, and on laws' FirstMatch, Fuel and Breaks.
use Prim.Native.Nat.{ℕ, zero, suc, ◌-◌, ◌<◌, ◌≤◌}
use Rattle.std.proofs.Math.Path.{◌≡◌, refl, ap}
use Rattle.std.proofs.Common.{sym, ◌∙◌, le_refl}
use Rattle.std.specs.Prelude.{◌↔◌, Bool, length, get_or}
use mathlib.Core.List.{List, [], ◌∷◌}
use Rattle.std.proofs.Math.Bool.{true, false}
use Rattle.std.proofs.Math.Option.{Option, some, none}
use native.Mathlib.Omega.{arith}
use Rattle.meaning.specs.Basics.{choose}
use Rattle.meaning.specs.Layout.{Host}
use Rattle.meaning.specs.Image.{Rule}
use Rattle.meaning.specs.Procedures.{Command, rule_set, sequence, guarded, loop, skip, fail, break, called, Commands, no_more, then}
use Rattle.meaning.specs.Matching.{Match}
use Rattle.meaning.specs.FirstMatch.{first_match}
use Rattle.meaning.specs.Applying.{Applied, applied, hindered, apply}
use Rattle.meaning.specs.Commands.{State, Out, ends, back, enter_at, Chosen, or_later, rule_at, first_rule, after_applying, next, decide, again, rounds, rule_call, work, works, exec}
use Rattle.demands.specs.Inference
use Rattle.demands.specs.Inference.{NoMatch, FirstCalled, stepped, Executes, Does, Follows}
use Rattle.meaning.specs.Laws.Tests.{both_true}
use Rattle.laws.specs.FirstMatch as Found
use Rattle.laws.specs.Commands.{first_rule-some, first_rule-none, exec-entered}
use Rattle.laws.specs.Breaks.{breaks_stay, all_breaks_stay, guard-unbroken}
use Rattle.laws.specs.Fuel.{exec_spending, again-same, rounds_bound}
use Rattle.laws.specs.References.{Sound}
use Rattle.meaning.specs.declared.Stop.TheVariants.{OutOfFuel}
use Rattle.meaning.specs.declared.End.{End}
use Rattle.meaning.specs.declared.End.TheVariants.{Done, Failed, Broke, Stopped}

-- Rule calls.

module _ (rules : List Rule) (sound : (i : ℕ) → Sound (rule_at rules i)) (h : Host) where
  pub called-none : (l : List ℕ) → first_rule rules h l ≡ none → NoMatch rules h l
  called-none l e i k p m =
      let q = sound (get_or l i 0) in
      (Found.fails-exactly h (rule_at rules (get_or l i 0)) q.holds q.types).0 (first_rule-none rules h l e i k) p m

  pub none-called : (l : List ℕ) → NoMatch rules h l → first_rule rules h l ≡ none
  unfolding first_rule or_later
  none-called [] n = refl
  none-called (i ∷ l) n =
      let q = sound i in
      rw ((Found.fails-exactly h (rule_at rules i) q.holds q.types).1 (n 0 (omega arith)))
      (none-called l (λ j k. n (suc j) (omega arith)))

  pub called-some : (l : List ℕ) (c : Chosen) → first_rule rules h l ≡ some c → FirstCalled rules h l c.rule c.slots
  called-some l c e =
      let f = first_rule-some rules h l c e in
      let q : Sound c.rule = rw f.rule (sound (get_or l f.place 0)) in
      let x = (Found.first-exactly h c.rule q.holds q.types (some c.slots)).0 f.match in
      record {
        place = f.place;
        listed = f.listed;
        rule = f.rule;
        earlier = λ i k p m.
            let z = sound (get_or l i 0) in
            (Found.fails-exactly h (rule_at rules (get_or l i 0)) z.holds z.types).0 (f.before i k) p m;
        match = x.0;
        first = x.1;
      }

  some-called : (l : List ℕ) (r : Rule) (p : List ℕ) (n : ℕ) → n < length l → r ≡ rule_at rules (get_or l n 0)
      → ((i : ℕ) → i < n → (q : List ℕ) → Match h (rule_at rules (get_or l i 0)) q → ⊥) → first_match h r ≡ some p
      → first_rule rules h l ≡ some (record { number = get_or l n 0; rule = r; slots = p })
  unfolding first_rule or_later
  some-called [] r p n k e b m = absurd (omega arith)
  some-called (i ∷ l) r p zero k e b m = rw (← e, m)
  some-called (i ∷ l) r p (suc n) k e b m =
      let q = sound i in
      rw ((Found.fails-exactly h (rule_at rules i) q.holds q.types).1 (b 0 (omega arith)))
      (some-called l r p n (omega arith) e (λ j g. b (suc j) (omega arith)) m)

  pub called_is : (l : List ℕ) (r : Rule) (p : List ℕ) → (f : FirstCalled rules h l r p)
      → first_rule rules h l ≡ some (record { number = get_or l f.place 0; rule = r; slots = p })
  called_is l r p f =
      let q : Sound r = rw f.rule (sound (get_or l f.place 0)) in
      some-called l r p f.place f.listed f.rule f.earlier
      ((Found.first-exactly h r q.holds q.types (some p)).1 (f.match, f.first))

module _ (most room : ℕ) (rules : List Rule) where
  abbrev Ended : Command → State → Out → Type 0
  Ended c s o = Executes most room rules c s o.end o.state

  abbrev DoesEnd : Command → State → Out → Type 0
  DoesEnd c s o = Does most room rules c s o.end o.state

  abbrev FollowsEnd : Commands → State → Out → Type 0
  FollowsEnd cs s o = Follows most room rules cs s o.end o.state

  -- What is computed follows.

  enter_executes : (c : Command) (f : ℕ) (s : State) → s.fuel ≡ f → ((t : State) → DoesEnd c t (work most room rules c t))
      → Ended c s (enter_at f (λ t. work most room rules c t) s)
  unfolding enter_at
  enter_executes c zero s e h = Inference.dry e
  enter_executes c (suc f) s e h = Inference.enters f e (h (stepped f s))

  guard-does : (g x y : Command) (keep : Bool) (s : State) (e : End) (t : State) (a b : State → Out)
      → Executes most room rules g s e t → (e ≡ Broke → ⊥) → ((u : State) → Ended x u (a u)) → ((u : State) → Ended y u (b u))
      → DoesEnd (guarded keep g x y) s (decide e keep s t a b)
  unfolding decide choose
  guard-does g x y true s Done t a b r n h k = Inference.then_try t r (h t)
  guard-does g x y false s Done t a b r n h k = Inference.then_if t r (h (back s t))
  guard-does g x y keep s Failed t a b r n h k = Inference.elses t r (k (back s t))
  guard-does g x y keep s Broke t a b r n h k = absurd (n refl)
  guard-does g x y keep s (Stopped w) t a b r n h k = Inference.guard_stops w r

  next-follows : (c : Command) (cs : Commands) (s : State) (e : End) (t : State) (k : State → Out)
      → Executes most room rules c s e t → ((u : State) → FollowsEnd cs u (k u)) → FollowsEnd (then c cs) s (next e t k)
  unfolding next
  next-follows c cs s Done t k r h = Inference.goes_on t r (h t)
  next-follows c cs s Failed t k r h = Inference.ends_there Failed (λ e. let z : ◌≡◌ {A = ℕ} 0 1 = cc in omega arith) r
  next-follows c cs s Broke t k r h = Inference.ends_there Broke (λ e. let z : ◌≡◌ {A = ℕ} 0 1 = cc in omega arith) r
  next-follows c cs s (Stopped w) t k r h = Inference.ends_there (Stopped w) (λ e. let z : ◌≡◌ {A = ℕ} 0 1 = cc in omega arith) r

  again-does : (c : Command) (s : State) (e : End) (t : State) (k : State → Out) → Executes most room rules c s e t
      → DoesEnd (loop c) t (k t) → DoesEnd (loop c) s (again e s t k)
  unfolding again
  again-does c s Done t k r h = Inference.repeats t r h
  again-does c s Failed t k r h = Inference.body_fails t r refl
  again-does c s Broke t k r h = Inference.body_breaks r
  again-does c s (Stopped w) t k r h = Inference.body_stops w r

  rounds-does : (c : Command) → ((s : State) → Ended c s (exec most room rules c s)) → (n : ℕ) (s : State) → s.fuel ≤ n
      → DoesEnd (loop c) s (rounds n (exec most room rules c) s)
  unfolding rounds
  rounds-does c h zero s k = let z : s.fuel ≡ 0 = omega arith in Inference.body_stops OutOfFuel (Inference.dry z)
  rounds-does c h (suc n) s k =
      let o = exec most room rules c s in
      again-does c s o.end o.state _ (h s)
      (rounds-does c h n o.state (omega (arith, (exec_spending most room rules c).spends s)))

  call-does : (l : List ℕ) (s : State) → ((i : ℕ) → Sound (rule_at rules i)) → (o : Option Chosen)
      → first_rule rules s.ledger.host l ≡ o → DoesEnd (rule_set l) s (rule_call most room rules o s)
  unfolding rule_call after_applying
  call-does l s sound none e = Inference.no_match (called-none rules sound s.ledger.host l e)
  call-does l s sound (some c) e = at (apply most room c.rule c.slots s.ledger) refl
    where
      at : (a : Applied) → apply most room c.rule c.slots s.ledger ≡ a → DoesEnd (rule_set l) s (after_applying a s)
      at (applied g) q = Inference.applies c.rule c.slots g (called-some rules sound s.ledger.host l c e) q refl
      at (hindered w) q = Inference.hinders c.rule c.slots w (called-some rules sound s.ledger.host l c e) q

  module _ (sound : (i : ℕ) → Sound (rule_at rules i)) where
    mutual
      unfolding work works breaks_stay all_breaks_stay

      work-does : (c : Command) (s : State) (ok : Bool) → breaks_stay c ok ≡ true → DoesEnd c s (work most room rules c s)
      work-does (rule_set l) s ok b = call-does l s sound _ refl
      work-does (sequence cs) s ok b = Inference.in_sequence (works_follow cs s ok b)
      work-does (guarded keep g x y) s ok b =
          let i = both_true _ _ b in
          let j = both_true _ _ i.1 in
          guard-does g x y keep s _ _ _ _ (enter_executes g s.fuel s refl (λ t. work-does g t false i.0))
          (guard-unbroken most room rules keep ok g x y s b) (λ u. enter_executes x u.fuel u refl (λ t. work-does x t ok j.0))
          (λ u. enter_executes y u.fuel u refl (λ t. work-does y t ok j.1))
      work-does (loop c) s ok b =
          rounds-does c (λ u. enter_executes c u.fuel u refl (λ t. work-does c t true b)) s.fuel s (le_refl _)
      work-does skip s ok b = Inference.skips
      work-does fail s ok b = Inference.fails
      work-does break s ok b = Inference.breaks
      work-does (called c) s ok b = Inference.calls (enter_executes c s.fuel s refl (λ t. work-does c t false b))

      works_follow : (cs : Commands) (s : State) (ok : Bool) → all_breaks_stay cs ok ≡ true → FollowsEnd cs s (works most room rules cs s)
      works_follow no_more s ok b = Inference.nothing
      works_follow (then c cs) s ok b =
          let i = both_true _ _ b in
          next-follows c cs s _ _ _ (enter_executes c s.fuel s refl (λ t. work-does c t ok i.0)) (λ u. works_follow cs u ok i.1)

    -- a command out of which no break comes has what it is computed to do
    pub exec_executes : (c : Command) (s : State) → breaks_stay c false ≡ true → Ended c s (exec most room rules c s)
    exec_executes c s b = enter_executes c s.fuel s refl (λ t. work-does c t false b)

    -- Nothing else follows.

    next-ends : (e : End) (t : State) (k : State → Out) → (e ≡ Done → ⊥) → next e t k ≡ ends e t
    unfolding next
    next-ends Done t k n = absurd (n refl)
    next-ends Failed t k n = refl
    next-ends Broke t k n = refl
    next-ends (Stopped w) t k n = refl

    -- a round of a loop, where its body ends in e at t
    round : (c : Command) (s t : State) (e : End) → exec most room rules c s ≡ ends e t
        → rounds s.fuel (exec most room rules c) s ≡ again e s t (λ u. rounds u.fuel (exec most room rules c) u)
    unfolding rounds
    round c s t e q =
        let body = exec most room rules c in
        let spent = exec_spending most room rules c in
        let l : t.fuel ≤ s.fuel - 1 = rw q at (spent.spends s) in
        rounds_bound s.fuel (suc s.fuel) body spent s (omega arith) (omega arith)
        ∙ ap (λ (o : Out). again o.end s o.state (rounds s.fuel body)) q
        ∙ again-same e s t (rounds s.fuel body) (λ u. rounds u.fuel body u)
        (rounds_bound s.fuel t.fuel body spent t (omega arith) (omega arith))

    mutual
      unfolding work works rule_call after_applying decide choose again next

      pub executes_exec : {c : Command} {s t : State} {e : End} → Executes most room rules c s e t → exec most room rules c s ≡ ends e t
      executes_exec (Inference.dry {c = c} {s = s} z) = (exec_spending most room rules c).empty s z
      executes_exec (Inference.enters {c = c} {s = s} f z d) = exec-entered most room rules c s f z ∙ does-work d

      pub does-work : {c : Command} {s t : State} {e : End} → Does most room rules c s e t → work most room rules c s ≡ ends e t
      does-work Inference.skips = refl
      does-work Inference.fails = refl
      does-work Inference.breaks = refl
      does-work (Inference.no_match {l = l} {s = s} n) = rw (none-called rules sound s.ledger.host l n)
      does-work (Inference.applies {l = l} {s = s} r p g f q v) = rw (called_is rules sound s.ledger.host l r p f, q, v)
      does-work (Inference.hinders {l = l} {s = s} r p w f q) = rw (called_is rules sound s.ledger.host l r p f, q)
      does-work (Inference.in_sequence f) = follows-works f
      does-work (Inference.calls r) = executes_exec r
      does-work (Inference.then_if t g a) = rw (executes_exec g) (executes_exec a)
      does-work (Inference.then_try t g a) = rw (executes_exec g) (executes_exec a)
      does-work (Inference.elses t g b) = rw (executes_exec g) (executes_exec b)
      does-work (Inference.guard_stops w g) = rw (executes_exec g)
      does-work (Inference.repeats {c = c} {s = s} t r d) = round c s t Done (executes_exec r) ∙ does-work d
      does-work (Inference.body_fails {c = c} {s = s} t r v) = rw v (round c s t Failed (executes_exec r))
      does-work (Inference.body_breaks {c = c} {s = s} {t = t} r) = round c s t Broke (executes_exec r)
      does-work (Inference.body_stops {c = c} {s = s} {t = t} w r) = round c s t (Stopped w) (executes_exec r)

      pub follows-works : {cs : Commands} {s t : State} {e : End} → Follows most room rules cs s e t → works most room rules cs s ≡ ends e t
      follows-works Inference.nothing = refl
      follows-works (Inference.goes_on t r f) = rw (executes_exec r) (follows-works f)
      follows-works (Inference.ends_there {t = t} e n r) = rw (executes_exec r) (next-ends e t _ n)

    -- so there is one end and one state
    pub executes_one : {c : Command} {s t t' : State} {e e' : End} → Executes most room rules c s e t → Executes most room rules c s e' t'
        → (e ≡ e') × (t ≡ t')
    executes_one r r' =
        let q = sym (executes_exec r) ∙ executes_exec r' in (ap (λ (o : Out). o.end) q, ap (λ (o : Out). o.state) q)

    failed-call : {l : List ℕ} {s t : State} {e : End} → Does most room rules (rule_set l) s e t → e ≡ Failed
        → NoMatch rules s.ledger.host l
    failed-call (Inference.no_match n) q = n
    failed-call (Inference.applies r p g f a v) q = let z : ◌≡◌ {A = ℕ} 0 1 = cc in absurd (omega arith)
    failed-call (Inference.hinders r p w f a) q = let z : ◌≡◌ {A = ℕ} 0 1 = cc in absurd (omega arith)

    -- a rule call, once entered, fails exactly where none of its rules has a match
    pub call-fails : {l : List ℕ} {s t : State} {e : End} → Does most room rules (rule_set l) s e t
        → (e ≡ Failed) ↔ NoMatch rules s.ledger.host l
    call-fails d =
        (failed-call d, λ n. ap (λ (o : Out). o.end) (sym (does-work d) ∙ does-work (Inference.no_match n)))

    -- and where one has a match, the first match of the first that has one is applied
    pub call-applies : {l : List ℕ} {s t : State} {e : End} → Does most room rules (rule_set l) s e t → (e ≡ Failed → ⊥)
        → (r : Rule) × (p : List ℕ) × FirstCalled rules s.ledger.host l r p
        × (ends e t ≡ after_applying (apply most room r p s.ledger) s)
    unfolding after_applying
    call-applies (Inference.no_match n) q = absurd (q refl)
    call-applies (Inference.applies {s = s} r p g f a v) q = (r, p, f, rw (a, v))
    call-applies (Inference.hinders {s = s} r p w f a) q = (r, p, f, rw a)
