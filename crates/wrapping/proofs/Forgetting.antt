-- The meaning of commands with those noted that are entered, without its notes, is the meaning of commands. Rests on Entering.
use Rattle.std.specs.Prelude.{◌≡◌, refl, Bool, true, false, List, ℕ, zero, suc}
use Rattle.std.proofs.Common.{◌∙◌, ap}
use Rattle.meaning.specs.Basics.{choose}
use Rattle.meaning.specs.Image.{Rule}
use Rattle.meaning.specs.Procedures.{Command, rule_set, sequence, guarded, loop, skip, fail, break, called, Commands, no_more, then}
use Rattle.meaning.specs.Commands as Plain
use Rattle.meaning.specs.Commands.{State, Out}
use Rattle.wrapping.specs.Entering.{Noted, NotedOut, enter_at, next, decide, again, rounds, work, works, exec}
use Rattle.meaning.specs.declared.End.{End}
use Rattle.meaning.specs.declared.End.TheVariants.{Done, Failed, Broke, Stopped}
use Rattle.wrapping.specs.Forgetting.{plain, Forgets}

enter-plain : (c : Command) (f : ℕ) (k : Noted → NotedOut) (l : State → Out) → Forgets k l → (s : Noted)
    → plain (enter_at c f k s) ≡ Plain.enter_at f l s.state
unfolding enter_at Plain.enter_at
enter-plain c zero k l h s = refl
enter-plain c (suc f) k l h s = h _

next-plain : (e : End) (t : Noted) (k : Noted → NotedOut) (l : State → Out) → Forgets k l
    → plain (next e t k) ≡ Plain.next e t.state l
unfolding next Plain.next
next-plain Done t k l h = h t
next-plain Failed t k l h = refl
next-plain Broke t k l h = refl
next-plain (Stopped w) t k l h = refl

decide-plain : (e : End) (keep : Bool) (s t : Noted) (a b : Noted → NotedOut) (a' b' : State → Out) → Forgets a a' → Forgets b b'
    → plain (decide e keep s t a b) ≡ Plain.decide e keep s.state t.state a' b'
unfolding decide Plain.decide choose
decide-plain Done true s t a b a' b' h k = h _
decide-plain Done false s t a b a' b' h k = h _
decide-plain Failed keep s t a b a' b' h k = k _
decide-plain Broke keep s t a b a' b' h k = refl
decide-plain (Stopped w) keep s t a b a' b' h k = refl

again-plain : (e : End) (s t : Noted) (k : Noted → NotedOut) (l : State → Out) → Forgets k l
    → plain (again e s t k) ≡ Plain.again e s.state t.state l
unfolding again Plain.again
again-plain Done s t k l h = h t
again-plain Failed s t k l h = refl
again-plain Broke s t k l h = refl
again-plain (Stopped w) s t k l h = refl

rounds-plain : (n : ℕ) (k : Noted → NotedOut) (l : State → Out) → Forgets k l → Forgets (rounds n k) (Plain.rounds n l)
unfolding rounds Plain.rounds
rounds-plain zero k l h s = refl
rounds-plain (suc n) k l h s =
    again-plain (k s).end s (k s).noted _ _ (rounds-plain n k l h)
    ∙ ap (λ (o : Out). Plain.again o.end s.state o.state (λ t. Plain.rounds n l t)) (h s)

module _ (most room : ℕ) (rules : List Rule) where
  mutual
    unfolding work works Plain.work Plain.works

    work-plain : (c : Command) (s : Noted) → plain (work most room rules c s) ≡ Plain.work most room rules c s.state
    work-plain (rule_set l) s = refl
    work-plain (sequence cs) s = works-plain cs s
    work-plain (guarded keep g a b) s =
        decide-plain _ keep s _ _ _ (Plain.exec most room rules a) (Plain.exec most room rules b)
        (λ u. enter-plain a u.state.fuel _ _ (λ t. work-plain a t) u) (λ u. enter-plain b u.state.fuel _ _ (λ t. work-plain b t) u)
        ∙ ap (λ (o : Out). Plain.decide o.end keep s.state o.state (Plain.exec most room rules a) (Plain.exec most room rules b))
        (enter-plain g s.state.fuel _ _ (λ t. work-plain g t) s)
    work-plain (loop c) s =
        rounds-plain s.state.fuel _ _ (λ u. enter-plain c u.state.fuel _ _ (λ t. work-plain c t) u) s
    work-plain skip s = refl
    work-plain fail s = refl
    work-plain break s = refl
    work-plain (called c) s = enter-plain c s.state.fuel _ _ (λ t. work-plain c t) s

    works-plain : (cs : Commands) (s : Noted) → plain (works most room rules cs s) ≡ Plain.works most room rules cs s.state
    works-plain no_more s = refl
    works-plain (then c cs) s =
        next-plain _ _ _ (Plain.works most room rules cs) (λ t. works-plain cs t)
        ∙ ap (λ (o : Out). Plain.next o.end o.state (λ t. Plain.works most room rules cs t))
        (enter-plain c s.state.fuel _ _ (λ t. work-plain c t) s)

  pub exec_plain : (c : Command) (s : Noted) → plain (exec most room rules c s) ≡ Plain.exec most room rules c s.state
  exec_plain c s = enter-plain c s.state.fuel _ _ (work-plain c) s
