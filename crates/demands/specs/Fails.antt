-- A rule call fails exactly when for none of its listed rules a placement satisfies every matching rule, the dangling condition and
-- the tests: of the answers of every interpreter that meets demand 2, on an accepted image that is one rule call, with fuel to
-- enter it. `Match` is those six rules. Rests on Demands and First.
use Rattle.std.specs.Prelude.{ℕ, ◌/◌, ◌≤◌, ◌≡◌, refl, ◌↔◌, List, length}
use Rattle.std.proofs.Common.{sym, ◌∙◌, ap, subst, arith}
use Rattle.std.proofs.Math.Option.{some, none}
use Rattle.meaning.specs.Layout.{Host, record_length}
use Rattle.meaning.specs.Image.{Rule}
use Rattle.meaning.specs.Procedures.{Command, rule_set, Program, program}
use Rattle.meaning.specs.Matching.{Match}
use Rattle.meaning.specs.Commands.{State}
use Rattle.demands.specs.Inference
use Rattle.demands.specs.Inference.{NoMatch, FirstCalled, stepped, Executes, Does}
use Rattle.meaning.specs.Calls.{Lent}
use Rattle.demands.specs.Demands.{Outcome, Interpreter, Lendable, stop_answer, run_refused_with, start, outcome_at, Demand2}
use Rattle.meaning.specs.declared.Layout.{Layout}
use Rattle.meaning.specs.declared.Stop.{Stop}
use Rattle.meaning.specs.declared.Stop.TheVariants.{OutOfFuel, NoNodeRoom, NoEdgeRoom, NoRecordRoom, LabelTooLarge}
use Rattle.meaning.specs.declared.End.{End}

-- the first rule that is called has a match
has-match : (rules : List Rule) (h : Host) (l : List ℕ) (r : Rule) (p : List ℕ) → FirstCalled rules h l r p → NoMatch rules h l → ⊥
has-match rules h l r p f n = n f.place f.listed p (subst (λ (q : Rule). Match h q p) f.rule f.match)

-- the answer of a run that is stopped is no fail's
stop-not-fail : (w : Stop) → 2 ≤ stop_answer w
stop-not-fail OutOfFuel = omega arith
stop-not-fail NoNodeRoom = omega arith
stop-not-fail NoEdgeRoom = omega arith
stop-not-fail NoRecordRoom = omega arith
stop-not-fail LabelTooLarge = omega arith

module _ (L : Layout) (x : Lent) (most room : ℕ) (rules : List Rule) where
  -- by the rules of inference, of a rule set that is entered
  call-answers : {l : List ℕ} {s t : State} {e : End} → Does most room rules (rule_set l) s e t
      → ((outcome_at L x e t).answer ≡ 1) ↔ NoMatch rules s.ledger.host l
  call-answers (Inference.no_match n) = (λ e. n, λ m. refl)
  call-answers (Inference.applies {l = l} {s = s} r p g f a v) =
      (λ e. absurd (omega arith), λ n. absurd (has-match rules s.ledger.host l r p f n))
  call-answers (Inference.hinders {l = l} {s = s} r p w f a) =
      (λ e. absurd (omega (arith, stop-not-fail w)), λ n. absurd (has-match rules s.ledger.host l r p f n))

  -- and of one that is met with fuel
  run-answers : {c : Command} {s t : State} {e : End} (l : List ℕ) → c ≡ rule_set l → 1 ≤ s.fuel → Executes most room rules c s e t
      → ((outcome_at L x e t).answer ≡ 1) ↔ NoMatch rules s.ledger.host l
  run-answers l q k (Inference.dry z) = absurd (omega arith)
  run-answers l q k (Inference.enters {s = s} {t = t} {e = e} f z d) =
      call-answers (subst (λ (c : Command). Does most room rules c (stepped f s) e t) q d)

-- the host that the lent tables hold
abbrev pub host : Layout → Lent → Host
host L x = (start L x).ledger.host

module _ (L : Layout) (I : Interpreter) (second : Demand2 L I) (x : Lent) (b : Lendable x) (accepted : run_refused_with L x ≡ none)
    (p : Program) (form : program x.image ≡ some p) (l : List ℕ) (main : p.main ≡ rule_set l) (fuel : 1 ≤ x.fuel)
  where
    pub fails-exactly : ((I.run x).answer ≡ 1) ↔ NoMatch p.rules (host L x) l
    fails-exactly =
        let m = second.means x b p accepted form in
        let a : (I.run x).answer ≡ (outcome_at L x m.0 m.1).answer = ap (λ (o : Outcome). o.answer) m.3 in
        let r = run-answers L x L.atoms (length x.journal / record_length L) p.rules l main fuel m.2 in
        (λ e. r.0 (sym a ∙ e), λ n. a ∙ r.1 n)
