-- What a command does by demands' rules of inference follows by the published rules. Graphs, the reading of a host as a
-- graph and the application of a rule set are parameters; what is assumed of them, on good ledgers, is that the first match of
-- the first rule that has one is such an application (hit), and that there is none where no rule has a match (miss).
-- Rests on Steps and demands' Inference.
use Rattle.std.specs.Prelude.{◌≡◌, Bool, List, map, ℕ}
use Rattle.std.proofs.Math.Bool.{true, false}
use Rattle.meaning.specs.Layout.{Host}
use Rattle.meaning.specs.Image.{Rule}
use Rattle.meaning.specs.Procedures
use Rattle.meaning.specs.Procedures.{Command, rule_set, guarded, Commands}
use Rattle.meaning.specs.Applying.{Ledger, applied, apply}
use Rattle.meaning.specs.Commands.{State, rule_at}
use Rattle.demands.specs.Inference
use Rattle.demands.specs.Inference.{NoMatch, FirstCalled, holding, Executes, Does, Follows}
use Rattle.meaning.specs.declared.End.{End}
use Rattle.meaning.specs.declared.End.TheVariants.{Done, Failed}
use Rattle.published.specs.Semantics.{ComSeq, ⟨◌∣◌⟩, result, failure, [call₁], [call₂], [if₁], [if₂], [try₁], [try₂], [alap₁], [alap₂], [alap₃], [skip], [fail], last, here, com_seq, in_order, followed}
use Rattle.published.specs.Steps.{◌⟶◌, ◌⟶⁺◌, Ends, plus_ends, plus_behind, ends-behind}
use Rattle.published.specs.Following as Defs

module _ {ℓ κ} (Graph : Type ℓ) (Applied : List Rule → Graph → Graph → Type κ) (read : Host → Graph) where
  abbrev shown : State → Graph
  shown = Defs.shown Graph Applied read

  abbrev Ending : ComSeq → State → End → State → Type (ℓ ⊔ κ)
  Ending = Defs.Ending Graph Applied read

  -- the commands cs after any P that comes to what s holds end in e with what t holds
  abbrev After : List Rule → Commands → State → End → State → Type (ℓ ⊔ κ)
  After rules cs s e t =
      (P : ComSeq) (G : Graph) → ◌⟶⁺◌ Graph Applied ⟨ P ∣ G ⟩ (result (shown s))
      → Ends Graph Applied ⟨ followed rules cs P ∣ G ⟩ e (shown t)

  else_step : (rules : List Rule) (keep : Bool) (g a b : Command) (G : Graph) → ◌⟶⁺◌ Graph Applied ⟨ com_seq rules g ∣ G ⟩ failure
      → ◌⟶◌ Graph Applied ⟨ com_seq rules (guarded keep g a b) ∣ G ⟩ ⟨ com_seq rules b ∣ G ⟩
  unfolding com_seq
  else_step rules true g a b G p = [try₂] p
  else_step rules false g a b G p = [if₂] p

  ends-followed : (rules : List Rule) (cs : Commands) (P : ComSeq) (e : End) (s t : State) → (e ≡ Done → ⊥) → Ending P s e t
      → Ending (followed rules cs P) s e t
  unfolding followed
  ends-followed rules Procedures.no_more P e s t n p = p
  ends-followed rules (Procedures.then c cs) P e s t n p = ends-behind Graph Applied e P (followed rules cs (com_seq rules c)) _ _ n p

  module _ (most room : ℕ) (rules : List Rule) (Good : Ledger → Type 0)
      (hit : (l : List ℕ) (r : Rule) (p : List ℕ) (g g' : Ledger) → Good g → FirstCalled rules g.host l r p
      → apply most room r p g ≡ applied g' → Good g' × Applied (map (rule_at rules) l) (read g.host) (read g'.host))
      (miss : (l : List ℕ) (g : Ledger) → Good g → NoMatch rules g.host l → (H : Graph)
      → Applied (map (rule_at rules) l) (read g.host) H → ⊥)
    where
      call-fails : (l : List ℕ) (s : State) → NoMatch rules s.ledger.host l → Good s.ledger
          → Ending (com_seq rules (rule_set l)) s Failed s
      unfolding com_seq
      call-fails l s n q = last ([call₂] (miss l s.ledger q n))

      call-applies : (l : List ℕ) (s t : State) (r : Rule) (p : List ℕ) (g : Ledger) → FirstCalled rules s.ledger.host l r p
          → apply most room r p s.ledger ≡ applied g → t ≡ holding g s → Good s.ledger
          → Good t.ledger × Ending (com_seq rules (rule_set l)) s Done t
      unfolding com_seq
      call-applies l s t r p g f a v q = let x = hit l r p s.ledger g q f a in rw v (x.0, last ([call₁] x.1))

      mutual
        unfolding com_seq in_order followed

        pub executes_ending : {c : Command} {s t : State} {e : End} → Executes most room rules c s e t → Good s.ledger
            → Good t.ledger × Ending (com_seq rules c) s e t
        executes_ending (Inference.dry z) q = (q, tt)
        executes_ending (Inference.enters f z d) q = does-ending d q

        pub does-ending : {c : Command} {s t : State} {e : End} → Does most room rules c s e t → Good s.ledger
            → Good t.ledger × Ending (com_seq rules c) s e t
        does-ending Inference.skips q = (q, last [skip])
        does-ending Inference.fails q = (q, last [fail])
        does-ending Inference.breaks q = (q, here)
        does-ending (Inference.no_match {l = l} {s = s} n) q = (q, call-fails l s n q)
        does-ending (Inference.applies {l = l} {s = s} {t = t} r p g f a v) q = call-applies l s t r p g f a v q
        does-ending (Inference.hinders r p w f a) q = (q, tt)
        does-ending (Inference.in_sequence f) q = let x = follows-ending f q in (x.0, x.1)
        does-ending (Inference.calls r) q = executes_ending r q
        does-ending (Inference.then_if {e = e} t g a) q =
            let x = executes_ending g q in
            let y = executes_ending a q in
            (y.0, plus_ends Graph Applied e _ (last ([if₁] x.1)) y.1)
        does-ending (Inference.then_try {e = e} t g a) q =
            let x = executes_ending g q in
            let y = executes_ending a x.0 in
            (y.0, plus_ends Graph Applied e _ (last ([try₁] x.1)) y.1)
        does-ending (Inference.elses {keep = keep} {g = c} {a = a} {b = b} {e = e} t g d) q =
            let x = executes_ending g q in
            let y = executes_ending d q in
            (y.0, plus_ends Graph Applied e _ (last (else_step rules keep c a b _ x.1)) y.1)
        does-ending (Inference.guard_stops w g) q = ((executes_ending g q).0, tt)
        does-ending (Inference.repeats {e = e} t r d) q =
            let x = executes_ending r q in
            let y = does-ending d x.0 in
            (y.0, plus_ends Graph Applied e _ (last ([alap₁] x.1)) y.1)
        does-ending (Inference.body_fails t r v) q = let x = executes_ending r q in rw v (q, last ([alap₂] x.1))
        does-ending (Inference.body_breaks r) q = let x = executes_ending r q in (x.0, last ([alap₃] x.1))
        does-ending (Inference.body_stops w r) q = ((executes_ending r q).0, tt)

        pub follows-ending : {cs : Commands} {s t : State} {e : End} → Follows most room rules cs s e t → Good s.ledger
            → Good t.ledger × Ending (in_order rules cs) s e t × After rules cs s e t
        follows-ending Inference.nothing q = (q, last [skip], λ P G p. p)
        follows-ending (Inference.goes_on {c = c} {cs = cs} {e = e} t r f) q =
            let x = executes_ending r q in
            let y = follows-ending f x.0 in
            let z = y.2 (com_seq rules c) _ x.1 in
            (y.0, z, λ P G p. plus_ends Graph Applied e _ (plus_behind Graph Applied (followed rules cs (com_seq rules c)) p) z)
        follows-ending (Inference.ends_there {c = c} {cs = cs} {s = s} {t = t} e n r) q =
            let x = executes_ending r q in
            let z = ends-followed rules cs (com_seq rules c) e s t n x.1 in
            (x.0, z, λ P G p. plus_ends Graph Applied e _ (plus_behind Graph Applied (followed rules cs (com_seq rules c)) p) z)
