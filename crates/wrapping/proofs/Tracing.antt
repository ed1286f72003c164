-- From the meaning to what commands come to: a command that did not run out of fuel comes to its end; each step is a command noted; and
-- the steps are the commands entered that are counted and the silent ones. Rests on Entering, Coming and laws' Fuel.
use Rattle.std.specs.Prelude.{refl, Bool, List, ◌∷◌}
use Rattle.std.proofs.Common.{sym, subst, arith}
use Rattle.std.proofs.Math.Bool.{true, false}
use Prim.Native.Nat.{ℕ, zero, suc, ◌+◌}
use Rattle.meaning.specs.Basics.{choose}
use Rattle.meaning.specs.Image.{Rule}
use Rattle.meaning.specs.Procedures.{Command, rule_set, sequence, guarded, loop, skip, fail, break, called, Commands, no_more, then}
use Rattle.meaning.specs.Applying.{Ledger}
use Rattle.meaning.specs.Commands.{Out, state_at, first_rule, rule_call}
use Rattle.laws.specs.Fuel.{AtOut}
use Rattle.wrapping.specs.Entering.{Noted, NotedOut, ends, back_to, enter_at, enter, next, decide, again, rounds, unnoted, work, works, exec}
use Rattle.wrapping.specs.Coming.{counted, counted-passing, Use, whole, sequel, branches, further, Task, halts, enters, follows, onward, decided, repeated, resume, rule-frame, does, Comes, halted, goes}
use Rattle.meaning.specs.declared.End.{End}
use Rattle.meaning.specs.declared.End.TheVariants.{Done, Failed, Broke, Stopped}
use Rattle.wrapping.specs.Tracing.{Enough}
use Rattle.wrapping.specs.Tracing as Defs

module _ (silent : Command → Bool) (most room : ℕ) (rules : List Rule) where
  abbrev Trace : (t : Task) (s : Noted) (o : NotedOut) → Type 0
  Trace = Defs.Trace silent most room rules

  trace_halts : (e : End) (s : Noted) → Trace (halts e s.state.ledger) s (ends e s)
  trace_halts e s = record { counts = 0; comes = halted refl; total = omega arith; each = omega arith }

  -- the steps and the commands entered are those at t
  from_back : (s t : Noted) {u : Task} {o : NotedOut} → Trace u (back_to s t) o → Trace u t o
  from_back s t i = record { counts = i.counts; comes = i.comes; total = i.total; each = i.each }

  abbrev Traces : (Ledger → Task) → (Noted → NotedOut) → Type 0
  Traces t k = (s : Noted) → Enough (k s) → Trace (t s.state.ledger) s (k s)

  -- where all is not out of fuel, what came before was not
  enough-before : (u : Use) (c : Command) (g : Ledger) (e : End) (h : Ledger) {e' : End} {h' : Ledger} {n : ℕ}
      → Comes silent most room rules (resume u c g e h) e' h' n → AtOut e' ⊥ → AtOut e ⊥
  enough-before u c g Done h t k = tt
  enough-before u c g Failed h t k = tt
  enough-before u c g Broke h t k = tt
  enough-before whole c g (Stopped w) h (halted z) k = k
  enough-before (sequel cs) c g (Stopped w) h (halted z) k = k
  enough-before (branches keep a b) c g (Stopped w) h (halted z) k = k
  enough-before further c g (Stopped w) h (halted z) k = k

  -- a command is entered, it ends in o, and what is left then comes to r
  enter_trace : (c : Command) (u : Use) (f : ℕ) (k : Noted → NotedOut) → Traces (does most room rules c) k → (s : Noted) (r : NotedOut)
      → Enough r
      → Trace (resume u c s.state.ledger (enter_at c f k s).end (enter_at c f k s).noted.state.ledger) (enter_at c f k s).noted r
      → Trace (enters c s.state.ledger u) s r
  unfolding enter_at
  enter_trace c u zero k h s r n t = absurd (enough-before u c _ _ _ t.comes n)
  enter_trace c u (suc f) k h s r n t =
      let i = h (record { state = state_at s.state.ledger f (suc s.state.steps); entered = c ∷ s.entered }) (enough-before u c _ _ _ t.comes n) in
      record {
        counts = counted silent c + i.counts + t.counts;
        comes = goes i.comes t.comes refl;
        total = omega (arith, i.total, t.total, counted-passing silent c s.entered);
        each = omega (arith, i.each, t.each);
      }

  whole_trace : (c : Command) (k : Noted → NotedOut) → Traces (does most room rules c) k → Traces (λ g. enters c g whole) (enter c k)
  whole_trace c k h s n =
      let o = enter c k s in
      enter_trace c whole s.state.fuel k h s o n (trace_halts o.end o.noted)

  next_trace : (cs : Commands) (e : End) (t : Noted) (k : Noted → NotedOut) → Traces (follows cs) k → Enough (next e t k)
      → Trace (onward cs e t.state.ledger) t (next e t k)
  unfolding next
  next_trace cs Done t k h n = h t n
  next_trace cs Failed t k h n = trace_halts Failed t
  next_trace cs Broke t k h n = trace_halts Broke t
  next_trace cs (Stopped w) t k h n = trace_halts (Stopped w) t

  decide_trace : (x y : Command) (e : End) (keep : Bool) (s t : Noted) (a b : Noted → NotedOut) → Traces (λ g. enters x g whole) a
      → Traces (λ g. enters y g whole) b → Enough (decide e keep s t a b)
      → Trace (decided keep x y s.state.ledger e t.state.ledger) t (decide e keep s t a b)
  unfolding decide choose
  decide_trace x y Done true s t a b h k n = h t n
  decide_trace x y Done false s t a b h k n = from_back s t (h (back_to s t) n)
  decide_trace x y Failed keep s t a b h k n = from_back s t (k (back_to s t) n)
  decide_trace x y Broke keep s t a b h k n = trace_halts Broke t
  decide_trace x y (Stopped w) keep s t a b h k n = trace_halts (Stopped w) t

  again_trace : (c : Command) (e : End) (s t : Noted) (k : Noted → NotedOut) → Traces (λ g. enters c g further) k → Enough (again e s t k)
      → Trace (repeated c s.state.ledger e t.state.ledger) t (again e s t k)
  unfolding again
  again_trace c Done s t k h n = h t n
  again_trace c Failed s t k h n = from_back s t (trace_halts Done (back_to s t))
  again_trace c Broke s t k h n = trace_halts Done t
  again_trace c (Stopped w) s t k h n = trace_halts (Stopped w) t

  rounds_trace : (c : Command) (k : Noted → NotedOut) → Traces (does most room rules c) k → (n : ℕ)
      → Traces (λ g. enters c g further) (rounds n (enter c k))
  unfolding rounds
  rounds_trace c k h zero s n = absurd n
  rounds_trace c k h (suc m) s n =
      let o = enter c k s in
      enter_trace c further s.state.fuel k h s _ n (again_trace c o.end s o.noted _ (rounds_trace c k h m) n)

  rule_trace : (l : List ℕ) (s : Noted)
      → Trace (does most room rules (rule_set l) s.state.ledger) s
      (unnoted (rule_call most room rules (first_rule rules s.state.ledger.host l) s.state) s)
  rule_trace l s =
      let g = s.state.ledger in
      subst (λ (r : Out). Trace (does most room rules (rule_set l) g) s (unnoted r s))
      (sym (rule-frame most room rules (first_rule rules g.host l) g s.state.fuel s.state.steps 0 0))
      (record { counts = 0; comes = halted refl; total = omega arith; each = omega arith })

  mutual
    unfolding work works

    work_trace : (c : Command) → Traces (does most room rules c) (work most room rules c)
    work_trace (rule_set l) s n = rule_trace l s
    work_trace (sequence cs) s n = works_trace cs s n
    work_trace (guarded keep x a b) s n =
        let o = exec most room rules x s in
        enter_trace x (branches keep a b) s.state.fuel _ (λ t e. work_trace x t e) s _ n
        (decide_trace a b o.end keep s o.noted _ _ (whole_trace a _ (λ t e. work_trace a t e)) (whole_trace b _ (λ t e. work_trace b t e)) n)
    work_trace (loop c) s n = rounds_trace c _ (λ t e. work_trace c t e) s.state.fuel s n
    work_trace skip s n = trace_halts Done s
    work_trace fail s n = trace_halts Failed s
    work_trace break s n = trace_halts Broke s
    work_trace (called c) s n = whole_trace c _ (λ t e. work_trace c t e) s n

    works_trace : (cs : Commands) → Traces (follows cs) (works most room rules cs)
    works_trace no_more s n = trace_halts Done s
    works_trace (then c cs) s n =
        let o = exec most room rules c s in
        enter_trace c (sequel cs) s.state.fuel _ (λ t e. work_trace c t e) s _ n
        (next_trace cs o.end o.noted _ (λ t e. works_trace cs t e) n)

  -- a command that did not run out of fuel
  pub exec_trace : (c : Command) → Traces (λ g. enters c g whole) (exec most room rules c)
  exec_trace c = whole_trace c _ (work_trace c)
