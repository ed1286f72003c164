-- What a command comes to, one that differs from it in wrapping alone comes to: step by step along the ways to wrap, each there and
-- back, and at each place of a command. Rests on Coming and Rewrapping.
use Rattle.std.specs.Prelude.{◌≡◌, Bool, List, ℕ, ◌+◌}
use Rattle.std.proofs.Math.Path.{refl}
use Rattle.std.proofs.Common.{◌∙◌, subst, arith}
use Rattle.meaning.specs.Basics.{choose}
use Rattle.meaning.specs.Image.{Rule}
use Rattle.meaning.specs.Procedures.{Command, sequence, skip, called, Commands, no_more, then}
use Rattle.meaning.specs.Applying.{Ledger}
use Rattle.wrapping.specs.Wrapping.{wraps, one, joined, Alike}
use Rattle.wrapping.specs.Places.{Place, here, in_sequence, in_guard, in_then, in_else, in_loop, in_call, Places, first, later, put, puts}
use Rattle.wrapping.specs.Rewrapping.{Rewrapped, same, back, via, at, single, call, stretch, skips}
use Rattle.wrapping.proofs.Rewrapping.{rewrapped_exactly}
use Rattle.wrapping.specs.Coming.{counted, Use, whole, sequel, branches, further, Task, halts, enters, follows, onward, resume, does, Comes, halted, goes, Idle, idle_whole, idle_last, idle_comes}
use Rattle.meaning.specs.declared.End.{End}
use Rattle.meaning.specs.declared.End.TheVariants.{Done, Failed, Broke, Stopped}

module _ (most room : ℕ) (rules : List Rule) where
  abbrev C : Task → End → Ledger → ℕ → Type 0
  C t e h n = Comes wraps most room rules t e h n

  abbrev acting : Command → ℕ
  acting c = counted wraps c

  abbrev D : Command → Ledger → Task
  D c g = does most room rules c g

  -- what c comes to, d comes to, with as many commands entered that do not wrap, c and d among them
  abbrev Refines : Command → Command → Type 0
  Refines c d = (g : Ledger) (e : End) (h : Ledger) (m : ℕ) → C (D c g) e h m
      → (k : ℕ) × C (D d g) e h k × (acting c + m ≡ acting d + k)

  refines_same : (c : Command) → Refines c c
  refines_same c g e h m a = (m, a, refl)

  refines_via : (b c d : Command) → Refines b c → Refines c d → Refines b d
  refines_via b c d f f' g e h m a =
      let i = f g e h m a in
      let j = f' g e h i.0 i.1 in
      (j.0, j.1, i.2 ∙ j.2)

  -- what commands in a row come to, others come to
  abbrev RefinesAll : Commands → Commands → Type 0
  RefinesAll cs ds = (g : Ledger) (e : End) (h : Ledger) (n : ℕ) → C (follows cs g) e h n → C (follows ds g) e h n

  refines_sequence : (cs ds : Commands) → RefinesAll cs ds → Refines (sequence cs) (sequence ds)
  unfolding wraps
  refines_sequence cs ds f g e h m a = (m, f g e h m a, refl)

  -- Places.

  module _ (c d : Command) (f : Refines c d) where
    -- d for c, whatever is done with the end
    replaced : {g : Ledger} {u : Use} {e : End} {h : Ledger} {m : ℕ} {e' : End} {h' : Ledger} {m' n : ℕ} → C (D c g) e h m
        → C (resume u d g e h) e' h' m' → n ≡ acting c + m + m' → C (enters d g u) e' h' n
    replaced {g} {u} {e} {h} {m} {e'} {h'} {m'} {n} a r q =
        let i = f g e h m a in
        goes {c = d} {m = i.0} {m' = m'} {n = n} i.1 r (omega (arith, i.2))

    whole-replaced : {g : Ledger} {e : End} {h : Ledger} {n : ℕ} → C (enters c g whole) e h n → C (enters d g whole) e h n
    whole-replaced (goes a r q) = replaced a r q

    guard-replaced : {keep : Bool} {a b : Command} {g : Ledger} {e : End} {h : Ledger} {n : ℕ} → C (enters c g (branches keep a b)) e h n
        → C (enters d g (branches keep a b)) e h n
    guard-replaced (goes t r q) = replaced t r q

    rounds-replaced : {g : Ledger} {e : End} {h : Ledger} {n : ℕ} → C (enters c g further) e h n → C (enters d g further) e h n
    rounds-replaced (goes {e = Done} a r q) = replaced a (rounds-replaced r) q
    rounds-replaced (goes {e = Failed} a r q) = replaced a r q
    rounds-replaced (goes {e = Broke} a r q) = replaced a r q
    rounds-replaced (goes {e = Stopped w} a r q) = replaced a r q

  branches-replaced : (a b a' b' : Command) → Refines a a' → Refines b b' → {keep : Bool} {x : Command} {g : Ledger} {e : End} {h : Ledger}
      {n : ℕ} → C (enters x g (branches keep a b)) e h n → C (enters x g (branches keep a' b')) e h n
  branches-replaced a b a' b' p f (goes {e = Done} t r q) = goes t (whole-replaced a a' p r) q
  branches-replaced a b a' b' p f (goes {e = Failed} t r q) = goes t (whole-replaced b b' f r) q
  branches-replaced a b a' b' p f (goes {e = Broke} t r q) = goes t r q
  branches-replaced a b a' b' p f (goes {e = Stopped w} t r q) = goes t r q

  -- what is behind a command that ended in x
  behind-end : (cs ds : Commands) → RefinesAll cs ds → (x : End) (i : Ledger) {e : End} {h : Ledger} {n : ℕ} → C (onward cs x i) e h n
      → C (onward ds x i) e h n
  behind-end cs ds f Done i t = f _ _ _ _ t
  behind-end cs ds f Failed i t = t
  behind-end cs ds f Broke i t = t
  behind-end cs ds f (Stopped w) i t = t

  module _ (c d : Command) (f : Refines c d) where
    mutual
      unfolding put puts wraps

      refines_at : (p : Place) → Refines (put p c) (put p d)
      refines_at here = f
      refines_at (in_sequence ps) = refines_sequence (puts ps c) (puts ps d) (λ g e h n t. all-at ps g e h n t)
      refines_at (in_guard keep p a b) = λ g e h m t. (m, guard-replaced (put p c) (put p d) (refines_at p) t, refl)
      refines_at (in_then keep x p b) = λ g e h m t. (m, branches-replaced (put p c) b (put p d) b (refines_at p) (refines_same b) t, refl)
      refines_at (in_else keep x a p) = λ g e h m t. (m, branches-replaced a (put p c) a (put p d) (refines_same a) (refines_at p) t, refl)
      refines_at (in_loop p) = λ g e h m t. (m, rounds-replaced (put p c) (put p d) (refines_at p) t, refl)
      refines_at (in_call p) = λ g e h m t. (m, whole-replaced (put p c) (put p d) (refines_at p) t, refl)

      all-at : (ps : Places) → RefinesAll (puts ps c) (puts ps d)
      all-at (first p cs) g e h n (goes a r q) = replaced (put p c) (put p d) (refines_at p) a r q
      all-at (later x ps) g e h n (goes {e = y} {h = i} a r q) = goes a (behind-end (puts ps c) (puts ps d) (λ g e h n t. all-at ps g e h n t) y i r) q

  -- Behind the same commands.

  joined_refines : (cs ds : Commands) → RefinesAll cs ds → (before : Commands) → RefinesAll (joined before cs) (joined before ds)
  unfolding joined
  joined_refines cs ds f no_more g e h n t = f g e h n t
  joined_refines cs ds f (then c before) g e h n (goes {e = y} {h = i} a r q) =
      goes a (behind-end (joined before cs) (joined before ds) (joined_refines cs ds f before) y i r) q

  -- A sequence of one command, and a call.

  -- b enters c, and does nothing else
  module _ (b c : Command) (u : Use) (idle : Idle wraps most room rules u) (wrapper : acting b ≡ 0) (inside : (g : Ledger) → D b g ≡ enters c g u) where
    inside-out : Refines b c
    inside-out g e h m a =
        let i = idle_comes wraps most room rules u idle (rw (inside g) at a) in
        (i.0, i.1, omega (arith, i.2))

    inside_in : Refines c b
    inside_in g e h m a =
        let t : C (enters c g u) e h (acting c + m) = goes {c = c} {u = u} {m = m} {m' = 0} {n = acting c + m} a (idle c g e h) (omega arith) in
        (acting c + m, rw (inside g) t, omega arith)

    inside_refines : Refines b c × Refines c b
    inside_refines = (inside-out, inside_in)

  single_refines : (c : Command) → Refines (sequence (one c)) c × Refines c (sequence (one c))
  unfolding wraps choose
  single_refines c = inside_refines (sequence (one c)) c (sequel no_more) (idle_last wraps most room rules) refl (λ g. refl)

  call_refines : (c : Command) → Refines (called c) c × Refines c (called c)
  unfolding wraps choose
  call_refines c = inside_refines (called c) c whole (idle_whole wraps most room rules) refl (λ g. refl)

  -- A row of commands, and what is behind it.

  -- nothing is left of the first: from where it ended, what is behind it comes to e' at h'
  ended-first : (after : Commands) {x : End} {i : Ledger} {e : End} {h : Ledger} {k : ℕ} {e' : End} {h' : Ledger} {m n : ℕ}
      → C (halts x i) e h k → C (onward after e h) e' h' m → n ≡ k + m → C (onward after x i) e' h' n
  ended-first after {x} {i} {e} {h} {k} {e'} {h'} {m} {n} (halted z) r q =
      let y : m ≡ n = omega arith in
      subst (λ j. C (onward after x i) e' h' j) y r

  run-behind : (inner after both : Commands) (x : End) (i : Ledger) {e : End} {h : Ledger} {k : ℕ} {e' : End} {h' : Ledger} {m n : ℕ}
      → C (onward inner x i) e h k → C (onward after e h) e' h' m → n ≡ k + m → (C (follows inner i) e h k → C (follows both i) e' h' n)
      → C (onward both x i) e' h' n
  run-behind inner after both Done i t r q f = f t
  run-behind inner after both Failed i t r q f = ended-first after t r q
  run-behind inner after both Broke i t r q f = ended-first after t r q
  run-behind inner after both (Stopped w) i t r q f = ended-first after t r q

  -- commands come to e at h, and from there those behind them to e' at h'
  run_on : (inner after : Commands) (g : Ledger) {e : End} {h : Ledger} {m : ℕ} {e' : End} {h' : Ledger} {m' n : ℕ}
      → C (follows inner g) e h m → C (onward after e h) e' h' m' → n ≡ m + m' → C (follows (joined inner after) g) e' h' n
  unfolding joined
  run_on no_more after g t r q = ended-first after t r q
  run_on (then c cs) after g {m' = m} {n = n} (goes {e = y} {h = i} {m = j} {m' = k} a t p) r q =
      goes {c = c} {m = j} {m' = k + m} {n = n} a (run-behind cs after (joined cs after) y i t r refl (λ u. run_on cs after i u r refl)) (omega arith)

  -- task t comes to an end, from which what is behind it comes to e' at h'
  record Parts (t : Task) (after : Commands) (e' : End) (h' : Ledger) (n : ℕ) : Type 0 where
    end : End
    ledger : Ledger
    m : ℕ
    m' : ℕ
    former : C t end ledger m
    latter : C (onward after end ledger) e' h' m'
    total : n ≡ m + m'

  ended-parts : (after : Commands) (x : End) (i : Ledger) {e : End} {h : Ledger} {n : ℕ} → C (onward after x i) e h n
      → Parts (halts x i) after e h n
  ended-parts after x i {n = n} t = record { end = x; ledger = i; m = 0; m' = n; former = halted refl; latter = t; total = omega arith }

  split-behind : (inner after both : Commands) (x : End) (i : Ledger) {e : End} {h : Ledger} {n : ℕ} → C (onward both x i) e h n
      → (C (follows both i) e h n → Parts (follows inner i) after e h n) → Parts (onward inner x i) after e h n
  split-behind inner after both Done i t f = f t
  split-behind inner after both Failed i t f = ended-parts after Failed i t
  split-behind inner after both Broke i t f = ended-parts after Broke i t
  split-behind inner after both (Stopped w) i t f = ended-parts after (Stopped w) i t

  -- the commands of two rows come to e at h: so the first row comes to an end, and from there the second to e at h
  split : (inner after : Commands) (g : Ledger) {e : End} {h : Ledger} {n : ℕ} → C (follows (joined inner after) g) e h n
      → Parts (follows inner g) after e h n
  unfolding joined
  split no_more after g t = ended-parts after Done g t
  split (then c cs) after g (goes {e = y} {h = i} {m = j} {m' = k} a r q) =
      let p = split-behind cs after (joined cs after) y i r (λ t. split cs after i t) in
      record {
        end = p.end;
        ledger = p.ledger;
        m = acting c + j + p.m;
        m' = p.m';
        former = goes a p.former refl;
        latter = p.latter;
        total = omega (arith, p.total);
      }

  stretch-out : (inner after : Commands) → RefinesAll (then (sequence inner) after) (joined inner after)
  unfolding wraps choose
  stretch-out inner after g e h n (goes a r q) = run_on inner after g a r (omega arith)

  stretch_in : (inner after : Commands) → RefinesAll (joined inner after) (then (sequence inner) after)
  unfolding wraps choose
  stretch_in inner after g e h n t =
      let p = split inner after g t in
      goes {c = sequence inner} {u = sequel after} {m = p.m} {m' = p.m'} {n = n} p.former p.latter (omega (arith, p.total))

  -- A skip in front of commands.

  skip-out : (cs : Commands) → RefinesAll (then skip cs) cs
  unfolding wraps choose
  skip-out cs g e h n (goes a r q) = ended-first cs a r (omega arith)

  skip_in : (cs : Commands) → RefinesAll cs (then skip cs)
  unfolding wraps choose
  skip_in cs g e h n t = goes {c = skip} {u = sequel cs} {m = 0} {m' = n} {n = n} (halted refl) t (omega arith)

  -- All ways, there and back.

  rewrapped_refines : {c d : Command} → Rewrapped c d → Refines c d × Refines d c
  rewrapped_refines (same {c = c}) = (refines_same c, refines_same c)
  rewrapped_refines (back r) = let i = rewrapped_refines r in (i.1, i.0)
  rewrapped_refines (via {c = c} {d = d} {e = e} r s) =
      let i = rewrapped_refines r in
      let j = rewrapped_refines s in
      (refines_via c d e i.0 j.0, refines_via e d c j.1 i.1)
  rewrapped_refines (at {c = c} {d = d} p r) = let i = rewrapped_refines r in (refines_at c d i.0 p, refines_at d c i.1 p)
  rewrapped_refines (single {c = c}) = single_refines c
  rewrapped_refines (call {c = c}) = call_refines c
  rewrapped_refines (stretch before inner after) = (
    refines_sequence _ _ (joined_refines _ _ (stretch-out inner after) before),
    refines_sequence _ _ (joined_refines _ _ (stretch_in inner after) before),
  )
  rewrapped_refines (skips before after) = (
    refines_sequence _ _ (joined_refines _ _ (skip-out after) before),
    refines_sequence _ _ (joined_refines _ _ (skip_in after) before),
  )

  pub alike-comes : (c d : Command) → Alike c d → {g : Ledger} {e : End} {h : Ledger} {n : ℕ} → C (enters c g whole) e h n
      → C (enters d g whole) e h n
  alike-comes c d h t = whole-replaced c d (rewrapped_refines ((rewrapped_exactly c d).1 h)).0 t
