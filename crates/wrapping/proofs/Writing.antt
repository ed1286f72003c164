-- What a command comes to, it comes to with its calls written out; and what is counted but for the calls is then all that is counted.
-- Written out, no call is left, and the command differs in wrapping alone. Rests on Wrapping, WrittenOut and Coming.
use Rattle.std.specs.Prelude.{◌≡◌, true, List, ℕ, ◌+◌}
use Rattle.std.proofs.Math.Path.{refl}
use Rattle.std.proofs.Common.{sym, ◌∙◌, ap, arith}
use Rattle.meaning.specs.Basics.{choose, both}
use Rattle.meaning.specs.Image.{Rule}
use Rattle.meaning.specs.Procedures.{Program, Command, rule_set, sequence, guarded, loop, skip, fail, break, called, Commands, no_more, then}
use Rattle.meaning.specs.Applying.{Ledger}
use Rattle.wrapping.specs.Wrapping.{one, joined, bare, all_bare, Alike, AlikePrograms}
use Rattle.laws.specs.Procedures.{written, all_written}
use Rattle.wrapping.specs.WrittenOut.{is_call, call_free, all_call_free, WrittenOut}
use Rattle.wrapping.specs.Coming.{counted, nothing, Use, whole, sequel, branches, further, Task, enters, follows, resume, does, Comes, halted, goes, idle_whole, idle_comes}
use Rattle.meaning.specs.declared.End.{End}
use Rattle.meaning.specs.declared.End.TheVariants.{Done, Failed, Broke, Stopped}
use Rattle.wrapping.specs.Writing.{written_use, written_task}

follows-written : (cs : Commands) (g : Ledger) → written_task (follows cs g) ≡ follows (all_written cs) g
unfolding all_written
follows-written no_more g = refl
follows-written (then c cs) g = refl

resume-written : (u : Use) (c : Command) (g : Ledger) (e : End) (h : Ledger) → written_task (resume u c g e h) ≡ resume (written_use u) (written c) g e h
resume-written whole c g e h = refl
resume-written (sequel cs) c g Done h = follows-written cs h
resume-written (sequel cs) c g Failed h = refl
resume-written (sequel cs) c g Broke h = refl
resume-written (sequel cs) c g (Stopped w) h = refl
resume-written (branches keep a b) c g Done h = refl
resume-written (branches keep a b) c g Failed h = refl
resume-written (branches keep a b) c g Broke h = refl
resume-written (branches keep a b) c g (Stopped w) h = refl
resume-written further c g Done h = refl
resume-written further c g Failed h = refl
resume-written further c g Broke h = refl
resume-written further c g (Stopped w) h = refl

module _ (most room : ℕ) (rules : List Rule) where
  abbrev C : Task → End → Ledger → ℕ → Type 0
  C t e h n = Comes nothing most room rules t e h n

  abbrev D : Command → Ledger → Task
  D c g = does most room rules c g

  module _ (g : Ledger) (u : Use) (e : End) (h : Ledger) (m : ℕ) (e' : End) (h' : Ledger) (m' n : ℕ) where
    -- what c does comes to e at h, and what is then left to e' at h', all written out
    abbrev Goes : Command → Type 0
    Goes c = C (written_task (D c g)) e h m → C (written_task (resume u c g e h)) e' h' m' → n ≡ counted is_call c + m + m'
        → C (enters (written c) g (written_use u)) e' h' n

    goes-itself : (c : Command) → D (written c) g ≡ written_task (D c g) → counted is_call c ≡ 1 → Goes c
    unfolding choose
    goes-itself c d k a r q = goes {c = written c} {g = g} {e = e} {h = h} {m = m} {m' = m'} {n = n} (rw d a) (rw (resume-written u c g e h) at r) (omega arith)

    -- the procedure's command is entered where the call was
    goes-call : (c : Command) → Goes (called c)
    unfolding written is_call choose
    goes-call c a r q =
        let i = idle_comes nothing most room rules whole (idle_whole nothing most room rules) a in
        goes {c = written c} {e = e} {h = h} {m = i.0} {m' = m'} {n = n} i.1 (rw (resume-written u (called c) g e h) at r) (omega (arith, i.2))

    goes-written : (c : Command) → Goes c
    unfolding written all_written is_call choose
    goes-written (rule_set l) = goes-itself (rule_set l) refl refl
    goes-written (sequence cs) = goes-itself (sequence cs) (sym (follows-written cs g)) refl
    goes-written (guarded keep x a b) = goes-itself (guarded keep x a b) refl refl
    goes-written (loop c) = goes-itself (loop c) refl refl
    goes-written skip = goes-itself skip refl refl
    goes-written fail = goes-itself fail refl refl
    goes-written break = goes-itself break refl refl
    goes-written (called c) = goes-call c

  task_written : {t : Task} {e : End} {h : Ledger} {n : ℕ} → Comes is_call most room rules t e h n → C (written_task t) e h n
  task_written (halted z) = halted z
  task_written (goes {c = c} {g = g} {u = u} {e = e} {e' = e'} {h = h} {h' = h'} {m = m} {m' = m'} {n = n} d r q) =
      goes-written g u e h m e' h' m' n c (task_written d) (task_written r) q

  pub comes-written : {c : Command} {g : Ledger} {e : End} {h : Ledger} {n : ℕ} → Comes is_call most room rules (enters c g whole) e h n
      → Comes nothing most room rules (enters (written c) g whole) e h n
  comes-written a = task_written a

-- No call is left.

mutual
  unfolding written all_written call_free all_call_free both

  pub written-free : (c : Command) → call_free (written c) ≡ true
  written-free (rule_set l) = refl
  written-free (sequence cs) = all-written-free cs
  written-free (guarded keep g a b) = rw (written-free g, written-free a, written-free b)
  written-free (loop c) = written-free c
  written-free skip = refl
  written-free fail = refl
  written-free break = refl
  written-free (called c) = written-free c

  all-written-free : (cs : Commands) → all_call_free (all_written cs) ≡ true
  all-written-free no_more = refl
  all-written-free (then c cs) = rw (written-free c, all-written-free cs)

-- The command differs in wrapping alone.

mutual
  unfolding written all_written bare all_bare

  pub written-alike : (c : Command) → Alike (written c) c
  written-alike (rule_set l) = refl
  written-alike (sequence cs) = all-written-alike cs
  written-alike (guarded keep g a b) = λ i. one (guarded keep (sequence (written-alike g i)) (sequence (written-alike a i)) (sequence (written-alike b i)))
  written-alike (loop c) = ap (λ (x : Commands). one (loop (sequence x))) (written-alike c)
  written-alike skip = refl
  written-alike fail = refl
  written-alike break = refl
  written-alike (called c) = written-alike c

  all-written-alike : (cs : Commands) → all_bare (all_written cs) ≡ all_bare cs
  all-written-alike no_more = refl
  all-written-alike (then c cs) = λ i. joined (written-alike c i) (all-written-alike cs i)

pub written_programs_alike : (p q : Program) → WrittenOut p q → AlikePrograms p q
written_programs_alike p q w = record { rules = w.rules; main = sym (ap bare w.main ∙ written-alike p.main) }
