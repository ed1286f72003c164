-- Places in a command. Commands that differ in wrapping alone do so at the same place of any command; and the ways in which they can
-- differ: a sequence of one command, skips before, between and behind, any stretch of a sequence made a sequence of its own, a call for
-- the command of its procedure. Rests on Wrapping.
use Rattle.std.specs.Prelude.{◌≡◌, refl}
use Rattle.std.proofs.Common.{sym, ◌∙◌, ap}
use Rattle.meaning.specs.Procedures.{Command, sequence, guarded, loop, skip, called, Commands, no_more, then}
use Rattle.wrapping.specs.Wrapping.{one, joined, bare, all_bare, Alike}
use Rattle.wrapping.specs.Places.{Place, Places, here, in_sequence, in_guard, in_then, in_else, in_loop, in_call, first, later, put, puts, two}

module _ (c d : Command) (h : Alike c d) where
  mutual
    unfolding bare all_bare put puts

    pub alike_at : (p : Place) → Alike (put p c) (put p d)
    alike_at here = h
    alike_at (in_sequence ps) = alike_all ps
    alike_at (in_guard keep p a b) =
        ap (λ (x : Commands). one (guarded keep (sequence x) (sequence (bare a)) (sequence (bare b)))) (alike_at p)
    alike_at (in_then keep g p b) =
        ap (λ (x : Commands). one (guarded keep (sequence (bare g)) (sequence x) (sequence (bare b)))) (alike_at p)
    alike_at (in_else keep g a p) =
        ap (λ (x : Commands). one (guarded keep (sequence (bare g)) (sequence (bare a)) (sequence x))) (alike_at p)
    alike_at (in_loop p) = ap (λ (x : Commands). one (loop (sequence x))) (alike_at p)
    alike_at (in_call p) = alike_at p

    alike_all : (ps : Places) → all_bare (puts ps c) ≡ all_bare (puts ps d)
    alike_all (first p cs) = ap (λ (x : Commands). joined x (all_bare cs)) (alike_at p)
    alike_all (later e ps) = ap (joined (bare e)) (alike_all ps)

-- Joining commands.

joined-none : (cs : Commands) → joined cs no_more ≡ cs
unfolding joined
joined-none no_more = refl
joined-none (then c cs) = ap (then c) (joined-none cs)

pub joined_assoc : (cs ds es : Commands) → joined (joined cs ds) es ≡ joined cs (joined ds es)
unfolding joined
joined_assoc no_more ds es = refl
joined_assoc (then c cs) ds es = ap (then c) (joined_assoc cs ds es)

bare-joined : (cs ds : Commands) → all_bare (joined cs ds) ≡ joined (all_bare cs) (all_bare ds)
unfolding joined all_bare
bare-joined no_more ds = refl
bare-joined (then c cs) ds = ap (joined (bare c)) (bare-joined cs ds) ∙ sym (joined_assoc (bare c) (all_bare cs) (all_bare ds))

-- a sequence of one command
pub alone : (c : Command) → Alike (sequence (one c)) c
unfolding bare all_bare
alone c = joined-none (bare c)

-- a call of a procedure whose command is c
pub call-of : (c : Command) → Alike (called c) c
unfolding bare
call-of c = refl

pub skip-before : (c : Command) → Alike (two skip c) c
unfolding bare all_bare joined
skip-before c = joined-none (bare c)

pub skip-after : (c : Command) → Alike (two c skip) c
unfolding bare all_bare joined
skip-after c = joined-none (bare c)

-- any stretch of a sequence, of no, one or more commands, made a sequence of its own
pub grouped : (before inner after : Commands)
    → Alike (sequence (joined before (then (sequence inner) after))) (sequence (joined before (joined inner after)))
unfolding bare all_bare
grouped before inner after =
    bare-joined before (then (sequence inner) after)
    ∙ ap (joined (all_bare before)) (sym (bare-joined inner after))
    ∙ sym (bare-joined before (joined inner after))

-- a skip in front, between any two commands of a sequence and at its end
pub skip-between : (before after : Commands) → Alike (sequence (joined before (then skip after))) (sequence (joined before after))
unfolding bare all_bare joined
skip-between before after = bare-joined before (then skip after) ∙ sym (bare-joined before after)

-- (c; d); e and c; (d; e) are both c; d; e with a stretch made a sequence of its own
pub regrouped : (c d e : Command) → Alike (two (two c d) e) (two c (two d e))
unfolding joined
regrouped c d e = grouped no_more (then c (one d)) (one e) ∙ sym (grouped (one c) (then d (one e)) no_more)
