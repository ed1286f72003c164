-- Two commands differ in wrapping alone exactly when one can be changed into the other step by step: at any place a stretch of a
-- sequence becomes a sequence of its own, a command a sequence of one or a call, a skip comes into a sequence, or one of these is taken
-- back.
-- What stands in between need not be of a legal image: a sequence may be empty there, or too long. Rests on Places.
use Rattle.std.specs.Prelude.{◌≡◌, refl, ◌↔◌}
use Rattle.std.proofs.Common.{sym, ◌∙◌, ap, subst}
use Rattle.meaning.specs.Procedures.{Command, rule_set, sequence, guarded, loop, skip, fail, break, called, Commands, no_more, then}
use Rattle.wrapping.specs.Wrapping.{joined, bare, all_bare, Alike}
use Rattle.wrapping.specs.Places.{here, in_sequence, in_guard, in_then, in_else, in_loop, put, puts}
use Rattle.wrapping.proofs.Places.{alike_at, joined_assoc, alone, call-of, grouped, skip-between}
use Rattle.wrapping.specs.Rewrapping.{Rewrapped, same, back, via, at, single, call, stretch, skips, behind}

rewrapped_alike : {c d : Command} → Rewrapped c d → Alike c d
rewrapped_alike same = refl
rewrapped_alike (back r) = sym (rewrapped_alike r)
rewrapped_alike (via r s) = rewrapped_alike r ∙ rewrapped_alike s
rewrapped_alike (at {c = c} {d = d} p r) = alike_at c d (rewrapped_alike r) p
rewrapped_alike (single {c = c}) = alone c
rewrapped_alike (call {c = c}) = call-of c
rewrapped_alike (stretch before inner after) = grouped before inner after
rewrapped_alike (skips before after) = skip-between before after

put-behind : (before after : Commands) (c : Command) → puts (behind before after) c ≡ joined before (then c after)
unfolding behind puts put joined
put-behind no_more after c = refl
put-behind (then d cs) after c = ap (then d) (put-behind cs after c)

-- a command of a sequence changed
among : (before after : Commands) (c d : Command) → Rewrapped c d
    → Rewrapped (sequence (joined before (then c after))) (sequence (joined before (then d after)))
unfolding put
among before after c d r =
    let s : Rewrapped (sequence (puts (behind before after) c)) (sequence (puts (behind before after) d)) = at (in_sequence (behind before after)) r in
    rw (put-behind before after c, put-behind before after d) at s

mutual
  unfolding bare all_bare joined put

  to-bare : (c : Command) → Rewrapped c (sequence (bare c))
  to-bare (rule_set l) = back single
  to-bare (sequence cs) = all-to-bare no_more cs
  to-bare (guarded keep g a b) =
      via (at (in_guard keep here a b) (to-bare g))
      (via (at (in_then keep (sequence (bare g)) here b) (to-bare a))
      (via (at (in_else keep (sequence (bare g)) (sequence (bare a)) here) (to-bare b)) (back single)))
  to-bare (loop c) = via (at (in_loop here) (to-bare c)) (back single)
  to-bare skip = via (back single) (skips no_more no_more)
  to-bare fail = back single
  to-bare break = back single
  to-bare (called c) = via call (to-bare c)

  -- the commands behind those of a sequence that are changed already
  all-to-bare : (before cs : Commands) → Rewrapped (sequence (joined before cs)) (sequence (joined before (all_bare cs)))
  all-to-bare before no_more = same
  all-to-bare before (then c cs) =
      let r = all-to-bare (joined before (bare c)) cs in
      let s : Rewrapped (sequence (joined before (joined (bare c) cs))) (sequence (joined before (joined (bare c) (all_bare cs)))) =
      rw (joined_assoc before (bare c) cs, joined_assoc before (bare c) (all_bare cs)) at r in
      via (among before cs c (sequence (bare c)) (to-bare c)) (via (stretch before (bare c) cs) s)

pub rewrapped_exactly : (c d : Command) → Rewrapped c d ↔ Alike c d
rewrapped_exactly c d = (
  λ r. rewrapped_alike r,
  λ h. via (to-bare c) (subst (λ (x : Commands). Rewrapped (sequence x) d) (sym h) (back (to-bare d))),
)
