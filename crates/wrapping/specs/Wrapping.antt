-- Commands that only wrap others: sequence, skip and the call of a procedure. What is left of a command without them, and when two
-- commands and two programs differ in wrapping alone. Rests on the meaning's Procedures.
use Rattle.std.specs.Prelude.{◌≡◌, Bool, true, false}
use Rattle.meaning.specs.Procedures.{Program, Command, rule_set, sequence, guarded, loop, skip, fail, break, called, Commands, no_more, then}

-- whether a command only wraps: what it does is what the commands in it do, one after the other
unfoldable pub wraps : Command → Bool
wraps (rule_set l) = false
wraps (sequence cs) = true
wraps (guarded keep g a b) = false
wraps (loop c) = false
wraps skip = true
wraps fail = false
wraps break = false
wraps (called c) = true

abbrev pub one : Command → Commands
one c = then c no_more

-- the commands of both, one behind the other
unfoldable pub joined : Commands → Commands → Commands
joined no_more ds = ds
joined (then c cs) ds = then c (joined cs ds)

-- The commands that are left of a command without its wrapping. A guard, a branch and a loop body become a sequence of what is left
-- of them.
unfoldable mutual
  pub bare : Command → Commands
  bare (rule_set l) = one (rule_set l)
  bare (sequence cs) = all_bare cs
  bare (guarded keep g a b) = one (guarded keep (sequence (bare g)) (sequence (bare a)) (sequence (bare b)))
  bare (loop c) = one (loop (sequence (bare c)))
  bare skip = no_more
  bare fail = one fail
  bare break = one break
  bare (called c) = bare c

  pub all_bare : Commands → Commands
  all_bare no_more = no_more
  all_bare (then c cs) = joined (bare c) (all_bare cs)

-- the two differ in wrapping alone: the same is left of both
abbrev pub Alike : Command → Command → Type 0
Alike c d = bare c ≡ bare d

pub record AlikePrograms (p q : Program) : Type 0 where
  pub rules : p.rules ≡ q.rules
  pub main : Alike p.main q.main
