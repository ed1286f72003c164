-- Which commands are calls, which have none in them, and when a program is another with its calls written out, each replaced by its
-- procedure's command (`written`). Rests on the meaning's Basics and Procedures and on laws' Procedures.
use Rattle.std.specs.Prelude.{◌≡◌, Bool, true, false}
use Rattle.meaning.specs.Basics.{both}
use Rattle.meaning.specs.Procedures.{Program, Command, rule_set, sequence, guarded, loop, skip, fail, break, called, Commands, no_more, then}
use Rattle.laws.specs.Procedures.{written}

unfoldable pub is_call : Command → Bool
is_call (rule_set l) = false
is_call (sequence cs) = false
is_call (guarded keep g a b) = false
is_call (loop c) = false
is_call skip = false
is_call fail = false
is_call break = false
is_call (called c) = true

-- whether a command has no call in it
unfoldable mutual
  pub call_free : Command → Bool
  call_free (rule_set l) = true
  call_free (sequence cs) = all_call_free cs
  call_free (guarded keep g a b) = both (call_free g) (both (call_free a) (call_free b))
  call_free (loop c) = call_free c
  call_free skip = true
  call_free fail = true
  call_free break = true
  call_free (called c) = false

  pub all_call_free : Commands → Bool
  all_call_free no_more = true
  all_call_free (then c cs) = both (call_free c) (all_call_free cs)

-- q is p with its calls written out
pub record WrittenOut (p q : Program) : Type 0 where
  pub rules : p.rules ≡ q.rules
  pub main : q.main ≡ written p.main
