-- Places in a command. Commands that differ in wrapping alone do so at the same place of any command; and the ways in which they can
-- differ: a sequence of one command, skips before, between and behind, any stretch of a sequence made a sequence of its own, a call for
-- the command of its procedure. Rests on Wrapping.
use Rattle.std.specs.Prelude.{Bool}
use Rattle.meaning.specs.Procedures.{Command, sequence, guarded, loop, called, Commands, then}
use Rattle.wrapping.specs.Wrapping.{one}

mutual
  -- a command with one place left open
  pub data Place : Type 0 where
    here : Place
    in_sequence : Places → Place
    in_guard : Bool → Place → Command → Command → Place
    in_then : Bool → Command → Place → Command → Place
    in_else : Bool → Command → Command → Place → Place
    in_loop : Place → Place
    in_call : Place → Place

  pub data Places : Type 0 where
    first : Place → Commands → Places
    later : Command → Places → Places

unfoldable mutual
  -- the command with c at that place
  pub put : Place → Command → Command
  put here c = c
  put (in_sequence ps) c = sequence (puts ps c)
  put (in_guard keep p a b) c = guarded keep (put p c) a b
  put (in_then keep g p b) c = guarded keep g (put p c) b
  put (in_else keep g a p) c = guarded keep g a (put p c)
  put (in_loop p) c = loop (put p c)
  put (in_call p) c = called (put p c)

  pub puts : Places → Command → Commands
  puts (first p cs) c = then (put p c) cs
  puts (later d ps) c = then d (puts ps c)

-- Ways to wrap.

abbrev pub two : Command → Command → Command
two c d = sequence (then c (one d))
