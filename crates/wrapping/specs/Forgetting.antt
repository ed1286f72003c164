-- The meaning of commands with those noted that are entered, without its notes, is the meaning of commands. Rests on Entering.
use Rattle.std.specs.Prelude.{◌≡◌}
use Rattle.meaning.specs.Commands as Plain
use Rattle.meaning.specs.Commands.{State, Out}
use Rattle.wrapping.specs.Entering.{Noted, NotedOut}

abbrev pub plain : NotedOut → Out
plain o = Plain.ends o.end o.noted.state

-- k is l with notes
abbrev pub Forgets : (Noted → NotedOut) → (State → Out) → Type 0
Forgets k l = (s : Noted) → plain (k s) ≡ l s.state
