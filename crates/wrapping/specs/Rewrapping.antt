-- Two commands differ in wrapping alone exactly when one can be changed into the other step by step: at any place a stretch of a
-- sequence becomes a sequence of its own, a command a sequence of one or a call, a skip comes into a sequence, or one of these is taken
-- back.
-- What stands in between need not be of a legal image: a sequence may be empty there, or too long. Rests on Places.
use Rattle.meaning.specs.Procedures.{Command, sequence, skip, called, Commands, no_more, then}
use Rattle.wrapping.specs.Wrapping.{one, joined}
use Rattle.wrapping.specs.Places.{Place, here, Places, first, later, put}

pub data Rewrapped : Command → Command → Type 0 where
  same : {c : Command} → Rewrapped c c
  back : {c d : Command} → Rewrapped c d → Rewrapped d c
  via : {c d e : Command} → Rewrapped c d → Rewrapped d e → Rewrapped c e
  at : {c d : Command} → (p : Place) → Rewrapped c d → Rewrapped (put p c) (put p d)
  single : {c : Command} → Rewrapped (sequence (one c)) c
  call : {c : Command} → Rewrapped (called c) c
  stretch : (before inner after : Commands)
      → Rewrapped (sequence (joined before (then (sequence inner) after))) (sequence (joined before (joined inner after)))
  skips : (before after : Commands) → Rewrapped (sequence (joined before (then skip after))) (sequence (joined before after))

-- Every command can be changed into a sequence of what is left of it without wrapping.

-- the place of a command behind others in a sequence
unfoldable pub behind : Commands → Commands → Places
behind no_more after = first here after
behind (then c cs) after = later c (behind cs after)
