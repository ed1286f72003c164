-- `comment_end` meets its contract. The invariant: from here on the comment goes on, behind a star or not, as from its start.
use Rattle.std.proofs.Common.{◌≡◌, drop}
use Rattle.text.specs.Words.{inside, words_in}
use Rattle.lexing.proofs.Comments.{commented}
use Rattle.lexing.proofs.comment_end.Given as goal

abbrev pub invariant-loop-i : goal.invariant-loop-i
invariant-loop-i l = words_in inside (drop l.from l.text) ≡ words_in (commented l.starred) (drop l.i l.text)
