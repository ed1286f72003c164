-- `line_end` meets its contract. The invariant: from here on the comment goes on as from its start.
use Rattle.std.proofs.Common.{◌≡◌, drop}
use Rattle.text.specs.Words.{aside, words_in}
use Rattle.lexing.proofs.line_end.Given as goal

abbrev pub invariant-loop-i : goal.invariant-loop-i
invariant-loop-i l = words_in aside (drop l.from l.text) ≡ words_in aside (drop l.i l.text)
