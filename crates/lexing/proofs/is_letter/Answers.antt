-- `is_letter` meets its contract: a letter or a digit of ASCII, or the underscore.
use Rattle.std.proofs.Common.{sym}
use Rattle.lexing.proofs.Bytes.{letter-ascii}
use Rattle.lexing.proofs.is_letter.Goals as goal

pub returns-then-is_ascii_alphanumeric : goal.returns-then-is_ascii_alphanumeric
returns-then-is_ascii_alphanumeric c = rw (sym (letter-ascii c.args.b), sym c.is_ascii_alphanumeric.ensures.value, c.if-is_ascii_alphanumeric.true)

pub returns-else-is_ascii_alphanumeric : goal.returns-else-is_ascii_alphanumeric
returns-else-is_ascii_alphanumeric c = rw (sym (letter-ascii c.args.b), sym c.is_ascii_alphanumeric.ensures.value, c.if-is_ascii_alphanumeric.false)
