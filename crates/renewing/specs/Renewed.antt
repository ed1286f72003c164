-- Every image of the old form can be rewritten, grows by one byte for each of its ifs and tries, and, where it is then no longer
-- than an image may be, means what it meant: on every input the run that reads today's form returns, answer, report, tables and
-- journal, what the run that read the old one did. Rests on OldForm, Written, Commands and Depth and on parts' Series, Rows and
-- Images.
use Rattle.std.specs.Prelude.{◌≡◌, ℕ, ◌+◌, ◌≤◌, length}
use Rattle.std.proofs.Math.Option.{some}
use mathlib.Core.List.{List}
use Rattle.meaning.specs.Image.{RawProgram, limits, raw_program}
use Rattle.meaning.specs.Calls.{Lent}
use Rattle.renewing.specs.OldForm.{renewed}
use Rattle.renewing.specs.Commands.{guards}

-- what an image of the old form becomes
pub record Renewal (bs : List ℕ) (p : RawProgram) : Type 0 where
  pub new : List ℕ
  pub is : renewed bs ≡ some new
  pub longer : length new ≡ length bs + guards p.main
  pub reads : length new ≤ limits.bytes → raw_program new ≡ some p

-- the same inputs with another image
abbrev pub with_image : List ℕ → Lent → Lent
with_image image x = record { nodes = x.nodes; edges = x.edges; journal = x.journal; image = image; fuel = x.fuel; report = x.report }
