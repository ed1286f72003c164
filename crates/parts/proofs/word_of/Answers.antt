-- `word_of` meets its contract.
use Rattle.std.proofs.Common.{refl}
use Rattle.parts.specs.Reading.{word-is, word-not, word-there}
use Rattle.parts.proofs.word_of.Goals as goal

pub returns-then-p-eq4 : goal.returns-then-p-eq4
returns-then-p-eq4 c = (word-is _ _ c.if-p-eq4.true c.number4.ensures.0, word-there _ _ c.if-p-eq4.true)

pub returns-else-p-eq4 : goal.returns-else-p-eq4
returns-else-p-eq4 c = (word-not _ c.if-p-eq4.false, λ e. refl)
