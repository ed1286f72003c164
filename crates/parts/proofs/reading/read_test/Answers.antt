-- `reading::read_test` meets its contract.
use Rattle.parts.specs.Reading.{test_read}
use Rattle.parts.proofs.reading.read_test.Goals as goal

pub returns : goal.returns
returns c = test_read _ _ _ _ _ c.flag.ensures c.behind.ensures c.read_condition.ensures
