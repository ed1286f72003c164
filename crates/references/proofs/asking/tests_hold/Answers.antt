-- `asking::tests_hold` meets its contract.
use Rattle.std.proofs.Common.{rules}
use Rattle.meaning.specs.Image.{passes_all, test}
use Rattle.parts.specs.Series.{only-series}
use Rattle.references.specs.Asked.{test_asked}
use Rattle.parts.specs.Walked.{every_answers}
use Rattle.references.proofs.asking.tests_hold.Goals as goal

pub returns : goal.returns
unfolding test_asked
returns c l e = every_answers test (test_asked c.args.ask c.args.types.now) (λ tag part r q t i. search rules) c.every_field.ensures l (only-series passes_all test test (λ t b a p x. x) 4 _ l e)
