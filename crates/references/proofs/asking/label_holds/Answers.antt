-- `asking::label_holds` meets its contract.
use Rattle.std.proofs.Common.{rules}
use Rattle.meaning.specs.Image.{element}
use Rattle.references.specs.Asked.{element_asked}
use Rattle.references.proofs.Asks.{label-series}
use Rattle.parts.specs.Walked.{every_answers}
use Rattle.references.proofs.asking.label_holds.Goals as goal

pub returns : goal.returns
returns c l e = every_answers element (element_asked c.args.ask c.args.types.now) (λ tag part r q a i. search rules) c.every_field.ensures l (label-series _ l e)
