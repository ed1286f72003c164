-- `items::types_ok` meets its contract.
use Rattle.std.proofs.Common.{eqb, sym, ◌∙◌, le-leb, rules}
use Rattle.std.proofs.lemmas.Iterator.{YieldsList-from_slice}
use Rattle.std.proofs.lemmas.Iterator.Search.{all_from_yields_List}
use Rattle.std.proofs.Common.{rules, tests}
use Rattle.meaning.specs.Basics.{either}
use Rattle.meaning.specs.Tags.{int_type, list_type}
use Rattle.meaning.specs.Image.{is_type}
use Rattle.meaning.specs.Laws.Tests.{both_yes}
use Rattle.fields.specs.Image.{types_ok}
use Rattle.image.proofs.Insides.{every-listed}
use Rattle.image.proofs.items.types_ok.Goals as goal

pub returns-then-p-le-VARIABLES : goal.returns-then-p-le-VARIABLES
unfolding is_type
returns-then-p-le-VARIABLES c =
    all_from_yields_List (λ x. either (eqb x int_type) (eqb x list_type)) _ _ _ c.all.ensures.ran (YieldsList-from_slice c.args.p.now c.iter.ensures.rest) (λ x b q k. search (rules, tests))
    ∙ every-listed is_type c.args.p.now
    ∙ sym (types_ok _ ∙ both_yes _ _ (le-leb _ _ c.if-p-le-VARIABLES.true))
