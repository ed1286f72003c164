-- `share` meets its contract.
use Rattle.std.proofs.Common.{sym, ◌∙◌, arith}
use Rattle.meaning.specs.Laws.Tests.{choose_true, choose_false}
use Rattle.parts.proofs.elements.share.Goals as goal

pub returns-then-takes_list : goal.returns-then-takes_list
returns-then-takes_list c = (omega arith, λ x e. sym (choose_true _ _ _ (sym (c.takes_list.ensures x e) ∙ c.if-takes_list.true)))

pub returns-else-takes_list : goal.returns-else-takes_list
returns-else-takes_list c = (omega arith, λ x e. sym (choose_false _ _ _ (sym (c.takes_list.ensures x e) ∙ c.if-takes_list.false)))
