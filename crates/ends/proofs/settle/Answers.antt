-- `settle` meets its contract.
use Rattle.std.proofs.Common.{sym, ◌∙◌, inl, inr}
use Rattle.std.proofs.lemmas.Bool.{false≢true}
use Rattle.ends.proofs.Ending.{settled-kept, settled-undone, settled-failed, settled-broke, settled-stopped}
use Rattle.ends.proofs.settle.Goals as goal
use Rattle.ends.proofs.settle.Goals.{in-Done, in-Failed, in-Broke}

pub returns-then-kept : goal.returns-then-kept
returns-then-kept c =
    elim c.match-ran.branch [
      | in-Done w ↦ settled-kept _ c.requires.running w.in-Done.is (sym w.kept-is ∙ c.if-kept.true)
      | in-Failed w ↦ absurd (false≢true (sym w.kept-is ∙ c.if-kept.true))
      | in-Broke w ↦
          elim w.in-Broke.is [
            | inl e ↦ settled-broke _ c.requires.running e
            | inr e ↦ settled-stopped _ c.requires.running e.1
          ]
    ]

pub returns-else-kept : goal.returns-else-kept
returns-else-kept c =
    elim c.match-ran.branch [
      | in-Done w ↦ settled-undone _ c.back.ensures w.in-Done.is (sym w.kept-is ∙ c.if-kept.false)
      | in-Failed w ↦ settled-failed _ c.back.ensures w.in-Failed.is
      | in-Broke w ↦ absurd (false≢true (sym c.if-kept.false ∙ w.kept-is))
    ]
