-- What a started run leaves, by its end. Rests on the meaning's Calls and on undoing's Undone.
use Rattle.std.specs.Prelude.{ℕ, ◌≡◌, List}
use Rattle.meaning.specs.Calls.{report_of}
use Rattle.meaning.specs.declared.Layout.{Layout}
use Rattle.meaning.specs.declared.Answer.{Answer}
use Rattle.meaning.specs.declared.Answer.TheVariants.{Result, Fail, Stopped as stopped_by}
use Rattle.meaning.specs.declared.End.{End}
use Rattle.meaning.specs.declared.End.TheVariants.{Done, Failed, Broke, Stopped}
use Rattle.undoing.specs.Undone.{Undone}

module _ (L : Layout) (nodes edges journal : List ℕ) (steps records : ℕ) (a : Answer) (nodes' edges' journal' report' : List ℕ) where
  -- tables and journal stay, and the report states steps and records
  pub record Stays : Type 0 where
    pub answer : a ≡ Result
    pub nodes_stay : nodes' ≡ nodes
    pub edges_stay : edges' ≡ edges
    pub journal_stays : journal' ≡ journal
    pub states : report' ≡ report_of steps records

  -- every record is undone, and the report states the steps alone
  pub record Returns (b : Answer) : Type 0 where
    pub answer : a ≡ b
    pub undone : Undone L nodes edges journal records 0 nodes' edges' journal'
    pub states : report' ≡ report_of steps 0

  -- by the end of a run
  unfoldable pub Finishes : End → Type 0
  Finishes Done = Stays
  Finishes Failed = Returns Fail
  Finishes Broke = Returns Fail
  Finishes (Stopped w) = Returns (stopped_by w)
