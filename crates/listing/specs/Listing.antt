-- The listing of a run: from the bytes that a runner program reads to the bytes that it prints.
-- Rests on the meaning's Layout and Calls, on lines' Lines, on writing's Words and on run_input's Input.
use Rattle.std.specs.Prelude.{List, ℕ, ◌*◌, replicate}
use Rattle.std.proofs.Math.Option.{Option, some, none}
use Rattle.meaning.specs.Layout.{layout_of, record_length}
use Rattle.meaning.specs.Calls.{Returned, run, answer_number, lending}
use Rattle.meaning.specs.declared.Layout.{Layout}
use Rattle.meaning.specs.declared.Core.{Core}
use Rattle.writing.specs.Words.{letters}
use Rattle.run_input.specs.Input.{Input, input}
use Rattle.lines.specs.Lines.{report_size, outcome}

module _ (L : Layout) where
  -- the outcome of the call `run`, with a report of zeros
  unfoldable pub run_outcome : List ℕ → List ℕ → List ℕ → List ℕ → ℕ → List ℕ
  run_outcome nodes edges journal program fuel =
      let l : Returned = run L (lending nodes edges journal program fuel (replicate report_size 0)) in
      outcome L (answer_number l.answer) l.report l.nodes l.edges

  -- the input is run with a journal of that many records, all zero
  unfoldable pub listed : Option Input → List ℕ
  listed none = letters "input refused\n"
  listed (some x) = run_outcome x.nodes x.edges (replicate (x.records * record_length L) 0) x.program x.fuel

-- the listing of a core's run image
unfoldable pub listing : Core → List ℕ → List ℕ
listing c bs = listed (layout_of c) (input bs)
