-- What a call leaves admits one number and one content of every buffer. Rests on Calls.
use Rattle.std.specs.Prelude.{◌≡◌, List, ℕ}
use Rattle.std.proofs.Common.{sym, ◌∙◌}
use Rattle.meaning.specs.Calls.{Returned, Yields}

pub yields_one : (l : Returned) (m n : ℕ) (nodes nodes' edges edges' journal journal' report report' : List ℕ)
    → Yields l m nodes edges journal report → Yields l n nodes' edges' journal' report'
    → (m ≡ n) × (nodes ≡ nodes') × (edges ≡ edges') × (journal ≡ journal') × (report ≡ report')
yields_one l m n nodes nodes' edges edges' journal journal' report report' h k = (
  h.numbered ∙ sym k.numbered,
  h.nodes_returned ∙ sym k.nodes_returned,
  h.edges_returned ∙ sym k.edges_returned,
  h.journal_returned ∙ sym k.journal_returned,
  h.report_returned ∙ sym k.report_returned,
)
