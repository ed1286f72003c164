-- What a command does by demands' rules of inference follows by the published rules. Graphs, the reading of a host as a
-- graph and the application of a rule set are parameters; what is assumed of them, on good ledgers, is that the first match of
-- the first rule that has one is such an application (hit), and that there is none where no rule has a match (miss).
-- Rests on Steps and demands' Inference.
use Rattle.std.specs.Prelude.{List}
use Rattle.meaning.specs.Layout.{Host}
use Rattle.meaning.specs.Image.{Rule}
use Rattle.meaning.specs.Commands.{State}
use Rattle.meaning.specs.declared.End.{End}
use Rattle.published.specs.Semantics.{ComSeq, ⟨◌∣◌⟩}
use Rattle.published.specs.Steps.{Ends}

module _ {ℓ κ} (Graph : Type ℓ) (Applied : List Rule → Graph → Graph → Type κ) (read : Host → Graph) where
  -- the graph that a state's host holds
  abbrev pub shown : State → Graph
  shown s = read s.ledger.host

  -- the command sequence P, started on what s holds, ends in e with what t holds
  abbrev pub Ending : ComSeq → State → End → State → Type (ℓ ⊔ κ)
  Ending P s e t = Ends Graph Applied ⟨ P ∣ shown s ⟩ e (shown t)
