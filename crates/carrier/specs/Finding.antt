-- What the reader of two tables says of their fields, by the ends of their payloads. Rests on Carried and run_input's Reading.
use Rattle.std.specs.Prelude.{◌≡◌, List, ℕ, ◌≤◌, length, Option, Some, None}
use Rattle.std.proofs.Math.Option.{none}
use Rattle.run_input.specs.Input.{nodes_tag, edges_tag, most_input}
use Rattle.run_input.specs.Reading.{Expected}
use Rattle.carrier.specs.Carried.{tables_in}

pub record Two (bs : List ℕ) (middle end : ℕ) : Type 0 where
  pub small : length bs ≤ most_input
  pub nodes : Expected bs 0 nodes_tag middle
  pub edges : Expected bs middle edges_tag end
  pub whole : length bs ≤ end

abbrev pub Finds : List ℕ → Option (ℕ × ℕ) → Type 0
Finds bs (Some (middle, end)) = Two bs middle end
Finds bs None = tables_in bs ≡ none
