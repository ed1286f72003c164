-- `all_ends_known` meets its contract. The loop's invariant: the ends of the edges so far are known.
use Rattle.std.proofs.Common.{◌≡◌, List, drop}
use Rattle.meaning.specs.Basics.{every}
use Rattle.meaning.specs.declared.Table.TheVariants.{Edges}
use Rattle.text.specs.Grammar.{EdgeItem}
use Rattle.text.specs.Text.{ends_known}
use Rattle.importing.specs.Names.{names_at, ListedAt}
use Rattle.importing.proofs.names.all_ends_known.Given as goal

abbrev pub invariant-loop-at : goal.invariant-loop-at
invariant-loop-at here =
    (l : List EdgeItem) → ListedAt here.text Edges l here.edge_places
    → every (ends_known (names_at here.text here.node_places)) l ≡ every (ends_known (names_at here.text here.node_places)) (drop here.at-index l)
