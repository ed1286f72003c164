-- What is known of a run of ours that starts: its rules are legal, what it ends at is legal and its records fit the journal,
-- it ends as the rules of inference say, and leaves what that end says. Rests on Ours and Laws/Inference and on laws' Undoing and Calls.
use Rattle.meaning.specs.Commands.{Out}
use Rattle.meaning.specs.Calls.{Lent}
use Rattle.demands.specs.Demands.{Lendable}
use Rattle.demands.specs.Ours.{end, Good}
use Rattle.laws.specs.Undoing.{Numbered}
use Rattle.meaning.specs.declared.Layout.{Layout}

module _ (L : Layout) (k : Numbered L) (x : Lent) (b : Lendable x) (a : Good L x) where
  abbrev pub last : Out
  last = end L x a.tree
