-- Words that a text can have, and the graphs that a text can list. Rests on Words and Grammar.
use Rattle.std.specs.Prelude.{◌≡◌, true, false, List, ℕ, ◌≤◌}
use Rattle.std.proofs.Math.Option.{Option, some, none}
use Rattle.meaning.specs.Basics.{every, is_empty}
use Rattle.meaning.specs.Laws.Every.{Every}
use Rattle.text.specs.Words.{Word, name, sign, is_digit, is_letter, is_sign}
use Rattle.text.specs.Integers.{Integer}
use Rattle.text.specs.Grammar.{Label, Coordinate, Position, NodeItem, EdgeItem, Listed}

-- a word that stands in a graph
abbrev pub Proper : Word → Type 0
Proper (name r) = (is_empty r ≡ false) × (every is_letter r ≡ true)
Proper (sign c) = is_sign c ≡ true

abbrev pub Digits : List ℕ → Type 0
Digits ds = (is_empty ds ≡ false) × (every is_digit ds ≡ true)

abbrev pub FormedInteger : Integer → Type 0
FormedInteger x = Digits x.digits

-- where there is one, P holds of it
abbrev pub Maybe : {A : Type 0} → (A → Type 0) → Option A → Type 0
Maybe P none = Unit {0}
Maybe P (some a) = P a

pub record FormedLabel (l : Label) : Type 0 where
  pub atoms : Every FormedInteger l.atoms
  pub mark : l.mark ≤ 5

pub record FormedCoordinate (x : Coordinate) : Type 0 where
  pub integer : FormedInteger x.integer
  pub fraction : Maybe Digits x.fraction

pub record FormedPosition (p : Position) : Type 0 where
  pub across : FormedCoordinate p.across
  pub down : FormedCoordinate p.down

pub record FormedNode (n : NodeItem) : Type 0 where
  pub id : Proper (name n.id)
  pub root : n.root ≤ 1
  pub label : FormedLabel n.label
  pub position : Maybe FormedPosition n.position
  pub behind : Maybe FormedPosition n.behind

pub record FormedEdge (e : EdgeItem) : Type 0 where
  pub id : Proper (name e.id)
  pub source : Proper (name e.source)
  pub target : Proper (name e.target)
  pub label : FormedLabel e.label

pub record Formed (g : Listed) : Type 0 where
  pub nodes : Every FormedNode g.nodes
  pub edges : Every FormedEdge g.edges
