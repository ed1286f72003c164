-- The grammar of host graphs over words, as the words of each part, and the reader that succeeds exactly on what is in it (22). A reader
-- that does not succeed says which words are left, from the first that no graph goes on with. Rests on Words and Integers.
--
--     Graph    ::= '[' {Node} '|' {Edge} ']'
--     Node     ::= '(' Name ['(' 'R' ')'] ',' Label [Position] ')' [Position]
--     Edge     ::= '(' Name ',' Name ',' Name ',' Label ')'
--     Label    ::= List ['#' Mark]
--     List     ::= 'empty' | Integer {':' Integer}
--     Integer  ::= ['-'] Digits
--     Mark     ::= 'red' | 'green' | 'blue' | 'grey' | 'dashed'
--     Position ::= '<' Number ',' Number '>'
--     Number   ::= Integer ['.' Digits]
use Rattle.std.specs.Prelude.{Bool, true, false, List, [], ◌∷◌, ℕ, zero, suc, length, get_or, drop, ltb}
use Rattle.std.proofs.Math.Option.{Option, some, none}
use Rattle.meaning.specs.Basics.{choose, every, same, is_empty}
use Rattle.meaning.specs.Layout.{Tables}
use Rattle.writing.specs.Words.{letters}
use Rattle.text.specs.Words.{Word, name, sign, is_digit, same_word, opening, closing, bar, left, right, comma, colon, hash, minus, less, greater, dot}
use Rattle.text.specs.Integers.{Integer}

-- What a text lists. Mark 0 is none, root 1 is (R).

pub record Label : Type 0 where
  pub atoms : List Integer
  pub mark : ℕ

-- a coordinate: an integer and, where there is a dot, the digits behind it
pub record Coordinate : Type 0 where
  pub integer : Integer
  pub fraction : Option (List ℕ)

pub record Position : Type 0 where
  pub across : Coordinate
  pub down : Coordinate

-- a node, with the positions that stand behind its label and behind it
pub record NodeItem : Type 0 where
  pub id : List ℕ
  pub root : ℕ
  pub label : Label
  pub position : Option Position
  pub behind : Option Position

pub record EdgeItem : Type 0 where
  pub id : List ℕ
  pub source : List ℕ
  pub target : List ℕ
  pub label : Label

abbrev pub Listed : Type 0
Listed = Tables NodeItem EdgeItem

-- Names in a row: the place of the first that is the same, or their number.

unfoldable pub index : List ℕ → List (List ℕ) → ℕ
index id [] = 0
index id (a ∷ l) = choose (same a id) 0 (suc (index id l))

unfoldable pub known : List ℕ → List (List ℕ) → Bool
known id l = ltb (index id l) (length l)

-- the names of marks 1, 2, ..
unfoldable pub marks : List (List ℕ)
marks = letters "red" ∷ letters "green" ∷ letters "blue" ∷ letters "grey" ∷ letters "dashed" ∷ []

abbrev pub empty_word : Word
empty_word = name (letters "empty")

abbrev pub root_word : Word
root_word = name (letters "R")

-- The grammar: each part's words, in front of the words that follow.

-- items in a row
unfoldable pub all_then : {A : Type 0} → (A → List Word → List Word) → List A → List Word → List Word
all_then item_then [] ws = ws
all_then item_then (a ∷ l) ws = item_then a (all_then item_then l ws)

-- an item, where there is one
unfoldable pub maybe_then : {A : Type 0} → (A → List Word → List Word) → Option A → List Word → List Word
maybe_then item_then none ws = ws
maybe_then item_then (some a) ws = item_then a ws

unfoldable pub integer_then : Integer → List Word → List Word
integer_then x ws = choose x.negative (minus ∷ name x.digits ∷ ws) (name x.digits ∷ ws)

unfoldable pub next_then : Integer → List Word → List Word
next_then x ws = colon ∷ integer_then x ws

unfoldable pub list_then : List Integer → List Word → List Word
list_then [] ws = empty_word ∷ ws
list_then (x ∷ xs) ws = integer_then x (all_then next_then xs ws)

unfoldable pub mark_then : ℕ → List Word → List Word
mark_then zero ws = ws
mark_then (suc m) ws = hash ∷ name (get_or marks m []) ∷ ws

unfoldable pub label_then : Label → List Word → List Word
label_then l ws = list_then l.atoms (mark_then l.mark ws)

unfoldable pub fraction_then : List ℕ → List Word → List Word
fraction_then ds ws = dot ∷ name ds ∷ ws

unfoldable pub coordinate_then : Coordinate → List Word → List Word
coordinate_then x ws = integer_then x.integer (maybe_then fraction_then x.fraction ws)

unfoldable pub position_then : Position → List Word → List Word
position_then p ws = less ∷ coordinate_then p.across (comma ∷ coordinate_then p.down (greater ∷ ws))

unfoldable pub root_then : ℕ → List Word → List Word
root_then zero ws = ws
root_then (suc r) ws = left ∷ root_word ∷ right ∷ ws

unfoldable pub node_then : NodeItem → List Word → List Word
node_then n ws =
    left
    ∷ name n.id
    ∷ root_then n.root
    (comma ∷ label_then n.label (maybe_then position_then n.position (right ∷ maybe_then position_then n.behind ws)))

unfoldable pub edge_then : EdgeItem → List Word → List Word
edge_then e ws = left ∷ name e.id ∷ comma ∷ name e.source ∷ comma ∷ name e.target ∷ comma ∷ label_then e.label (right ∷ ws)

unfoldable pub graph_words : Listed → List Word
graph_words g = opening ∷ all_then node_then g.nodes (bar ∷ all_then edge_then g.edges (closing ∷ []))

-- The reader: a part at the front of the words and what is behind it, or the words from the first that does not fit.

pub record Read (A : Type 0) : Type 0 where
  pub value : A
  pub rest : List Word

pub data Parsed (A : Type 0) : Type 0 where
  got : Read A → Parsed A
  broke : List Word → Parsed A

abbrev pub gives : {A : Type 0} → A → List Word → Parsed A
gives a ws = got (record { value = a; rest = ws })

infixl 10 ◌>>=◌
unfoldable pub ◌>>=◌ : {A B : Type 0} → Parsed A → (Read A → Parsed B) → Parsed B
got r >>= f = f r
broke ws >>= f = broke ws

unfoldable pub begins : Word → List Word → Bool
begins w [] = false
begins w (v ∷ ws) = same_word w v

unfoldable pub expect : Word → List Word → Parsed (Unit {0})
expect w ws = choose (begins w ws) (gives tt (drop 1 ws)) (broke ws)

-- what stands behind the word, where the words begin with it
unfoldable pub optional : {A : Type 0} → Word → (List Word → Parsed A) → A → List Word → Parsed A
optional w item absent ws = choose (begins w ws) (item (drop 1 ws)) (gives absent ws)

-- a name that passes
unfoldable pub named : (List ℕ → Bool) → List Word → Parsed (List ℕ)
named passes [] = broke []
named passes (name r ∷ ws) = choose (passes r) (gives r ws) (broke (name r ∷ ws))
named passes (sign c ∷ ws) = broke (sign c ∷ ws)

abbrev pub a_name : List Word → Parsed (List ℕ)
a_name = named (λ r. true)

abbrev pub digits : List Word → Parsed (List ℕ)
digits = named (every is_digit)

-- items that each begin with this word, at most so many
unfoldable pub many : {A : Type 0} → Word → (List Word → Parsed A) → ℕ → List Word → Parsed (List A)
many w item zero ws = gives [] ws
many {A} w item (suc most) ws =
    let more : Parsed (List A) = do
      a ← item ws
      l ← many w item most a.rest
      gives (a.value ∷ l.value) l.rest
    in
    choose (begins w ws) more (gives [] ws)

unfoldable pub integer : List Word → Parsed Integer
integer ws = do
  negative ← optional minus (gives true) false ws
  ds ← digits negative.rest
  gives (record { negative = negative.value; digits = ds.value }) ds.rest

unfoldable pub next_integer : List Word → Parsed Integer
next_integer ws = do
  a ← expect colon ws
  integer a.rest

unfoldable pub integers : List Word → Parsed (List Integer)
integers ws = do
  x ← integer ws
  l ← many colon next_integer (length x.rest) x.rest
  gives (x.value ∷ l.value) l.rest

unfoldable pub list : List Word → Parsed (List Integer)
list ws = choose (begins empty_word ws) (gives [] (drop 1 ws)) (integers ws)

unfoldable pub a_mark : List Word → Parsed ℕ
a_mark ws = do
  r ← named (λ r. known r marks) ws
  gives (suc (index r.value marks)) r.rest

unfoldable pub label : List Word → Parsed Label
label ws = do
  l ← list ws
  m ← optional hash a_mark 0 l.rest
  gives (record { atoms = l.value; mark = m.value }) m.rest

unfoldable pub a_fraction : List Word → Parsed (Option (List ℕ))
a_fraction ws = do
  ds ← digits ws
  gives (some ds.value) ds.rest

unfoldable pub coordinate : List Word → Parsed Coordinate
coordinate ws = do
  x ← integer ws
  f ← optional dot a_fraction none x.rest
  gives (record { integer = x.value; fraction = f.value }) f.rest

unfoldable pub a_position : List Word → Parsed (Option Position)
a_position ws = do
  x ← coordinate ws
  a ← expect comma x.rest
  y ← coordinate a.rest
  b ← expect greater y.rest
  gives (some (record { across = x.value; down = y.value })) b.rest

abbrev pub position : List Word → Parsed (Option Position)
position = optional less a_position none

unfoldable pub a_root : List Word → Parsed ℕ
a_root ws = do
  a ← expect root_word ws
  b ← expect right a.rest
  gives 1 b.rest

-- a node, from its identifier on
unfoldable pub node_body : List Word → Parsed NodeItem
node_body ws = do
  id ← a_name ws
  r ← optional left a_root 0 id.rest
  a ← expect comma r.rest
  l ← label a.rest
  p ← position l.rest
  b ← expect right p.rest
  q ← position b.rest
  gives (record { id = id.value; root = r.value; label = l.value; position = p.value; behind = q.value }) q.rest

unfoldable pub node : List Word → Parsed NodeItem
node ws = do
  a ← expect left ws
  node_body a.rest

-- an edge, from its identifier on
unfoldable pub edge_body : List Word → Parsed EdgeItem
edge_body ws = do
  id ← a_name ws
  a ← expect comma id.rest
  source ← a_name a.rest
  b ← expect comma source.rest
  target ← a_name b.rest
  c ← expect comma target.rest
  l ← label c.rest
  d ← expect right l.rest
  gives (record { id = id.value; source = source.value; target = target.value; label = l.value }) d.rest

unfoldable pub edge : List Word → Parsed EdgeItem
edge ws = do
  a ← expect left ws
  edge_body a.rest

unfoldable pub ended : List Word → Parsed (Unit {0})
ended ws = choose (is_empty ws) (gives tt ws) (broke ws)

unfoldable pub graph : List Word → Parsed Listed
graph ws = do
  a ← expect opening ws
  nodes ← many left node (length a.rest) a.rest
  b ← expect bar nodes.rest
  edges ← many left edge (length b.rest) b.rest
  c ← expect closing edges.rest
  d ← ended c.rest
  gives (record { nodes = nodes.value; edges = edges.value }) d.rest
