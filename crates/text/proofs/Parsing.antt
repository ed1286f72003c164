-- What is in the grammar is read as what it lists, and its words are words of texts. Rests on Grammar and Formed.
use Rattle.std.specs.Prelude.{◌≡◌, Bool, true, false, length}
use Rattle.std.proofs.Math.Path.{refl}
use Rattle.std.proofs.Common.{◌∙◌, arith, ne_eqb, leb-true}
use Rattle.std.proofs.Math.Option.{Option, some, none}
use mathlib.Core.List.{List, [], ◌∷◌}
use Prim.Native.Nat.{ℕ, zero, suc, ◌+◌, ◌<◌, ◌≤◌}
use Rattle.meaning.specs.Basics.{choose, both, either, every, same, is_empty}
use Rattle.meaning.specs.Laws.Tests.{both_true, both_of, both-no, either_left, choose_true, choose_false}
use Rattle.meaning.specs.Laws.Every.{Every}
use Rattle.writing.specs.Words.{letters}
use Rattle.text.specs.Words.{Word, name, is_digit, is_letter, is_white, is_sign, within, same_word, closing, bar, left, right, comma, colon, hash, minus, less, greater, dot}
use Rattle.text.specs.Integers.{Integer}
use Rattle.text.specs.Grammar.{Label, Coordinate, Position, NodeItem, EdgeItem, Listed, index, known, marks, empty_word, all_then, maybe_then, integer_then, next_then, list_then, mark_then, label_then, fraction_then, coordinate_then, position_then, root_then, node_then, edge_then, graph_words, Parsed, gives, ◌>>=◌, begins, expect, optional, named, many, integer, next_integer, integers, list, a_mark, label, a_fraction, coordinate, a_position, position, a_root, node_body, node, edge_body, edge, ended, graph}
use Rattle.text.specs.Formed.{Proper, Digits, FormedInteger, Maybe, FormedLabel, FormedCoordinate, FormedPosition, FormedNode, FormedEdge, Formed}

-- The words of each part, counted.

abbrev pub Longer : {A : Type 0} → (A → List Word → List Word) → Type 0
Longer {A} item_then = (a : A) (ws : List Word) → length ws < length (item_then a ws)

abbrev NoShorter : {A : Type 0} → (A → List Word → List Word) → Type 0
NoShorter {A} item_then = (a : A) (ws : List Word) → length ws ≤ length (item_then a ws)

all-longer : {A : Type 0} (item_then : A → List Word → List Word) → Longer item_then
    → (l : List A) (ws : List Word) → length l + length ws ≤ length (all_then item_then l ws)
unfolding all_then
all-longer item_then longer [] ws = omega arith
all-longer item_then longer (a ∷ l) ws = omega (arith, all-longer item_then longer l ws, longer a (all_then item_then l ws))

maybe_longer : {A : Type 0} (item_then : A → List Word → List Word) → NoShorter item_then → NoShorter (maybe_then item_then)
unfolding maybe_then
maybe_longer item_then longer none ws = omega arith
maybe_longer item_then longer (some a) ws = longer a ws

integer-longer : NoShorter integer_then
unfolding integer_then choose
integer-longer x ws = at x.negative
  where
    at : (b : Bool) → length ws ≤ length (choose b (minus ∷ name x.digits ∷ ws) (name x.digits ∷ ws))
    at true = omega arith
    at false = omega arith

pub next-longer : Longer next_then
unfolding next_then
next-longer x ws = omega (arith, integer-longer x ws)

list-longer : NoShorter list_then
unfolding list_then
list-longer [] ws = omega arith
list-longer (x ∷ l) ws = omega (arith, integer-longer x (all_then next_then l ws), all-longer next_then next-longer l ws)

mark-longer : NoShorter mark_then
unfolding mark_then
mark-longer zero ws = omega arith
mark-longer (suc m) ws = omega arith

label-longer : NoShorter label_then
unfolding label_then
label-longer l ws = omega (arith, list-longer l.atoms (mark_then l.mark ws), mark-longer l.mark ws)

fraction-longer : NoShorter fraction_then
unfolding fraction_then
fraction-longer ds ws = omega arith

coordinate-longer : NoShorter coordinate_then
unfolding coordinate_then
coordinate-longer x ws =
    let behind = maybe_then fraction_then x.fraction ws in
    omega (arith, integer-longer x.integer behind, maybe_longer fraction_then fraction-longer x.fraction ws)

position-longer : NoShorter position_then
unfolding position_then
position-longer p ws =
    let down = coordinate_then p.down (greater ∷ ws) in
    omega (arith, coordinate-longer p.across (comma ∷ down), coordinate-longer p.down (greater ∷ ws))

root-longer : NoShorter root_then
unfolding root_then
root-longer zero ws = omega arith
root-longer (suc r) ws = omega arith

pub node-longer : Longer node_then
unfolding node_then
node-longer n ws =
    let behind = maybe_then position_then n.behind ws in
    let placed = maybe_then position_then n.position (right ∷ behind) in
    let longer = maybe_longer position_then position-longer in
    omega (
      arith,
      root-longer n.root (comma ∷ label_then n.label placed),
      label-longer n.label placed,
      longer n.position (right ∷ behind),
      longer n.behind ws,
    )

pub edge-longer : Longer edge_then
unfolding edge_then
edge-longer e ws = omega (arith, label-longer e.label (right ∷ ws))

-- Items in a row, each of which is read where what follows is fit to follow it, as an item is.

module _ {A : Type 0} (w : Word) (item : List Word → Parsed A) (item_then : A → List Word → List Word)
    (P : A → Type 0) (Follows : List Word → Type 0)
    (starts : (a : A) (ws : List Word) → begins w (item_then a ws) ≡ true)
    (follows : (a : A) (ws : List Word) → Follows (item_then a ws))
    (longer : Longer item_then)
    (reads : (a : A) (ws : List Word) → P a → Follows ws → item (item_then a ws) ≡ gives a ws)
  where
    all-follows : (l : List A) (ws : List Word) → Follows ws → Follows (all_then item_then l ws)
    unfolding all_then
    all-follows [] ws f = f
    all-follows (a ∷ l) ws f = follows a (all_then item_then l ws)

    within-many : (l : List A) (ws : List Word) (most : ℕ) → Every P l → Follows ws → begins w ws ≡ false → length l ≤ most
        → many w item most (all_then item_then l ws) ≡ gives l ws
    unfolding many all_then ◌>>=◌
    within-many [] ws zero p f e h = refl
    within-many [] ws (suc most) p f e h = choose_false (begins w ws) _ _ e
    within-many (a ∷ l) ws zero p f e h = absurd (omega arith)
    within-many (a ∷ l) ws (suc most) p f e h =
        choose_true (begins w (item_then a (all_then item_then l ws))) _ _ (starts a _)
        ∙ rw (reads a (all_then item_then l ws) p.0 (all-follows l ws f), within-many l ws most p.1 f e (omega arith))

    pub many_read : (l : List A) (ws : List Word) → Every P l → Follows ws → begins w ws ≡ false
        → many w item (length (all_then item_then l ws)) (all_then item_then l ws) ≡ gives l ws
    many_read l ws p f e = within-many l ws _ p f e (omega (arith, all-longer item_then longer l ws))

-- Items that may be missing: what is not there is read as missing where what follows does not begin with the word.

absent-read : {A : Type 0} (w : Word) (item : List Word → Parsed A) (absent : A) (ws : List Word) → begins w ws ≡ false
    → optional w item absent ws ≡ gives absent ws
unfolding optional
absent-read w item absent ws e = choose_false (begins w ws) _ _ e

maybe_read : {A : Type 0} (w : Word) (item : List Word → Parsed (Option A)) (item_then : A → List Word → List Word) (P : A → Type 0)
    → ((a : A) (ws : List Word) → P a → optional w item none (item_then a ws) ≡ gives (some a) ws)
    → (o : Option A) (ws : List Word) → Maybe P o → begins w ws ≡ false → optional w item none (maybe_then item_then o ws) ≡ gives o ws
unfolding maybe_then
maybe_read w item item_then P reads none ws p e = absent-read w item none ws e
maybe_read w item item_then P reads (some a) ws p e = reads a ws p

-- opens the reader's steps
unfoldable steps : Unit {0}
unfolding begins same_word same expect optional named ◌>>=◌ choose both letters
steps = tt

-- Labels.

integer-read : (x : Integer) (ws : List Word) → FormedInteger x → integer (integer_then x ws) ≡ gives x ws
unfolding integer_then integer steps
integer-read x ws p = at x.negative x.digits p.1
  where
    at : (b : Bool) (ds : List ℕ) → every is_digit ds ≡ true
        → integer (choose b (minus ∷ name ds ∷ ws) (name ds ∷ ws)) ≡ gives (record { negative = b; digits = ds }) ws
    at true ds e = rw e
    at false ds e = rw e

-- no integer is the word empty
digit_lt : (d : ℕ) → is_digit d ≡ true → d ≤ 57
unfolding is_digit within
digit_lt d e = leb-true d 57 (both_true _ _ e).1

digits-not-empty : (ds : List ℕ) → every is_digit ds ≡ true → same (letters "empty") ds ≡ false
unfolding steps every
digits-not-empty [] e = refl
digits-not-empty (d ∷ ds) e = let h = digit_lt d (both_true _ _ e).0 in both-no _ _ (ne_eqb 101 d (λ q. omega arith))

not-empty : (x : Integer) (ws : List Word) → FormedInteger x → begins empty_word (integer_then x ws) ≡ false
unfolding integer_then steps
not-empty x ws p = at x.negative
  where
    at : (b : Bool) → begins empty_word (choose b (minus ∷ name x.digits ∷ ws) (name x.digits ∷ ws)) ≡ false
    at true = refl
    at false = digits-not-empty x.digits p.1

list_read : (l : List Integer) (ws : List Word) → Every FormedInteger l → begins colon ws ≡ false → list (list_then l ws) ≡ gives l ws
unfolding list list_then ◌>>=◌
list_read [] ws p e = unfold steps in refl
list_read (x ∷ l) ws p e = choose_false (begins empty_word (integer_then x (all_then next_then l ws))) _ _ (not-empty x _ p.0) ∙ all
  where
    starts : (x : Integer) (ws : List Word) → begins colon (next_then x ws) ≡ true
    starts x ws = unfold next_then steps in refl

    reads : (x : Integer) (ws : List Word) → FormedInteger x → Unit {0} → next_integer (next_then x ws) ≡ gives x ws
    reads x ws p f = unfold next_integer next_then steps in integer-read x ws p

    rest : many colon next_integer (length (all_then next_then l ws)) (all_then next_then l ws) ≡ gives l ws
    rest = many_read colon next_integer next_then FormedInteger (λ ws. Unit {0}) starts (λ x ws. tt) next-longer reads l ws p.1 tt e

    all : integers (integer_then x (all_then next_then l ws)) ≡ gives (x ∷ l) ws
    all = unfold integers in rw (integer-read x (all_then next_then l ws) p.0, rest)

mark-read : (m : ℕ) (ws : List Word) → m ≤ 5 → begins hash ws ≡ false → optional hash a_mark 0 (mark_then m ws) ≡ gives m ws
unfolding mark_then a_mark known index marks steps
mark-read zero ws h e = absent-read hash a_mark 0 ws e
mark-read (suc zero) ws h e = refl
mark-read (suc (suc zero)) ws h e = refl
mark-read (suc (suc (suc zero))) ws h e = refl
mark-read (suc (suc (suc (suc zero)))) ws h e = refl
mark-read (suc (suc (suc (suc (suc zero))))) ws h e = refl
mark-read (suc (suc (suc (suc (suc (suc m)))))) ws h e = absurd (omega arith)

no-colon : (m : ℕ) (ws : List Word) → begins colon ws ≡ false → begins colon (mark_then m ws) ≡ false
unfolding mark_then steps
no-colon zero ws e = e
no-colon (suc m) ws e = refl

label-read : (l : Label) (ws : List Word) → FormedLabel l → (begins colon ws ≡ false) × (begins hash ws ≡ false)
    → label (label_then l ws) ≡ gives l ws
unfolding label label_then ◌>>=◌
label-read l ws p e =
    rw (
      list_read l.atoms (mark_then l.mark ws) p.atoms (no-colon l.mark ws e.0),
      mark-read l.mark ws p.mark e.1,
    )

-- Positions.

fraction-read : (ds : List ℕ) (ws : List Word) → Digits ds → optional dot a_fraction none (fraction_then ds ws) ≡ gives (some ds) ws
unfolding fraction_then a_fraction steps
fraction-read ds ws p = rw p.1

coordinate-read : (x : Coordinate) (ws : List Word) → FormedCoordinate x → begins dot ws ≡ false
    → coordinate (coordinate_then x ws) ≡ gives x ws
unfolding coordinate coordinate_then ◌>>=◌
coordinate-read x ws p e =
    rw (
      integer-read x.integer (maybe_then fraction_then x.fraction ws) p.integer,
      maybe_read dot a_fraction fraction_then Digits fraction-read x.fraction ws p.fraction e,
    )

position-read : (p : Position) (ws : List Word) → FormedPosition p → position (position_then p ws) ≡ gives (some p) ws
unfolding position_then a_position steps
position-read p ws f =
    rw (
      coordinate-read p.across (comma ∷ coordinate_then p.down (greater ∷ ws)) f.across refl,
      coordinate-read p.down (greater ∷ ws) f.down refl,
    )

positions_read : (o : Option Position) (ws : List Word) → Maybe FormedPosition o → begins less ws ≡ false
    → position (maybe_then position_then o ws) ≡ gives o ws
positions_read = maybe_read less a_position position_then FormedPosition position-read

-- Items.

root-read : (r : ℕ) (ws : List Word) → r ≤ 1 → begins left ws ≡ false → optional left a_root 0 (root_then r ws) ≡ gives r ws
unfolding root_then a_root steps
root-read zero ws h e = absent-read left a_root 0 ws e
root-read (suc zero) ws h e = refl
root-read (suc (suc r)) ws h e = absurd (omega arith)

-- a position goes on no label
behind-label : (o : Option Position) (ws : List Word)
    → (begins colon (maybe_then position_then o (right ∷ ws)) ≡ false) × (begins hash (maybe_then position_then o (right ∷ ws)) ≡ false)
unfolding maybe_then position_then steps
behind-label none ws = (refl, refl)
behind-label (some p) ws = (refl, refl)

pub node-read : (n : NodeItem) (ws : List Word) → FormedNode n → begins less ws ≡ false → node (node_then n ws) ≡ gives n ws
unfolding node node_body node_then steps
node-read n ws p e =
    let behind = maybe_then position_then n.behind ws in
    let placed = maybe_then position_then n.position (right ∷ behind) in
    rw (
      root-read n.root (comma ∷ label_then n.label placed) p.root refl,
      label-read n.label placed p.label (behind-label n.position behind),
      positions_read n.position (right ∷ behind) p.position refl,
      positions_read n.behind ws p.behind e,
    )

pub edge-read : (e : EdgeItem) (ws : List Word) → FormedEdge e → edge (edge_then e ws) ≡ gives e ws
unfolding edge edge_body edge_then steps
edge-read e ws p = rw (label-read e.label (right ∷ ws) p.label (refl, refl))

-- The graph.

pub graph-read : (g : Listed) → Formed g → graph (graph_words g) ≡ gives g []
unfolding graph graph_words ended is_empty steps
graph-read g p =
    rw (
      many_read left node node_then FormedNode (λ ws. begins less ws ≡ false) (λ n ws. unfold node_then in refl)
          (λ n ws. unfold node_then in refl) node-longer node-read
          g.nodes (bar ∷ all_then edge_then g.edges (closing ∷ [])) p.nodes refl refl,
      many_read left edge edge_then FormedEdge (λ ws. Unit {0}) (λ e ws. unfold edge_then in refl) (λ e ws. tt)
          edge-longer (λ e ws f u. edge-read e ws f) g.edges (closing ∷ []) p.edges tt refl,
    )

-- Its words are words of texts.

abbrev Propers : List Word → Type 0
Propers ws = Every Proper ws

abbrev KeepsProper : {A : Type 0} → (A → Type 0) → (A → List Word → List Word) → Type 0
KeepsProper {A} P item_then = (a : A) (ws : List Word) → P a → Propers ws → Propers (item_then a ws)

-- opens the tests of bytes
unfoldable tests : Unit {0}
unfolding is_letter is_white is_sign is_digit within choose either both every is_empty letters
tests = tt

pub digits-letters : (ds : List ℕ) → every is_digit ds ≡ true → every is_letter ds ≡ true
unfolding every is_letter
digits-letters [] e = refl
digits-letters (d ∷ ds) e = let t = both_true _ _ e in both_of _ _ (either_left _ _ t.0) (digits-letters ds t.1)

digits_proper : (ds : List ℕ) → Digits ds → Proper (name ds)
digits_proper ds p = (p.0, digits-letters ds p.1)

all_proper : {A : Type 0} (P : A → Type 0) (item_then : A → List Word → List Word) → KeepsProper P item_then
    → KeepsProper (λ l. Every P l) (all_then item_then)
unfolding all_then
all_proper P item_then f [] ws p q = q
all_proper P item_then f (a ∷ l) ws p q = f a (all_then item_then l ws) p.0 (all_proper P item_then f l ws p.1 q)

maybe_proper : {A : Type 0} (P : A → Type 0) (item_then : A → List Word → List Word) → KeepsProper P item_then
    → KeepsProper (λ o. Maybe P o) (maybe_then item_then)
unfolding maybe_then
maybe_proper P item_then f none ws p q = q
maybe_proper P item_then f (some a) ws p q = f a ws p q

integer_proper : KeepsProper FormedInteger integer_then
unfolding integer_then tests
integer_proper x ws p q = at x.negative
  where
    at : (b : Bool) → Propers (choose b (minus ∷ name x.digits ∷ ws) (name x.digits ∷ ws))
    at true = (refl, (digits_proper x.digits p, q))
    at false = (digits_proper x.digits p, q)

next_proper : KeepsProper FormedInteger next_then
unfolding next_then tests
next_proper x ws p q = (refl, integer_proper x ws p q)

list_proper : KeepsProper (λ l. Every FormedInteger l) list_then
unfolding list_then tests
list_proper [] ws p q = ((refl, refl), q)
list_proper (x ∷ l) ws p q = integer_proper x _ p.0 (all_proper FormedInteger next_then next_proper l ws p.1 q)

mark_proper : KeepsProper (λ m. m ≤ 5) mark_then
unfolding mark_then marks tests
mark_proper zero ws h q = q
mark_proper (suc zero) ws h q = (refl, ((refl, refl), q))
mark_proper (suc (suc zero)) ws h q = (refl, ((refl, refl), q))
mark_proper (suc (suc (suc zero))) ws h q = (refl, ((refl, refl), q))
mark_proper (suc (suc (suc (suc zero)))) ws h q = (refl, ((refl, refl), q))
mark_proper (suc (suc (suc (suc (suc zero))))) ws h q = (refl, ((refl, refl), q))
mark_proper (suc (suc (suc (suc (suc (suc m)))))) ws h q = absurd (omega arith)

label_proper : KeepsProper FormedLabel label_then
unfolding label_then
label_proper l ws p q = list_proper l.atoms _ p.atoms (mark_proper l.mark ws p.mark q)

fraction_proper : KeepsProper Digits fraction_then
unfolding fraction_then tests
fraction_proper ds ws p q = (refl, (digits_proper ds p, q))

coordinate_proper : KeepsProper FormedCoordinate coordinate_then
unfolding coordinate_then
coordinate_proper x ws p q =
    let behind = maybe_proper Digits fraction_then fraction_proper x.fraction ws p.fraction q in
    integer_proper x.integer _ p.integer behind

position_proper : KeepsProper FormedPosition position_then
unfolding position_then tests
position_proper p ws f q =
    (refl, coordinate_proper p.across _ f.across (refl, coordinate_proper p.down _ f.down (refl, q)))

root_proper : KeepsProper (λ r. r ≤ 1) root_then
unfolding root_then tests
root_proper zero ws h q = q
root_proper (suc r) ws h q = (refl, ((refl, refl), (refl, q)))

node_proper : KeepsProper FormedNode node_then
unfolding node_then tests
node_proper n ws p q =
    let positions = maybe_proper FormedPosition position_then position_proper in
    let behind = positions n.behind ws p.behind q in
    let placed = positions n.position (right ∷ maybe_then position_then n.behind ws) p.position (refl, behind) in
    (refl, (p.id, root_proper n.root _ p.root (refl, label_proper n.label _ p.label placed)))

edge_proper : KeepsProper FormedEdge edge_then
unfolding edge_then tests
edge_proper e ws p q =
    (refl, (p.id, (refl, (p.source, (refl, (p.target, (refl, label_proper e.label _ p.label (refl, q))))))))

pub graph_proper : (g : Listed) → Formed g → Every Proper (graph_words g)
unfolding graph_words tests
graph_proper g p =
    let edges = all_proper FormedEdge edge_then edge_proper g.edges (closing ∷ []) p.edges (refl, tt) in
    (refl, all_proper FormedNode node_then node_proper g.nodes _ p.nodes (refl, edges))
