-- The reader succeeds exactly on the texts in the grammar, and gives what they list. Rests on Words, Grammar, Formed, Reading and Parsing,
-- and on the laws' Records.
use Rattle.std.specs.Prelude.{◌≡◌, Bool, ◌↔◌, length, get_or, drop}
use Rattle.std.proofs.Math.Path.{refl, sym}
use Rattle.std.proofs.Common.{◌∙◌, ap, arith, eqb-true, ltb-true}
use Rattle.std.proofs.Math.Bool.{true, false}
use Rattle.std.proofs.Math.Option.{none}
use mathlib.Core.List.{List, [], ◌∷◌, ◌++◌}
use Prim.Native.Nat.{ℕ, zero, suc, ◌<◌, ◌≤◌}
use Rattle.meaning.specs.Basics.{choose, every, same, is_empty}
use Rattle.meaning.specs.Laws.Tests.{both_of, every_append, same_true, empty-true}
use Rattle.meaning.specs.Laws.Every.{Every}
use Rattle.laws.specs.Records.{Every-append}
use Rattle.text.specs.Words.{Word, name, sign, is_digit, is_letter, is_sign, Mode, between, naming, slashed, aside, inside, starred, begun, next, signs, told, last, words_in, words, same_word, opening, closing, bar, left, right, comma, colon, hash, minus, less, greater, dot}
use Rattle.text.specs.Integers.{Integer}
use Rattle.text.specs.Grammar.{NodeItem, EdgeItem, Listed, index, known, marks, empty_word, root_word, all_then, maybe_then, integer_then, next_then, list_then, mark_then, label_then, fraction_then, coordinate_then, position_then, root_then, node_then, edge_then, graph_words, Read, Parsed, got, broke, gives, ◌>>=◌, begins, expect, optional, named, a_name, digits, many, integer, next_integer, integers, list, a_mark, label, a_fraction, coordinate, a_position, position, a_root, node_body, node, edge_body, edge, ended, graph}
use Rattle.text.specs.Formed.{Proper, Digits, FormedInteger, Maybe, FormedLabel, FormedCoordinate, FormedPosition, FormedNode, FormedEdge, Formed}
use Rattle.text.proofs.Reading.{chosen}
use Rattle.text.proofs.Parsing.{Longer, next-longer, node-longer, edge-longer, graph-read}

-- The names of a text are proper; its signs may be none that a graph has.

abbrev Named : Word → Type 0
Named (name r) = Proper (name r)
Named (sign c) = Unit {0}

abbrev Names : List Word → Type 0
Names ws = Every Named ws

-- of what a text would end with that ended here
abbrev Holds : Mode → Type 0
Holds m = Names (last m)

signs-named : (b : ℕ) → Names (signs b)
unfolding signs
signs-named b = chosen Names (is_sign b) _ _ (λ e. (tt, tt)) tt

told_named : (m : Mode) (b : ℕ) → Holds m → Names (told m b)
unfolding told last
told_named between b h = signs-named b
told_named (naming run) b h = chosen Names (is_letter b) _ _ (λ e. tt) (h.0, signs-named b)
told_named slashed b h = chosen Names _ _ _ (λ e. tt) (tt, signs-named b)
told_named aside b h = tt
told_named inside b h = tt
told_named starred b h = tt

begun-holds : (b : ℕ) → Holds (begun b)
unfolding begun last every is_empty
begun-holds b = chosen Holds (is_letter b) _ _ (λ e. ((refl, both_of _ _ e refl), tt)) (chosen Holds _ _ _ (λ e. (tt, tt)) tt)

name-grows : (run : List ℕ) (b : ℕ) → Proper (name run) → is_letter b ≡ true → Proper (name (run ++ b ∷ []))
unfolding every is_empty
name-grows [] b p e = (refl, both_of _ _ e refl)
name-grows (c ∷ run) b p e = (refl, every_append is_letter (c ∷ run) (b ∷ []) ∙ both_of _ _ p.1 (both_of _ _ e refl))

next-holds : (m : Mode) (b : ℕ) → Holds m → Holds (next m b)
unfolding next last
next-holds between b h = begun-holds b
next-holds (naming run) b h = chosen Holds (is_letter b) _ _ (λ e. (name-grows run b h.0 e, tt)) (begun-holds b)
next-holds slashed b h = chosen Holds _ _ _ (λ e. tt) (chosen Holds _ _ _ (λ e. (tt, tt)) (begun-holds b))
next-holds aside b h = chosen Holds _ _ _ (λ e. tt) tt
next-holds inside b h = chosen Holds _ _ _ (λ e. (tt, tt)) (tt, tt)
next-holds starred b h = chosen Holds _ _ _ (λ e. tt) (chosen Holds _ _ _ (λ e. (tt, tt)) (tt, tt))

words-named : (m : Mode) (bs : List ℕ) → Holds m → Names (words_in m bs)
unfolding words_in
words-named m [] h = h
words-named m (b ∷ bs) h =
    Every-append Named (told m b) (words_in (next m b) bs) (told_named m b h) (words-named (next m b) bs (next-holds m b h))

-- Inversion.

bind_got : {A B : Type 0} (m : Parsed A) (f : Read A → Parsed B) (b : Read B) → (m >>= f) ≡ got b
    → (r : Read A) × (m ≡ got r) × (f r ≡ got b)
unfolding ◌>>=◌
bind_got (got r) f b e = (r, refl, e)
bind_got (broke ws) f b e = let z : ◌≡◌ {A = ℕ} 0 1 = cc in absurd (omega arith)

-- what passes a test
passed : {A : Type 0} (t : Bool) (m : Parsed A) (ws : List Word) (r : Read A) → choose t m (broke ws) ≡ got r → (t ≡ true) × (m ≡ got r)
unfolding choose
passed true m ws r e = (refl, e)
passed false m ws r e = let z : ◌≡◌ {A = ℕ} 0 1 = cc in absurd (omega arith)

got_same : {A : Type 0} (r s : Read A) → got r ≡ got s → r ≡ s
got_same r s e = cc

-- Single words.

same_word_lem : (w v : Word) → same_word w v ≡ true → w ≡ v
unfolding same_word
same_word_lem (name r) (name s) e = ap name (same_true r s e)
same_word_lem (name r) (sign d) e = let z : ◌≡◌ {A = ℕ} 0 1 = cc in absurd (omega arith)
same_word_lem (sign c) (name s) e = let z : ◌≡◌ {A = ℕ} 0 1 = cc in absurd (omega arith)
same_word_lem (sign c) (sign d) e = ap sign (eqb-true c d e)

begins-true : (w : Word) (ws : List Word) → begins w ws ≡ true → ws ≡ w ∷ drop 1 ws
unfolding begins
begins-true w [] e = let z : ◌≡◌ {A = ℕ} 0 1 = cc in absurd (omega arith)
begins-true w (v ∷ ws) e = ap (λ (u : Word). u ∷ ws) (sym (same_word_lem w v e))

names-behind : (ws : List Word) → Names ws → Names (drop 1 ws)
names-behind [] p = tt
names-behind (w ∷ ws) p = p.1

named-got : (passes : List ℕ → Bool) (ws : List Word) (r : Read (List ℕ)) → named passes ws ≡ got r
    → (ws ≡ name r.value ∷ r.rest) × (passes r.value ≡ true)
unfolding named
named-got passes [] r e = let z : ◌≡◌ {A = ℕ} 0 1 = cc in absurd (omega arith)
named-got passes (name s ∷ ws) r e = let t = passed (passes s) _ _ r e in rw (← (got_same _ _ t.1)) (refl, t.0)
named-got passes (sign c ∷ ws) r e = let z : ◌≡◌ {A = ℕ} 0 1 = cc in absurd (omega arith)

-- a known name is the one at its place
pub index_at : (id : List ℕ) (l : List (List ℕ)) → index id l < length l → get_or l (index id l) [] ≡ id
unfolding index choose
index_at id [] h = absurd (omega arith)
index_at id (a ∷ l) h = at (same a id) refl h (index_at id l)
  where
    at : (b : Bool) → same a id ≡ b → choose b 0 (suc (index id l)) < suc (length l) → (index id l < length l → get_or l (index id l) [] ≡ id)
        → get_or (a ∷ l) (choose b 0 (suc (index id l))) [] ≡ id
    at true q h f = same_true a id q
    at false q h f = f (omega arith)

pub known_lt : (id : List ℕ) (l : List (List ℕ)) → known id l ≡ true → index id l < length l
unfolding known
known_lt id l e = ltb-true _ _ e

-- What is read at the front of words is a part in the grammar. Where G says that the names of the words are proper, it says that the part
-- is formed and that the names behind it are proper.

module _ (G : Type 0) where
  record Reads {A : Type 0} (item_then : A → List Word → List Word) (F : A → Type 0) (ws : List Word) (r : Read A) : Type 0 where
    same : ws ≡ item_then r.value r.rest
    formed : G → F r.value
    behind : G → Names r.rest

  abbrev Sound : {A : Type 0} → (List Word → Parsed A) → (A → List Word → List Word) → (A → Type 0) → Type 0
  Sound {A} item item_then F = (ws : List Word) (r : Read A) → (G → Names ws) → item ws ≡ got r → Reads item_then F ws r

  expect-sound : (w : Word) → Sound (expect w) (λ u ws. w ∷ ws) (λ u. Unit {0})
  unfolding expect
  expect-sound w ws r p e =
      let t = passed (begins w ws) _ ws r e in
      rw (← (got_same _ _ t.1)) (record { same = begins-true w ws t.0; formed = λ g. tt; behind = λ g. names-behind ws (p g) })

  named-sound : (passes : List ℕ → Bool) → Sound (named passes) (λ r ws. name r ∷ ws) (λ r. Proper (name r))
  named-sound passes ws r p e =
      let s = (named-got passes ws r e).0 in
      let q : G → Names (name r.value ∷ r.rest) = λ g. rw s at (p g) in
      record { same = s; formed = λ g. (q g).0; behind = λ g. (q g).1 }

  name-sound : Sound a_name (λ r ws. name r ∷ ws) (λ r. Proper (name r))
  name-sound = named-sound (λ r. true)

  digits-sound : Sound digits (λ r ws. name r ∷ ws) Digits
  digits-sound ws r p e =
      let q = named-sound (every is_digit) ws r p e in
      record { same = q.same; formed = λ g. ((q.formed g).0, (named-got (every is_digit) ws r e).1); behind = q.behind }

  -- one step of a reader, in front of the others
  step : {A B C : Type 0} {item : List Word → Parsed A} {item_then : A → List Word → List Word} {F : A → Type 0} → Sound item item_then F
      → (ws : List Word) → (G → Names ws) → (f : Read A → Parsed B) (b : Read B) → (item ws >>= f) ≡ got b
      → ((r : Read A) → Reads item_then F ws r → f r ≡ got b → C) → C
  step {item = item} s ws p f b e k = let t = bind_got (item ws) f b e in k t.0 (s ws t.0 p t.1) t.2

  many-sound : {A : Type 0} (w : Word) (item : List Word → Parsed A) (item_then : A → List Word → List Word) (F : A → Type 0)
      → Sound item item_then F → (most : ℕ) → Sound (many w item most) (all_then item_then) (λ l. Every F l)
  unfolding many all_then choose
  many-sound w item item_then F f zero ws r p e = rw (← (got_same _ _ e)) (record { same = refl; formed = λ g. tt; behind = p })
  many-sound w item item_then F f (suc most) ws r p e = at (begins w ws) e (many-sound w item item_then F f most)
    where
      at : (b : Bool)
          → choose b (item ws >>= (λ a. many w item most a.rest >>= (λ l. gives (a.value ∷ l.value) l.rest))) (gives [] ws) ≡ got r
          → Sound (many w item most) (all_then item_then) (λ l. Every F l) → Reads (all_then item_then) (λ l. Every F l) ws r
      at false e s = rw (← (got_same _ _ e)) (record { same = refl; formed = λ g. tt; behind = p })
      at true e s =
          step f ws p _ _ e λ a q1 e1.
          step s a.rest q1.behind _ _ e1 λ l q2 e2.
          rw (← (got_same _ _ e2))
          (record { same = cc; formed = λ g. (q1.formed g, q2.formed g); behind = q2.behind })

  -- an item that stands behind its word
  abbrev Behind : {A : Type 0} → Word → (List Word → Parsed A) → (A → List Word → List Word) → (A → Type 0) → Type 0
  Behind {A} w item item_then F = (ws : List Word) (r : Read A) → (G → Names ws) → item ws ≡ got r → Reads item_then F (w ∷ ws) r

  optional-sound : {A : Type 0} (w : Word) (item : List Word → Parsed A) (absent : A) (item_then : A → List Word → List Word)
      (F : A → Type 0) → Behind w item item_then F → ((ws : List Word) → item_then absent ws ≡ ws) → F absent
      → Sound (optional w item absent) item_then F
  unfolding optional choose
  optional-sound w item absent item_then F there missing a ws r p e = at (begins w ws) refl e
    where
      at : (b : Bool) → begins w ws ≡ b → choose b (item (drop 1 ws)) (gives absent ws) ≡ got r → Reads item_then F ws r
      at true q e = rw (begins-true w ws q) (there (drop 1 ws) r (λ g. names-behind ws (p g)) e)
      at false q e = rw (← (got_same _ _ e)) (record { same = sym (missing ws); formed = λ g. a; behind = p })

  -- Labels.

  minus-sound : Sound (optional minus (gives true) false) (λ b ws. choose b (minus ∷ ws) ws) (λ b. Unit {0})
  unfolding choose
  minus-sound = optional-sound minus (gives true) false _ _ there (λ ws. refl) tt
    where
      there : Behind minus (gives true) (λ b ws. choose b (minus ∷ ws) ws) (λ b. Unit {0})
      there ws r p e = rw (← (got_same _ _ e)) (record { same = refl; formed = λ g. tt; behind = p })

  integer-sound : Sound integer integer_then FormedInteger
  unfolding integer integer_then
  integer-sound ws r p e =
      step minus-sound ws p _ _ e λ negative q1 e1.
      step digits-sound negative.rest q1.behind _ _ e1 λ ds q2 e2.
      rw (← (got_same _ _ e2))
      (record { same = cc; formed = q2.formed; behind = q2.behind })

  next-sound : Sound next_integer next_then FormedInteger
  unfolding next_integer next_then
  next-sound ws r p e =
      step (expect-sound colon) ws p _ _ e λ a q1 e1.
      let q2 = integer-sound a.rest r q1.behind e1 in
      record { same = cc; formed = q2.formed; behind = q2.behind }

  list-sound : Sound list list_then (λ l. Every FormedInteger l)
  unfolding list list_then integers choose
  list-sound ws r p e = at (begins empty_word ws) refl e
    where
      at : (b : Bool) → begins empty_word ws ≡ b → choose b (gives [] (drop 1 ws)) (integers ws) ≡ got r
          → Reads list_then (λ l. Every FormedInteger l) ws r
      at true q e =
          rw (← (got_same _ _ e)) (record { same = begins-true empty_word ws q; formed = λ g. tt; behind = λ g. names-behind ws (p g) })
      at false q e =
          step integer-sound ws p _ _ e λ x q1 e1.
          step (many-sound colon next_integer next_then FormedInteger next-sound (length x.rest)) x.rest q1.behind _ _ e1 λ l q2 e2.
          rw (← (got_same _ _ e2))
          (record { same = cc; formed = λ g. (q1.formed g, q2.formed g); behind = q2.behind })

  mark-sound : Sound (optional hash a_mark 0) mark_then (λ m. m ≤ 5)
  unfolding a_mark mark_then
  mark-sound = optional-sound hash a_mark 0 _ _ there (λ ws. refl) (omega arith)
    where
      there : Behind hash a_mark mark_then (λ m. m ≤ 5)
      there ws r p e =
          let t = bind_got (named (λ r. known r marks) ws) _ r e in
          let q = named-sound (λ r. known r marks) ws t.0 p t.1 in
          let k = known_lt t.0.value marks (named-got (λ r. known r marks) ws t.0 t.1).1 in
          rw (← (got_same _ _ t.2))
          (record { same = cc (index_at t.0.value marks k); formed = λ g. unfold marks in omega arith; behind = q.behind })

  label-sound : Sound label label_then FormedLabel
  unfolding label label_then
  label-sound ws r p e =
      step list-sound ws p _ _ e λ l q1 e1.
      step mark-sound l.rest q1.behind _ _ e1 λ m q2 e2.
      rw (← (got_same _ _ e2))
      (record { same = cc; formed = λ g. record { atoms = q1.formed g; mark = q2.formed g }; behind = q2.behind })

  -- Positions.

  fraction_sound : Sound (optional dot a_fraction none) (maybe_then fraction_then) (λ o. Maybe Digits o)
  unfolding a_fraction fraction_then maybe_then
  fraction_sound = optional-sound dot a_fraction none _ _ there (λ ws. refl) tt
    where
      there : Behind dot a_fraction (maybe_then fraction_then) (λ o. Maybe Digits o)
      there ws r p e =
          step digits-sound ws p _ _ e λ ds q1 e1.
          rw (← (got_same _ _ e1))
          (record { same = cc; formed = q1.formed; behind = q1.behind })

  coordinate-sound : Sound coordinate coordinate_then FormedCoordinate
  unfolding coordinate coordinate_then
  coordinate-sound ws r p e =
      step integer-sound ws p _ _ e λ x q1 e1.
      step fraction_sound x.rest q1.behind _ _ e1 λ f q2 e2.
      rw (← (got_same _ _ e2))
      (record { same = cc; formed = λ g. record { integer = q1.formed g; fraction = q2.formed g }; behind = q2.behind })

  position-sound : Sound position (maybe_then position_then) (λ o. Maybe FormedPosition o)
  unfolding a_position position_then maybe_then
  position-sound = optional-sound less a_position none _ _ there (λ ws. refl) tt
    where
      there : Behind less a_position (maybe_then position_then) (λ o. Maybe FormedPosition o)
      there ws r p e =
          step coordinate-sound ws p _ _ e λ x q1 e1.
          step (expect-sound comma) x.rest q1.behind _ _ e1 λ a q2 e2.
          step coordinate-sound a.rest q2.behind _ _ e2 λ y q3 e3.
          step (expect-sound greater) y.rest q3.behind _ _ e3 λ b q4 e4.
          rw (← (got_same _ _ e4))
          (record { same = cc; formed = λ g. record { across = q1.formed g; down = q3.formed g }; behind = q4.behind })

  -- Items.

  root-sound : Sound (optional left a_root 0) root_then (λ r. r ≤ 1)
  unfolding a_root root_then
  root-sound = optional-sound left a_root 0 _ _ there (λ ws. refl) (omega arith)
    where
      there : Behind left a_root root_then (λ r. r ≤ 1)
      there ws r p e =
          step (expect-sound root_word) ws p _ _ e λ a q1 e1.
          step (expect-sound right) a.rest q1.behind _ _ e1 λ b q2 e2.
          rw (← (got_same _ _ e2)) (record { same = cc; formed = λ g. omega arith; behind = q2.behind })

  node-sound : Sound node node_then FormedNode
  unfolding node node_body node_then
  node-sound ws r p e =
      step (expect-sound left) ws p _ _ e λ a q1 e1.
      step name-sound a.rest q1.behind _ _ e1 λ id q2 e2.
      step root-sound id.rest q2.behind _ _ e2 λ o q3 e3.
      step (expect-sound comma) o.rest q3.behind _ _ e3 λ b q4 e4.
      step label-sound b.rest q4.behind _ _ e4 λ l q5 e5.
      step position-sound l.rest q5.behind _ _ e5 λ x q6 e6.
      step (expect-sound right) x.rest q6.behind _ _ e6 λ c q7 e7.
      step position-sound c.rest q7.behind _ _ e7 λ y q8 e8.
      rw (← (got_same _ _ e8))
      (record {
        same = cc;
        formed = λ g.
            record { id = q2.formed g; root = q3.formed g; label = q5.formed g; position = q6.formed g; behind = q8.formed g };
        behind = q8.behind;
      })

  edge-sound : Sound edge edge_then FormedEdge
  unfolding edge edge_body edge_then
  edge-sound ws r p e =
      step (expect-sound left) ws p _ _ e λ a q1 e1.
      step name-sound a.rest q1.behind _ _ e1 λ id q2 e2.
      step (expect-sound comma) id.rest q2.behind _ _ e2 λ b q3 e3.
      step name-sound b.rest q3.behind _ _ e3 λ s q4 e4.
      step (expect-sound comma) s.rest q4.behind _ _ e4 λ c q5 e5.
      step name-sound c.rest q5.behind _ _ e5 λ t q6 e6.
      step (expect-sound comma) t.rest q6.behind _ _ e6 λ d q7 e7.
      step label-sound d.rest q7.behind _ _ e7 λ l q8 e8.
      step (expect-sound right) l.rest q8.behind _ _ e8 λ x q9 e9.
      rw (← (got_same _ _ e9))
      (record {
        same = cc;
        formed = λ g. record { id = q2.formed g; source = q4.formed g; target = q6.formed g; label = q8.formed g };
        behind = q9.behind;
      })

  -- The graph.

  graph-sound : (ws : List Word) (r : Read Listed) → (G → Names ws) → graph ws ≡ got r
      → (G → Formed r.value) × (ws ≡ graph_words r.value) × (r.rest ≡ [])
  unfolding graph graph_words ended
  graph-sound ws r p e =
      step (expect-sound opening) ws p _ _ e λ a q1 e1.
      step (many-sound left node node_then FormedNode node-sound (length a.rest)) a.rest q1.behind _ _ e1 λ nodes q2 e2.
      step (expect-sound bar) nodes.rest q2.behind _ _ e2 λ b q3 e3.
      step (many-sound left edge edge_then FormedEdge edge-sound (length b.rest)) b.rest q3.behind _ _ e3 λ edges q4 e4.
      step (expect-sound closing) edges.rest q4.behind _ _ e4 λ c q5 e5.
      let d = bind_got (ended c.rest) _ r e5 in
      let t = passed (is_empty c.rest) _ _ d.0 d.1 in
      let z = empty-true c.rest t.0 in
      rw (← (got_same _ _ d.2), ← (got_same _ _ t.1)) (λ g. record { nodes = q2.formed g; edges = q4.formed g }, cc, z)

-- a text that is read is in the grammar, and nothing is left of it
pub graph-found : (bs : List ℕ) (r : Read Listed) → graph (words bs) ≡ got r
    → Formed r.value × (words bs ≡ graph_words r.value) × (r.rest ≡ [])
graph-found bs r e =
    let t = graph-sound (Unit {0}) (words bs) r (λ g. words-named between bs (unfold last in tt)) e in
    (t.0 tt, t.1, t.2)

-- a text is read as g exactly where its words are those of g by the grammar
pub graph-exact : (bs : List ℕ) (g : Listed) → (graph (words bs) ≡ gives g []) ↔ (Formed g × (words bs ≡ graph_words g))
graph-exact bs g = (
  λ e. let t = graph-found bs _ e in (t.0, t.1),
  λ t. ap graph t.1 ∙ graph-read g t.0,
)

-- For loops of code: an item that is read has words.

shorter : {A : Type 0} {item : List Word → Parsed A} {item_then : A → List Word → List Word} {F : A → Type 0} → Sound ⊥ item item_then F
    → Longer item_then → (ws : List Word) (r : Read A) → item ws ≡ got r → length r.rest < length ws
shorter s longer ws r e = rw (s ws r (λ g. absurd g) e).same (longer r.value r.rest)

pub next-shorter : (ws : List Word) (r : Read Integer) → next_integer ws ≡ got r → length r.rest < length ws
next-shorter = shorter (next-sound ⊥) next-longer

pub node-shorter : (ws : List Word) (r : Read NodeItem) → node ws ≡ got r → length r.rest < length ws
node-shorter = shorter (node-sound ⊥) node-longer

pub edge-shorter : (ws : List Word) (r : Read EdgeItem) → edge ws ≡ got r → length r.rest < length ws
edge-shorter = shorter (edge-sound ⊥) edge-longer
