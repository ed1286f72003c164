-- Live slots under their numbers pass the checks of an import, and stand for what the slots hold; a host that is closed up is legal, and
-- closing it up again changes nothing. Rests on Text, Closed, Formed, Decimals and Names, and on the laws' Layout and Hosts.
use Rattle.std.proofs.Math.Path.{◌≡◌, refl, ap}
use Rattle.std.proofs.Common.{sym, subst, ◌∙◌, le-leb, lt-ltb, le-ltb, length-append}
use Rattle.std.specs.Prelude.{Bool, true, get_or, replicate}
use Rattle.std.proofs.Math.Bool.{false, not}
use mathlib.Core.List.{List, [], ◌∷◌, ◌++◌, map, map-id}
use Prim.Native.Nat.{ℕ, zero, suc, ◌+◌, ◌-◌, ◌<◌, ◌≤◌}
use native.Mathlib.Omega.{arith}
use Rattle.std.proofs.Math.ListN.{length, length-map}
use Rattle.std.proofs.lemmas.List.{length-replicate}
use Rattle.meaning.specs.Basics.{clauses, every}
use Rattle.meaning.specs.Layout.{Slot, free, live, is_live, live_at, Node, Edge, Host, is_node_mark, is_edge_mark}
use Rattle.meaning.specs.declared.Layout.{Layout}
use Rattle.meaning.specs.Laws.Tests.{both_of, both_true, choose_true, choose_false, same_refl}
use Rattle.meaning.specs.Laws.Every.{Every, Every-of, Every-then}
use Rattle.meaning.specs.Laws.Slots.{OnLive}
use Rattle.meaning.specs.Laws.Attached.{Attached}
use Rattle.laws.specs.Layout.{Words}
use Rattle.laws.specs.Hosts.{LegalNode, LegalEdge, LegalHost, node_mark_le, edge_mark_le}
use Rattle.writing.specs.Words.{decimal}
use Rattle.text.specs.Integers.{integer_of, is_atom, atom}
use Rattle.text.specs.Grammar.{index, known}
use Rattle.text.specs.Text.{ids, to_node, to_edge, filled, label_of, node_item, edge_item, numbered, listed, apart, ends_known, names_hold, label_fits, labels_fit, fits}
use Rattle.text.specs.Closed.{lives, rank, moved, closed}
use Rattle.text.specs.Formed.{FormedInteger, FormedLabel, FormedNode, FormedEdge, Formed}
use Rattle.text.proofs.Decimals.{decimal-apart, decimal_proper, integer-formed, atom-integer}
use Rattle.text.proofs.Names.{at_most_exact}

-- each live slot of the table holds something of which P holds
abbrev pub AllLive : {A : Type 0} → (A → Type 0) → List (Slot A) → Type 0
AllLive P slots = (i : ℕ) → OnLive P (get_or slots i free)

-- Labels.

atoms-back : (l : List ℕ) → Words l → map atom (map integer_of l) ≡ l
atoms-back [] h = refl
atoms-back (w ∷ l) h = rw ((atom-integer w (h 0)).1, atoms-back l (λ i. h (suc i)))

atoms-fit : (l : List ℕ) → Words l → every is_atom (map integer_of l) ≡ true
unfolding every
atoms-fit [] h = refl
atoms-fit (w ∷ l) h = both_of _ _ (atom-integer w (h 0)).0 (atoms-fit l (λ i. h (suc i)))

label-formed : (mark : ℕ) (label : List ℕ) → mark ≤ 5 → FormedLabel (label_of mark label)
label-formed mark label k = record { atoms = atoms-formed label; mark = k }
  where
    atoms-formed : (l : List ℕ) → Every FormedInteger (map integer_of l)
    atoms-formed [] = tt
    atoms-formed (w ∷ l) = (integer-formed w, atoms-formed l)

label-fits : (is_mark : ℕ → Bool) (most mark : ℕ) (label : List ℕ) → is_mark mark ≡ true → length label ≤ most → Words label
    → label_fits is_mark most (label_of mark label) ≡ true
unfolding label_fits clauses
label-fits is_mark most mark label e k w =
    both_of _ _ e (both_of _ _ (rw (length-map label integer_of) (le-leb (length label) most k)) (both_of _ _ (atoms-fit label w) refl))

-- Live slots, as they are listed.

module _ {A B : Type 0} (item : ℕ → A → B) where
  numbered-all : (P : A → Type 0) (Q : B → Type 0) → ((i : ℕ) (a : A) → P a → Q (item i a))
      → (i : ℕ) (slots : List (Slot A)) → AllLive P slots → Every Q (numbered item i slots)
  unfolding numbered
  numbered-all P Q f i [] h = tt
  numbered-all P Q f i (free ∷ slots) h = numbered-all P Q f (suc i) slots (λ j. h (suc j))
  numbered-all P Q f i (live a ∷ slots) h = (f i a (h 0), numbered-all P Q f (suc i) slots (λ j. h (suc j)))

  numbered-map : {C : Type 0} (P : A → Type 0) (f : B → C) (g : A → C) → ((i : ℕ) (a : A) → P a → f (item i a) ≡ g a)
      → (i : ℕ) (slots : List (Slot A)) → AllLive P slots → map f (numbered item i slots) ≡ map g (lives slots)
  unfolding numbered lives
  numbered-map P f g e i [] h = refl
  numbered-map P f g e i (free ∷ slots) h = numbered-map P f g e (suc i) slots (λ j. h (suc j))
  numbered-map P f g e i (live a ∷ slots) h = rw (e i a (h 0), numbered-map P f g e (suc i) slots (λ j. h (suc j)))

  numbered-length : (i : ℕ) (slots : List (Slot A)) → length (numbered item i slots) ≡ length (lives slots)
  unfolding numbered lives
  numbered-length i [] = refl
  numbered-length i (free ∷ slots) = numbered-length (suc i) slots
  numbered-length i (live a ∷ slots) = ap suc (numbered-length (suc i) slots)

  -- the names of items whose names are their numbers
  numbered-names : (f : B → List ℕ) → ((i : ℕ) (a : A) → f (item i a) ≡ decimal i)
      → (i : ℕ) (slots : List (Slot A)) → map f (numbered item i slots) ≡ numbered (λ i a. decimal i) i slots
  unfolding numbered
  numbered-names f e i [] = refl
  numbered-names f e i (free ∷ slots) = numbered-names f e (suc i) slots
  numbered-names f e i (live a ∷ slots) = rw (e i a, numbered-names f e (suc i) slots)

-- Names that are numbers.

module _ {A : Type 0} where
  abbrev names : ℕ → List (Slot A) → List (List ℕ)
  names i slots = numbered (λ i a. decimal i) i slots

  index-from : (slots : List (Slot A)) (i j : ℕ) → live_at slots j ≡ true → index (decimal (i + j)) (names i slots) ≡ rank slots j
  unfolding numbered lives index is_live
  index-from [] i j e = let z : ◌≡◌ {A = ℕ} 0 1 = cc in absurd (omega arith)
  index-from (free ∷ slots) i zero e = let z : ◌≡◌ {A = ℕ} 0 1 = cc in absurd (omega arith)
  index-from (free ∷ slots) i (suc j) e =
      let z : i + suc j ≡ suc i + j = omega arith in
      subst (λ (n : ℕ). index (decimal n) (names (suc i) slots) ≡ rank slots j) (sym z) (index-from slots (suc i) j e)
  index-from (live a ∷ slots) i zero e = let z : i + 0 ≡ i = omega arith in rw z (choose_true _ _ _ (same_refl (decimal i)))
  index-from (live a ∷ slots) i (suc j) e =
      let z : i + suc j ≡ suc i + j = omega arith in
      choose_false _ _ _ (decimal-apart i (i + suc j) (λ q. omega arith))
      ∙ ap suc (subst (λ (n : ℕ). index (decimal n) (names (suc i) slots) ≡ rank slots j) (sym z) (index-from slots (suc i) j e))

  -- the place of a live slot's name is its rank
  index_live : (slots : List (Slot A)) (j : ℕ) → live_at slots j ≡ true → index (decimal j) (names 0 slots) ≡ rank slots j
  index_live slots j e = let z : 0 + j ≡ j = omega arith in rw z at (index-from slots 0 j e)

  rank_lt : (slots : List (Slot A)) (j : ℕ) → live_at slots j ≡ true → rank slots j < length (lives slots)
  unfolding lives is_live
  rank_lt [] j e = let z : ◌≡◌ {A = ℕ} 0 1 = cc in absurd (omega arith)
  rank_lt (free ∷ slots) zero e = let z : ◌≡◌ {A = ℕ} 0 1 = cc in absurd (omega arith)
  rank_lt (free ∷ slots) (suc j) e = rank_lt slots j e
  rank_lt (live a ∷ slots) zero e = omega arith
  rank_lt (live a ∷ slots) (suc j) e = let h = rank_lt slots j e in omega arith

  rank_le : (slots : List (Slot A)) (j : ℕ) → rank slots j ≤ j
  unfolding lives
  rank_le [] zero = omega arith
  rank_le [] (suc j) = omega arith
  rank_le (s ∷ slots) zero = omega arith
  rank_le (free ∷ slots) (suc j) = let h = rank_le slots j in omega arith
  rank_le (live a ∷ slots) (suc j) = let h = rank_le slots j in omega arith

  known-live : (slots : List (Slot A)) (j : ℕ) → live_at slots j ≡ true → known (decimal j) (names 0 slots) ≡ true
  unfolding known
  known-live slots j e =
      rw (index_live slots j e, numbered-length (λ (i : ℕ) (a : A). decimal i) 0 slots) (lt-ltb _ _ (rank_lt slots j e))

  index-absent : (slots : List (Slot A)) (k i : ℕ) → k < i → index (decimal k) (names i slots) ≡ length (names i slots)
  unfolding numbered index
  index-absent [] k i h = refl
  index-absent (free ∷ slots) k i h = index-absent slots k (suc i) (omega arith)
  index-absent (live a ∷ slots) k i h =
      choose_false _ _ _ (decimal-apart i k (λ q. omega arith)) ∙ ap suc (index-absent slots k (suc i) (omega arith))

  names_apart : (i : ℕ) (slots : List (Slot A)) → apart (names i slots) ≡ true
  unfolding numbered apart known
  names_apart i [] = refl
  names_apart i (free ∷ slots) = names_apart (suc i) slots
  names_apart i (live a ∷ slots) =
      let l : List (List ℕ) = names (suc i) slots in
      let q : known (decimal i) l ≡ false = rw (index-absent slots i (suc i) (omega arith)) (le-ltb (length l) (length l) (omega arith)) in
      both_of _ _ (ap not q) (names_apart (suc i) slots)

-- What is listed is in the grammar, and passes the checks of an import.

module _ (L : Layout) (h : Host) (legal : LegalHost L h) where
  pub listed-formed : Formed (listed h.nodes h.edges)
  unfolding node_item edge_item
  listed-formed = record {
    nodes = numbered-all node_item (LegalNode L) FormedNode
        (λ i n k. record {
          id = decimal_proper i;
          root = k.root;
          label = label-formed n.mark n.label (omega (arith, node_mark_le n.mark k.mark));
          position = tt;
          behind = tt;
        })
        0 h.nodes legal.nodes;
    edges = numbered-all edge_item (LegalEdge L) FormedEdge
        (λ i e k. record {
          id = decimal_proper i;
          source = decimal_proper e.source;
          target = decimal_proper e.target;
          label = label-formed e.mark e.label (edge_mark_le e.mark k.mark);
        })
        0 h.edges legal.edges;
  }

  node-names : ids (numbered node_item 0 h.nodes) ≡ names 0 h.nodes
  unfolding node_item
  node-names = numbered-names node_item (λ n. n.id) (λ i n. refl) 0 h.nodes

  edge-names : map (λ e. e.id) (numbered edge_item 0 h.edges) ≡ names 0 h.edges
  unfolding edge_item
  edge-names = numbered-names edge_item (λ e. e.id) (λ i e. refl) 0 h.edges

  pub listed-names : names_hold (listed h.nodes h.edges) ≡ true
  unfolding names_hold clauses edge_item
  listed-names =
      rw (node-names, edge-names)
      (both_of _ _ (names_apart 0 h.nodes)
      (both_of _ _ (names_apart 0 h.edges)
      (both_of _ _
      (Every-of _ _
      (numbered-all edge_item (Attached h.nodes) (λ e. ends_known (names 0 h.nodes) e ≡ true)
      (λ i e k. both_of _ _ (known-live h.nodes e.source k.source) (known-live h.nodes e.target k.target))
      0 h.edges legal.ends))
      refl)))

  listed-labels : labels_fit L.atoms (listed h.nodes h.edges) ≡ true
  unfolding labels_fit node_item edge_item
  listed-labels =
      both_of _ _
      (Every-of _ _
      (numbered-all node_item (LegalNode L) (λ n. label_fits is_node_mark L.atoms n.label ≡ true)
      (λ i n k. label-fits is_node_mark L.atoms n.mark n.label k.mark k.size k.words) 0 h.nodes legal.nodes))
      (Every-of _ _
      (numbered-all edge_item (LegalEdge L) (λ e. label_fits is_edge_mark L.atoms e.label ≡ true)
      (λ i e k. label-fits is_edge_mark L.atoms e.mark e.label k.mark k.size k.words) 0 h.edges legal.edges))

  -- it fits exactly where there are slots for the live ones

  pub listed-fits : (m n : ℕ) → length (lives h.nodes) ≤ m → length (lives h.edges) ≤ n
      → fits L m n (listed h.nodes h.edges) ≡ true
  unfolding fits
  listed-fits m n j k =
      both_of _ _ listed-labels
      ((at_most_exact m n _).1 (rw (numbered-length node_item 0 h.nodes) j, rw (numbered-length edge_item 0 h.edges) k))

  pub fits-listed : (m n : ℕ) → fits L m n (listed h.nodes h.edges) ≡ true
      → (length (lives h.nodes) ≤ m) × (length (lives h.edges) ≤ n)
  unfolding fits
  fits-listed m n e =
      let t = (at_most_exact m n (listed h.nodes h.edges)).0 (both_true _ _ e).1 in
      (rw (numbered-length node_item 0 h.nodes) at t.0, rw (numbered-length edge_item 0 h.edges) at t.1)

  -- the nodes and edges that it stands for

  pub listed-nodes : map to_node (numbered node_item 0 h.nodes) ≡ lives h.nodes
  unfolding to_node node_item
  listed-nodes =
      numbered-map node_item (LegalNode L) to_node (λ n. n) (λ i n k. rw (atoms-back n.label k.words)) 0 h.nodes legal.nodes
      ∙ map-id (lives h.nodes)

  pub listed-edges : map (to_edge (ids (numbered node_item 0 h.nodes))) (numbered edge_item 0 h.edges)
      ≡ map (moved h.nodes) (lives h.edges)
  unfolding to_edge edge_item moved
  listed-edges =
      rw node-names
      (numbered-map edge_item Fine (to_edge (names 0 h.nodes)) (moved h.nodes)
      (λ i e k. rw (
        index_live h.nodes e.source k.1.source,
        index_live h.nodes e.target k.1.target,
        atoms-back e.label k.0.words,
      ))
      0 h.edges (λ i. and (get_or h.edges i free) (legal.edges i) (legal.ends i)))
    where
      Fine : Edge → Type 0
      Fine e = LegalEdge L e × Attached h.nodes e

      and : (s : Slot Edge) → OnLive (LegalEdge L) s → OnLive (Attached h.nodes) s → OnLive Fine s
      and free a b = tt
      and (live e) a b = (a, b)

-- Tables whose first slots are the live ones.

module _ {A : Type 0} where
  front-lives : (l : List A) (n : ℕ) → lives (map live l ++ replicate n free) ≡ l
  unfolding lives
  front-lives [] zero = refl
  front-lives [] (suc n) = front-lives [] n
  front-lives (a ∷ l) n = ap (λ (m : List A). a ∷ m) (front-lives l n)

  pub lives-filled : (n : ℕ) (l : List A) → lives (filled n l) ≡ l
  unfolding filled
  lives-filled n l = front-lives l (n - length l)

  front-rank : (l : List A) (r : List (Slot A)) (j : ℕ) → j < length l → rank (map live l ++ r) j ≡ j
  unfolding lives
  front-rank [] r j h = absurd (omega arith)
  front-rank (a ∷ l) r zero h = refl
  front-rank (a ∷ l) r (suc j) h = ap suc (front-rank l r j (omega arith))

  rank-filled : (n : ℕ) (l : List A) (j : ℕ) → j < length l → rank (filled n l) j ≡ j
  unfolding filled
  rank-filled n l j h = front-rank l (replicate (n - length l) free) j h

  front-live : (l : List A) (r : List (Slot A)) (j : ℕ) → j < length l → live_at (map live l ++ r) j ≡ true
  unfolding is_live
  front-live [] r j h = absurd (omega arith)
  front-live (a ∷ l) r zero h = refl
  front-live (a ∷ l) r (suc j) h = front-live l r j (omega arith)

  live-filled : (n : ℕ) (l : List A) (j : ℕ) → j < length l → live_at (filled n l) j ≡ true
  unfolding filled
  live-filled n l j h = front-live l (replicate (n - length l) free) j h

  pub length-filled : (n : ℕ) (l : List A) → length l ≤ n → length (filled n l) ≡ n
  unfolding filled
  length-filled n l h = simp (length-append, length-map, length-replicate) (omega arith)

  module _ (P : A → Type 0) where
    front-all : (l : List A) (n : ℕ) → Every P l → AllLive P (map live l ++ replicate n free)
    front-all [] zero p i = tt
    front-all [] (suc n) p zero = tt
    front-all [] (suc n) p (suc i) = front-all [] n tt i
    front-all (a ∷ l) n p zero = p.0
    front-all (a ∷ l) n p (suc i) = front-all l n p.1 i

    filled-all : (n : ℕ) (l : List A) → Every P l → AllLive P (filled n l)
    unfolding filled
    filled-all n l p i = front-all l (n - length l) p i

    lives_all : (slots : List (Slot A)) → AllLive P slots → Every P (lives slots)
    unfolding lives
    lives_all [] h = tt
    lives_all (free ∷ slots) h = lives_all slots (λ i. h (suc i))
    lives_all (live a ∷ slots) h = (h 0, lives_all slots (λ i. h (suc i)))

pub every_map : {A B : Type 0} (P : A → Type 0) (Q : B → Type 0) (f : A → B) → ((a : A) → P a → Q (f a))
    → (l : List A) → Every P l → Every Q (map f l)
every_map P Q f g [] p = tt
every_map P Q f g (a ∷ l) p = (g a p.0, every_map P Q f g l p.1)

every-same : {A : Type 0} (f : A → A) (l : List A) → Every (λ a. f a ≡ a) l → map f l ≡ l
every-same f [] p = refl
every-same f (a ∷ l) p = rw (p.0, every-same f l p.1)

-- both ends are below a number
abbrev pub Below : ℕ → Edge → Type 0
Below n e = (e.source < n) × (e.target < n)

module _ (m n : ℕ) (nodes : List Node) (edges : List Edge) (below : Every (Below (length nodes)) edges) where
  abbrev front : Host
  front = record { nodes = filled m nodes; edges = filled n edges }

  pub filled-legal : (L : Layout) → Every (LegalNode L) nodes → Every (LegalEdge L) edges → LegalHost L front
  filled-legal L p q = record {
    nodes = filled-all (LegalNode L) m nodes p;
    edges = filled-all (LegalEdge L) n edges q;
    ends = filled-all (Attached (filled m nodes)) n edges
        (Every-then (Below (length nodes)) (Attached (filled m nodes))
        (λ e k. record { source = live-filled m nodes e.source k.0; target = live-filled m nodes e.target k.1 })
        edges below);
  }

  -- closing them up changes nothing
  pub filled-closed : closed m n front ≡ front
  unfolding moved
  filled-closed =
      rw (
        lives-filled m nodes,
        lives-filled n edges,
        every-same (moved (filled m nodes)) edges
            (Every-then (Below (length nodes)) (λ e. moved (filled m nodes) e ≡ e)
            (λ e k. rw (rank-filled m nodes e.source k.0, rank-filled m nodes e.target k.1)) edges below),
      )

-- A host that is closed up.

module _ (L : Layout) (h : Host) (legal : LegalHost L h) (m n : ℕ) where
  moved-below : Every (Below (length (lives h.nodes))) (map (moved h.nodes) (lives h.edges))
  unfolding moved
  moved-below =
      every_map (Attached h.nodes) (Below (length (lives h.nodes))) (moved h.nodes)
      (λ e k. (rank_lt h.nodes e.source k.source, rank_lt h.nodes e.target k.target))
      (lives h.edges) (lives_all (Attached h.nodes) h.edges legal.ends)

  moved-legal : Every (LegalEdge L) (map (moved h.nodes) (lives h.edges))
  unfolding moved
  moved-legal =
      every_map (LegalEdge L) (LegalEdge L) (moved h.nodes)
      (λ e k. record {
        mark = k.mark;
        source = omega (arith, k.source, rank_le h.nodes e.source);
        target = omega (arith, k.target, rank_le h.nodes e.target);
        size = k.size;
        words = k.words;
      })
      (lives h.edges) (lives_all (LegalEdge L) h.edges legal.edges)

  pub closed-legal : LegalHost L (closed m n h)
  closed-legal = filled-legal m n _ _ moved-below L (lives_all (LegalNode L) h.nodes legal.nodes) moved-legal

  pub closed-closed : closed m n (closed m n h) ≡ closed m n h
  closed-closed = filled-closed m n _ _ moved-below
