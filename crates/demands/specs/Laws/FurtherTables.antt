-- Further free slots as bytes: zeros behind a table are read and written as free slots, and the layout is kept with them.
-- Rests on Laws/Further and on laws' Pieces and Layout.
use Rattle.std.specs.Prelude.{ℕ, zero, suc, ◌+◌, ◌-◌, ◌*◌, ◌/◌, ◌%◌, ◌<◌, ◌≤◌, ◌≡◌, refl, Bool, true, List, [], ◌∷◌, ◌++◌, map, length, get_or}
use Rattle.std.proofs.Common.{sym, ◌∙◌, ap, append_assoc, suc-mul, zero-mul, div-mul-le_self}
use Rattle.std.proofs.Math.Path.{fun_ext}
use Rattle.std.proofs.lemmas.List.{map-append, length-replicate, replicate-append-replicate}
use native.Mathlib.Omega.{arith}
use Rattle.std.proofs.Math.ListN.{replicate}
use Rattle.meaning.specs.Basics.{every, concat, padded}
use Rattle.meaning.specs.Layout.{Slot, free, Node, Edge, node_length, edge_length, cut, read_node, read_edge, read_nodes, read_edges, node_bytes, edge_bytes, write_node, write_edge, write_nodes, write_edges, keeps_node, keeps_edge, keeps_layout}
use Rattle.meaning.specs.Laws.Tests.{both_true, both_of, every_append, zeros_of}
use Rattle.laws.specs.Pieces.{Wide, Wide-pieces, concat_append, concat-cut, cut-concat}
use Rattle.laws.specs.Layout.{read_node_free, edge_of, read_edge-free, keeps_node-free, keeps_edge-free}
use Rattle.demands.specs.Laws.Further.{further, further-at}
use Rattle.meaning.specs.declared.Layout.{Layout}

-- Lists.

concat-zeros : (a w : ℕ) → concat {A = ℕ} (replicate a (replicate w 0)) ≡ replicate (a * w) 0
unfolding concat
concat-zeros zero w = rw zero-mul
concat-zeros (suc a) w =
    let e : w + a * w ≡ suc a * w = omega (arith, suc-mul a w) in
    ap (λ (m : List ℕ). replicate w 0 ++ m) (concat-zeros a w) ∙ replicate-append-replicate w (a * w) 0
    ∙ ap (λ (n : ℕ). replicate n 0) e

map-replicate : {A B : Type 0} (f : A → B) (n : ℕ) (a : A) → map f (replicate n a) ≡ replicate n (f a)
map-replicate f zero a = refl
map-replicate {A} {B} f (suc n) a = ap (λ (l : List B). f a ∷ l) (map-replicate f n a)

every-replicate : {A : Type 0} (f : A → Bool) (n : ℕ) (a : A) → f a ≡ true → every f (replicate n a) ≡ true
unfolding every
every-replicate f zero a e = refl
every-replicate f (suc n) a e = both_of _ _ e (every-replicate f n a e)

Wide-further : (w a : ℕ) (ls : List (List ℕ)) → Wide w ls → Wide w (ls ++ replicate a (replicate w 0))
Wide-further w zero [] h i k = absurd (omega arith)
Wide-further w (suc a) [] h zero k = length-replicate w 0
Wide-further w (suc a) [] h (suc i) k = Wide-further w a [] h i (omega arith)
Wide-further w a (l ∷ ls) h zero k = h 0 (omega arith)
Wide-further w a (l ∷ ls) h (suc i) k = Wide-further w a ls (λ j g. h (suc j) (omega arith)) i (omega arith)

pub cut-further : (w a : ℕ) (bs : List ℕ) → 0 < w → length bs % w ≡ 0
    → cut w (bs ++ replicate (a * w) 0) ≡ cut w bs ++ replicate a (replicate w 0)
cut-further w a bs p e =
    let whole = concat-cut w bs e in
    let wide : Wide w (cut w bs) = Wide-pieces w (length bs / w) bs (div-mul-le_self (length bs) w) in
    let split : concat (cut w bs ++ replicate a (replicate w 0)) ≡ bs ++ replicate (a * w) 0 =
    concat_append (cut w bs) (replicate a (replicate w 0)) ∙ (λ i. whole i ++ concat-zeros a w i) in
    ap (cut w) (sym split) ∙ cut-concat w (cut w bs ++ replicate a (replicate w 0)) p (Wide-further w a (cut w bs) wide)

read-further : {A : Type 0} (w a : ℕ) (read : List ℕ → Slot A) (bs : List ℕ) → 0 < w → length bs % w ≡ 0
    → read (replicate w 0) ≡ free → map read (cut w (bs ++ replicate (a * w) 0)) ≡ further a (map read (cut w bs))
read-further {A} w a read bs p e z =
    ap (map read) (cut-further w a bs p e) ∙ map-append read (cut w bs) (replicate a (replicate w 0))
    ∙ ap (λ (l : List (Slot A)). map read (cut w bs) ++ l) (map-replicate read a (replicate w 0) ∙ ap (replicate a) z)

write_further : {A : Type 0} (w a : ℕ) (write : Slot A → List ℕ) (l : List (Slot A)) → write free ≡ replicate w 0
    → concat (map write (further a l)) ≡ concat (map write l) ++ replicate (a * w) 0
write_further w a write l z =
    ap concat (map-append write l (replicate a free)) ∙ concat_append (map write l) (map write (replicate a free))
    ∙ ap (λ (m : List (List ℕ)). concat (map write l) ++ concat m) (map-replicate write a free ∙ ap (replicate a) z)
    ∙ ap (λ (m : List ℕ). concat (map write l) ++ m) (concat-zeros a w)

-- a slot of zeros
zero-front : (w : ℕ) → ◌≡◌ {A = ℕ} (get_or (replicate w 0) 0 0) 0
zero-front zero = refl
zero-front (suc w) = refl

module _ (L : Layout) (a : ℕ) where
  pub read_nodes-further : (bs : List ℕ) → length bs % node_length L ≡ 0
      → read_nodes L (bs ++ replicate (a * node_length L) 0) ≡ further a (read_nodes L bs)
  read_nodes-further bs e =
      read-further (node_length L) a read_node bs (omega arith) e (read_node_free _ (zero-front (node_length L)))

  pub read_edges-further : (bs : List ℕ) → length bs % edge_length L ≡ 0
      → read_edges L (bs ++ replicate (a * edge_length L) 0) ≡ further a (read_edges L bs)
  read_edges-further bs e =
      read-further (edge_length L) a (read_edge L) bs (omega arith) e (read_edge-free L _ (zero-front (edge_length L)))

  pub write_nodes-further : (l : List (Slot Node))
      → write_nodes L (further a l) ≡ write_nodes L l ++ replicate (a * node_length L) 0
  unfolding node_bytes
  write_nodes-further l =
      let e : node_length L - 0 ≡ node_length L = omega arith in
      write_further (node_length L) a (write_node L) l (ap (λ (n : ℕ). replicate n 0) e)

  pub write_edges-further : (l : List (Slot Edge))
      → write_edges L (further a l) ≡ write_edges L l ++ replicate (a * edge_length L) 0
  unfolding edge_bytes
  write_edges-further l =
      let e : edge_length L - 0 ≡ edge_length L = omega arith in
      write_further (edge_length L) a (write_edge L) l (ap (λ (n : ℕ). replicate n 0) e)

  -- The layout is kept.

  keeps_node-zeros : keeps_node L (replicate (node_length L) 0) ≡ true
  keeps_node-zeros = keeps_node-free L _ (zero-front (node_length L)) ∙ zeros_of (node_length L)

  keeps_edge-zeros : (ns : List (Slot Node)) → keeps_edge L ns (replicate (edge_length L) 0) ≡ true
  keeps_edge-zeros ns = keeps_edge-free L ns _ (zero-front (edge_length L)) ∙ zeros_of (edge_length L)

  -- an edge's ends are live nodes, with further free slots or without
  keeps_edge-further : (ns : List (Slot Node)) (b : List ℕ) → keeps_edge L (further a ns) b ≡ keeps_edge L ns b
  unfolding keeps_edge
  keeps_edge-further ns b = rw (further-at a ns (edge_of L b).source, further-at a ns (edge_of L b).target)

pub keeps_layout-further : (L : Layout) (a b : ℕ) (nodes edges : List ℕ) → length nodes % node_length L ≡ 0
    → length edges % edge_length L ≡ 0 → keeps_layout L nodes edges ≡ true
    → keeps_layout L (nodes ++ replicate (a * node_length L) 0) (edges ++ replicate (b * edge_length L) 0) ≡ true
unfolding keeps_layout
keeps_layout-further L a b nodes edges n e k =
    let t = both_true _ _ k in
    let old : every (keeps_edge L (further a (read_nodes L nodes))) (cut (edge_length L) edges) ≡ true =
    ap (λ (f : List ℕ → Bool). every f (cut (edge_length L) edges)) (fun_ext (keeps_edge-further L a (read_nodes L nodes))) ∙ t.1 in
    both_of _ _
    (rw (cut-further (node_length L) a nodes (omega arith) n, every_append)
    (both_of _ _ t.0 (every-replicate _ a _ (keeps_node-zeros L a))))
    (rw (read_nodes-further L a nodes n, cut-further (edge_length L) b edges (omega arith) e, every_append)
    (both_of _ _ old (every-replicate _ b _ (keeps_edge-zeros L b _))))

-- Longer journals.

pub padded-longer : (n m : ℕ) (l : List ℕ) → length l ≤ n → n ≤ m → padded m l ≡ padded n l ++ replicate (m - n) 0
padded-longer n m l h k =
    let e : m - length l ≡ n - length l + (m - n) = omega arith in
    ap (λ (j : ℕ). l ++ replicate j 0) e
    ∙ ap (λ (r : List ℕ). l ++ r) (sym (replicate-append-replicate (n - length l) (m - n) 0))
    ∙ sym (append_assoc l (replicate (n - length l) 0) (replicate (m - n) 0))
