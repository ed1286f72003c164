-- Tables and hosts at other counts of slots: what fits so many slots is there the same at each number, comes back from there, and is legal
-- there if it was legal; a table that grows has further free slots. Rests on the meaning's Carrying, on laws' Resized and Hosts, and on
-- demands' Laws/Alike and Laws/Further.
use Rattle.std.specs.Prelude.{ℕ, ◌+◌, ◌-◌, ◌^◌, ◌<◌, ◌≤◌, List, ◌++◌, length, drop, replicate}
use Rattle.std.proofs.Math.Path.{◌≡◌, refl, sym, ap}
use Rattle.std.proofs.Common.{◌∙◌, take_all, get_or-drop, ext_get_or}
use Rattle.std.proofs.Math.Bool.{true, not}
use native.Mathlib.Omega.{arith}
use Rattle.std.proofs.Math.Decide.{dec_lt}
use borrow.Author.Tests.{leb-true, le-leb}
use Rattle.std.proofs.Math.ListN.{get_or, get_or-eq_default}
use Rattle.meaning.specs.Layout.{Slot, free, live, is_live, live_at, Node, Edge, Host}
use Rattle.meaning.specs.Carrying.{label_fits, slots_fit, host_fits, resized}
use Rattle.meaning.specs.Laws.Tests.{both_true, both_of, every_of}
use Rattle.meaning.specs.Laws.Every.{Every-true, Every-at}
use Rattle.meaning.specs.Laws.Slots.{OnLive, live_at_lt}
use Rattle.meaning.specs.Laws.Attached.{Attached}
use Rattle.laws.specs.Hosts.{LegalNode, LegalEdge, LegalHost}
use Rattle.laws.specs.Resized.{length-resized, resized-at}
use Rattle.demands.specs.Laws.Alike.{Alike}
use Rattle.demands.specs.Laws.Further.{further}
use Rattle.meaning.specs.declared.Layout.{Layout}

-- One table.

-- a table that grows has further free slots
pub resized-further : {A : Type 0} (n : ℕ) (t : List (Slot A)) → length t ≤ n → resized n t ≡ further (n - length t) t
resized-further {A} n t h = ap (λ (l : List (Slot A)). l ++ replicate (n - length t) free) (take_all n t h)

-- slot i has one of n numbers, and its label has at most so many atoms
abbrev Within : {A : Type 0} → ℕ → (A → List ℕ) → ℕ → ℕ → A → Type 0
Within most label n i a = (i < n) × (length (label a) ≤ most)

-- each live slot of the table does
abbrev pub Fits : {A : Type 0} → ℕ → (A → List ℕ) → ℕ → List (Slot A) → Type 0
Fits most label n t = (i : ℕ) → OnLive (Within most label n i) (get_or t i free)

module _ {A : Type 0} (most : ℕ) (label : A → List ℕ) (n : ℕ) (t : List (Slot A)) where
  fits-true : slots_fit most label n t ≡ true → Fits most label n t
  unfolding slots_fit label_fits is_live
  fits-true e i =
      let u = both_true _ _ e in
      slot (get_or t i free)
      (Every-at (λ s. label_fits most label s ≡ true) free refl t (Every-true _ _ (λ s q. q) t u.0) i)
      (λ h. ap (λ (s : Slot A). not (is_live s)) (at-behind h)
      ∙ Every-at (λ s. not (is_live s) ≡ true) free refl (drop n t) (Every-true _ _ (λ s q. q) (drop n t) u.1) (i - n))
    where
      at-behind : n ≤ i → get_or t i free ≡ get_or (drop n t) (i - n) free
      at-behind h = let q : i ≡ n + (i - n) = omega arith in ap (λ (j : ℕ). get_or t j free) q ∙ sym (get_or-drop n t (i - n) free)

      slot : (s : Slot A) → label_fits most label s ≡ true → (n ≤ i → not (is_live s) ≡ true) → OnLive (Within most label n i) s
      slot free p q = tt
      slot (live a) p q = (at (dec_lt i n), leb-true _ _ p)
        where
          at : Dec (i < n) → i < n
          at (yes h) = h
          at (no h) = let r = q (omega arith) in let z : ◌≡◌ {A = ℕ} 0 1 = cc in absurd (omega arith)

  module _ (f : Fits most label n t) where
    fits-of : slots_fit most label n t ≡ true
    unfolding slots_fit label_fits is_live
    fits-of =
        both_of _ _ (every_of (label_fits most label) t free (λ i h. short i (get_or t i free) (f i)))
        (every_of (λ s. not (is_live s)) (drop n t) free
        (λ i h. ap (λ (s : Slot A). not (is_live s)) (get_or-drop n t i free) ∙ none (n + i) (omega arith) (get_or t (n + i) free) (f (n + i))))
      where
        short : (i : ℕ) (s : Slot A) → OnLive (Within most label n i) s → label_fits most label s ≡ true
        short i free q = refl
        short i (live a) q = le-leb _ _ q.1

        none : (i : ℕ) → n ≤ i → (s : Slot A) → OnLive (Within most label n i) s → not (is_live s) ≡ true
        none i h free q = refl
        none i h (live a) q = absurd (omega (arith, q.0))

    -- what is live has one of the n numbers
    live-within : (i : ℕ) → live_at t i ≡ true → i < n
    unfolding is_live
    live-within i e = at (get_or t i free) e (f i)
      where
        at : (s : Slot A) → is_live s ≡ true → OnLive (Within most label n i) s → i < n
        at free q o = let z : ◌≡◌ {A = ℕ} 0 1 = cc in absurd (omega arith)
        at (live a) q o = o.0

    -- the same slot at each number
    resized-slot : (i : ℕ) → get_or (resized n t) i free ≡ get_or t i free
    resized-slot i = at (dec_lt i n)
      where
        none : n ≤ i → (s : Slot A) → OnLive (Within most label n i) s → s ≡ free
        none h free o = refl
        none h (live a) o = absurd (omega (arith, o.0))

        at : Dec (i < n) → get_or (resized n t) i free ≡ get_or t i free
        at (yes h) = resized-at n t i h
        at (no h) =
            let l : length (resized n t) ≤ i = omega (arith, length-resized n t) in
            get_or-eq_default (resized n t) free l ∙ sym (none (omega arith) (get_or t i free) (f i))

    -- and back again
    pub resized-back : resized (length t) (resized n t) ≡ t
    resized-back = ext_get_or free (resized (length t) (resized n t)) t (length-resized (length t) (resized n t)) slot
      where
        slot : (i : ℕ) → i < length (resized (length t) (resized n t)) → get_or (resized (length t) (resized n t)) i free ≡ get_or t i free
        slot i h =
            resized-at (length t) (resized n t) i (omega (arith, length-resized (length t) (resized n t)))
            ∙ resized-slot i

-- Hosts.

abbrev pub node_label : Node → List ℕ
node_label a = a.label

abbrev pub edge_label : Edge → List ℕ
edge_label e = e.label

-- n node slots and m edge slots: the first of the host's, and free ones behind
abbrev pub resized_host : ℕ → ℕ → Host → Host
resized_host n m h = record { nodes = resized n h.nodes; edges = resized m h.edges }

pub record FitsHost (most n m : ℕ) (h : Host) : Type 0 where
  pub nodes : Fits most node_label n h.nodes
  pub edges : Fits most edge_label m h.edges

pub host-fits : (most n m : ℕ) (h : Host) → host_fits most n m h ≡ true → FitsHost most n m h
unfolding host_fits
host-fits most n m h e =
    let t = both_true _ _ e in
    record { nodes = fits-true most node_label n h.nodes t.0; edges = fits-true most edge_label m h.edges t.1 }

pub host-fits-of : (most n m : ℕ) (h : Host) → FitsHost most n m h → host_fits most n m h ≡ true
unfolding host_fits
host-fits-of most n m h f = both_of _ _ (fits-of most node_label n h.nodes f.nodes) (fits-of most edge_label m h.edges f.edges)

OnLive-both : {A : Type 0} (P Q R : A → Type 0) → ((a : A) → P a → Q a → R a) → (s : Slot A) → OnLive P s → OnLive Q s → OnLive R s
OnLive-both P Q R f free p q = tt
OnLive-both P Q R f (live a) p q = f a p q

-- a table of short labels fits as many slots
short-fits : {A : Type 0} (P : A → Type 0) (most : ℕ) (label : A → List ℕ) → ((a : A) → P a → length (label a) ≤ most) → (n : ℕ)
    (t : List (Slot A)) → length t ≤ n → ((i : ℕ) → OnLive P (get_or t i free)) → Fits most label n t
unfolding is_live
short-fits {A} P most label short n t l p i = slot (get_or t i free) (live_at_lt t i) (p i)
  where
    slot : (s : Slot A) → (is_live s ≡ true → i < length t) → OnLive P s → OnLive (Within most label n i) s
    slot free u q = tt
    slot (live a) u q = (omega (arith, u refl), short a q)

-- a legal host fits tables of as many slots whose labels hold as many atoms
pub legal-fits : (L : Layout) (h : Host) → LegalHost L h → (most n m : ℕ) → L.atoms ≤ most → length h.nodes ≤ n
    → length h.edges ≤ m → FitsHost most n m h
legal-fits L h legal most n m l p q =
    record {
      nodes = short-fits (LegalNode L) most node_label (λ a k. omega (arith, k.size)) n h.nodes p legal.nodes;
      edges = short-fits (LegalEdge L) most edge_label (λ e k. omega (arith, k.size)) m h.edges q legal.edges;
    }

module _ (most n m : ℕ) (h : Host) (f : FitsHost most n m h) where
  node-slot : (i : ℕ) → get_or (resized n h.nodes) i free ≡ get_or h.nodes i free
  node-slot = resized-slot most node_label n h.nodes f.nodes

  edge-slot : (i : ℕ) → get_or (resized m h.edges) i free ≡ get_or h.edges i free
  edge-slot = resized-slot most edge_label m h.edges f.edges

  -- a host that fits has the same at each slot number
  pub resized-alike : Alike h (resized_host n m h)
  resized-alike = record { nodes = λ i. sym (node-slot i); edges = λ i. sym (edge-slot i) }

-- a legal host that fits is legal there: the ends of its edges are live nodes, and so have numbers there
module _ (L M : Layout) (h : Host) (legal : LegalHost L h) (n m : ℕ) (numbered : n ≤ 256 ^ M.width) (f : FitsHost M.atoms n m h) where
  end-within : (x : ℕ) → live_at h.nodes x ≡ true → x < 256 ^ M.width
  end-within x e = omega (arith, numbered, live-within M.atoms node_label n h.nodes f.nodes x e)

  legal-there : (i : ℕ) (e : Edge) → LegalEdge L e × Attached h.nodes e → Within M.atoms edge_label m i e → LegalEdge M e
  legal-there i e k q =
      record {
        mark = k.0.mark;
        source = end-within e.source k.1.source;
        target = end-within e.target k.1.target;
        size = q.1;
        words = k.0.words;
      }

  attached_there : (e : Edge) → Attached h.nodes e → Attached (resized n h.nodes) e
  attached_there e k =
      record {
        source = ap is_live (node-slot M.atoms n m h f e.source) ∙ k.source;
        target = ap is_live (node-slot M.atoms n m h f e.target) ∙ k.target;
      }

  pub resized-legal : LegalHost M (resized_host n m h)
  resized-legal =
      record {
        nodes = λ i. rw (node-slot M.atoms n m h f i)
            (OnLive-both (LegalNode L) (Within M.atoms node_label n i) (LegalNode M)
            (λ a k q. record { mark = k.mark; root = k.root; size = q.1; words = k.words })
            (get_or h.nodes i free) (legal.nodes i) (f.nodes i));
        edges = λ i. rw (edge-slot M.atoms n m h f i)
            (OnLive-both (λ (e : Edge). LegalEdge L e × Attached h.nodes e) (Within M.atoms edge_label m i) (LegalEdge M)
            (legal-there i) (get_or h.edges i free)
            (OnLive-both (LegalEdge L) (Attached h.nodes) _ (λ e p q. (p, q)) (get_or h.edges i free) (legal.edges i) (legal.ends i))
            (f.edges i));
        ends = λ i. rw (edge-slot M.atoms n m h f i)
            (OnLive-both (Attached h.nodes) (Attached h.nodes) (Attached (resized n h.nodes)) (λ e k q. attached_there e k)
            (get_or h.edges i free) (legal.ends i) (legal.ends i));
      }
