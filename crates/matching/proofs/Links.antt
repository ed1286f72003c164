-- Why a slot that no host edge links does not fit, and what there is to try.
use Prim.Native.Nat.{ℕ, ◌+◌, ◌≤◌, ◌<◌, max}
use mathlib.Core.Path.{◌≡◌, refl, sym, ◌∙◌, ap}
use mathlib.Core.List.{List, [], ◌∷◌, ◌++◌}
use mathlib.Core.Bool.{Bool, true, false}
use native.Mathlib.Omega.{arith}
use native.Mathlib.Nat.{div-le_self}
use native.Mathlib.Decide.{ℕ_discrete, dec_lt}
use borrow.Author.Tests.{eqb-true}
use lib.ListN.{length, take, get_or, length-map}
use lib.Seq.{length-take-le}
use Rattle.std.specs.Prelude.{Option, Some, None}
use Rattle.std.specs.Option.{MatchOption}
use Rattle.meaning.specs.Layout.{Host, read_nodes, read_edges, host_of}
use Rattle.meaning.specs.Image.{Rule}
use Rattle.meaning.specs.Matching.{left_nodes, left_edges, left_edge, node_slot, edge_runs}
use Rattle.meaning.specs.FirstMatch.{joins, linked, node_fits, fits, candidates}
use Rattle.meaning.specs.Laws.Tests.{not_so, both_true, exists-no, all-no, choose_eq, choose_lt, choose_le, clauses-true}
use Rattle.laws.specs.Pieces.{length-pieces}
use Rattle.meaning.specs.declared.Layout.{Layout}
use Rattle.agreeing.specs.Placed.{slots}
use Rattle.agreeing.specs.Trials.{next-new, next-old}
use Rattle.agreeing.specs.Candidates.{Likely}
use Rattle.matching.specs.Next.{Meets, NextLikely}

pub clash : (a b : Bool) → a ≡ false → a ≡ b → b ≡ true → ⊥
clash a b f e t = let z : ◌≡◌ {A = Bool} true false = sym t ∙ sym e ∙ f in let z : ◌≡◌ {A = ℕ} 0 1 = cc in omega arith

-- the slots so far, with one more
module _ (at : List ℕ) (i y j : ℕ) (room : i < length at) where
  slot-new : j ≡ i → node_slot (take i at ++ y ∷ []) j ≡ y
  slot-new e = rw e (next-new at i y (omega arith))

  slot-old : j < i → node_slot (take i at ++ y ∷ []) j ≡ get_or at j 0
  slot-old h = next-old at i y (omega arith) j h

module _ (h : Host) (r : Rule) (at : List ℕ) (i k y : ℕ) (room : i < length at) (inside : k < left_edges r) where
  -- left edge k has node i for its later end, and no host edge can stand for it
  unlinked : max (left_edge r k).source (left_edge r k).target ≡ i
      → ((x : ℕ) → x < length h.edges → joins h r (take i at ++ y ∷ []) k x ≡ true → ⊥) → node_fits h r (take i at) i y ≡ false
  unfolding node_fits linked
  unlinked e never =
      not_so _ (λ f.
      let z : ◌≡◌ {A = Bool} true false =
      sym (clauses-true _ f 5)
      ∙ all-no _ (left_edges r) k inside
      (choose_eq (max (left_edge r k).source (left_edge r k).target) i _ _ e ∙ exists-no _ _ (λ x l. not_so _ (never x l)))
      in
      let z : ◌≡◌ {A = ℕ} 0 1 = cc in omega arith)

  module _ (mark : ℕ) (e : mark ≡ (left_edge r k).mark) where
    -- no edge leads from the slot of an earlier node to slot y
    pub unreached : (s : ℕ) → s ≡ (left_edge r k).source → (left_edge r k).target ≡ i → s < i
        → ((x : ℕ) → x < length h.edges → Meets h mark (get_or at s 0) true x y → ⊥) → node_fits h r (take i at) i y ≡ false
    unfolding joins edge_runs
    unreached s a b l never =
        unlinked (omega arith) (λ x m f.
        let t = both_true _ _ f in
        let u = both_true _ _ t.0 in
        let v = both_true _ _ u.1 in
        never x m
        (record {
          live = u.0;
          here =
              eqb-true _ _ v.0
              ∙ slot-old at i y (left_edge r k).source room (omega arith)
              ∙ ap (λ (j : ℕ). get_or at j 0) (sym a);
          marks = rw e t.1;
          there = eqb-true _ _ v.1 ∙ slot-new at i y (left_edge r k).target room b;
        }))

    -- or from slot y to the slot of an earlier node
    pub unleft : (t : ℕ) → (left_edge r k).source ≡ i → t ≡ (left_edge r k).target → t < i
        → ((x : ℕ) → x < length h.edges → Meets h mark (get_or at t 0) false x y → ⊥) → node_fits h r (take i at) i y ≡ false
    unfolding joins edge_runs
    unleft t a b l never =
        unlinked (omega arith) (λ x m f.
        let s = both_true _ _ f in
        let u = both_true _ _ s.0 in
        let v = both_true _ _ u.1 in
        never x m
        (record {
          live = u.0;
          here =
              eqb-true _ _ v.1
              ∙ slot-old at i y (left_edge r k).target room (omega arith)
              ∙ ap (λ (j : ℕ). get_or at j 0) (sym b);
          marks = rw e s.1;
          there = eqb-true _ _ v.0 ∙ slot-new at i y (left_edge r k).source room a;
        }))

-- no edge below x joins slot p to a slot of c .. best, and edge x joins it to none of c .. b, which is nearer: no edge up to x does
pub ends_more : (h : Host) (mark p : ℕ) (leaving : Bool) (c best b x : ℕ) → b ≤ best
    → ((y : ℕ) → c ≤ y → y < b → Meets h mark p leaving x y → ⊥)
    → ((y z : ℕ) → c ≤ y → y < best → z < x → Meets h mark p leaving z y → ⊥)
    → (y z : ℕ) → c ≤ y → y < b → z < x + 1 → Meets h mark p leaving z y → ⊥
ends_more h mark p leaving c best b x near out none y z k l j m = at (ℕ_discrete z x)
  where
    at : Dec (z ≡ x) → ⊥
    at (yes q) = out y k l (rw q at m)
    at (no q) = none y z k (omega arith) (omega arith) m

-- nothing in c .. x passes, and x does not: nothing in c .. x + 1 does
pub none_more : (test : ℕ → Bool) (c x : ℕ) → ((y : ℕ) → c ≤ y → y < x → test y ≡ false) → test x ≡ false
    → (y : ℕ) → c ≤ y → y < x + 1 → test y ≡ false
none_more test c x n e y h k = at (ℕ_discrete y x)
  where
    at : Dec (y ≡ x) → test y ≡ false
    at (yes q) = rw q e
    at (no q) = n y h (omega arith)

-- nothing in c .. x passes, and nothing in x .. z: nothing in c .. z does
pub none-join : (test : ℕ → Bool) (c x z : ℕ) → ((y : ℕ) → c ≤ y → y < x → test y ≡ false)
    → ((y : ℕ) → x ≤ y → y < z → test y ≡ false)
    → (y : ℕ) → c ≤ y → y < z → test y ≡ false
none-join test c x z n m y h k = at (dec_lt y x)
  where
    at : Dec (y < x) → test y ≡ false
    at (yes q) = n y h q
    at (no q) = m y (omega arith) k

-- what it is to fit behind the slots so far, and how many slots there are to try
module _ (h : Host) (r : Rule) (at : List ℕ) (i : ℕ) (room : i < length at) where
  behind : length (take i at) ≡ i
  behind = length-take-le i at (omega arith)

  pub slots-of : candidates h r (take i at) ≡ slots h (left_nodes r) i
  unfolding candidates
  slots-of = rw behind

  pub node-slots : i < left_nodes r → candidates h r (take i at) ≡ length h.nodes
  node-slots k = slots-of ∙ choose_lt i (left_nodes r) _ _ k

  pub edge-slots : left_nodes r ≤ i → candidates h r (take i at) ≡ length h.edges
  edge-slots k = slots-of ∙ choose_le i (left_nodes r) _ _ k

  node-fits : i < left_nodes r → (y : ℕ) → fits h r (take i at) y ≡ node_fits h r (take i at) i y
  unfolding fits
  node-fits k y = choose_lt (length (take i at)) (left_nodes r) _ _ (omega (arith, behind)) ∙ rw behind

  -- nothing in c .. x fits, and no slot in x .. z fits as a node: nothing in c .. z fits
  pub nodes-join : i < left_nodes r → (c x z : ℕ) → ((y : ℕ) → c ≤ y → y < x → fits h r (take i at) y ≡ false)
      → ((y : ℕ) → x ≤ y → y < z → node_fits h r (take i at) i y ≡ false)
      → (y : ℕ) → c ≤ y → y < z → fits h r (take i at) y ≡ false
  nodes-join k c x z n m = none-join (fits h r (take i at)) c x z n (λ y a b. node-fits k y ∙ m y a b)

-- the first likely slot of c .. n, or none: those before it do not fit
pub next_is : (h : Host) (r : Rule) (sort : ℕ) (p : List ℕ) (i c n : ℕ) → candidates h r p ≡ n → (o : Option ℕ)
    → MatchOption o ((k : ℕ) → c ≤ k → k < n → Likely h r sort p i k false)
    (λ x. (c ≤ x) × (x < n) × Likely h r sort p i x true × ((k : ℕ) → c ≤ k → k < x → Likely h r sort p i k false))
    → NextLikely h r sort p i c o
next_is h r sort p i c n e None m = λ y a b. (m y a (omega arith)).no refl
next_is h r sort p i c n e (Some x) m = (m.0, omega (arith, m.1), m.2, λ y a b. (m.3 y a b).no refl)

-- How large a slot number is.

-- no item has more slots than the tables together
pub slots-below : (h : Host) (n j : ℕ) → slots h n j ≤ length h.nodes + length h.edges
slots-below h n j = by (dec_lt j n)
  where
    by : Dec (j < n) → slots h n j ≤ length h.nodes + length h.edges
    by (yes k) = rw (choose_lt j n (length h.nodes) (length h.edges) k) (omega arith)
    by (no k) = rw (choose_le j n (length h.nodes) (length h.edges) (omega arith)) (omega arith)

-- and they have no more than bytes
module _ (L : Layout) (nodes edges : List ℕ) where
  few-nodes : length (read_nodes L nodes) ≤ length nodes
  few-nodes = rw (length-map, length-pieces) (div-le_self _ _)

  few-edges : length (read_edges L edges) ≤ length edges
  few-edges = rw (length-map, length-pieces) (div-le_self _ _)

  pub slots-few : (n j : ℕ) → slots (host_of L nodes edges) n j ≤ length nodes + length edges
  slots-few n j = omega (arith, slots-below (host_of L nodes edges) n j, few-nodes, few-edges)
