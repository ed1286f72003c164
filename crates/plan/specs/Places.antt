-- Bytes between two places: what stands there, and what a plan says of a rule's left items. Rests on Plan and on the
-- meaning's Image.
use Rattle.std.specs.Prelude.{◌≡◌, List, [], ◌∷◌, ℕ, zero, suc, ◌+◌, ◌-◌, ◌<◌, ◌≤◌, length, get_or, take, drop}
use Rattle.std.proofs.Common.{sym, ◌∙◌, ap, arith, length-drop, length-take-le, take-take, drop-drop, drop-cons, get_or-take, get_or-drop}
use Rattle.std.proofs.Math.Option.{Option, some}
use Rattle.std.proofs.Math.Decide.{dec_lt}
use Rattle.std.proofs.Math.Seq.{take-nil}
use Rattle.meaning.specs.Image.{RuleNode, RuleEdge, Rule, label, rule_node, rule_edge}
use Rattle.meaning.specs.References.{labels}
use Rattle.meaning.specs.Matching.{left_node, left_edge, left_nodes, left_edges}
use Rattle.fields.specs.Parsed.{rule_node-is, rule_edge-is}
use Rattle.laws.specs.Assignment.{label-node, label-edge}
use Rattle.fields.specs.Fields.{Found, found, nth_field}
use Rattle.parts.specs.Series.{part_field}
use Rattle.parts.proofs.Loops.{NoField, no_part, nth_in}
use Rattle.plan.specs.Plan.{Placed, Laid, HasItem, HasNode, HasEdge, Marked, edge_end, end_place, Part, edges_at, end_at, nodes_at, start_at}
use Rattle.plan.specs.declared.Side.{Side}
use Rattle.plan.specs.declared.Side.TheVariants.{Source, Target}

-- Parts of bytes.

drop-take : {A : Type 0} (k n : ℕ) (l : List A) → drop k (take n l) ≡ take (n - k) (drop k l)
drop-take zero n l =
    let z : n - 0 ≡ n = omega arith in
    rw z
drop-take (suc k) zero l =
    let z : 0 - suc k ≡ 0 = omega arith in
    rw z
drop-take (suc k) (suc n) [] = sym (take-nil (suc n - suc k))
drop-take (suc k) (suc n) (a ∷ l) =
    let z : suc n - suc k ≡ n - k = omega arith in
    rw z (drop-take k n l)

-- the part between two places
module _ (bs : List ℕ) (start end : ℕ) (ordered : start ≤ end) (inside : end ≤ length bs) where
  pub part_length : length (take (end - start) (drop start bs)) ≡ end - start
  part_length = length-take-le (end - start) (drop start bs) (rw (length-drop start bs) (omega arith))

  pub part-byte : (i : ℕ) → start + i < end → get_or (take (end - start) (drop start bs)) i 0 ≡ get_or bs (start + i) 0
  part-byte i h = get_or-take (end - start) (drop start bs) i 0 (omega arith) ∙ get_or-drop start bs i 0

  pub part-behind : (i : ℕ) → drop i (take (end - start) (drop start bs)) ≡ take (end - (start + i)) (drop (start + i) bs)
  part-behind i =
      let z : end - start - i ≡ end - (start + i) = omega arith in
      drop-take i (end - start) (drop start bs) ∙ rw (drop-drop i start bs, z)

  -- a part of a part
  pub part-part : (s e : ℕ) → s ≤ e → e ≤ end - start
      → take (e - s) (drop s (take (end - start) (drop start bs))) ≡ take (start + e - (start + s)) (drop (start + s) bs)
  part-part s e h k =
      let z : start + e - (start + s) ≡ e - s = omega arith in
      rw (z, part-behind s) (take-take (e - s) (end - (start + s)) (drop (start + s) bs) (omega arith))

pub inner : {A : Type 0} (read : List ℕ → Option A) (bs part : List ℕ) (start end s e : ℕ) (a : A) → start ≤ end → end ≤ length bs
    → part ≡ take (end - start) (drop start bs) → s ≤ e → e ≤ length part → read (take (e - s) (drop s part)) ≡ some a
    → Placed read bs (start + s) (start + e) a
inner read bs part start end s e a o i p h k q =
    let l : length part ≡ end - start = ap length p ∙ part_length bs start end o i in
    record {
      ordered = omega arith;
      inside = omega arith;
      is = ap read (sym (part-part bs start end o i s e h (omega arith)) ∙ ap (λ (x : List ℕ). take (e - s) (drop s x)) (sym p)) ∙ q;
    }

-- the list from a place on, where it begins with an element
pub drop_head : {A : Type 0} (d : A) (l : List A) (i : ℕ) (a : A) (m : List A) → drop i l ≡ a ∷ m
    → (i < length l) × (get_or l i d ≡ a) × (drop (i + 1) l ≡ m)
drop_head d l i a m e =
    let n : length (drop i l) ≡ suc (length m) = ap length e in
    let h : i < length l = omega (arith, n, length-drop i l) in
    let z : suc i ≡ i + 1 = omega arith in
    let q : get_or l i d ∷ drop (i + 1) l ≡ a ∷ m = sym (drop-cons l i d h ∙ rw z) ∙ e in
    (h, cc, cc)

-- What is read of an item, and where it stands in the bytes.

pub record NodeAt (bs : List ℕ) (start end : ℕ) (n : RuleNode) : Type 0 where
  pub long : start + 2 ≤ end
  pub inside : end ≤ length bs
  pub mark : n.mark ≡ get_or bs start 0
  pub root : n.root ≡ get_or bs (start + 1) 0
  pub label : label (take (end - (start + 2)) (drop (start + 2) bs)) ≡ some n.label

pub record EdgeAt (bs : List ℕ) (start end : ℕ) (n : RuleEdge) : Type 0 where
  pub long : start + 3 ≤ end
  pub inside : end ≤ length bs
  pub mark : n.mark ≡ get_or bs start 0
  pub ends : (side : Side) → edge_end side n ≡ get_or bs (start + end_place side) 0
  pub label : label (take (end - (start + 3)) (drop (start + 3) bs)) ≡ some n.label

-- both ends stand before the label
end-inside : (side : Side) → end_place side < 3
end-inside Source = omega arith
end-inside Target = omega arith

module _ {bs : List ℕ} {start end : ℕ} where
  pub node_at : {n : RuleNode} → Placed rule_node bs start end n → NodeAt bs start end n
  node_at {n} p =
      let i = rule_node-is _ n p.is in
      let l = part_length bs start end p.ordered p.inside in
      let long : start + 2 ≤ end = omega (arith, i.long) in
      let z : start + 0 ≡ start = omega arith in
      record {
        long = long;
        inside = p.inside;
        mark = i.mark ∙ part-byte bs start end p.ordered p.inside 0 (omega arith) ∙ ap (λ (x : ℕ). get_or bs x 0) z;
        root = i.root ∙ part-byte bs start end p.ordered p.inside 1 (omega arith);
        label = ap label (sym (part-behind bs start end p.ordered p.inside 2)) ∙ i.label;
      }

  pub edge_at : {n : RuleEdge} → Placed rule_edge bs start end n → EdgeAt bs start end n
  edge_at {n} p =
      let i = rule_edge-is _ n p.is in
      let l = part_length bs start end p.ordered p.inside in
      let long : start + 3 ≤ end = omega (arith, i.long) in
      let z : start + 0 ≡ start = omega arith in
      record {
        long = long;
        inside = p.inside;
        mark = i.mark ∙ part-byte bs start end p.ordered p.inside 0 (omega arith) ∙ ap (λ (x : ℕ). get_or bs x 0) z;
        ends = λ side. end-byte side ∙ part-byte bs start end p.ordered p.inside (end_place side) (omega (arith, end-inside side));
        label = ap label (sym (part-behind bs start end p.ordered p.inside 3)) ∙ i.label;
      }
    where
      end-byte : (side : Side) → edge_end side n ≡ get_or (take (end - start) (drop start bs)) (end_place side) 0
      end-byte Source = (rule_edge-is _ n p.is).source
      end-byte Target = (rule_edge-is _ n p.is).target

-- The left items of a plan.

module _ {bs : List ℕ} {r : Rule} {plan : List ℕ} (l : Laid bs r plan) where
  -- left node i, and left edge k, in the bytes
  pub left-node : (i : ℕ) → i < left_nodes r → NodeAt bs (get_or plan (start_at + i) 0) (get_or plan (end_at + i) 0) (left_node r i)
  left-node i h = node_at (l.items.node i h)

  pub left-edge : (k : ℕ) → k < left_edges r → EdgeAt bs (get_or plan (start_at + (left_nodes r + k)) 0) (get_or plan (end_at + (left_nodes r + k)) 0) (left_edge r k)
  left-edge k h = edge_at (l.items.edge k h)

  -- left edge k by its number among the items
  pub edge-item : (j k : ℕ) → k < left_edges r → j ≡ left_nodes r + k → EdgeAt bs (get_or plan (start_at + j) 0) (get_or plan (end_at + j) 0) (left_edge r k)
  edge-item j k h e = rw e (left-edge k h)

  pub marked : (j : ℕ) → Marked r j (get_or bs (get_or plan (start_at + j) 0) 0)
  marked j = record { node = λ h. sym (left-node j h).mark; edge = λ k h e. sym (edge-item j k h e).mark }

  pub node-pattern : (j : ℕ) (p : List ℕ) → j < get_or plan nodes_at 0 → p ≡ take (get_or plan (end_at + j) 0 - (get_or plan (start_at + j) 0 + 2)) (drop (get_or plan (start_at + j) 0 + 2) bs)
      → label p ≡ some (get_or (labels r.left) j [])
  node-pattern j p h e =
      let k : j < left_nodes r = omega (arith, l.items.nodes) in
      ap label e ∙ (left-node j k).label ∙ ap some (sym (label-node r j k))

  pub edge-pattern : (j : ℕ) (p : List ℕ) → get_or plan nodes_at 0 ≤ j → j < get_or plan nodes_at 0 + get_or plan edges_at 0 → p ≡ take (get_or plan (end_at + j) 0 - (get_or plan (start_at + j) 0 + 3)) (drop (get_or plan (start_at + j) 0 + 3) bs)
      → label p ≡ some (get_or (labels r.left) j [])
  edge-pattern j p h m e =
      let k : j - left_nodes r < left_edges r = omega (arith, l.items.nodes, l.items.edges) in
      let z : j ≡ left_nodes r + (j - left_nodes r) = omega (arith, l.items.nodes) in
      ap label e ∙ (edge-item j (j - left_nodes r) k z).label ∙ ap some (sym (label-edge r (j - left_nodes r) k) ∙ ap (λ (x : ℕ). get_or (labels r.left) x []) (sym z))

  -- by the plan's own counts
  pub planned-node : (i : ℕ) → i < get_or plan nodes_at 0 → NodeAt bs (get_or plan (start_at + i) 0) (get_or plan (end_at + i) 0) (left_node r i)
  planned-node i h = left-node i (omega (arith, l.items.nodes))

  pub planned-edge : (k : ℕ) → k < get_or plan edges_at 0 → EdgeAt bs (get_or plan (start_at + (get_or plan nodes_at 0 + k)) 0) (get_or plan (end_at + (get_or plan nodes_at 0 + k)) 0) (left_edge r k)
  planned-edge k h = edge-item (get_or plan nodes_at 0 + k) k (omega (arith, l.items.edges)) (omega (arith, l.items.nodes))

-- what a caller that names an item has shown
pub node-there : {bs plan : List ℕ} {i : ℕ} → HasNode bs plan i → i < get_or plan nodes_at 0
node-there w = omega (arith, w.there, w.laid.items.nodes)

pub edge-there : {bs plan : List ℕ} {k : ℕ} → HasEdge bs plan k → k < get_or plan edges_at 0
edge-there w = omega (arith, w.there, w.laid.items.edges)

pub end-there : {bs plan : List ℕ} {k : ℕ} → HasEdge bs plan k → (side : Side)
    → get_or plan (start_at + (get_or plan nodes_at 0 + k)) 0 + end_place side < length bs
end-there {k = k} w side =
    let a = planned-edge w.laid k (edge-there w) in
    omega (arith, a.long, a.inside, end-inside side)

module _ {bs plan : List ℕ} {j : ℕ} (w : HasItem bs plan j) where
  pub item-there : j < get_or plan nodes_at 0 + get_or plan edges_at 0
  item-there = omega (arith, w.there, w.laid.items.nodes, w.laid.items.edges)

  pub node-inside : j < get_or plan nodes_at 0 → (get_or plan (start_at + j) 0 + 2 ≤ get_or plan (end_at + j) 0) × (get_or plan (end_at + j) 0 ≤ length bs)
  node-inside h = let a = left-node w.laid j (omega (arith, w.laid.items.nodes)) in (a.long, a.inside)

  pub edge-inside : get_or plan nodes_at 0 ≤ j → (get_or plan (start_at + j) 0 + 3 ≤ get_or plan (end_at + j) 0) × (get_or plan (end_at + j) 0 ≤ length bs)
  edge-inside h =
      let n = w.laid.items.nodes in
      let a = edge-item w.laid j (j - left_nodes w.tree) (omega (arith, w.there)) (omega arith) in
      (a.long, a.inside)

  pub item-inside : get_or plan (start_at + j) 0 < length bs
  item-inside = at (dec_lt j (get_or plan nodes_at 0))
    where
      at : Dec (j < get_or plan nodes_at 0) → get_or plan (start_at + j) 0 < length bs
      at (yes h) = let i = node-inside h in omega arith
      at (no h) = let i = edge-inside (omega arith) in omega arith

-- The parts of a rule by number.

pub place_none : (bs : List ℕ) (n : ℕ) (f : Found) → f ≡ nth_field n bs 0 → NoField f → Part bs n 0 0
place_none bs n f e k = record { ordered = omega arith; inside = omega arith; is = no_part bs f (nth_field n bs 0) e k }

pub place-there : (bs : List ℕ) (n : ℕ) {f : Found} {tag start end : ℕ} → f ≡ nth_field n bs 0 → f ≡ found tag start end → Part bs n start end
place-there bs n {f} {tag} {start} {end} e g =
    let i = nth_in bs n e g in
    record { ordered = i.0; inside = i.1; is = sym (part_field bs (nth_field n bs 0) tag start end (sym e ∙ g)) }
