-- The invariant 'at most one root'. A rule keeps it if its right side has at most one root, and has none where its left side has none;
-- so roots may move, go, and come back under a new name. Two matches agree on a left root. Rests on Whence.
use Rattle.std.specs.Prelude.{◌≡◌, refl, ◌⊎◌, Bool, true, false, List, [], ◌∷◌, ℕ, zero, suc, ◌<◌, ◌≤◌, length, get_or}
use Rattle.std.proofs.Common.{sym, ◌∙◌, ap, inl, inr, arith}
use Rattle.std.proofs.Math.Decide.{dec_lt}
use Rattle.meaning.specs.Layout.{Host, free}
use Rattle.meaning.specs.Matching.{node_in}
use Rattle.meaning.specs.Image.{Rule}
use Rattle.meaning.specs.References.{rule_holds}
use Rattle.meaning.specs.Laws.Tests.{choose_lt}
use Rattle.meaning.specs.Laws.Slots.{live_at_lt}
use Rattle.meaning.specs.Laws.Interface.{interface-left}
use Rattle.laws.specs.Values.{LegalRule}
use Rattle.published.specs.Graphs.{NodeLabel, Graph, Node, HostGraph, graph_of, Iso}
use Rattle.published.specs.RuleApplication.{node_of, RootsGo, Matches, Applies}
use Rattle.published.proofs.Application.Values.{left-formed}
use Rattle.published.specs.Families.Whence.{place, Other, RootKept, Right}
use Rattle.published.proofs.Families.Whence.{whence}
use Rattle.published.specs.Families.OneRoot.{OneRoot, node₀, roots, RootsKept}
use Rattle.published.specs.Families.OneRoot as Defs

-- isomorphic graphs have it or have it not
pub one-root-iso : (G H : Graph) → Iso G H → OneRoot G → OneRoot H
one-root-iso G H i inv v w k l e f =
    let b = i.nodes_back in
    let label : (x : ℕ) → Node H x → H.node_label x ≡ G.node_label (i.node_back x)
    = λ x h. ap H.node_label (sym (i.node_here x h)) ∙ i.node_labels _ (b x h) in
    let root : (x : ℕ) → Node H x → (H.node_label x).root ≡ 1 → (G.node_label (i.node_back x)).root ≡ 1
    = λ x h q. ap (λ (n : NodeLabel). n.root) (sym (label x h)) ∙ q in
    sym (i.node_here v k) ∙ ap i.node (inv _ _ (b v k) (b w l) (root v k e) (root w l f)) ∙ i.node_here w l

-- Counting roots.

module _ {A : Type 0} (f : A → ℕ) (d : A) where
  abbrev total : List A → ℕ
  total = Defs.total f d

  total-least : (l : List A) (i : ℕ) → i < length l → f (get_or l i d) ≤ total l
  total-least [] i h = absurd (omega arith)
  total-least (x ∷ l) zero h = omega arith
  total-least (x ∷ l) (suc i) h = let q = total-least l i (omega arith) in omega arith

  -- where there are some, one can be had
  total-some : (l : List A) → 1 ≤ total l → (i : ℕ) × (i < length l) × (1 ≤ f (get_or l i d))
  total-some [] h = absurd (omega arith)
  total-some (x ∷ l) h = at (dec_lt 0 (f x)) (total-some l)
    where
      at : Dec (0 < f x) → (1 ≤ total l → (i : ℕ) × (i < length l) × (1 ≤ f (get_or l i d)))
          → (i : ℕ) × (i < length (x ∷ l)) × (1 ≤ f (get_or (x ∷ l) i d))
      at (yes k) later = (0, omega arith, omega arith)
      at (no k) later = let t = later (omega arith) in (suc t.0, omega (arith, t.1), t.2)

  -- where there is one at most, two are the same
  total-one : (l : List A) → total l ≤ 1 → (i j : ℕ) → i < length l → j < length l → f (get_or l i d) ≡ 1 → f (get_or l j d) ≡ 1 → i ≡ j
  total-one [] h i j k m e g = absurd (omega arith)
  total-one (x ∷ l) h zero zero k m e g = refl
  total-one (x ∷ l) h zero (suc j) k m e g = let q = total-least l j (omega arith) in absurd (omega arith)
  total-one (x ∷ l) h (suc i) zero k m e g = let q = total-least l i (omega arith) in absurd (omega arith)
  total-one (x ∷ l) h (suc i) (suc j) k m e g = ap suc (total-one l (omega arith) i j (omega arith) (omega arith) e g)

-- a table has the invariant if it has one root at most
pub one-root-held : (h : Host) → Defs.total (λ s. (node_in s).root) free h.nodes ≤ 1 → OneRoot (graph_of h)
one-root-held h few v w k l e f =
    total-one (λ s. (node_in s).root) free h.nodes few v w (live_at_lt h.nodes v k) (live_at_lt h.nodes w l) e f

-- a left root goes to a root, whatever the mode
root-goes : (preserving : Bool) (left host : ℕ) → RootsGo preserving left host → left ≡ 1 → host ≡ 1
root-goes false left host e q = sym e ∙ q
root-goes true left host f q = f q

-- two matches agree on a left root
pub root-agrees : (r : Rule) (G : Graph) → OneRoot G → (m n : Matches r G) (i : ℕ) → i < length r.left.nodes
    → (node_of r.left i).root ≡ 1 → m.g.node i ≡ n.g.node i
root-agrees r G inv m n i k e =
    inv _ _ (m.g.nodes i k) (n.g.nodes i k) (root-goes r.preserving _ _ (m.compatible.roots i k) e) (root-goes r.preserving _ _ (n.compatible.roots i k) e)

-- Where the roots of a result come from, whatever the mode: a right root, or a root that was one, on which no left root is placed.
module _ (r : Rule) (G H : Graph) (a : Applies r G H) where
  abbrev UnderRoot : ℕ → Type 0
  UnderRoot = Defs.UnderRoot r G H a

  record RightRoot (z : ℕ) : Type 0 where
    node : ℕ
    listed : node < length r.right.nodes
    here : place r G H a node ≡ z
    root : (node_of r.right node).root ≡ 1

  record OldRoot (z : ℕ) : Type 0 where
    node : ℕ
    there : Node G node
    here : a.constructed.keep_node node ≡ z
    root : (G.node_label node).root ≡ 1
    free : UnderRoot node → ⊥

  root-whence : rule_holds r ≡ true → (z : ℕ) → Node H z → (H.node_label z).root ≡ 1 → RightRoot z ⊎ OldRoot z
  root-whence holds z k e = at (whence r G H a holds z k)
    where
      right : (s : Right r G H a z) → ((H.node_label z).root ≡ (node_of r.right s.node).root) ⊎ RootKept r G H a s.node z → RightRoot z ⊎ OldRoot z
      right s (inl q) = inl (record { node = s.node; listed = s.listed; here = s.here; root = sym q ∙ e })
      right s (inr q) =
          let l = interface-left r holds in
          let h : s.node < length r.left.nodes = omega (arith, q.inside) in
          inr
          (record {
            node = a.match.g.node s.node;
            there = a.match.g.nodes s.node h;
            here = sym (choose_lt s.node r.interface _ _ q.inside) ∙ s.here;
            root = sym q.root ∙ e;
            free = λ t.
                let same = a.match.injective.nodes t.0 s.node t.1 h t.3 in
                let none = ap (λ (i : ℕ). (node_of r.left i).root) same ∙ q.left in
                omega (arith, t.2, none);
          })

      at : Right r G H a z ⊎ Other r G H a z → RightRoot z ⊎ OldRoot z
      at (inl s) = right s s.root
      at (inr t) =
          inr
          (record {
            node = t.0;
            there = t.1.stays.node;
            here = t.1.here;
            root = ap (λ (n : NodeLabel). n.root) (sym t.1.label) ∙ e;
            free = λ u. t.1.free (u.0, u.1, u.3);
          })

-- the result has one root at most where the right side has, and, if it has one, left roots are placed on all roots of the graph
pub one-root-made : (r : Rule) → LegalRule r → roots r.right.nodes ≤ 1 → (G H : Graph) → OneRoot G → (a : Applies r G H)
    → (1 ≤ roots r.right.nodes → (v : ℕ) → Node G v → (G.node_label v).root ≡ 1 → Defs.UnderRoot r G H a v) → OneRoot H
one-root-made r legal most G H inv a all z y k l e f = at (root-whence r G H a legal.holds z k e) (root-whence r G H a legal.holds y l f)
  where
    not-both : {x w : ℕ} → RightRoot r G H a x → OldRoot r G H a w → ⊥
    not-both s t =
        let some = total-least (λ n. n.root) node₀ r.right.nodes s.node s.listed in
        t.free (all (omega (arith, some, s.root)) t.node t.there t.root)

    at : RightRoot r G H a z ⊎ OldRoot r G H a z → RightRoot r G H a y ⊎ OldRoot r G H a y → z ≡ y
    at (inl s) (inl t) =
        let same = total-one (λ n. n.root) node₀ r.right.nodes most _ _ s.listed t.listed s.root t.root in
        sym s.here ∙ ap (place r G H a) same ∙ t.here
    at (inl s) (inr t) = absurd (not-both s t)
    at (inr s) (inl t) = absurd (not-both t s)
    at (inr s) (inr t) =
        sym s.here ∙ ap a.constructed.keep_node (inv _ _ s.there t.there s.root t.root) ∙ t.here

-- so a rule that has RootsKept keeps the invariant: a left root is all of the graph's
pub keeps-one-root : (r : Rule) → LegalRule r → RootsKept r → (G H : Graph) → HostGraph G → OneRoot G → Applies r G H → OneRoot H
keeps-one-root r legal kept G H host inv a =
    one-root-made r legal kept.most G H inv a (λ some v k e.
    let u = total-some (λ n. n.root) node₀ r.left.nodes (omega (arith, kept.old)) in
    let left : (node_of r.left u.0).root ≡ 1 = omega (arith, u.2, (left-formed r legal u.0).root) in
    let one = root-goes r.preserving _ _ (a.match.compatible.roots u.0 u.1) left in
    (u.0, u.1, left, inv _ _ (a.match.g.nodes u.0 u.1) k one e))
