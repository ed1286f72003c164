-- The published program is-discrete (programs/is-discrete) where the nodes that no edge touches are labelled alike: its rule del
-- deletes one of them, and it is the same which. Rests on Symmetric and Unchanged.
use Rattle.std.specs.Prelude.{◌≡◌, refl, ◌⊎◌, [], ◌∷◌, ℕ, zero, suc, ◌<◌, ◌≤◌}
use Rattle.std.proofs.Common.{sym, ◌∙◌, ap, inl, inr, arith}
use Rattle.std.proofs.Math.Option.{some}
use Rattle.meaning.specs.Procedures.{program}
use Rattle.meaning.specs.Computing.{computing}
use Rattle.laws.specs.Numbers.{bytes-by}
use Rattle.laws.specs.LegalCommands.{LegalRules}
use Rattle.laws.specs.LegalImage.{program-legal}
use Rattle.published.specs.Graphs.{Graph, Node, Edge, HostGraph, Iso}
use Rattle.published.specs.RuleApplication.{StaysNode, StaysEdge, Applies}
use Rattle.published.specs.Alike.{Calls}
use Rattle.published.specs.Semantics.{com_seq, in_order, followed}
use Rattle.published.specs.Steady.{Steady}
use Rattle.published.proofs.Steady.{sole}
use Rattle.published.specs.Families.Symmetric.{Lone}
use Rattle.published.proofs.Families.Symmetric.{symmetric, swapped, swapped-first}
use Rattle.published.proofs.Families.Unchanged.{tests-steady}
use Rattle.published.specs.OnlyOutcome.{OneOutcome}
use Rattle.published.proofs.OnlyOutcome.{one-outcome}
use Rattle.published.specs.Instances.IsDiscrete.{image, del, node, tree, LoneAlike}
use Rattle.published.specs.Instances.IsDiscrete as Defs

pub is_discrete_is : program image ≡ some tree
unfolding computing
is_discrete_is = refl

pub legal : LegalRules tree.rules
unfolding computing
legal = program-legal image tree (bytes-by image refl) is_discrete_is refl

lone-iso : (G H : Graph) → HostGraph G → Iso G H → LoneAlike G → LoneAlike H
lone-iso G H host i inv v w k l a b = label v k ∙ inv _ _ (i.nodes_back v k) (i.nodes_back w l) (back v k a) (back w l b) ∙ sym (label w l)
  where
    label : (x : ℕ) → Node H x → H.node_label x ≡ G.node_label (i.node_back x)
    label x h = ap H.node_label (sym (i.node_here x h)) ∙ i.node_labels _ (i.nodes_back x h)

    back : (x : ℕ) → Node H x → Lone H x → Lone G (i.node_back x)
    back x h lone e k (inl q) = lone (i.edge e) (i.edges e k) (inl (i.sources e k ∙ ap i.node q ∙ i.node_here x h))
    back x h lone e k (inr q) = lone (i.edge e) (i.edges e k) (inr (i.targets e k ∙ ap i.node q ∙ i.node_here x h))

module _ (G H : Graph) (a : Applies del G H) where
  -- the node that goes
  abbrev gone : ℕ
  gone = a.match.g.node 0

  gone_lone : Lone G gone
  gone_lone e k q = let t = a.match.dangling e 0 k (omega arith) (omega arith) q in omega (arith, t.1)

  edge_stays : (e : ℕ) → Edge G e → StaysEdge del G a.match.g e
  edge_stays e k = record { edge = k; kept = λ j l. absurd (omega arith) }

  abbrev Was : ℕ → Type 0
  Was = Defs.Was G H a

  pub was : (z : ℕ) → Node H z → Was z
  was z k = from (a.constructed.nodes.all z k)
    where
      lone : (v : ℕ) → a.constructed.keep_node v ≡ z → Lone H z → Lone G v
      lone v q f e l (inl s) =
          let t = edge_stays e l in
          f (a.constructed.keep_edge e) (a.constructed.edges.from_a e t)
          (inl (a.constructed.kept_sources e t ∙ ap a.constructed.keep_node s ∙ q))
      lone v q f e l (inr s) =
          let t = edge_stays e l in
          f (a.constructed.keep_edge e) (a.constructed.edges.from_a e t)
          (inr (a.constructed.kept_targets e t ∙ ap a.constructed.keep_node s ∙ q))

      from : ((v : ℕ) × StaysNode del G a.match.g v × (a.constructed.keep_node v ≡ z))
          ⊎ ((j : ℕ) × ((0 ≤ j) × (j < 0)) × (a.constructed.new_node j ≡ z)) → Was z
      from (inl t) =
          let label = a.constructed.kept_labels t.0 t.1 (λ i h. absurd (omega arith)) in
          (t.0, t.1.node, ap H.node_label (sym t.2) ∙ label, lone t.0 t.2)
      from (inr t) = absurd (omega (arith, t.1.1))

  del-keeps : LoneAlike G → LoneAlike H
  del-keeps inv z y k l f h =
      let s = was z k in
      let t = was y l in
      s.2 ∙ inv _ _ s.1 t.1 (s.3 f) (t.3 h) ∙ sym t.2

-- which one goes is the same, by a symmetry
module _ (G H H' : Graph) (host : HostGraph G) (inv : LoneAlike G) (a : Applies del G H) (b : Applies del G H') where
  abbrev v : ℕ
  v = gone G H a

  abbrev w : ℕ
  w = gone G H' b

  abbrev swap : Iso G G
  swap =
      let kv : Node G v = a.match.g.nodes 0 (omega arith) in
      let kw : Node G w = b.match.g.nodes 0 (omega arith) in
      let lv : Lone G v = gone_lone G H a in
      let lw : Lone G w = gone_lone G H' b in
      swapped v w G kv kw lv lw (inv v w kv kw lv lw)

  swap-gone : (k : ℕ) → k < 1 → swap.node (a.match.g.node k) ≡ b.match.g.node k
  swap-gone zero l = swapped-first v w G _ _ _ _ _
  swap-gone (suc k) l = absurd (omega arith)

  pub del-one : Iso H H'
  del-one = symmetric del legal.0 G H H' host swap a b swap-gone (λ k l. absurd (omega arith))

del-steady : Steady LoneAlike (del ∷ [])
del-steady =
    record {
      keeps = λ G H host inv a. del-keeps G H (sole del G H a) inv;
      one = λ G H H' host inv a b. del-one G H H' host inv (sole del G H a) (sole del G H' b);
    }

steady : Calls (Steady LoneAlike) (com_seq tree.rules tree.main)
unfolding com_seq in_order followed
steady = (
  del-steady,
  (tests-steady LoneAlike lone-iso (node ∷ []) (legal.1.0, tt) (record { same = refl; whole = refl }, tt), tt, tt),
)

pub is_discrete_lone : OneOutcome image tree LoneAlike
is_discrete_lone = one-outcome image tree is_discrete_is LoneAlike steady
