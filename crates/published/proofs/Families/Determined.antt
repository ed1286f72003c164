-- Left sides that are determined from their root, step by step: the root is known; of a known edge both ends are; an edge is known where
-- one of its ends is and the rule deletes that end and has no other edge that leaves (or reaches) it, by the dangling condition; and
-- where the graph has one edge out of each node, an edge is known where its source is. A rule of such a left side has one match at
-- most in a graph of at most one root. Rests on OneRoot and OneOut.
use Rattle.std.specs.Prelude.{◌≡◌, Bool, true, false, [], ◌∷◌, ℕ}
use Rattle.std.proofs.Common.{sym, ◌∙◌, ap, subst, inl, inr, arith}
use Rattle.meaning.specs.Image.{Rule}
use Rattle.meaning.specs.References.{rule_holds}
use Rattle.laws.specs.References.{ends}
use Rattle.laws.specs.Values.{LegalRule}
use Rattle.published.specs.Graphs.{Graph}
use Rattle.published.specs.RuleApplication.{Matches}
use Rattle.published.specs.SameMatch.{Agree}
use Rattle.published.specs.Steady.{Steady}
use Rattle.published.proofs.Steady.{one-rule}
use Rattle.published.specs.Families.OneRoot.{OneRoot, RootsKept}
use Rattle.published.proofs.Families.OneRoot.{keeps-one-root, root-agrees}
use Rattle.published.specs.Families.OneOut.{OneOut, EdgesKept}
use Rattle.published.proofs.Families.OneOut.{leaving-agrees, keeps-one-out}
use Rattle.published.specs.Families.Determined.{root, source, target, leaving, leaving_deleted, reaching_deleted, OneWay}
use Rattle.published.specs.Families.Determined as Defs

module _ (r : Rule) where
  abbrev LeftEdge : ℕ → Type 0
  LeftEdge = Defs.LeftEdge r

  abbrev source_of : ℕ → ℕ
  source_of = Defs.source_of r

  abbrev target_of : ℕ → ℕ
  target_of = Defs.target_of r

  abbrev Gone : ℕ → Type 0
  Gone = Defs.Gone r

  -- what is known; `out` says whether the graph is known to have one edge out of each node
  module _ (out : Bool) where
    abbrev KnownNode : ℕ → Type 0
    KnownNode = Defs.KnownNode r out

    abbrev KnownEdge : ℕ → Type 0
    KnownEdge = Defs.KnownEdge r out

    abbrev Determined : Type 0
    Determined = Defs.Determined r out

    left-edge : {k : ℕ} → KnownEdge k → LeftEdge k
    left-edge (leaving k o l n) = l
    left-edge (leaving_deleted k l g f n) = l
    left-edge (reaching_deleted k l g f n) = l

    module _ (holds : rule_holds r ≡ true) (G : Graph) (one_root : OneRoot G) (one_out : out ≡ true → OneOut G) (m n : Matches r G) where
      -- by the dangling condition of n, m takes edge k to an edge of n
      deleted_source : (k : ℕ) → LeftEdge k → Gone (source_of k) → ((j : ℕ) → LeftEdge j → source_of j ≡ source_of k → j ≡ k)
          → m.g.node (source_of k) ≡ n.g.node (source_of k) → m.g.edge k ≡ n.g.edge k
      deleted_source k l gone only e =
          let t = n.dangling (m.g.edge k) (source_of k) (m.g.edges k l) gone.0 gone.1 (inl (m.g.sources k l ∙ e)) in
          let same = sym (n.g.sources t.0 t.1) ∙ ap G.source t.2 ∙ m.g.sources k l ∙ e in
          let end = n.injective.nodes _ _ (ends r holds t.0 t.1).0 gone.1 same in
          sym t.2 ∙ ap n.g.edge (only t.0 t.1 end)

      deleted_target : (k : ℕ) → LeftEdge k → Gone (target_of k) → ((j : ℕ) → LeftEdge j → target_of j ≡ target_of k → j ≡ k)
          → m.g.node (target_of k) ≡ n.g.node (target_of k) → m.g.edge k ≡ n.g.edge k
      deleted_target k l gone only e =
          let t = n.dangling (m.g.edge k) (target_of k) (m.g.edges k l) gone.0 gone.1 (inr (m.g.targets k l ∙ e)) in
          let same = sym (n.g.targets t.0 t.1) ∙ ap G.target t.2 ∙ m.g.targets k l ∙ e in
          let end = n.injective.nodes _ _ (ends r holds t.0 t.1).1 gone.1 same in
          sym t.2 ∙ ap n.g.edge (only t.0 t.1 end)

      -- two matches agree on what is known
      mutual
        node-agrees : {i : ℕ} → KnownNode i → m.g.node i ≡ n.g.node i
        node-agrees (root i k e) = root-agrees r G one_root m n i k e
        node-agrees (source i k e q) =
            let l = left-edge e in
            subst (λ x. m.g.node x ≡ n.g.node x) q (sym (m.g.sources k l) ∙ ap G.source (edge-agrees e) ∙ n.g.sources k l)
        node-agrees (target i k e q) =
            let l = left-edge e in
            subst (λ x. m.g.node x ≡ n.g.node x) q (sym (m.g.targets k l) ∙ ap G.target (edge-agrees e) ∙ n.g.targets k l)

        edge-agrees : {k : ℕ} → KnownEdge k → m.g.edge k ≡ n.g.edge k
        edge-agrees (leaving k o l e) = leaving-agrees r G (one_out o) m n k l (node-agrees e)
        edge-agrees (leaving_deleted k l gone only e) = deleted_source k l gone only (node-agrees e)
        edge-agrees (reaching_deleted k l gone only e) = deleted_target k l gone only (node-agrees e)

      pub determined_agrees : Determined → Agree r G m.g n.g
      determined_agrees d = record { nodes = λ i k. node-agrees (d.nodes i k); edges = λ k l. edge-agrees (d.edges k l) }

-- so a rule that is determined and keeps 'at most one root' is steady
pub determined_steady : (r : Rule) → LegalRule r → RootsKept r → Defs.Determined r false → Steady OneRoot (r ∷ [])
determined_steady r legal kept d =
    one-rule OneRoot r legal (keeps-one-root r legal kept) (λ G host inv m n.
    determined_agrees r false legal.holds G inv (λ e. let z : ◌≡◌ {A = ℕ} 0 1 = cc in absurd (omega arith)) m n d)

pub walk_steady : (r : Rule) → LegalRule r → RootsKept r → EdgesKept r → Defs.Determined r true → Steady OneWay (r ∷ [])
walk_steady r legal kept edges d =
    one-rule OneWay r legal
    (λ G H host inv a. (keeps-one-root r legal kept G H host inv.0 a, keeps-one-out r legal edges G H host a inv.1))
    (λ G host inv m n. determined_agrees r true legal.holds G inv.0 (λ e. inv.1) m n d)
