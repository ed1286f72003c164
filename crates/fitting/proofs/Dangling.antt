-- Edges at the slots of nodes that go. Rests on Fitting and on the meaning's FirstMatch.
use mathlib.Core.Path.{◌≡◌, refl, sym, ◌∙◌, ap}
use mathlib.Core.Bool.{Bool, true, false}
use mathlib.Core.List.{List}
use Prim.Native.Nat.{ℕ, zero, suc, ◌+◌, ◌<◌}
use native.Mathlib.Omega.{arith}
use lib.Dec.{leb, eqb}
use lib.ListN.{get_or, take, drop}
use lib.Seq.{get_or-take}
use Rattle.meaning.specs.Basics.{both, either, exists, absent}
use Rattle.meaning.specs.Layout.{Host, live_at}
use Rattle.meaning.specs.Image.{Rule}
use Rattle.meaning.specs.Matching.{edge_at, left_nodes, total, node_slot, edge_touches}
use Rattle.meaning.specs.FirstMatch.{touches_gone, dangles}
use Rattle.meaning.specs.Laws.Tests.{both_yes, both-no, exists-no}
use Rattle.fitting.specs.Fitting.{gone_at, Numbers}
use Rattle.plan.specs.Plan.{edges_at, interface_at, nodes_at}

-- An edge that dangles.

exists-same : (f g : ℕ → Bool) (n : ℕ) → ((j : ℕ) → j < n → f j ≡ g j) → exists f n ≡ exists g n
unfolding exists
exists-same f g zero h = refl
exists-same f g (suc n) h = rw (h n (omega arith), exists-same f g n (λ j k. h j (omega arith)))

module _ (h : Host) (r : Rule) (plan at : List ℕ) (x : ℕ) (e : Numbers plan r) where
  abbrev whole : List ℕ
  whole = take (total r) at

  -- where the edge is live, it touches a node that goes where one of its ends does
  touched : live_at h.edges x ≡ true → (s t : ℕ) → s ≡ (edge_at h x).source → t ≡ (edge_at h x).target
      → exists (touches_gone h r whole x) (left_nodes r) ≡ exists (gone_at (get_or plan interface_at 0) at s t) (get_or plan nodes_at 0)
  unfolding touches_gone edge_touches
  touched l s t p q =
      exists-same (touches_gone h r whole x) (gone_at (get_or plan interface_at 0) at s t) (left_nodes r) (λ j k.
      rw (both_yes (live_at h.edges x) (either (eqb (edge_at h x).source (node_slot whole j)) (eqb (edge_at h x).target (node_slot whole j))) l, get_or-take (total r) at j 0 (omega arith), p, q, e.interface))
      ∙ ap (exists (gone_at (get_or plan interface_at 0) at s t)) (sym e.nodes)

  module _ (l : Bool) (i : l ≡ live_at h.edges x) where
    pub dangles-free : l ≡ false → false ≡ dangles h r whole x
    unfolding dangles touches_gone edge_touches both
    dangles-free d = sym (both-no _ _ (exists-no (touches_gone h r whole x) (left_nodes r) (λ j k. go (leb r.interface j) j)))
      where
        go : (b : Bool) (j : ℕ) → both b (both (live_at h.edges x) (either (eqb (edge_at h x).source (node_slot whole j)) (eqb (edge_at h x).target (node_slot whole j)))) ≡ false
        go true j = rw (sym i ∙ d)
        go false j = refl

    module _ (d : l ≡ true) (s t : ℕ) (p : s ≡ (edge_at h x).source) (q : t ≡ (edge_at h x).target) (g : Bool) (f : g ≡ exists (gone_at (get_or plan interface_at 0) at s t) (get_or plan nodes_at 0)) where
      pub dangles-far : g ≡ false → false ≡ dangles h r whole x
      unfolding dangles
      dangles-far z = sym (both-no _ _ (touched (sym i ∙ d) s t p q ∙ sym f ∙ z))

      pub dangles_near : g ≡ true → (b : Bool) → b ≡ absent x (drop (get_or plan nodes_at 0) (take (get_or plan nodes_at 0 + get_or plan edges_at 0) at)) → b ≡ dangles h r whole x
      unfolding dangles
      dangles_near z b y = y ∙ rw (e.nodes, e.edges) (sym (both_yes _ _ (touched (sym i ∙ d) s t p q ∙ sym f ∙ z)))
