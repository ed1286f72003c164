-- Host edges that can stand for left edges, and the links of a tried node. Rests on Fitting and on the meaning's FirstMatch.
use mathlib.Core.Path.{◌≡◌, sym, ◌∙◌}
use mathlib.Core.Bool.{Bool, true}
use mathlib.Core.List.{List}
use Prim.Native.Nat.{ℕ, ◌<◌, max}
use native.Mathlib.Omega.{arith}
use lib.ListN.{length, get_or}
use Rattle.meaning.specs.Basics.{exists}
use Rattle.meaning.specs.Layout.{Host}
use Rattle.meaning.specs.Matching.{left_edge, node_slot}
use Rattle.meaning.specs.FirstMatch.{joins, linked}
use Rattle.meaning.specs.Laws.Tests.{choose_eq, choose_ne}
use Rattle.plan.specs.Plan.{edges_at}
use Rattle.fitting.specs.Fitting.{TriedEdge, joins_at}
use Rattle.agreeing.specs.Placed.{slot_of, Tried}

-- the item tried is at left edge x, where that is one
pub tried_edge : {h : Host} {bs plan at : List ℕ} {i c x : ℕ} → Tried h bs plan at i c → x < get_or plan edges_at 0 → TriedEdge h bs plan at i c x
tried_edge w h = record { trial = w.trial; last = w.last; there = omega (arith, w.trial.planned.laid.items.edges) }

module _ {h : Host} {bs plan at : List ℕ} {i c : ℕ} (w : Tried h bs plan at i c) (k s t : ℕ) (p : s ≡ (left_edge w.trial.rule k).source) (q : t ≡ (left_edge w.trial.rule k).target) where
  pub linked_near : max s t ≡ i → (x y : ℕ) (b : Bool) → x ≡ slot_of at i c s → y ≡ slot_of at i c t → b ≡ exists (joins_at h w.trial.rule k x y) (length h.edges)
      → b ≡ linked h w.trial.rule w.trial.placed i k
  unfolding linked joins
  linked_near m x y b e f g =
      let n = w.last in
      let u : x ≡ node_slot w.trial.placed (left_edge w.trial.rule k).source = e ∙ w.trial.slot s (omega arith) ∙ rw p in
      let v : y ≡ node_slot w.trial.placed (left_edge w.trial.rule k).target = f ∙ w.trial.slot t (omega arith) ∙ rw q in
      let z : max (left_edge w.trial.rule k).source (left_edge w.trial.rule k).target ≡ i = rw (p, q) at m in
      g ∙ rw (u, v) (sym (choose_eq (max (left_edge w.trial.rule k).source (left_edge w.trial.rule k).target) i _ _ z))

  pub linked-far : (max s t ≡ i → ⊥) → true ≡ linked h w.trial.rule w.trial.placed i k
  unfolding linked
  linked-far d = sym (choose_ne _ _ _ _ (λ z. d (rw (p, q) z)))
