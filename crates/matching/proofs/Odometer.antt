-- The state of the search, and what each of its steps keeps.
use Prim.Native.Nat.{ℕ, ◌+◌, ◌-◌, ◌<◌, ◌≤◌}
use mathlib.Core.Path.{◌≡◌, sym, ◌∙◌}
use mathlib.Core.Logic.{inl, inr}
use mathlib.Core.List.{List}
use mathlib.Core.Bool.{true}
use mathlib.Core.Option.{Option, some, none}
use native.Mathlib.Omega.{arith}
use native.Mathlib.Decide.{ℕ_discrete}
use lib.ListN.{length, get_or, take, set, length-set}
use lib.Seq.{get_or-set_same, get_or-set_other}
use Rattle.std.specs.Prelude.{Some}
use Rattle.meaning.specs.Layout.{Host, host_of}
use Rattle.meaning.specs.Image.{Rule, most_items}
use Rattle.meaning.specs.Matching.{left_nodes, total}
use Rattle.meaning.specs.FirstMatch.{fits, candidates, complete, first_match}
use Rattle.meaning.specs.declared.Layout.{Layout}
use Rattle.agreeing.specs.Placed.{Known, Inside, slots}
use Rattle.matching.specs.Next.{Handed, Ready, NextSlot, IsStep}
use Rattle.matching.specs.declared.Step.TheVariants.{Back}
use Rattle.matching.proofs.Plans.{nodes-of}
use Rattle.matching.proofs.Links.{slots-of, slots-below, slots-few}
use Rattle.matching.proofs.Steps as steps
use Rattle.matching.proofs.Falls as falls

-- above every slot
abbrev top : Host → ℕ
top h = length h.nodes + length h.edges

-- how much is left, of n levels
pub work : Host → ℕ → List ℕ → ℕ → ℕ → ℕ
work h n at i c = falls.steps (top h) n at i c

module _ (h : Host) (r : Rule) where
  abbrev from-here : List ℕ → ℕ → ℕ → Option (List ℕ)
  from-here at i c = steps.now (candidates h r) (fits h r) (complete h r) (total r) at i c

  abbrev behind : List ℕ → ℕ → Option (List ℕ)
  behind at i = steps.back (candidates h r) (fits h r) (complete h r) (total r) at i

  pub record Going (at : List ℕ) (i c : ℕ) : Type 0 where
    pub room : length at ≡ most_items
    pub level : i ≤ total r
    pub inside : Inside h (left_nodes r) at i
    pub same : from-here at i c ≡ first_match h r

  pub begin : (at : List ℕ) → length at ≡ most_items → Going at 0 0
  unfolding first_match
  begin at e = record { room = e; level = omega arith; inside = λ j k. absurd (omega arith); same = steps.start _ _ _ _ at }

  module _ (few : total r ≤ most_items) (at : List ℕ) (i c : ℕ) (g : Going at i c) where
    module _ (under : i < total r) where
      module _ (x : ℕ) (n : NextSlot h r (take i at) c (Some x)) where
        in_room : i < length at
        in_room = omega (arith, g.room)

        pub pushed : Going (set at i x) (i + 1) 0
        pushed = record {
          room = length-set at i x ∙ g.room;
          level = omega arith;
          inside = λ j k. slot j k (ℕ_discrete j i);
          same = steps.push _ _ _ (total r) at i c x under in_room n.0 n.1 n.2 n.3 ∙ g.same;
        }
          where
            slot : (j : ℕ) → j < i + 1 → Dec (j ≡ i) → get_or (set at i x) j 0 < slots h (left_nodes r) j
            slot j k (yes e) = rw (e, get_or-set_same at i x 0 in_room) (rw (slots-of h r at i in_room) at n.1)
            slot j k (no e) = rw (get_or-set_other at i j x 0 e) (g.inside j (omega arith))

        pub pushed-less : (m : ℕ) → m ≡ total r → work h m (set at i x) (i + 1) 0 < work h m at i c
        unfolding work
        pushed-less m e = rw e (falls.push-falls (top h) (total r) at i c x under in_room n.0
            (omega (arith, n.1, slots-of h r at i in_room, slots-below h (left_nodes r) i)))

    module _ (n : IsStep h r (take i at) i c Back) where
      gone : behind at i ≡ first_match h r
      gone = by n
        where
          by : IsStep h r (take i at) i c Back → behind at i ≡ first_match h r
          by (inl d) = sym (steps.dead _ _ _ (total r) at i c d.0 d.1) ∙ g.same
          by (inr d) = rw d.0 (sym (steps.refused _ _ _ (total r) at c (rw d.0 at d.1)) ∙ rw d.0 at g.same)

      pub ended : i ≡ 0 → none ≡ first_match h r
      unfolding steps.back
      ended e = rw e at gone

      pub popped : 0 < i → Going at (i - 1) (get_or at (i - 1) 0 + 1)
      popped k = record {
        room = g.room;
        level = omega (arith, g.level);
        inside = λ j l. g.inside j (omega arith);
        same = steps.pop _ _ _ (total r) at i k ∙ gone;
      }

    pub popped-less : (m : ℕ) → m ≡ total r → 0 < i → work h m at (i - 1) (get_or at (i - 1) 0 + 1) < work h m at i c
    unfolding work
    popped-less m e k = rw e (falls.pop-falls (top h) (total r) at i c k)

    pub found_first : i ≡ total r → complete h r (take i at) ≡ true → some (take (total r) at) ≡ first_match h r
    found_first e f = sym (steps.done _ _ _ (total r) at c (rw e at f)) ∙ rw e at g.same

-- The state in tables of bytes, under a plan.

module _ (L : Layout) (nodes edges bs plan at : List ℕ) (i c : ℕ) where
  pub ready : (p : Handed L nodes edges bs plan) → Going (host_of L nodes edges) p.known.rule at i c
      → Ready L nodes edges bs plan at i
  ready p g =
      record { legal = p.legal; known = p.known; room = g.room; inside = rw (nodes-of _ _ p.known) g.inside }

  -- a slot number is below the tables' lengths in bytes
  pub small : (w : Known bs plan) → Going (host_of L nodes edges) w.rule at i c → (j : ℕ) → j < i
      → get_or at j 0 < length nodes + length edges
  small w g j k = omega (arith, g.inside j k, slots-few L nodes edges (left_nodes w.rule) j)
