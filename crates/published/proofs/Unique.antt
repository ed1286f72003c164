-- The choice of a rule application is the only choice in the published semantics: where each rule set that a program calls gives
-- alike graphs on alike graphs, all that the program can come to is alike; and where it can come to a graph or fail, it can
-- neither diverge nor get stuck. Rests on Alike.
use Rattle.std.specs.Prelude.{◌≡◌, refl, List, ℕ, suc}
use Rattle.std.proofs.Common.{◌∙◌, inl, inr, arith}
use Rattle.meaning.specs.Image.{Rule}
use Rattle.published.specs.Semantics
use Rattle.published.specs.Semantics.{ComSeq, ◌⨟◌, break, skip, fail, Configuration, ⟨◌∣◌⟩, result, [call₁], [call₂], [seq₁], [seq₂], [seq₃], [if₁], [if₂], [try₁], [try₂], [alap₁], [alap₂], [alap₃], [break], [skip], [fail], last, next, here, onward, Outcome, graph, fails, bottom, ⟦◌⟧}
use Rattle.published.specs.Alike
use Rattle.published.specs.Alike.{Calls, unfinished, results, failures, Same, same_graph, same_fail}
use Rattle.published.proofs.Alike.{step-over}
use Rattle.published.specs.Unique.{Ended, kind}

module _ {ℓ κ} (Graph : Type ℓ) (Applied : List Rule → Graph → Graph → Type κ) (U : List Rule → Type κ) (◌≅◌ : Graph → Graph → Type κ) where
  infix 30 ◌≅◌
  infix 20 ◌≈◌
  infix 20 ◌⟶◌
  infix 20 ◌⟶⁺◌
  infix 20 ◌⟶*◌
  abbrev ◌≈◌ : Configuration Graph → Configuration Graph → Type (ℓ ⊔ κ)
  a ≈ b = Alike.◌≈◌ Graph Applied U ◌≅◌ a b

  abbrev ◌⟶◌ : Configuration Graph → Configuration Graph → Type (ℓ ⊔ κ)
  a ⟶ b = Semantics.◌⟶◌ Graph Applied a b

  abbrev ◌⟶⁺◌ : Configuration Graph → Configuration Graph → Type (ℓ ⊔ κ)
  a ⟶⁺ b = Semantics.◌⟶⁺◌ Graph Applied a b

  abbrev ◌⟶*◌ : Configuration Graph → Configuration Graph → Type (ℓ ⊔ κ)
  a ⟶* b = Semantics.◌⟶*◌ Graph Applied a b

  many : {a b : Configuration Graph} → a ⟶⁺ b → a ⟶* b
  many (last s) = onward s here
  many (next s p) = onward s (many p)

  -- no step leads on from an end
  ended-stays : {a b : Configuration Graph} → a ⟶ b → Ended a → ⊥
  ended-stays ([call₁] x) e = e
  ended-stays ([call₂] x) e = e
  ended-stays ([seq₁] x) e = e
  ended-stays ([seq₂] x) e = e
  ended-stays ([seq₃] x) e = e
  ended-stays ([if₁] x) e = e
  ended-stays ([if₂] x) e = e
  ended-stays ([try₁] x) e = e
  ended-stays ([try₂] x) e = e
  ended-stays ([alap₁] x) e = e
  ended-stays ([alap₂] x) e = e
  ended-stays ([alap₃] x) e = e
  ended-stays [break] e = e
  ended-stays [skip] e = e
  ended-stays [fail] e = e

  -- Alike configurations.

  alike_kind : {a b : Configuration Graph} → a ≈ b → kind a ≡ kind b
  alike_kind (unfinished u i) = refl
  alike_kind (results i) = refl
  alike_kind failures = refl

  alike-ended : {a b : Configuration Graph} → a ≈ b → Ended a → Ended b
  alike-ended (unfinished u i) e = e
  alike-ended (results i) e = e
  alike-ended failures e = e

  ended-alike : {a b : Configuration Graph} → a ≈ b → Ended b → Ended a
  ended-alike (unfinished u i) e = e
  ended-alike (results i) e = e
  ended-alike failures e = e

  alike-results : {G H : Graph} → result G ≈ result H → G ≅ H
  alike-results (results i) = i

  alike_graphs : {P Q : ComSeq} {G H : Graph} → ⟨ P ∣ G ⟩ ≈ ⟨ Q ∣ H ⟩ → G ≅ H
  alike_graphs (unfinished u i) = i

  -- two ends of the same kind only
  apart : {A : Type (ℓ ⊔ κ)} {a b : Configuration Graph} → a ≈ b → (kind a ≡ kind b → ⊥) → A
  apart r n = absurd (n (alike_kind r))

  -- from an end nothing else is reached
  ended-many : {a b x : Configuration Graph} → a ≈ b → Ended a → b ⟶* x → a ≈ x
  ended-many r e here = r
  ended-many r e (onward s q) = absurd (ended-stays s (alike-ended r e))

  alike-behind : {P P' Q : ComSeq} {G H : Graph} → ⟨ P ∣ G ⟩ ≈ ⟨ P' ∣ H ⟩ → Calls U Q → ⟨ P ⨟ Q ∣ G ⟩ ≈ ⟨ P' ⨟ Q ∣ H ⟩
  alike-behind {Q} (unfinished {P = P} u i) v = unfinished {P = P ⨟ Q} (u, v) i

  module _ (back : (G H : Graph) → G ≅ H → H ≅ G)
      (carry : (R : List Rule) → U R → (G G' H : Graph) → G ≅ G' → Applied R G H → (H' : Graph) × (H ≅ H') × Applied R G' H')
      (unique : (R : List Rule) → U R → (G G' H H' : Graph) → G ≅ G' → Applied R G H → Applied R G' H' → H ≅ H')
    where
      -- Steps from alike configurations lead to alike ones, and so do computations that end.
      mutual
        step-alike : {a b a' b' : Configuration Graph} → a ⟶ b → a ≈ a' → a' ⟶ b' → b ≈ b'
        step-alike ([call₁] x) (unfinished u i) ([call₁] y) = results (unique _ u _ _ _ _ i x y)
        step-alike ([call₁] x) (unfinished u i) ([call₂] n) = let w = carry _ u _ _ _ i x in absurd (n w.0 w.2)
        step-alike ([call₂] n) (unfinished u i) ([call₁] y) = let w = carry _ u _ _ _ (back _ _ i) y in absurd (n w.0 w.2)
        step-alike ([call₂] n) (unfinished u i) ([call₂] m) = failures
        step-alike ([seq₁] s) (unfinished u i) ([seq₁] t) = alike-behind (step-alike s (unfinished u.0 i) t) u.1
        step-alike ([seq₁] s) (unfinished u i) ([seq₂] t) = apart (step-alike s (unfinished u.0 i) t) (λ e. omega arith)
        step-alike ([seq₁] s) (unfinished u i) ([seq₃] t) = apart (step-alike s (unfinished u.0 i) t) (λ e. omega arith)
        step-alike ([seq₁] s) (unfinished u i) [break] = absurd (ended-stays s tt)
        step-alike ([seq₂] s) (unfinished u i) ([seq₁] t) = apart (step-alike s (unfinished u.0 i) t) (λ e. omega arith)
        step-alike ([seq₂] s) (unfinished u i) ([seq₂] t) = unfinished u.1 (alike-results (step-alike s (unfinished u.0 i) t))
        step-alike ([seq₂] s) (unfinished u i) ([seq₃] t) = apart (step-alike s (unfinished u.0 i) t) (λ e. omega arith)
        step-alike ([seq₂] s) (unfinished u i) [break] = absurd (ended-stays s tt)
        step-alike ([seq₃] s) (unfinished u i) ([seq₁] t) = apart (step-alike s (unfinished u.0 i) t) (λ e. omega arith)
        step-alike ([seq₃] s) (unfinished u i) ([seq₂] t) = apart (step-alike s (unfinished u.0 i) t) (λ e. omega arith)
        step-alike ([seq₃] s) (unfinished u i) ([seq₃] t) = failures
        step-alike ([seq₃] s) (unfinished u i) [break] = absurd (ended-stays s tt)
        step-alike ([if₁] p) (unfinished u i) ([if₁] q) = unfinished u.1 i
        step-alike ([if₁] p) (unfinished u i) ([if₂] q) = apart (plus_alike p (unfinished u.0 i) (many q) tt tt) (λ e. omega arith)
        step-alike ([if₂] p) (unfinished u i) ([if₁] q) = apart (plus_alike p (unfinished u.0 i) (many q) tt tt) (λ e. omega arith)
        step-alike ([if₂] p) (unfinished u i) ([if₂] q) = unfinished u.2 i
        step-alike ([try₁] p) (unfinished u i) ([try₁] q) = unfinished u.1 (alike-results (plus_alike p (unfinished u.0 i) (many q) tt tt))
        step-alike ([try₁] p) (unfinished u i) ([try₂] q) = apart (plus_alike p (unfinished u.0 i) (many q) tt tt) (λ e. omega arith)
        step-alike ([try₂] p) (unfinished u i) ([try₁] q) = apart (plus_alike p (unfinished u.0 i) (many q) tt tt) (λ e. omega arith)
        step-alike ([try₂] p) (unfinished u i) ([try₂] q) = unfinished u.2 i
        step-alike ([alap₁] p) (unfinished u i) ([alap₁] q) = unfinished u (alike-results (plus_alike p (unfinished u i) (many q) tt tt))
        step-alike ([alap₁] p) (unfinished u i) ([alap₂] q) = apart (plus_alike p (unfinished u i) (many q) tt tt) (λ e. omega arith)
        step-alike ([alap₁] p) (unfinished u i) ([alap₃] q) = apart (plus_alike p (unfinished u i) q tt tt) (λ e. omega arith)
        step-alike ([alap₂] p) (unfinished u i) ([alap₁] q) = apart (plus_alike p (unfinished u i) (many q) tt tt) (λ e. omega arith)
        step-alike ([alap₂] p) (unfinished u i) ([alap₂] q) = results i
        step-alike ([alap₂] p) (unfinished u i) ([alap₃] q) = apart (plus_alike p (unfinished u i) q tt tt) (λ e. omega arith)
        step-alike ([alap₃] p) (unfinished u i) ([alap₁] q) = apart (star-alike p (unfinished u i) (many q) tt tt) (λ e. omega arith)
        step-alike ([alap₃] p) (unfinished u i) ([alap₂] q) = apart (star-alike p (unfinished u i) (many q) tt tt) (λ e. omega arith)
        step-alike ([alap₃] p) (unfinished u i) ([alap₃] q) = results (alike_graphs (star-alike p (unfinished u i) q tt tt))
        step-alike [break] (unfinished u i) ([seq₁] t) = absurd (ended-stays t tt)
        step-alike [break] (unfinished u i) ([seq₂] t) = absurd (ended-stays t tt)
        step-alike [break] (unfinished u i) ([seq₃] t) = absurd (ended-stays t tt)
        step-alike [break] (unfinished u i) [break] = unfinished {P = break} tt i
        step-alike [skip] (unfinished u i) [skip] = results i
        step-alike [fail] (unfinished u i) [fail] = failures

        plus_alike : {a x a' x' : Configuration Graph} → a ⟶⁺ x → a ≈ a' → a' ⟶* x' → Ended x → Ended x' → x ≈ x'
        plus_alike (last s) r here e e' = absurd (ended-stays s (ended-alike r e'))
        plus_alike (last s) r (onward t q) e e' = ended-many (step-alike s r t) e q
        plus_alike (next s p) r here e e' = absurd (ended-stays s (ended-alike r e'))
        plus_alike (next s p) r (onward t q) e e' = plus_alike p (step-alike s r t) q e e'

        star-alike : {a x a' x' : Configuration Graph} → a ⟶* x → a ≈ a' → a' ⟶* x' → Ended x → Ended x' → x ≈ x'
        star-alike here r q e e' = ended-many r e q
        star-alike (onward s p) r here e e' = absurd (ended-stays s (ended-alike r e'))
        star-alike (onward s p) r (onward t q) e e' = star-alike p (step-alike s r t) q e e'

      -- Where an end is reached, a computation neither goes on for ever nor gets stuck.

      diverge_ended : {a x : Configuration Graph} → a ⟶⁺ x → Ended x → (at : ℕ → Configuration Graph) → a ≈ at 0
          → ((n : ℕ) → at n ⟶ at (suc n)) → ⊥
      diverge_ended (last s) e at r goes = ended-stays (goes 1) (alike-ended (step-alike s r (goes 0)) e)
      diverge_ended (next s p) e at r goes = diverge_ended p e (λ n. at (suc n)) (step-alike s r (goes 0)) (λ n. goes (suc n))

      stuck_ended : {a a' c x : Configuration Graph} → a ⟶⁺ x → Ended x → a ≈ a' → a' ⟶* c → kind c ≡ 0 → (kind x ≡ 0 → ⊥)
          → ((d : Configuration Graph) → c ⟶ d → ⊥) → ⊥
      stuck_ended (last s) e r here k n stuck = let t = step-over Graph Applied U ◌≅◌ back carry s r in stuck t.0 t.2
      stuck_ended (last s) e r (onward t q) k n stuck = n (alike_kind (ended-many (step-alike s r t) e q) ∙ k)
      stuck_ended (next s p) e r here k n stuck = let t = step-over Graph Applied U ◌≅◌ back carry s r in stuck t.0 t.2
      stuck_ended (next s p) e r (onward t q) k n stuck = stuck_ended p e (step-alike s r t) q k n stuck

      -- Outcomes.

      module _ (P : ComSeq) (u : Calls U P) (G : Graph) (same : G ≅ G) where
        abbrev Comes : Outcome Graph → Type (ℓ ⊔ κ)
        Comes X = ⟦◌⟧ Graph Applied P G X

        not-bottom : {x : Configuration Graph} → ⟨ P ∣ G ⟩ ⟶⁺ x → Ended x → (kind x ≡ 0 → ⊥) → Comes bottom → ⊥
        not-bottom p e n (inl d) = diverge_ended p e d.at (rw d.starts (unfinished u same)) d.goes
        not-bottom p e n (inr d) = stuck_ended p e (unfinished u same) d.reached refl n d.terminal

        -- where P can come to a graph, it can come to nothing else, up to alike graphs
        pub one-result : (H : Graph) → Comes (graph H) → (X : Outcome Graph) → Comes X → Same Graph ◌≅◌ (graph H) X
        one-result H p (graph K) q = same_graph (alike-results (plus_alike p (unfinished u same) (many q) tt tt))
        one-result H p fails q = apart (plus_alike p (unfinished u same) (many q) tt tt) (λ e. omega arith)
        one-result H p bottom q = absurd (not-bottom p tt (λ e. omega arith) q)

        -- where it can fail, it can come to nothing else
        pub one-fail : Comes fails → (X : Outcome Graph) → Comes X → Same Graph ◌≅◌ fails X
        one-fail p (graph K) q = apart (plus_alike p (unfinished u same) (many q) tt tt) (λ e. omega arith)
        one-fail p fails q = same_fail
        one-fail p bottom q = absurd (not-bottom p tt (λ e. omega arith) q)
