-- The published semantics on graphs that are alike, as by an isomorphism: where rule application goes over from a graph to an
-- alike graph, so does every step, and the program can come to alike outcomes. Rests on Semantics.
use Rattle.std.specs.Prelude.{refl, ◌⊎◌, List, ℕ, zero, suc}
use Rattle.std.proofs.Common.{inl, inr}
use Rattle.meaning.specs.Image.{Rule}
use Rattle.published.specs.Semantics.{ComSeq, ◌⨟◌, when◌then◌else◌, try◌then◌else◌, ◌!, break, Configuration, ⟨◌∣◌⟩, result, failure, [call₁], [call₂], [seq₁], [seq₂], [seq₃], [if₁], [if₂], [try₁], [try₂], [alap₁], [alap₂], [alap₃], [break], [skip], [fail], last, next, here, onward, Outcome, graph, fails, bottom, CanDiverge, CanGetStuck, ⟦◌⟧}
use Rattle.published.specs.Alike.{Calls, Same, same_graph, same_fail, same_bottom, unfinished, results, failures}
use Rattle.published.specs.Alike as Defs

module _ {ℓ κ} (Graph : Type ℓ) (Applied : List Rule → Graph → Graph → Type κ) (U : List Rule → Type κ) (◌≅◌ : Graph → Graph → Type κ) where
  infix 30 ◌≅◌
  infix 20 ◌≈◌
  infix 20 ◌⟶◌
  infix 20 ◌⟶⁺◌
  infix 20 ◌⟶*◌
  abbrev ◌≈◌ : Configuration Graph → Configuration Graph → Type (ℓ ⊔ κ)
  ◌≈◌ = Defs.◌≈◌ Graph Applied U ◌≅◌

  abbrev ◌⟶◌ : Configuration Graph → Configuration Graph → Type (ℓ ⊔ κ)
  ◌⟶◌ = Defs.◌⟶◌ Graph Applied U ◌≅◌

  abbrev ◌⟶⁺◌ : Configuration Graph → Configuration Graph → Type (ℓ ⊔ κ)
  ◌⟶⁺◌ = Defs.◌⟶⁺◌ Graph Applied U ◌≅◌

  abbrev ◌⟶*◌ : Configuration Graph → Configuration Graph → Type (ℓ ⊔ κ)
  ◌⟶*◌ = Defs.◌⟶*◌ Graph Applied U ◌≅◌

  abbrev Step : Configuration Graph → Configuration Graph → Type (ℓ ⊔ κ)
  Step = Defs.Step Graph Applied U ◌≅◌

  abbrev Plus : Configuration Graph → Configuration Graph → Type (ℓ ⊔ κ)
  Plus = Defs.Plus Graph Applied U ◌≅◌

  abbrev Star : Configuration Graph → Configuration Graph → Type (ℓ ⊔ κ)
  Star = Defs.Star Graph Applied U ◌≅◌

  -- Steps with premises.

  over_seq₁ : {P P' Q : ComSeq} {G H : Graph} {c : Configuration Graph} → Calls U Q → ⟨ P' ∣ H ⟩ ≈ c → ⟨ P ∣ G ⟩ ⟶ c
      → Step ⟨ P ⨟ Q ∣ G ⟩ ⟨ P' ⨟ Q ∣ H ⟩
  over_seq₁ {P'} {Q} v (unfinished u i) s = (_, unfinished {P = P' ⨟ Q} (u, v) i, [seq₁] s)

  over_seq₂ : {P Q : ComSeq} {G H : Graph} {c : Configuration Graph} → Calls U Q → result H ≈ c → ⟨ P ∣ G ⟩ ⟶ c
      → Step ⟨ P ⨟ Q ∣ G ⟩ ⟨ Q ∣ H ⟩
  over_seq₂ v (results i) s = (_, unfinished v i, [seq₂] s)

  over_seq₃ : (Q : ComSeq) {P : ComSeq} {G : Graph} {c : Configuration Graph} → failure ≈ c → ⟨ P ∣ G ⟩ ⟶ c
      → Step ⟨ P ⨟ Q ∣ G ⟩ failure
  over_seq₃ Q failures s = (_, failures, [seq₃] s)

  over_if₁ : (Q : ComSeq) {C P : ComSeq} {G G' H : Graph} {c : Configuration Graph} → Calls U P → G ≅ G' → result H ≈ c
      → ⟨ C ∣ G' ⟩ ⟶⁺ c → Step ⟨ when C then P else Q ∣ G' ⟩ ⟨ P ∣ G ⟩
  over_if₁ Q u j (results i) p = (_, unfinished u j, [if₁] p)

  over_if₂ : (P : ComSeq) {C Q : ComSeq} {G G' : Graph} {c : Configuration Graph} → Calls U Q → G ≅ G' → failure ≈ c
      → ⟨ C ∣ G' ⟩ ⟶⁺ c → Step ⟨ when C then P else Q ∣ G' ⟩ ⟨ Q ∣ G ⟩
  over_if₂ P u j failures p = (_, unfinished u j, [if₂] p)

  over_try₁ : (Q : ComSeq) {C P : ComSeq} {G H : Graph} {c : Configuration Graph} → Calls U P → result H ≈ c
      → ⟨ C ∣ G ⟩ ⟶⁺ c → Step ⟨ try C then P else Q ∣ G ⟩ ⟨ P ∣ H ⟩
  over_try₁ Q u (results i) p = (_, unfinished u i, [try₁] p)

  over_try₂ : (P : ComSeq) {C Q : ComSeq} {G G' : Graph} {c : Configuration Graph} → Calls U Q → G ≅ G' → failure ≈ c
      → ⟨ C ∣ G' ⟩ ⟶⁺ c → Step ⟨ try C then P else Q ∣ G' ⟩ ⟨ Q ∣ G ⟩
  over_try₂ P u j failures p = (_, unfinished u j, [try₂] p)

  over_alap₁ : {P : ComSeq} {G H : Graph} {c : Configuration Graph} → Calls U P → result H ≈ c → ⟨ P ∣ G ⟩ ⟶⁺ c
      → Step ⟨ P ! ∣ G ⟩ ⟨ P ! ∣ H ⟩
  over_alap₁ {P} u (results i) p = (_, unfinished {P = P ! } u i, [alap₁] p)

  over_alap₂ : {P : ComSeq} {G G' : Graph} {c : Configuration Graph} → G ≅ G' → failure ≈ c → ⟨ P ∣ G' ⟩ ⟶⁺ c
      → Step ⟨ P ! ∣ G' ⟩ (result G)
  over_alap₂ j failures p = (_, results j, [alap₂] p)

  over_alap₃ : {P : ComSeq} {G H : Graph} {c : Configuration Graph} → ⟨ break ∣ H ⟩ ≈ c → ⟨ P ∣ G ⟩ ⟶* c
      → Step ⟨ P ! ∣ G ⟩ (result H)
  over_alap₃ (unfinished u i) p = (_, results i, [alap₃] p)

  module _ (back : (G H : Graph) → G ≅ H → H ≅ G)
      (carry : (R : List Rule) → U R → (G G' H : Graph) → G ≅ G' → Applied R G H → (H' : Graph) × (H ≅ H') × Applied R G' H')
    where
      mutual
        -- what one of two alike configurations does, the other does
        pub step-over : {a b a' : Configuration Graph} → a ⟶ b → a ≈ a' → Step a' b
        step-over ([call₁] x) (unfinished u i) = let t = carry _ u _ _ _ i x in (_, results t.1, [call₁] t.2)
        step-over ([call₂] n) (unfinished u i) = (_, failures, [call₂] (λ H x. let t = carry _ u _ _ _ (back _ _ i) x in n t.0 t.2))
        step-over ([seq₁] s) (unfinished u i) = let t = step-over s (unfinished u.0 i) in over_seq₁ u.1 t.1 t.2
        step-over ([seq₂] s) (unfinished u i) = let t = step-over s (unfinished u.0 i) in over_seq₂ u.1 t.1 t.2
        step-over ([seq₃] {Q = Q} s) (unfinished u i) = let t = step-over s (unfinished u.0 i) in over_seq₃ Q t.1 t.2
        step-over ([if₁] {Q = Q} p) (unfinished u i) = let t = plus_over p (unfinished u.0 i) in over_if₁ Q u.1 i t.1 t.2
        step-over ([if₂] {P = P} p) (unfinished u i) = let t = plus_over p (unfinished u.0 i) in over_if₂ P u.2 i t.1 t.2
        step-over ([try₁] {Q = Q} p) (unfinished u i) = let t = plus_over p (unfinished u.0 i) in over_try₁ Q u.1 t.1 t.2
        step-over ([try₂] {P = P} p) (unfinished u i) = let t = plus_over p (unfinished u.0 i) in over_try₂ P u.2 i t.1 t.2
        step-over ([alap₁] p) (unfinished u i) = let t = plus_over p (unfinished u i) in over_alap₁ u t.1 t.2
        step-over ([alap₂] p) (unfinished u i) = let t = plus_over p (unfinished u i) in over_alap₂ i t.1 t.2
        step-over ([alap₃] p) (unfinished u i) = let t = star-over p (unfinished u i) in over_alap₃ t.1 t.2
        step-over [break] (unfinished u i) = (_, unfinished {P = break} tt i, [break])
        step-over [skip] (unfinished u i) = (_, results i, [skip])
        step-over [fail] (unfinished u i) = (_, failures, [fail])

        pub plus_over : {a b a' : Configuration Graph} → a ⟶⁺ b → a ≈ a' → Plus a' b
        plus_over (last s) r = let t = step-over s r in (t.0, t.1, last t.2)
        plus_over (next s p) r = let t = step-over s r in let w = plus_over p t.1 in (w.0, w.1, next t.2 w.2)

        pub star-over : {a b a' : Configuration Graph} → a ⟶* b → a ≈ a' → Star a' b
        star-over here r = (_, r, here)
        star-over (onward s p) r = let t = step-over s r in let w = star-over p t.1 in (w.0, w.1, onward t.2 w.2)

      -- Outcomes.

      module _ (P : ComSeq) (u : Calls U P) (G G' : Graph) (i : G ≅ G') where
        -- P on G' can come to what is alike to X
        abbrev ComesOver : Outcome Graph → Type (ℓ ⊔ κ)
        ComesOver X = (X' : Outcome Graph) × Same Graph ◌≅◌ X X' × ⟦◌⟧ Graph Applied P G' X'

        result-over : {H : Graph} {c : Configuration Graph} → result H ≈ c → ⟨ P ∣ G' ⟩ ⟶⁺ c → ComesOver (graph H)
        result-over (results j) p = (_, same_graph j, p)

        fail-over : {c : Configuration Graph} → failure ≈ c → ⟨ P ∣ G' ⟩ ⟶⁺ c → ComesOver fails
        fail-over failures p = (fails, same_fail, p)

        module _ (d : CanDiverge Graph Applied P G) where
          beside : (n : ℕ) → (c : Configuration Graph) × (d.at n ≈ c)
          beside zero = (⟨ P ∣ G' ⟩, rw d.starts (unfinished u i))
          beside (suc n) = let t = step-over (d.goes n) (beside n).1 in (t.0, t.1)

          diverge_over : CanDiverge Graph Applied P G'
          unfolding beside
          diverge_over =
              record { at = λ n. (beside n).0; starts = refl; goes = λ n. (step-over (d.goes n) (beside n).1).2 }

        stuck_over : (d : CanGetStuck Graph Applied P G) {c : Configuration Graph} → ⟨ d.rest ∣ d.graph ⟩ ≈ c
            → ⟨ P ∣ G' ⟩ ⟶* c → CanGetStuck Graph Applied P G'
        stuck_over d (unfinished v j) p =
            record {
              rest = d.rest;
              graph = _;
              reached = p;
              terminal = λ x s. let t = step-over s (unfinished v (back _ _ j)) in d.terminal t.0 t.2;
            }

        bottom-over : CanDiverge Graph Applied P G ⊎ CanGetStuck Graph Applied P G → ComesOver bottom
        bottom-over (inl d) = (bottom, same_bottom, inl (diverge_over d))
        bottom-over (inr d) = let t = star-over d.reached (unfinished u i) in (bottom, same_bottom, inr (stuck_over d t.1 t.2))

        -- what P can come to on G, it can come to on an alike graph, up to alike graphs
        pub outcome-over : (X : Outcome Graph) → ⟦◌⟧ Graph Applied P G X → ComesOver X
        outcome-over (graph H) p = let t = plus_over p (unfinished u i) in result-over t.1 t.2
        outcome-over fails p = let t = plus_over p (unfinished u i) in fail-over t.1 t.2
        outcome-over bottom p = bottom-over p
