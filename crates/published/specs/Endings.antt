-- A program that ends with a check, `P; if C then fail`, has only results on which C fails. Rests on Semantics.
use Rattle.std.specs.Prelude.{List}
use Rattle.meaning.specs.Image.{Rule}
use Rattle.published.specs.Semantics
use Rattle.published.specs.Semantics.{ComSeq, ◌⨟◌, when◌then◌else◌, break, skip, fail, Configuration, ⟨◌∣◌⟩, result, failure, [seq₁], [seq₂], [seq₃], [if₁], [if₂], [break], [skip], [fail], last, next}

module _ {ℓ κ} (Graph : Type ℓ) (Applied : List Rule → Graph → Graph → Type κ) where
  infix 20 ◌⟶◌
  infix 20 ◌⟶⁺◌
  abbrev ◌⟶◌ : Configuration Graph → Configuration Graph → Type (ℓ ⊔ κ)
  a ⟶ b = Semantics.◌⟶◌ Graph Applied a b

  abbrev ◌⟶⁺◌ : Configuration Graph → Configuration Graph → Type (ℓ ⊔ κ)
  a ⟶⁺ b = Semantics.◌⟶⁺◌ Graph Applied a b

  -- no step leads on from a graph, from failure or from break
  pub result-stays : {K : Graph} {c : Configuration Graph} → result K ⟶⁺ c → ⊥
  result-stays (last s) = elim s [ ]
  result-stays (next s p) = elim s [ ]

  pub failure-stays : {c : Configuration Graph} → failure ⟶⁺ c → ⊥
  failure-stays (last s) = elim s [ ]
  failure-stays (next s p) = elim s [ ]

  break-stays : {G : Graph} {c : Configuration Graph} → ⟨ break ∣ G ⟩ ⟶⁺ c → ⊥
  break-stays (last s) = elim s [ ]
  break-stays (next s p) = elim s [ ]

  fail-results : {G K : Graph} → ⟨ fail ∣ G ⟩ ⟶⁺ result K → ⊥
  fail-results (next [fail] p) = failure-stays p
  fail-results (last x) = elim x [ ]

  -- a result of the check is the graph, on which C fails
  check-fails : {C : ComSeq} {G K : Graph} → ⟨ when C then fail else skip ∣ G ⟩ ⟶⁺ result K → ⟨ C ∣ K ⟩ ⟶⁺ failure
  check-fails (next ([if₁] p) q) = absurd (fail-results q)
  check-fails (next ([if₂] p) (last [skip])) = p
  check-fails (next ([if₂] p) (next [skip] q)) = absurd (result-stays q)
  check-fails (last x) = elim x [ ]

  -- a result of a sequence is one of its second part
  second : {P Q : ComSeq} {G K : Graph} → ⟨ P ⨟ Q ∣ G ⟩ ⟶⁺ result K → (H : Graph) × (⟨ Q ∣ H ⟩ ⟶⁺ result K)
  second (next ([seq₁] s) p) = second p
  second (next ([seq₂] s) p) = (_, p)
  second (next ([seq₃] s) p) = absurd (failure-stays p)
  second (next [break] p) = absurd (break-stays p)
  second (last x) = elim x [ ]

  pub checked : (P C : ComSeq) (G K : Graph) → ⟨ P ⨟ when C then fail else skip ∣ G ⟩ ⟶⁺ result K → ⟨ C ∣ K ⟩ ⟶⁺ failure
  checked P C G K p = let t = second p in check-fails t.1
