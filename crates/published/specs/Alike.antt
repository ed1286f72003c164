-- The published semantics on graphs that are alike, as by an isomorphism: where rule application goes over from a graph to an
-- alike graph, so does every step, and the program can come to alike outcomes. Rests on Semantics.
use Rattle.std.specs.Prelude.{List}
use Rattle.meaning.specs.Image.{Rule}
use Rattle.published.specs.Semantics
use Rattle.published.specs.Semantics.{ComSeq, call, ◌⨟◌, when◌then◌else◌, try◌then◌else◌, ◌!, break, skip, fail, Configuration, ⟨◌∣◌⟩, result, failure, Outcome, graph, fails, bottom}

-- U holds of each rule set that P calls
abbrev pub Calls {ℓ} : (List Rule → Type ℓ) → ComSeq → Type ℓ
Calls U (call R) = U R
Calls U (P ⨟ Q) = Calls U P × Calls U Q
Calls U (when C then P else Q) = Calls U C × Calls U P × Calls U Q
Calls U (try C then P else Q) = Calls U C × Calls U P × Calls U Q
Calls U (P !) = Calls U P
Calls U break = Unit {ℓ}
Calls U skip = Unit {ℓ}
Calls U fail = Unit {ℓ}

-- the same outcome, up to alike graphs
pub data Same {ℓ κ} (Graph : Type ℓ) (◌≅◌ : Graph → Graph → Type κ) : Outcome Graph → Outcome Graph → Type (ℓ ⊔ κ) where
  same_graph : {G H : Graph} → ◌≅◌ G H → Same Graph ◌≅◌ (graph G) (graph H)
  same_fail : Same Graph ◌≅◌ fails fails
  same_bottom : Same Graph ◌≅◌ bottom bottom

module _ {ℓ κ} (Graph : Type ℓ) (Applied : List Rule → Graph → Graph → Type κ) (U : List Rule → Type κ) (◌≅◌ : Graph → Graph → Type κ) where
  infix 30 ◌≅◌
  infix 20 ◌≈◌
  infix 20 ◌⟶◌
  infix 20 ◌⟶⁺◌
  infix 20 ◌⟶*◌
  -- the same rest program, whose rule sets keep to U, on alike graphs; alike graphs; or failure both
  pub data ◌≈◌ : Configuration Graph → Configuration Graph → Type (ℓ ⊔ κ) where
    unfinished : {P : ComSeq} {G H : Graph} → Calls U P → G ≅ H → ⟨ P ∣ G ⟩ ≈ ⟨ P ∣ H ⟩
    results : {G H : Graph} → G ≅ H → result G ≈ result H
    failures : failure ≈ failure

  abbrev pub ◌⟶◌ : Configuration Graph → Configuration Graph → Type (ℓ ⊔ κ)
  a ⟶ b = Semantics.◌⟶◌ Graph Applied a b

  abbrev pub ◌⟶⁺◌ : Configuration Graph → Configuration Graph → Type (ℓ ⊔ κ)
  a ⟶⁺ b = Semantics.◌⟶⁺◌ Graph Applied a b

  abbrev pub ◌⟶*◌ : Configuration Graph → Configuration Graph → Type (ℓ ⊔ κ)
  a ⟶* b = Semantics.◌⟶*◌ Graph Applied a b

  abbrev pub Reaches : (Configuration Graph → Configuration Graph → Type (ℓ ⊔ κ)) → Configuration Graph → Configuration Graph → Type (ℓ ⊔ κ)
  Reaches arrow a b = (c : Configuration Graph) × (b ≈ c) × arrow a c

  -- what is alike to b is reached from a by one step, by one or more, by any number
  abbrev pub Step : Configuration Graph → Configuration Graph → Type (ℓ ⊔ κ)
  Step a b = Reaches ◌⟶◌ a b

  abbrev pub Plus : Configuration Graph → Configuration Graph → Type (ℓ ⊔ κ)
  Plus a b = Reaches ◌⟶⁺◌ a b

  abbrev pub Star : Configuration Graph → Configuration Graph → Type (ℓ ⊔ κ)
  Star a b = Reaches ◌⟶*◌ a b
