-- Laws of the published steps: what a command sequence does it does with a rest program behind it too, steps compose, and how
-- a command's end reads in the published words. Rests on Semantics.
use Rattle.std.specs.Prelude.{◌≡◌, refl, List}
use Rattle.meaning.specs.Image.{Rule}
use Rattle.meaning.specs.declared.End.{End}
use Rattle.meaning.specs.declared.End.TheVariants.{Done, Failed, Broke, Stopped}
use Rattle.published.specs.Semantics
use Rattle.published.specs.Semantics.{ComSeq, break, ◌⨟◌, Configuration, ⟨◌∣◌⟩, result, failure, [call₁], [call₂], [seq₁], [seq₂], [seq₃], [if₁], [if₂], [try₁], [try₂], [alap₁], [alap₂], [alap₃], [break], [skip], [fail], last, next, here, onward}

module _ {ℓ κ} (Graph : Type ℓ) (Applied : List Rule → Graph → Graph → Type κ) where
  infix 20 ◌⟶◌
  infix 20 ◌⟶⁺◌
  infix 20 ◌⟶*◌
  abbrev pub ◌⟶◌ : Configuration Graph → Configuration Graph → Type (ℓ ⊔ κ)
  a ⟶ b = Semantics.◌⟶◌ Graph Applied a b

  abbrev pub ◌⟶⁺◌ : Configuration Graph → Configuration Graph → Type (ℓ ⊔ κ)
  a ⟶⁺ b = Semantics.◌⟶⁺◌ Graph Applied a b

  abbrev pub ◌⟶*◌ : Configuration Graph → Configuration Graph → Type (ℓ ⊔ κ)
  a ⟶* b = Semantics.◌⟶*◌ Graph Applied a b

  -- Steps compose.

  pub plus_plus : {a b c : Configuration Graph} → a ⟶⁺ b → b ⟶⁺ c → a ⟶⁺ c
  plus_plus (last s) q = next s q
  plus_plus (next s p) q = next s (plus_plus p q)

  pub plus_star : {a b c : Configuration Graph} → a ⟶⁺ b → b ⟶* c → a ⟶* c
  plus_star (last s) q = onward s q
  plus_star (next s p) q = onward s (plus_star p q)

  pub star-step : {a b c : Configuration Graph} → a ⟶* b → b ⟶ c → a ⟶* c
  star-step here s = onward s here
  star-step (onward t p) s = onward t (star-step p s)

  -- With a rest program.

  -- a configuration with Q behind it
  abbrev pub behind : ComSeq → Configuration Graph → Configuration Graph
  behind Q ⟨ P ∣ G ⟩ = ⟨ P ⨟ Q ∣ G ⟩
  behind Q (result G) = ⟨ Q ∣ G ⟩
  behind Q failure = failure

  pub step-behind : (Q : ComSeq) {a b : Configuration Graph} → a ⟶ b → behind Q a ⟶ behind Q b
  step-behind Q ([call₁] x) = [seq₂] ([call₁] x)
  step-behind Q ([call₂] x) = [seq₃] ([call₂] x)
  step-behind Q ([seq₁] x) = [seq₁] ([seq₁] x)
  step-behind Q ([seq₂] x) = [seq₁] ([seq₂] x)
  step-behind Q ([seq₃] x) = [seq₃] ([seq₃] x)
  step-behind Q ([if₁] x) = [seq₁] ([if₁] x)
  step-behind Q ([if₂] x) = [seq₁] ([if₂] x)
  step-behind Q ([try₁] x) = [seq₁] ([try₁] x)
  step-behind Q ([try₂] x) = [seq₁] ([try₂] x)
  step-behind Q ([alap₁] x) = [seq₁] ([alap₁] x)
  step-behind Q ([alap₂] x) = [seq₂] ([alap₂] x)
  step-behind Q ([alap₃] x) = [seq₂] ([alap₃] x)
  step-behind Q [break] = [seq₁] [break]
  step-behind Q [skip] = [seq₂] [skip]
  step-behind Q [fail] = [seq₃] [fail]

  pub plus_behind : (Q : ComSeq) {a b : Configuration Graph} → a ⟶⁺ b → behind Q a ⟶⁺ behind Q b
  plus_behind Q (last s) = last (step-behind Q s)
  plus_behind Q (next s p) = next (step-behind Q s) (plus_behind Q p)

  pub star-behind : (Q : ComSeq) {a b : Configuration Graph} → a ⟶* b → behind Q a ⟶* behind Q b
  star-behind Q here = here
  star-behind Q (onward s p) = onward (step-behind Q s) (star-behind Q p)

  -- Ends.

  -- how a computation from a that ends in e with the graph H reads; the rules say nothing of one that is stopped
  abbrev pub Ends : Configuration Graph → End → Graph → Type (ℓ ⊔ κ)
  Ends a Done H = a ⟶⁺ result H
  Ends a Failed H = a ⟶⁺ failure
  Ends a Broke H = a ⟶* ⟨ break ∣ H ⟩
  Ends a (Stopped w) H = Unit {ℓ ⊔ κ}

  -- what ends so ends so after steps that lead there
  pub plus_ends : (e : End) {a b : Configuration Graph} (H : Graph) → a ⟶⁺ b → Ends b e H → Ends a e H
  plus_ends Done H p q = plus_plus p q
  plus_ends Failed H p q = plus_plus p q
  plus_ends Broke H p q = plus_star p q
  plus_ends (Stopped w) H p q = tt

  -- an end that is not Done is the end of a sequence
  pub ends-behind : (e : End) (P Q : ComSeq) (G H : Graph) → (e ≡ Done → ⊥) → Ends ⟨ P ∣ G ⟩ e H → Ends ⟨ P ⨟ Q ∣ G ⟩ e H
  ends-behind Done P Q G H n p = absurd (n refl)
  ends-behind Failed P Q G H n p = plus_behind Q p
  ends-behind Broke P Q G H n p = star-step (star-behind Q p) [break]
  ends-behind (Stopped w) P Q G H n p = tt
