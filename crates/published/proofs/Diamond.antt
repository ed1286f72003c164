-- Loops over a rule set whose results can always be brought together again: where two of its results are not isomorphic, it has one
-- result of each, and these are. Then the order does not matter, nor what was chosen: if one way ends, each way ends, after as many
-- steps and with the same graph. So what a loop over such a rule set comes to on a host graph is all that it can come to.
-- Rests on Answers, Steady and Endings.
use Rattle.std.specs.Prelude.{◌≡◌, refl, ◌⊎◌, List}
use Rattle.std.proofs.Common.{sym, subst, inl, inr, arith}
use Prim.Native.Nat.{ℕ, zero, suc}
use Rattle.meaning.specs.Image.{Rule}
use Rattle.meaning.specs.Commands.{rule_at}
use Rattle.laws.specs.LegalCommands.{LegalRules, legal-rule}
use Rattle.published.specs.Graphs.{Graph, HostGraph, Iso}
use Rattle.published.specs.RuleApplication.{Applied}
use Rattle.published.proofs.Isomorphism.{iso-same, iso-trans, applied-iso}
use Rattle.published.proofs.HostResult.{applies-host}
use Rattle.published.specs.Semantics.{ComSeq, call, ◌!, break, Configuration, ⟨◌∣◌⟩, result, failure, [call₁], [call₂], [alap₁], [alap₂], [alap₃], last, next, here, onward, Outcome, graph, fails, bottom, ⟦◌⟧}
use Rattle.published.specs.Answers.{Alike}
use Rattle.published.proofs.Answers.{alike-back}
use Rattle.published.specs.Alike.{same_graph}
use Rattle.published.specs.Steady.{SameOutcome, Decided}
use Rattle.published.specs.Endings.{result-stays, failure-stays}
use Rattle.published.specs.Diamond.{◌⟶◌, ◌⟶⁺◌, ◌⟶*◌, Diamond}

module _ (R : List Rule) (legal : LegalRules R) (diamond : Diamond R) where
  host-result : (G H : Graph) → HostGraph G → Applied R G H → HostGraph H
  host-result G H host a = applies-host (rule_at R a.place) (legal-rule R legal a.place) G H host a.applies

  -- what R does to a graph it does to an isomorphic one
  over : (G G' H : Graph) → Alike G G' → Applied R G H → Applied R G' H
  over G G' H i a = applied-iso R (λ k. (legal-rule R legal k).holds) G G' H H i.this i.iso (iso-same H) a

  alike-trans : (G H K : Graph) → Alike G H → Alike H K → Alike G K
  alike-trans G H K a b = record { this = a.this; that = b.that; iso = iso-trans G H K a.iso b.iso }

  -- R is applied n times, and then can't be applied
  Ends : ℕ → Graph → Graph → Type 0
  Ends zero G N = Alike G N × ((H : Graph) → Applied R G H → ⊥)
  Ends (suc n) G N = (H : Graph) × Applied R G H × Ends n H N

  ends-over : (n : ℕ) (G G' N : Graph) → Alike G G' → Ends n G N → Ends n G' N
  unfolding Ends
  ends-over zero G G' N i e =
      (alike-trans G' G N (alike-back G G' i) e.0, λ H a. e.1 H (over G' G H (alike-back G G' i) a))
  ends-over (suc n) G G' N i e = (e.0, over G G' e.0 i e.1, e.2)

  -- whatever R does first, it ends alike, in one step less
  descent : (n : ℕ) (G N : Graph) → HostGraph G → Ends n G N → (H : Graph) → Applied R G H → (m : ℕ) × (n ≡ suc m) × Ends m H N
  unfolding Ends
  descent zero G N host e H a = absurd (e.1 H a)
  descent (suc n) G N host e H a = at (diamond G e.0 H host e.1 a) (descent n e.0 N (host-result G e.0 host e.1) e.2)
    where
      there : HostGraph e.0
      there = host-result G e.0 host e.1

      at : Iso e.0 H ⊎ ((K K' : Graph) × Applied R e.0 K × Applied R H K' × Iso K K')
          → ((K : Graph) → Applied R e.0 K → (m : ℕ) × (n ≡ suc m) × Ends m K N) → (m : ℕ) × (suc n ≡ suc m) × Ends m H N
      at (inl i) later = (n, refl, ends-over n e.0 H N (record { this = there; that = host-result G H host a; iso = i }) e.2)
      at (inr t) later =
          let u = later t.0 t.2 in
          let here = host-result G H host a in
          let i : Alike t.0 t.1
          = record { this = host-result e.0 t.0 there t.2; that = host-result H t.1 here t.3; iso = t.4 } in
          (n, refl, subst (λ k. Ends k H N) (sym u.1) (t.1, t.3, ends-over u.0 t.0 t.1 N i u.2))

  -- Steps of the loop.

  abbrev P : ComSeq
  P = call R !

  called : {G H : Graph} → ⟨ call R ∣ G ⟩ ⟶⁺ result H → Applied R G H
  called (last ([call₁] a)) = a
  called (next ([call₁] a) p) = absurd (result-stays Graph Applied p)
  called (next ([call₂] n) p) = absurd (failure-stays Graph Applied p)

  refused : {G : Graph} → ⟨ call R ∣ G ⟩ ⟶⁺ failure → (H : Graph) → Applied R G H → ⊥
  refused (last ([call₂] n)) = n
  refused (next ([call₁] a) p) = absurd (result-stays Graph Applied p)
  refused (next ([call₂] n) p) = n

  result-star : {K H : Graph} {Q : ComSeq} → result K ⟶* ⟨ Q ∣ H ⟩ → ⊥
  result-star (onward s p) = elim s [ ]

  failure-star : {H : Graph} {Q : ComSeq} → failure ⟶* ⟨ Q ∣ H ⟩ → ⊥
  failure-star (onward s p) = elim s [ ]

  no-break : {G H : Graph} → ⟨ call R ∣ G ⟩ ⟶* ⟨ break ∣ H ⟩ → ⊥
  no-break (onward ([call₁] a) p) = result-star p
  no-break (onward ([call₂] n) p) = failure-star p

  no_step : {K : Graph} {c : Configuration Graph} → result K ⟶ c → ⊥
  no_step s = elim s [ ]

  -- it goes on, or has ended
  step : {G : Graph} {c : Configuration Graph} → ⟨ P ∣ G ⟩ ⟶ c
      → ((H : Graph) × Applied R G H × (c ≡ ⟨ P ∣ H ⟩)) ⊎ (((H : Graph) → Applied R G H → ⊥) × (c ≡ result G))
  step ([alap₁] p) = inl (_, called p, refl)
  step ([alap₂] p) = inr (refused p, refl)
  step ([alap₃] p) = absurd (no-break p)

  -- Outcomes.

  ends_of : {G N : Graph} → HostGraph G → ⟨ P ∣ G ⟩ ⟶⁺ result N → (n : ℕ) × Ends n G N
  unfolding Ends
  ends_of {G} host (last ([alap₂] p)) = (0, (record { this = host; that = host; iso = iso-same G }, refused p))
  ends_of host (last ([alap₃] p)) = absurd (no-break p)
  ends_of {G} host (next ([alap₁] {H = H} p) q) =
      let t = ends_of (host-result G H host (called p)) q in (suc t.0, (H, called p, t.1))
  ends_of host (next ([alap₂] p) q) = absurd (result-stays Graph Applied q)
  ends_of host (next ([alap₃] p) q) = absurd (no-break p)

  ended : (n : ℕ) (G N : Graph) → Ends n G N → ((H : Graph) → Applied R G H → ⊥) → Alike N G
  unfolding Ends
  ended zero G N e f = alike-back G N e.0
  ended (suc n) G N e f = absurd (f e.0 e.1)

  same-result : (n : ℕ) (G N M : Graph) → HostGraph G → Ends n G N → ⟨ P ∣ G ⟩ ⟶⁺ result M → Alike N M
  same-result n G N M host e (last ([alap₂] p)) = ended n G N e (refused p)
  same-result n G N M host e (last ([alap₃] p)) = absurd (no-break p)
  same-result n G N M host e (next ([alap₁] {H = H} p) q) =
      let t = descent n G N host e H (called p) in
      same-result t.0 H N M (host-result G H host (called p)) t.2 q
  same-result n G N M host e (next ([alap₂] p) q) = absurd (result-stays Graph Applied q)
  same-result n G N M host e (next ([alap₃] p) q) = absurd (no-break p)

  no-fail : {G : Graph} → ⟨ P ∣ G ⟩ ⟶⁺ failure → ⊥
  no-fail (next ([alap₁] p) q) = no-fail q
  no-fail (next ([alap₂] p) q) = result-stays Graph Applied q
  no-fail (next ([alap₃] p) q) = no-break p
  no-fail (last x) = elim x [ ]

  no_diverge : (n : ℕ) (G N : Graph) → HostGraph G → Ends n G N → (at : ℕ → Configuration Graph) → at 0 ≡ ⟨ P ∣ G ⟩
      → ((i : ℕ) → at i ⟶ at (suc i)) → ⊥
  unfolding Ends
  no_diverge zero G N host e at q goes = first (step (subst (λ c. c ⟶ at 1) q (goes 0)))
    where
      first : ((H : Graph) × Applied R G H × (at 1 ≡ ⟨ P ∣ H ⟩)) ⊎ (((H : Graph) → Applied R G H → ⊥) × (at 1 ≡ result G)) → ⊥
      first (inl t) = e.1 t.0 t.1
      first (inr t) = no_step (subst (λ c. c ⟶ at 2) t.1 (goes 1))
  no_diverge (suc n) G N host e at q goes = first (step (subst (λ c. c ⟶ at 1) q (goes 0))) (no_diverge n)
    where
      first : ((H : Graph) × Applied R G H × (at 1 ≡ ⟨ P ∣ H ⟩)) ⊎ (((H : Graph) → Applied R G H → ⊥) × (at 1 ≡ result G))
          → ((H M : Graph) → HostGraph H → Ends n H M → (on : ℕ → Configuration Graph) → on 0 ≡ ⟨ P ∣ H ⟩ → ((i : ℕ) → on i ⟶ on (suc i)) → ⊥)
          → ⊥
      first (inl t) later =
          let u = descent (suc n) G N host e t.0 t.1 in
          let m : u.0 ≡ n = omega (arith, u.1) in
          later t.0 N (host-result G t.0 host t.1) (subst (λ k. Ends k t.0 N) m u.2) (λ i. at (suc i)) t.2 (λ i. goes (suc i))
      first (inr t) later = no_step (subst (λ c. c ⟶ at 2) t.1 (goes 1))

  no_stuck : (n : ℕ) (G N K : Graph) (Q : ComSeq) → HostGraph G → Ends n G N → ⟨ P ∣ G ⟩ ⟶* ⟨ Q ∣ K ⟩
      → ((c : Configuration Graph) → ⟨ Q ∣ K ⟩ ⟶ c → ⊥) → ⊥
  unfolding Ends
  no_stuck zero G N K Q host e here stuck = stuck _ ([alap₂] (last ([call₂] e.1)))
  no_stuck (suc n) G N K Q host e here stuck = stuck _ ([alap₁] (last ([call₁] e.1)))
  no_stuck n G N K Q host e (onward ([alap₁] {H = H} p) q) stuck =
      let t = descent n G N host e H (called p) in
      no_stuck t.0 H N K Q (host-result G H host (called p)) t.2 q stuck
  no_stuck n G N K Q host e (onward ([alap₂] p) q) stuck = result-star q
  no_stuck n G N K Q host e (onward ([alap₃] p) q) stuck = no-break p

  -- what the loop comes to is all that it can come to
  pub diamond-decided : (G : Graph) → HostGraph G → Decided (call R !) G Alike
  diamond-decided G host =
      record { result = λ H p X q. let t = ends_of host p in at H t.0 t.1 X q; fail = λ p. absurd (no-fail p) }
    where
      at : (H : Graph) (n : ℕ) → Ends n G H → (X : Outcome Graph) → ⟦◌⟧ Graph Applied P G X → SameOutcome (graph H) X
      at H n e (graph M) q = same_graph (same-result n G H M host e q)
      at H n e fails q = absurd (no-fail q)
      at H n e bottom (inl d) = absurd (no_diverge n G H host e d.at d.starts d.goes)
      at H n e bottom (inr d) = absurd (no_stuck n G H d.graph d.rest host e d.reached d.terminal)
