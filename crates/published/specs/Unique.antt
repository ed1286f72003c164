-- The choice of a rule application is the only choice in the published semantics: where each rule set that a program calls gives
-- alike graphs on alike graphs, all that the program can come to is alike; and where it can come to a graph or fail, it can
-- neither diverge nor get stuck. Rests on Alike.
use Rattle.std.specs.Prelude.{ℕ}
use Rattle.published.specs.Semantics.{ComSeq, call, ◌⨟◌, when◌then◌else◌, try◌then◌else◌, ◌!, break, skip, fail, Configuration, ⟨◌∣◌⟩, result, failure}

-- no rule leads on from a break; from every other command sequence one may
abbrev pub Halts : ComSeq → Type 0
Halts (call R) = ⊥
Halts (P ⨟ Q) = ⊥
Halts (when C then P else Q) = ⊥
Halts (try C then P else Q) = ⊥
Halts (P !) = ⊥
Halts break = Unit {0}
Halts skip = ⊥
Halts fail = ⊥

-- a computation ends here: a graph, the failure state, or a break
abbrev pub Ended {ℓ} : {Graph : Type ℓ} → Configuration Graph → Type 0
Ended ⟨ P ∣ G ⟩ = Halts P
Ended (result G) = Unit {0}
Ended failure = Unit {0}

abbrev pub kind {ℓ} : {Graph : Type ℓ} → Configuration Graph → ℕ
kind ⟨ P ∣ G ⟩ = 0
kind (result G) = 1
kind failure = 2
