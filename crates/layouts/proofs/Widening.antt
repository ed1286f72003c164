-- Old tables, of four atoms to a label, and those of document 01's layout, of eight: what widening and narrowing answer, that each gives
-- back what the other was given, that the host is the same, and that a program does on the widened graph what it did.
-- Rests on Carried and CarriedRuns.
use Rattle.std.specs.Prelude.{ℕ, ◌≤◌, ◌≡◌, List, [], ◌∷◌, length}
use Rattle.std.proofs.Common.{arith}
use Rattle.meaning.specs.Layout.{base, four, host_of}
use Rattle.meaning.specs.Calls.{Lent, answer_number, refusal_number}
use Rattle.meaning.specs.Carrying.{LentTables, lending_tables, unfit, widen, narrow}
use Rattle.laws.specs.Numbers.{Bytes}
use Rattle.laws.specs.Undoing.{base-numbered, four-numbered}
use Rattle.demands.specs.Demands.{Lendable, Interpreter, In, Demand1, Demand2}
use Rattle.meaning.specs.declared.Manner.TheVariants.{Exact}
use Rattle.meaning.specs.declared.Answer.TheVariants.{Result}
use Rattle.layouts.specs.Carried.{arriving, Kept}
use Rattle.layouts.proofs.Carried.{carry-answers, larger_answers, carry-kept, carry_back}
use Rattle.layouts.specs.LargerRuns.{RunsAs}
use Rattle.layouts.specs.CarriedRuns.{CarriedLent, CarriedRun}
use Rattle.layouts.proofs.CarriedRuns.{run-carried}

-- What is answered.

pub narrow-answers : (x : LentTables) → In (answer_number (narrow x).answer) (0 ∷ 10 ∷ 11 ∷ 15 ∷ 26 ∷ [])
unfolding refusal_number unfit
narrow-answers = carry-answers Exact base four

module _ (x : LentTables) (hn : Bytes x.nodes) (he : Bytes x.edges) where
  -- 26 never
  pub widen-answers : In (answer_number (widen x).answer) (0 ∷ 10 ∷ 11 ∷ 15 ∷ [])
  widen-answers = larger_answers Exact four base x hn he (omega arith) tt tt

  -- What is not refused.

  pub widen-kept : (widen x).answer ≡ Result → Kept Exact four base x (widen x)
  widen-kept = carry-kept Exact four base base-numbered.nodes x hn he

  pub narrow-kept : (narrow x).answer ≡ Result → Kept Exact base four x (narrow x)
  narrow-kept = carry-kept Exact base four four-numbered.nodes x hn he

  -- the same slots, marks, root flags, labels and ends
  pub widened-host : (widen x).answer ≡ Result → host_of base (widen x).nodes (widen x).edges ≡ host_of four x.nodes x.edges
  widened-host r = (widen-kept r).host

  module _ (to_nodes to_edges : List ℕ) (en : length to_nodes ≡ length x.nodes) (ee : length to_edges ≡ length x.edges) where
    -- narrowing what was widened is not refused, and gives the old bytes
    pub narrow-widen : (widen x).answer ≡ Result
        → narrow (lending_tables (widen x).nodes (widen x).edges to_nodes to_edges) ≡ arriving x.nodes x.edges
    narrow-widen r = carry_back Exact four base base-numbered.nodes x hn he r to_nodes to_edges en ee

    -- widening what was narrowed is not refused, and gives the wide bytes
    pub widen-narrow : (narrow x).answer ≡ Result
        → widen (lending_tables (narrow x).nodes (narrow x).edges to_nodes to_edges) ≡ arriving x.nodes x.edges
    widen-narrow r = carry_back Exact base four four-numbered.nodes x hn he r to_nodes to_edges en ee

-- What a program answers with 0 or 1 on old tables it answers so on the widened ones, by any two interpreters that meet demands 1 and 2:
-- with as much fuel as it takes steps it leaves the same, widened, and with less it is out of fuel.
pub widened-run : (I J : Interpreter) → Demand1 four I → Demand2 four I → Demand1 base J → Demand2 base J → (x : Lent) → Lendable x
    → (I.run x).answer ≤ 1 → RunsAs four I J x (CarriedLent Exact four base x) (λ y c. CarriedRun Exact four base x y (I.run x) (J.run y))
widened-run = run-carried Exact four base four-numbered base-numbered (omega arith)
