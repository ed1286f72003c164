-- What shows that an interpreter does not meet a demand: the cases of document 01 as what run is lent, what ours leaves of
-- them, and interpreters that differ from ours in one thing. Rests on Second, Third and the meaning's ProvedSet.
use Rattle.std.specs.Prelude.{ℕ, ◌≤◌, ◌≡◌, true, List, [], ◌∷◌, map, get_or, take}
use Rattle.std.proofs.Common.{sym, ◌∙◌, ap, subst, ltb-true}
use Rattle.std.proofs.Math.ListN.{get_or-map}
use Rattle.meaning.specs.Basics.{every}
use Rattle.meaning.specs.Layout.{base}
use Rattle.meaning.specs.Calls.{Lent, LentUndo}
use Rattle.meaning.specs.ProvedSet.{Expected, Case, given, cases, proved-set}
use Rattle.demands.specs.Demands.{Outcome, Interpreter, In, Buffer, Lendable, LendableUndo, Demand2, Demand3}
use Rattle.demands.specs.Ours.{ours}
use Rattle.demands.proofs.First.{run_settled}
use Rattle.laws.specs.Undoing.{Numbered, base-numbered}
use Rattle.demands.proofs.Second.{one-outcome}
use Rattle.demands.proofs.Third.{one-count}
use Rattle.meaning.specs.Laws.Tests.{both_true}
use Rattle.meaning.specs.Laws.Every.{Every, Every-true}
use Rattle.laws.specs.Numbers.{bytes-by}
use Rattle.meaning.specs.declared.Layout.{Layout}
use Rattle.demands.specs.Cases.{lent, expects, no_case, case_at, is_buffer, can_be_lent, can_be_lent_undo}

-- as the proved set has it
proved : (n : ℕ) → (ours base).run (lent (case_at n)) ≡ expects (case_at n).expected
proved n =
    let first : given no_case ≡ no_case.expected = ap (λ (l : List Expected). get_or l 0 (given no_case)) proved-set in
    ap expects
    (sym (get_or-map given cases n no_case)
    ∙ ap (λ (l : List Expected). get_or l n (given no_case)) proved-set
    ∙ ap (get_or (map (λ c. c.expected) cases) n) first
    ∙ get_or-map (λ (c : Case). c.expected) cases n no_case)

buffer : (bs : List ℕ) → is_buffer bs ≡ true → Buffer bs
buffer bs e = let t = both_true _ _ e in record { bytewise = bytes-by bs t.0; fits = ltb-true _ _ t.1 }

buffers : (l : List (List ℕ)) → every is_buffer l ≡ true → Every Buffer l
buffers = Every-true is_buffer Buffer buffer

pub lendable : (x : Lent) → can_be_lent x ≡ true → Lendable x
lendable x e =
    let t = both_true _ _ e in
    let b = buffers _ t.1 in
    record {
      nodes = b.0;
      edges = b.1.0;
      journal = b.1.1.0;
      image = b.1.1.1.0;
      fuel = ltb-true _ _ t.0;
      report = b.1.1.1.1.0;
    }

pub lendable_undo : (y : LentUndo) → can_be_lent_undo y ≡ true → LendableUndo y
lendable_undo y e =
    let t = both_true _ _ e in
    let b = buffers _ t.1 in
    record { nodes = b.0; edges = b.1.0; journal = b.1.1.0; count = ltb-true _ _ t.0; report = b.1.1.1.0 }

-- Breaking a demand where ours starts.

module _ (L : Layout) (numbered : Numbered L) (I : Interpreter) (x : Lent) (b : can_be_lent x ≡ true) (l : ((ours L).run x).answer ≤ 6) where
  -- demand 2, by another outcome than ours
  pub breaks2 : (I.run x ≡ (ours L).run x → ⊥) → Demand2 L I → ⊥
  breaks2 n d = n (one-outcome L numbered I d x (lendable x b) (run_settled L x l))

  -- demand 3, by other steps than ours
  pub breaks3 : In (I.run x).answer (0 ∷ 1 ∷ 6 ∷ []) → (take 4 (I.run x).report ≡ take 4 ((ours L).run x).report → ⊥) → Demand3 L I → ⊥
  breaks3 a n d = n (one-count L numbered x (lendable x b) (run_settled L x l) I d a)

-- demand 2 at a case of the proved set, whose tables have document 01's layout
pub at_case : (n : ℕ) → can_be_lent (lent (case_at n)) ≡ true → (case_at n).expected.answer ≤ 6 → (I : Interpreter)
    → (I.run (lent (case_at n)) ≡ expects (case_at n).expected → ⊥) → Demand2 base I → ⊥
at_case n b l I h =
    breaks2 base base-numbered I (lent (case_at n)) b (subst (λ (o : Outcome). o.answer ≤ 6) (sym (proved n)) l) (λ e. h (e ∙ proved n))
