-- The published table has no number too many, for either core: each of its numbers is answered on something that can be lent, by every
-- interpreter that meets the demands at the core's layout. Rests on OneOutcome and Cases.
use Rattle.std.specs.Prelude.{ℕ, suc, ◌<◌, ◌≡◌, refl, Bool, true, false, List, [], ◌∷◌, ◌++◌, map, length, get_or, replicate}
use Rattle.std.proofs.Common.{sym, ◌∙◌, ap}
use Rattle.std.proofs.lemmas.List.{length-map}
use Rattle.meaning.specs.Basics.{every, absent, padded}
use Rattle.meaning.specs.Layout.{live, layout_of, node_length, write_node}
use Rattle.meaning.specs.Image.{limits}
use Rattle.meaning.specs.Tags.{none_mark, procedure_tag}
use Rattle.meaning.specs.Calls.{most_fuel, Lent, LentUndo}
use Rattle.meaning.specs.ProvedSet.{field_bytes, rule_field, node_field, edge_field, rule_set_field, skip_field, fail_field, break_field, marks_red}
use Rattle.meaning.specs.Computing.{computing}
use Rattle.meaning.specs.Laws.Tests.{absent-false, every_true}
use Rattle.laws.specs.Pieces.{get_or-map_in}
use Rattle.laws.specs.Undoing.{core_numbered}
use Rattle.demands.specs.Demands.{Outcome, Interpreter, run_table, undo_table, In, Lendable, LendableUndo, Demand1, Demand2}
use Rattle.demands.specs.Ours.{ours}
use Rattle.demands.proofs.OneOutcome.{run-one, undo-one}
use Rattle.demands.specs.Cases.{can_be_lent, can_be_lent_undo}
use Rattle.demands.proofs.Cases.{lendable, lendable_undo}
use Rattle.meaning.specs.declared.Layout.{Layout}
use Rattle.meaning.specs.declared.Core.{Core}
use Rattle.meaning.specs.declared.Core.TheVariants.{Wide, Small}
use Rattle.demands.specs.Table.{eight, overflows, call_field, buffers, lent_undo, undo_samples}

module _ (L : Layout) where
  abbrev plain_node : List ℕ
  plain_node = write_node L (live (record { mark = none_mark; root = 0; label = [] }))

  -- a plain node, room for no edge and no record, fuel 1
  abbrev program : List ℕ → Lent
  program image = record { nodes = plain_node; edges = []; journal = []; image = image; fuel = 1; report = eight }

  abbrev run_samples : List Lent
  run_samples =
      program skip_field
      ∷ program fail_field
      ∷ buffers plain_node [] [] 0 eight
      -- a node comes; an edge comes; M; a label that can't be held
      ∷ program (rule_field [] [] (node_field 0 []) 0 ++ rule_set_field 0)
      ∷ program (rule_field [] (node_field 0 []) (node_field 0 [] ++ edge_field 0 0) 1 ++ rule_set_field 0)
      ∷ program (marks_red ++ rule_set_field 0)
      ∷ program (overflows ++ rule_set_field 0)
      -- a report, tables and a journal of one byte; too much fuel; an image too long
      ∷ buffers [] [] [] 1 (0 ∷ [])
      ∷ buffers (0 ∷ []) [] [] 1 eight
      ∷ buffers [] (0 ∷ []) [] 1 eight
      ∷ buffers [] [] (0 ∷ []) 1 eight
      ∷ buffers [] [] [] (suc most_fuel) eight
      ∷ program (replicate (suc limits.bytes) 0)
      -- a node of state 2; no program; a rule that isn't there; a break outside a loop; a
      -- procedure that calls itself
      ∷ buffers (padded (node_length L) (2 ∷ [])) [] [] 1 eight
      ∷ program []
      ∷ program (rule_set_field 0)
      ∷ program break_field
      ∷ program (field_bytes procedure_tag call_field ++ call_field)
      ∷ []

-- What comes of them is the table.

run-answers : (c : Core) → map (λ x. ((ours (layout_of c)).run x).answer) (run_samples (layout_of c)) ≡ run_table
unfolding computing
run-answers Wide = refl
run-answers Small = refl

undo-answers : (c : Core) → map (λ y. ((ours (layout_of c)).undo y).answer) undo_samples ≡ undo_table
unfolding computing
undo-answers Wide = refl
undo-answers Small = refl

run-lendable : (c : Core) → every can_be_lent (run_samples (layout_of c)) ≡ true
unfolding computing
run-lendable Wide = refl
run-lendable Small = refl

undo-lendable : every can_be_lent_undo undo_samples ≡ true
unfolding computing
undo-lendable = refl

-- a number that f gives of some element of l gives the element
found : {A : Type 0} (f : A → ℕ) (ok : A → Bool) (d : A) (l : List A) → every ok l ≡ true → (n : ℕ) → absent n (map f l) ≡ false
    → (x : A) × (ok x ≡ true) × (f x ≡ n)
found f ok d l e n h =
    let t = absent-false n (map f l) h in
    let k : t.0 < length l = rw length-map at t.1 in
    (get_or l t.0 d, every_true ok l d e t.0 k, sym (get_or-map_in f l t.0 d 0 k) ∙ t.2)

module _ (c : Core) (I : Interpreter) (d : Demand1 (layout_of c) I) where
  abbrev L : Layout
  L = layout_of c

  pub each-answer : Demand2 L I → (n : ℕ) → In n run_table → (x : Lent) × Lendable x × ((I.run x).answer ≡ n)
  each-answer d' n h =
      let t = found (λ x. ((ours L).run x).answer) can_be_lent (program L []) (run_samples L) (run-lendable c) n (rw (run-answers c) h) in
      let b = lendable t.0 t.1 in
      (t.0, b, ap (λ (o : Outcome). o.answer) (run-one L (core_numbered c) I d d' t.0 b) ∙ t.2)

  pub each-undo-answer : (n : ℕ) → In n undo_table → (y : LentUndo) × LendableUndo y × ((I.undo y).answer ≡ n)
  each-undo-answer n h =
      let t = found (λ y. ((ours L).undo y).answer) can_be_lent_undo (lent_undo [] [] [] 0 []) undo_samples undo-lendable n (rw (undo-answers c) h) in
      let b = lendable_undo t.0 t.1 in
      (t.0, b, ap (λ (o : Outcome). o.answer) (undo-one L I d t.0 b) ∙ t.2)
