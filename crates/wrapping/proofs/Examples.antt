-- Computed cases, from bytes to bytes; one in which all that the theorems on wrapping ask is met, and one in which all is met that those
-- on calls written out ask. M marks a plain node red. Rests on Runs, Regrouping, RawWritten and WrittenRuns, on the demands' Met and
-- Cases, and on the meaning's ProvedSet and Computing.
use Rattle.std.specs.Prelude.{◌≡◌, refl, [], ◌∷◌, ◌++◌, map, ℕ, ◌+◌, ◌<◌}
use Rattle.std.proofs.Common.{sym, subst, arith}
use Rattle.std.proofs.Math.Decide.{dec_lt}
use Rattle.meaning.specs.Layout.{base}
use Rattle.meaning.specs.Tags.{sequence_tag, loop_tag, guarded_tag}
use Rattle.meaning.specs.Procedures.{rule_set, fail, break}
use Rattle.meaning.specs.Computing.{computing}
use Rattle.meaning.specs.ProvedSet.{field_bytes, rule_set_field, skip_field, fail_field, break_field, plain_node, red_node, node_record, results, no_result}
use Rattle.laws.specs.Undoing.{base-numbered}
use Rattle.demands.specs.Demands.{Demand1, Demand2}
use Rattle.demands.specs.Ours.{ours}
use Rattle.demands.proofs.DemandsMet.{met}
use Rattle.demands.specs.Cases.{expects}
use Rattle.demands.proofs.Cases.{lendable}
use Rattle.wrapping.specs.Wrapping.{joined, bare, all_bare, AlikePrograms}
use Rattle.wrapping.specs.WrittenOut.{WrittenOut}
use Rattle.wrapping.specs.RawWritten.{each_raw, written_raw, images_written}
use Rattle.wrapping.specs.Places.{here, in_loop, put}
use Rattle.wrapping.specs.Agreement.{SameTables, Starts, Fuelled, steps_in, SameButSteps, Agree, Needs}
use Rattle.wrapping.proofs.Runs.{alike-ends}
use Rattle.wrapping.proofs.Regrouping.{regrouping}
use Rattle.wrapping.proofs.WrittenRuns.{written-ends, written-agree}
use Rattle.wrapping.specs.Examples.{counting, leftwards, rightwards, lends, tree_of, leaves, left, right, no_room, calling, uncalled, leaves_calls}

-- Q breaks in a loop: R is not entered, and the mark stays. 5 steps with 2 sequences entered, both ways
pub breaking :
    map (leaves 8) (field_bytes loop_tag (leftwards (rule_set_field 0) break_field fail_field) ∷ field_bytes loop_tag (rightwards (rule_set_field 0) break_field fail_field) ∷ [])
    ≡ (expects (results 5 1 red_node [] (node_record 0 plain_node)), 2) ∷ (expects (results 5 1 red_node [] (node_record 0 plain_node)), 2) ∷ []
unfolding counting
breaking = refl

pub breaking-first : map (leaves 8) (left ∷ right ∷ []) ≡ (expects (results 4 0 plain_node [] []), 2) ∷ (expects (results 3 0 plain_node [] []), 1) ∷ []
unfolding counting
breaking-first = refl

-- R fails in the guard of a try: what M marked is undone, and the third command is entered. 7 steps with 4 that wrap, the last skip
-- among them; without the skip in the guard, in one sequence, 5 with 2
pub failing :
    map (leaves 8)
    (map (λ guard. field_bytes guarded_tag (1 ∷ guard ++ fail_field ++ skip_field))
    (leftwards (rule_set_field 0) skip_field fail_field ∷ rightwards (rule_set_field 0) skip_field fail_field ∷ field_bytes sequence_tag (rule_set_field 0 ++ fail_field) ∷ []))
    ≡ (expects (results 7 0 plain_node [] []), 4) ∷ (expects (results 7 0 plain_node [] []), 4) ∷ (expects (results 5 0 plain_node [] []), 2) ∷ []
unfolding counting
failing = refl

-- Q fails: answer 1
pub failed :
    map (leaves 8) (leftwards (rule_set_field 0) fail_field skip_field ∷ rightwards (rule_set_field 0) fail_field skip_field ∷ [])
    ≡ (expects (no_result 1 4 plain_node []), 2) ∷ (expects (no_result 1 4 plain_node []), 2) ∷ []
unfolding counting
failed = refl

pub stopping :
    map (leaves 0) (leftwards skip_field (rule_set_field 0) fail_field ∷ rightwards skip_field (rule_set_field 0) fail_field ∷ rule_set_field 0 ∷ [])
    ≡ (no_room 4, 3) ∷ (no_room 4, 3) ∷ (no_room 1, 0) ∷ []
unfolding counting
stopping = refl

-- The theorems where P breaks in a loop: all that they ask is met.

first : Demand1 base (ours base)
first = (met base base-numbered).0

second : Demand2 base (ours base)
second = (met base base-numbered).1

starts-left : Starts base (lends 8 left) (tree_of (lends 8 left))
unfolding computing
starts-left = record { lendable = lendable (lends 8 left) refl; reads = refl; accepted = refl }

starts-right : Starts base (lends 8 right) (tree_of (lends 8 right))
unfolding computing
starts-right = record { lendable = lendable (lends 8 right) refl; reads = refl; accepted = refl }

same_tables : SameTables (lends 8 left) (lends 8 right)
same_tables = record { nodes = refl; edges = refl; journal = refl }

fuelled-left : Fuelled (ours base) (lends 8 left)
unfolding computing
fuelled-left e = omega arith

fuelled-right : Fuelled (ours base) (lends 8 right)
unfolding computing
fuelled-right e = omega arith

pub left-right-agree : Agree ((ours base).run (lends 8 left)) ((ours base).run (lends 8 right)) 2 1
unfolding counting put
left-right-agree =
    regrouping base base-numbered (ours base) first second _ _ refl (lends 8 left) (lends 8 right) starts-left starts-right same_tables
    fuelled-left fuelled-right (in_loop here) break (rule_set (0 ∷ [])) fail refl refl

-- That the one is not out of fuel tells how many steps the other takes, and no other number will do: with 100 fuel it takes 3.

pub only-three : (s : ℕ) → Needs base (ours base) (lends 8 left) (tree_of (lends 8 right)) s → s ≡ 3
unfolding computing
only-three s n = at (dec_lt 100 s)
  where
    at : Dec (100 < s) → s ≡ 3
    at (yes h) = absurd (fuelled-right (n.short (lends 8 right) starts-right same_tables h))
    at (no h) = sym (n.enough (lends 8 right) starts-right same_tables (omega arith)).1

alike_right : AlikePrograms (tree_of (lends 8 left)) (tree_of (lends 8 right))
unfolding computing joined bare all_bare
alike_right = record { rules = refl; main = refl }

pub right-needs-three : Needs base (ours base) (lends 8 left) (tree_of (lends 8 right)) 3
right-needs-three =
    let n = alike-ends base base-numbered (ours base) first second (lends 8 left) (tree_of (lends 8 left)) starts-left fuelled-left _ alike_right in
    subst (Needs base (ours base) (lends 8 left) (tree_of (lends 8 right))) (only-three n.0 n.1) n.1

pub calls-entered :
    map leaves_calls (calling ∷ uncalled ∷ [])
    ≡ (expects (results 11 1 red_node [] (node_record 0 plain_node)), 4) ∷ (expects (results 7 1 red_node [] (node_record 0 plain_node)), 0) ∷ []
unfolding counting
calls-entered = refl

-- All that the theorems ask is met.

starts-calling : Starts base (lends 8 calling) (tree_of (lends 8 calling))
unfolding computing
starts-calling = record { lendable = lendable (lends 8 calling) refl; reads = refl; accepted = refl }

starts-uncalled : Starts base (lends 8 uncalled) (tree_of (lends 8 uncalled))
unfolding computing
starts-uncalled = record { lendable = lendable (lends 8 uncalled) refl; reads = refl; accepted = refl }

fuelled-calling : Fuelled (ours base) (lends 8 calling)
unfolding computing
fuelled-calling e = omega arith

fuelled-uncalled : Fuelled (ours base) (lends 8 uncalled)
unfolding computing
fuelled-uncalled e = omega arith

written_out : WrittenOut (tree_of (lends 8 calling)) (tree_of (lends 8 uncalled))
unfolding computing each_raw written_raw
written_out = images_written (lends 8 calling).image (lends 8 uncalled).image _ _ _ _ refl refl (record { rules = refl; main = refl }) refl refl

pub calling-agrees :
    SameButSteps ((ours base).run (lends 8 calling)) ((ours base).run (lends 8 uncalled))
    × (steps_in ((ours base).run (lends 8 calling)) ≡ steps_in ((ours base).run (lends 8 uncalled)) + 4)
unfolding counting
calling-agrees =
    written-agree base base-numbered (ours base) first second _ _ written_out (lends 8 calling) starts-calling fuelled-calling
    (lends 8 uncalled) starts-uncalled (record { nodes = refl; edges = refl; journal = refl }) fuelled-uncalled

pub uncalled-needs_seven : Needs base (ours base) (lends 8 calling) (tree_of (lends 8 uncalled)) 7
unfolding counting
uncalled-needs_seven =
    let n = written-ends base base-numbered (ours base) first second _ _ written_out (lends 8 calling) starts-calling fuelled-calling in
    let seven : n.0 ≡ 7 = omega (arith, n.2) in
    subst (Needs base (ours base) (lends 8 calling) (tree_of (lends 8 uncalled))) seven n.1
