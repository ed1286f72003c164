-- Computed cases, from bytes to bytes; one in which all that the theorems on wrapping ask is met, and one in which all is met that those
-- on calls written out ask. M marks a plain node red. Rests on Runs, Regrouping, RawWritten and WrittenRuns, on the demands' Met and
-- Cases, and on the meaning's ProvedSet and Computing.
use Rattle.std.specs.Prelude.{List, [], ◌∷◌, ◌++◌, ℕ, ◌*◌, replicate}
use Rattle.std.proofs.Math.Option.{Option, some, none}
use Rattle.meaning.specs.Layout.{base, record_length}
use Rattle.meaning.specs.Tags.{procedure_tag, sequence_tag, loop_tag, call_tag, guarded_tag}
use Rattle.meaning.specs.Procedures.{Program, program, skip}
use Rattle.meaning.specs.Calls.{Lent, lending, report_of}
use Rattle.meaning.specs.Computing.{computing}
use Rattle.meaning.specs.ProvedSet.{field_bytes, rule_set_field, skip_field, fail_field, break_field, marks_red, plain_node}
use Rattle.demands.specs.Demands.{Outcome}
use Rattle.demands.specs.Ours.{ours}
use Rattle.wrapping.specs.Wrapping.{wraps}
use Rattle.wrapping.specs.WrittenOut.{is_call}
use Rattle.wrapping.specs.Entering.{passing, enter_at, next, decide, again, rounds, work, works}
use Rattle.wrapping.specs.Agreement.{wraps_in, calls_in}

-- opens every definition that a case is computed by
unfoldable pub counting : Unit {0}
unfolding computing wraps is_call passing enter_at next decide again rounds work works
counting = tt

-- The fields of (P; Q); R and of P; (Q; R).

abbrev pub leftwards : List ℕ → List ℕ → List ℕ → List ℕ
leftwards P Q R = field_bytes sequence_tag (field_bytes sequence_tag (P ++ Q) ++ R)

abbrev pub rightwards : List ℕ → List ℕ → List ℕ → List ℕ
rightwards P Q R = field_bytes sequence_tag (P ++ field_bytes sequence_tag (Q ++ R))

-- M, procedures and a command, on one plain node, with so many records and fuel 100
abbrev pub lends : ℕ → List ℕ → Lent
lends records command =
    lending plain_node [] (replicate (records * record_length base) 1) (marks_red ++ command) 100 (replicate 8 7)

abbrev pub tree : Option Program → Program
tree none = record { rules = []; main = skip }
tree (some p) = p

abbrev pub tree_of : Lent → Program
tree_of x = tree (program x.image)

-- what a run leaves, and the wrapping commands entered
abbrev pub leaves : ℕ → List ℕ → Outcome × ℕ
leaves records command = let x = lends records command in ((ours base).run x, wraps_in base x (tree_of x))

-- P breaks in a loop: the inner sequence of P; (Q; R) is not entered. 4 steps with 2 sequences, 3 steps with 1
abbrev pub left : List ℕ
left = field_bytes loop_tag (leftwards break_field (rule_set_field 0) fail_field)

abbrev pub right : List ℕ
right = field_bytes loop_tag (rightwards break_field (rule_set_field 0) fail_field)

-- no room for a record: answer 5 at Q, with the steps until then
abbrev pub no_room : ℕ → Outcome
no_room steps = record { answer = 5; nodes = plain_node; edges = []; journal = []; report = report_of steps 0 }

-- Calls written out. One procedure is M, another tries it; that one is called twice. M is done once and then fails: 11 steps with 4 calls
-- entered, one of them in what is undone, and 7 with the calls written out.

abbrev pub tries : List ℕ → List ℕ
tries guard = field_bytes guarded_tag (1 ∷ guard ++ skip_field ++ skip_field)

abbrev pub call_field : ℕ → List ℕ
call_field i = field_bytes call_tag (i ∷ [])

abbrev pub calling : List ℕ
calling =
    field_bytes procedure_tag (rule_set_field 0)
    ++ field_bytes procedure_tag (tries (call_field 0))
    ++ field_bytes sequence_tag (call_field 1 ++ call_field 1)

abbrev pub uncalled : List ℕ
uncalled = field_bytes sequence_tag (tries (rule_set_field 0) ++ tries (rule_set_field 0))

-- what a run leaves, and the calls entered
abbrev pub leaves_calls : List ℕ → Outcome × ℕ
leaves_calls command = let x = lends 8 command in ((ours base).run x, calls_in base x (tree_of x))
