-- Worked cases of the old form and of its rewriting, computed. Rests on OldForm and on the meaning's Calls, ProvedSet and
-- Computing.
use Rattle.std.specs.Prelude.{◌≡◌, refl, List, [], ◌∷◌, ◌++◌, ℕ, ◌*◌, replicate}
use Rattle.std.proofs.Math.Option.{some, none}
use Rattle.meaning.specs.Basics.{padded}
use Rattle.meaning.specs.Layout.{base, record_length}
use Rattle.meaning.specs.Tags.{procedure_tag, sequence_tag, loop_tag, call_tag, guarded_tag}
use Rattle.meaning.specs.Calls.{Lent, lending, report_of}
use Rattle.meaning.specs.ProvedSet.{node_record, plain_node, red_node, field_bytes, rule_set_field, marks_red, skip_field, fail_field, break_field}
use Rattle.meaning.specs.Computing.{computing}
use Rattle.meaning.specs.declared.Answer.TheVariants.{Result}
use Rattle.renewing.specs.OldForm.{if_tag, try_tag, old_command, old_program, old_run, renewed_command, renewed}

-- document 01's cases 8 and 9, in their old bytes, come to what it says of them
abbrev guarded_by : ℕ → Lent
guarded_by tag =
    lending plain_node [] (replicate (8 * record_length base) 1) (marks_red ++ field_bytes tag (rule_set_field 0 ++ skip_field ++ fail_field)) 100 (replicate 8 7)

pub old_case_8 : old_run base (guarded_by if_tag)
    ≡ record { answer = Result; nodes = plain_node; edges = []; journal = replicate (8 * record_length base) 0; report = report_of 3 0 }
unfolding computing old_command
old_case_8 = refl

pub old_case_9 : old_run base (guarded_by try_tag)
    ≡ record { answer = Result; nodes = red_node; edges = []; journal = padded (8 * record_length base) (node_record 0 plain_node); report = report_of 3 1 }
unfolding computing old_command
old_case_9 = refl

-- today's tags were none of the old form: the guarded command's, a procedure's, a call's
pub guarded-not-old : old_program (field_bytes guarded_tag (0 ∷ skip_field ++ skip_field ++ skip_field)) ≡ none
unfolding computing old_command
guarded-not-old = refl

pub procedure-not-old : old_program (field_bytes procedure_tag skip_field ++ skip_field) ≡ none
unfolding computing old_command
procedure-not-old = refl

pub call-not-old : old_program (field_bytes call_tag (0 ∷ [])) ≡ none
unfolding computing old_command
call-not-old = refl

-- an if with a try in its guard, in a sequence in a loop: rewritten, nothing but the two and the lengths around them differs
abbrev nested : (List ℕ → List ℕ) → (List ℕ → List ℕ) → List ℕ
nested as_if as_try =
    marks_red
    ++ field_bytes loop_tag
    (field_bytes sequence_tag
    (as_if (as_try (rule_set_field 0 ++ skip_field ++ fail_field) ++ rule_set_field 0 ++ break_field) ++ skip_field))

pub nested-renewed : renewed (nested (field_bytes if_tag) (field_bytes try_tag))
    ≡ some (nested (λ l. field_bytes guarded_tag (0 ∷ l)) (λ l. field_bytes guarded_tag (1 ∷ l)))
unfolding computing old_command renewed_command renewed
nested-renewed = refl
