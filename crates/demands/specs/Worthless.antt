-- Worthless interpreters at document 01's layout, each with the demand that it does not meet and an input that shows it: a case of
-- document 01, or of our own where document 01 names none. At every layout demands 1 and 2 leave one outcome (OneOutcome).
-- Rests on Cases.
use Rattle.std.specs.Prelude.{ℕ, ◌+◌, ◌*◌, ◌/◌, Bool, List, [], ◌∷◌, ◌++◌, length, take, drop, replicate}
use Rattle.meaning.specs.Basics.{choose}
use Rattle.meaning.specs.Numbers.{number}
use Rattle.meaning.specs.Tags.{procedure_tag, call_tag}
use Rattle.meaning.specs.Layout.{Slot, free, live, Node, base}
use Rattle.meaning.specs.Image.{Rule}
use Rattle.meaning.specs.Procedures.{Command, rule_set, sequence, guarded, loop, skip, fail, break, called, Commands, no_more, then}
use Rattle.meaning.specs.Commands.{State, Out, ends, back, enter, first_rule, next, rounds, rule_call, exec}
use Rattle.meaning.specs.ProvedSet.{Case, plain_node, on_plain_node, results, no_result, field_bytes, rule_set_field, marks_red, skip_field, fail_field}
use Rattle.demands.specs.Demands.{Outcome, Interpreter, reporting}
use Rattle.demands.specs.Ours.{ours}
use Rattle.demands.specs.Cases.{running, by}
use Rattle.laws.specs.Procedures.{written}
use Rattle.meaning.specs.declared.Stop.TheVariants.{OutOfFuel, NoNodeRoom, NoEdgeRoom, NoRecordRoom, LabelTooLarge}
use Rattle.meaning.specs.declared.End.{End}
use Rattle.meaning.specs.declared.End.TheVariants.{Done, Failed, Broke, Stopped}

-- One that refuses everything breaks demand 2 at case 1.

abbrev pub refuses_all : Interpreter
refuses_all =
    running
    (λ x. record { answer = 16; nodes = x.nodes; edges = x.edges; journal = x.journal; report = reporting 0 0 })

-- One that answers 1 always breaks demand 2 at case 1.

abbrev pub fails_always : Interpreter
fails_always =
    running
    (λ x.
    record { answer = 1; nodes = x.nodes; edges = x.edges; journal = replicate (length x.journal) 0; report = reporting 1 0 })

-- One that never changes the graph breaks demand 2 at case 6.

abbrev pub never_changes : Interpreter
never_changes =
    running
    (λ x.
    let o : Outcome = (ours base).run x in
    record { answer = o.answer; nodes = x.nodes; edges = x.edges; journal = o.journal; report = o.report })

-- One that runs only the first command of a sequence breaks demand 2 at case 10.

unfoldable mutual
  pub first_only : Command → Command
  first_only (rule_set l) = rule_set l
  first_only (sequence cs) = sequence (only_first cs)
  first_only (guarded keep g a b) = guarded keep (first_only g) (first_only a) (first_only b)
  first_only (loop c) = loop (first_only c)
  first_only skip = skip
  first_only fail = fail
  first_only break = break
  first_only (called c) = called (first_only c)

  pub only_first : Commands → Commands
  only_first no_more = no_more
  only_first (then c cs) = then (first_only c) no_more

abbrev pub runs_first : Interpreter
runs_first = by (λ most room rules c s. exec most room rules (first_only c) s)

-- One that enters calls for free breaks demand 2 at a call of a procedure of skip.

abbrev pub calls_freely : Interpreter
calls_freely = by (λ most room rules c s. exec most room rules (written c) s)

-- ours enters two commands
abbrev pub call_of_skip : Case
call_of_skip = on_plain_node 100 (field_bytes procedure_tag skip_field ++ field_bytes call_tag (0 ∷ [])) (results 2 0 plain_node [] [])

-- One that answers 0 with what it had when the fuel ran out breaks demand 2 at case 2.

unfoldable pub made_done : End → End
made_done Done = Done
made_done Failed = Failed
made_done Broke = Broke
made_done (Stopped w) = elim w [
  | OutOfFuel ↦ Done
  | NoNodeRoom ↦ Stopped NoNodeRoom
  | NoEdgeRoom ↦ Stopped NoEdgeRoom
  | NoRecordRoom ↦ Stopped NoRecordRoom
  | LabelTooLarge ↦ Stopped LabelTooLarge
]

abbrev pub answers_anyway : Interpreter
answers_anyway =
    by (λ most room rules c s. let o : Out = exec most room rules c s in ends (made_done o.end) o.state)

-- One that keeps the marks of a failed try breaks demand 2 at `try (M; fail) then skip else skip`.

unfoldable pub with_mark : Slot Node → Slot Node → Slot Node
with_mark free t = free
with_mark (live n) free = live n
with_mark (live n) (live m) = live (record { mark = m.mark; root = n.root; label = n.label })

-- the slots of the first table with the marks of the second
unfoldable pub with_marks : List (Slot Node) → List (Slot Node) → List (Slot Node)
with_marks [] t = []
with_marks (a ∷ s) [] = a ∷ s
with_marks (a ∷ s) (b ∷ t) = with_mark a b ∷ with_marks s t

abbrev pub back_but_marks : State → State → State
back_but_marks s t =
    record {
      ledger =
          record {
            host = record { nodes = with_marks s.ledger.host.nodes t.ledger.host.nodes; edges = s.ledger.host.edges };
            journal = s.ledger.journal;
          };
      fuel = t.fuel;
      steps = t.steps;
    }

-- a guard that fails, of a try where `keep` holds
unfoldable pub after_guard : End → Bool → State → State → (State → Out) → (State → Out) → Out
after_guard Done keep s t yes' no' = yes' (choose keep t (back s t))
after_guard Failed keep s t yes' no' = no' (choose keep (back_but_marks s t) (back s t))
after_guard Broke keep s t yes' no' = ends Broke t
after_guard (Stopped w) keep s t yes' no' = ends (Stopped w) t

module _ (most room : ℕ) (rules : List Rule) where
  unfoldable mutual
    pub carelessly : Command → State → Out
    carelessly (rule_set l) s = rule_call most room rules (first_rule rules s.ledger.host l) s
    carelessly (sequence cs) s = all_carelessly cs s
    carelessly (guarded keep g a b) s =
        let o = enter (λ t. carelessly g t) s in
        after_guard o.end keep s o.state (enter (λ t. carelessly a t)) (enter (λ t. carelessly b t))
    carelessly (loop c) s = rounds s.fuel (enter (λ t. carelessly c t)) s
    carelessly skip s = ends Done s
    carelessly fail s = ends Failed s
    carelessly break s = ends Broke s
    carelessly (called c) s = enter (λ t. carelessly c t) s

    pub all_carelessly : Commands → State → Out
    all_carelessly no_more s = ends Done s
    all_carelessly (then c cs) s = let o = enter (λ t. carelessly c t) s in next o.end o.state (λ t. all_carelessly cs t)

abbrev pub keeps_marks : Interpreter
keeps_marks = by (λ most room rules c s. enter (λ t. carelessly most room rules c t) s)

-- on one plain node; ours leaves it unmarked
abbrev pub failed_try : Case
failed_try =
    on_plain_node 100 (marks_red ++ field_bytes 0x59 (1 ∷ field_bytes 0x51 (rule_set_field 0 ++ fail_field) ++ skip_field ++ skip_field)) (results 5 0 plain_node [] [])

-- One that invents a step breaks demand 3 at case 1.

abbrev pub invents_steps : Interpreter
invents_steps =
    running
    (λ x.
    let o : Outcome = (ours base).run x in
    record {
      answer = o.answer;
      nodes = o.nodes;
      edges = o.edges;
      journal = o.journal;
      report = reporting (number (take 4 o.report) + 1) (number (drop 4 o.report));
    })

-- So does one that takes two fuel for a command and counts two steps, with as much fuel as it needs.

abbrev pub counts_twice : Interpreter
counts_twice =
    running
    (λ x.
    let o : Outcome =
    (ours base).run
    (record { nodes = x.nodes; edges = x.edges; journal = x.journal; image = x.image; fuel = x.fuel / 2; report = x.report }) in
    record {
      answer = o.answer;
      nodes = o.nodes;
      edges = o.edges;
      journal = o.journal;
      report = reporting (number (take 4 o.report) * 2) (number (drop 4 o.report));
    })

-- Demand 1: one that leaves the graph as it was when the fuel ran out, and answers 2, at (M; skip) with fuel 2.

abbrev pub leaves_half : Interpreter
leaves_half =
    running
    (λ x.
    let o : Outcome = (ours base).run x in
    let q : Outcome = answers_anyway.run x in
    record { answer = o.answer; nodes = q.nodes; edges = q.edges; journal = o.journal; report = o.report })

abbrev pub cut_short : Case
cut_short = on_plain_node 2 (marks_red ++ field_bytes 0x51 (rule_set_field 0 ++ skip_field)) (no_result 2 2 plain_node [])
