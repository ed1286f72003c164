-- What shows that an interpreter does not meet a demand: the cases of document 01 as what run is lent, what ours leaves of
-- them, and interpreters that differ from ours in one thing. Rests on Second, Third and the meaning's ProvedSet.
use Rattle.std.specs.Prelude.{ℕ, ◌*◌, ◌^◌, Bool, List, [], ◌∷◌, length, get_or, replicate, ltb}
use Rattle.std.proofs.Math.Option.{Option, some, none}
use Rattle.meaning.specs.Basics.{both, every}
use Rattle.meaning.specs.Layout.{base, record_length}
use Rattle.meaning.specs.Image.{Rule}
use Rattle.meaning.specs.Procedures.{Program, program, Command}
use Rattle.meaning.specs.Commands.{State, Out}
use Rattle.meaning.specs.Calls.{refused, run_refusal, journal_room, finished, Lent, LentUndo}
use Rattle.meaning.specs.ProvedSet.{Expected, Case, cases, plain_node, on_plain_node, results, skip_field}
use Rattle.demands.specs.Demands.{Outcome, Interpreter, start}
use Rattle.demands.specs.Ours.{outcome, ours}
use Rattle.meaning.specs.declared.Refusal.{Refusal}
use Rattle.meaning.specs.declared.Refusal.TheVariants.{BadForm}

-- The cases as what run is lent, and what ours leaves of them.

abbrev pub lent : Case → Lent
lent c =
    record {
      nodes = c.nodes;
      edges = c.edges;
      journal = replicate (c.records * record_length base) 1;
      image = c.image;
      fuel = c.fuel;
      report = replicate 8 7;
    }

abbrev pub expects : Expected → Outcome
expects e = record { answer = e.answer; nodes = e.nodes; edges = e.edges; journal = e.journal; report = e.report }

-- no case stands behind the last
abbrev pub no_case : Case
no_case = on_plain_node 1 skip_field (results 1 0 plain_node [] [])

-- entry n of the list, from 0: case 1 is entry 0, case 2 entry 1; cases 6 to 12 are entries 6 to 12
abbrev pub case_at : ℕ → Case
case_at n = get_or cases n no_case

abbrev pub is_buffer : List ℕ → Bool
is_buffer bs = both (every (λ b. ltb b 256) bs) (ltb (length bs) (2 ^ 64))

-- all of it can be lent
abbrev pub can_be_lent : Lent → Bool
can_be_lent x = both (ltb x.fuel (2 ^ 32)) (every is_buffer (x.nodes ∷ x.edges ∷ x.journal ∷ x.image ∷ x.report ∷ []))

abbrev pub can_be_lent_undo : LentUndo → Bool
can_be_lent_undo y = both (ltb y.count (2 ^ 32)) (every is_buffer (y.nodes ∷ y.edges ∷ y.journal ∷ y.report ∷ []))

-- An interpreter that has our undo.
abbrev pub running : (Lent → Outcome) → Interpreter
running f = record { run = f; undo = (ours base).undo }

-- One that also checks, reads and writes as ours does, and runs commands by another function.

abbrev pub Runner : Type 0
Runner = ℕ → ℕ → List Rule → Command → State → Out

unfoldable pub runs_on : Runner → Option Refusal → Option Program → Lent → Outcome
runs_on f (some w) p x = outcome (refused w x.nodes x.edges x.journal x.report)
runs_on f none none x = outcome (refused BadForm x.nodes x.edges x.journal x.report)
runs_on f none (some p) x =
    let o : Out = f base.atoms (journal_room base x.journal) p.rules p.main (start base x) in
    outcome (finished base o.end o x.nodes x.edges x.journal)

abbrev pub by : Runner → Interpreter
by f =
    running
    (λ x.
    runs_on f (run_refusal base x) (program x.image) x)
