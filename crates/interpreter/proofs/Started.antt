-- What a run leaves: refused, with a result, and given back. Rests on laws' Calls and Commands, on ledger's Whole, on
-- commands' Program and on finishing's Finished.
use Prim.Native.Nat.{ℕ, ◌+◌, ◌-◌, ◌/◌, ◌≤◌}
use mathlib.Core.Path.{◌≡◌, refl, sym, ◌∙◌, ap, subst}
use mathlib.Core.Bool.{true}
use mathlib.Core.Option.{some, none}
use mathlib.Core.List.{List, [], map, reverse}
use native.Mathlib.Omega.{arith}
use lib.ListN.{length, replicate, length-replicate}
use lib.Dec.{eqb}
use Rattle.meaning.specs.Basics.{choose, concat, padded}
use Rattle.meaning.specs.Layout.{record_length, fits_table, pieces, read_nodes, read_edges, write_nodes, write_edges, write_record}
use Rattle.meaning.specs.Applying.{Ledger}
use Rattle.meaning.specs.Commands.{Out, exec}
use Rattle.meaning.specs.Calls.{answer_number, refusal_number, report_of, most_fuel, refused, run_refusal, journal_room, given_back, finished, run, lending, Yields}
use Rattle.laws.specs.Numbers.{Bytes}
use Rattle.laws.specs.Calls.{Accepted, accepted, run-refused, run-started, starting, ending}
use Rattle.laws.specs.Commands.{exec-from}
use Rattle.laws.specs.LegalImage.{raw-legal}
use Rattle.laws.specs.Restoring.{From}
use Rattle.meaning.specs.declared.Layout.{Layout}
use Rattle.meaning.specs.declared.Tally.{Tally}
use Rattle.meaning.specs.declared.Refusal.{Refusal}
use Rattle.meaning.specs.declared.Answer.{Answer}
use Rattle.meaning.specs.declared.Answer.TheVariants.{Fail, Stopped as stopped_by}
use Rattle.meaning.specs.declared.End.{End}
use Rattle.meaning.specs.declared.End.TheVariants.{Done, Failed, Broke, Stopped}
use Rattle.answers.specs.Answers.{report_length}
use Rattle.ledger.specs.Running.{journal_of, ledger_of, Running, out_of}
use Rattle.ledger.specs.Whole.{records-count, running-legal, running-start}
use Rattle.meaning.specs.declared.Ran.{Ran}
use Rattle.commands.specs.Program.{Runnable, RunsProgram}
use Rattle.interpreter.specs.Run.{RunLayout}
use Rattle.finishing.specs.Finished.{Stays, Returns, Finishes}

-- no record is read where none is used
no-records : (L : Layout) (journal : List ℕ) → journal_of L journal 0 ≡ []
unfolding journal_of pieces
no-records L journal = refl

fits-blank : (w most : ℕ) (a : List ℕ) → fits_table w most a ≡ true → fits_table w most (replicate (length a) 0) ≡ true
unfolding fits_table
fits-blank w most a h = rw (length-replicate {A = ℕ} (length a) 0) h

module _ (L : Layout) (nodes edges journal image : List ℕ) (fuel : ℕ) (report : List ℕ) where
  pub leaves-refused : (w : Refusal) (report' : List ℕ) → run_refusal L (lending nodes edges journal image fuel report) ≡ some w
      → report' ≡ choose (eqb (length report) 8) (report_of 0 0) report
      → Yields (run L (lending nodes edges journal image fuel report)) (refusal_number w) nodes edges journal report'
  unfolding refused answer_number
  leaves-refused w report' e r =
      rw (run-refused L (lending nodes edges journal image fuel report) w e)
      (record { numbered = refl; nodes_returned = refl; edges_returned = refl; journal_returned = refl; report_returned = r })

  module _ (fit : RunLayout L) (bn : Bytes nodes) (be : Bytes edges) (bi : Bytes image) (e : run_refusal L (lending nodes edges journal image fuel report) ≡ none) where
    input : Accepted L (lending nodes edges journal image fuel report)
    input = accepted L (lending nodes edges journal image fuel report) e

    pub report-size : length report ≡ report_length
    report-size = input.report_size

    abbrev blank : List ℕ
    blank = replicate (length journal) 0

    abbrev tally : Tally
    tally = record { fuel = fuel; steps = 0; records = 0 }

    pub start-running : Running L nodes edges blank 0
    start-running =
        running-start L nodes edges blank fit.sized fit.few (fit.numbered.nodes, fit.numbered.edges)
        (input.nodes_fit, input.edges_fit, fits-blank (record_length L) L.records journal input.journal_fits) bn be input.layout
        (ap (λ (n : ℕ). replicate n 0) (sym (length-replicate {A = ℕ} (length journal) 0)))

    pub runnable : Runnable image
    runnable =
        record {
          programmed = record { tree = input.raw; is = input.read; legal = raw-legal image input.raw bi input.read input.references };
          exist = input.references;
          whole = input.tree;
          is = input.form;
        }

    pub fuel-fits : fuel + 0 ≤ most_fuel
    fuel-fits = omega (arith, input.fuel_fits)

    -- What the program did.

    module _ (r : Ran) (nodes' edges' journal' : List ℕ) (ran : RunsProgram L image nodes edges blank tally r nodes' edges' journal') where
      abbrev o : Out
      o = out_of L r nodes' edges' journal'

      out-is : o ≡ ending L (lending nodes edges journal image fuel report) input.tree
      out-is =
          ran.right input.tree input.form
          ∙ (λ i. exec L.atoms (length-replicate {A = ℕ} (length journal) 0 i / record_length L) input.tree.rules input.tree.main
          (record {
            ledger = record { host = record { nodes = read_nodes L nodes; edges = read_edges L edges }; journal = no-records L blank i };
            fuel = fuel;
            steps = 0;
          }))

      run_is : run L (lending nodes edges journal image fuel report) ≡ finished L r.end o nodes edges journal
      run_is =
          run-started L (lending nodes edges journal image fuel report) input.tree e input.form
          ∙ sym (λ i. finished L (out-is i).end (out-is i) nodes edges journal)

      module _ (a : Answer) (nodes'' edges'' journal'' report'' : List ℕ) (long : length journal'' ≡ length journal) where
        -- a result: tables and journal as they are
        leaves-result : Stays L nodes' edges' journal' r.tally.steps r.tally.records a nodes'' edges'' journal'' report''
            → Yields (finished L Done o nodes edges journal) (answer_number a) nodes'' edges'' journal'' report''
        unfolding finished
        leaves-result s =
            let h = ran.running.held in
            let m : length journal' ≡ length journal = sym (ap length s.journal_stays) ∙ long in
            record {
              numbered = ap answer_number s.answer;
              nodes_returned = s.nodes_stay ∙ sym h.nodes_written;
              edges_returned = s.edges_stay ∙ sym h.edges_written;
              journal_returned = s.journal_stays ∙ rw m at (sym h.written);
              report_returned = s.states ∙ ap (report_of r.tally.steps) (sym (records-count L nodes' edges' journal' r.tally.records));
            }

        -- no result: everything as it came, and no record
        module _ (b : Answer) (s : Returns L nodes' edges' journal' r.tally.steps r.tally.records a nodes'' edges'' journal'' report'' b) where
          abbrev first : Ledger
          first = (starting L (lending nodes edges journal image fuel report)).ledger

          from : From first (ledger_of L nodes' edges' journal' r.tally.records)
          from =
              subst (λ (x : Out). From first x.state.ledger) (sym out-is)
              (exec-from L.atoms (journal_room L journal) input.tree.rules input.tree.main (starting L (lending nodes edges journal image fuel report)))

          again : (ledger_of L nodes'' edges'' journal'' 0 ≡ first) × Running L nodes'' edges'' journal'' 0
          again = s.undone.again first (running-legal L nodes edges blank 0 start-running).host from refl

          journal-back : journal'' ≡ replicate (length journal) 0
          unfolding concat
          journal-back =
              let z : length journal - 0 ≡ length journal = omega arith in
              sym again.1.held.written
              ∙ (λ i. padded (long i) (concat (map (write_record L) (reverse (no-records L journal'' i)))))
              ∙ ap (λ (n : ℕ). replicate n 0) z

          leaves-back : Yields (given_back L b r.tally.steps nodes edges journal) (answer_number a) nodes'' edges'' journal'' report''
          leaves-back =
              record {
                numbered = ap answer_number s.answer;
                nodes_returned =
                    sym again.1.held.nodes_written ∙ ap (λ (g : Ledger). write_nodes L g.host.nodes) again.0 ∙ start-running.held.nodes_written;
                edges_returned =
                    sym again.1.held.edges_written ∙ ap (λ (g : Ledger). write_edges L g.host.edges) again.0 ∙ start-running.held.edges_written;
                journal_returned = journal-back;
                report_returned = s.states;
              }

        -- by the end
        leaves-end : (d : End) → Finishes L nodes' edges' journal' r.tally.steps r.tally.records a nodes'' edges'' journal'' report'' d
            → Yields (finished L d o nodes edges journal) (answer_number a) nodes'' edges'' journal'' report''
        unfolding finished Finishes
        leaves-end Done s = leaves-result s
        leaves-end Failed s = leaves-back Fail s
        leaves-end Broke s = leaves-back Fail s
        leaves-end (Stopped w) s = leaves-back (stopped_by w) s

        pub leaves-finished : Finishes L nodes' edges' journal' r.tally.steps r.tally.records a nodes'' edges'' journal'' report'' r.end
            → Yields (run L (lending nodes edges journal image fuel report)) (answer_number a) nodes'' edges'' journal'' report''
        leaves-finished s = rw run_is (leaves-end r.end s)
