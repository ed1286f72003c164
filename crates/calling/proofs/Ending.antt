-- Laws of a call's end: by what applying the chosen rule comes to, or by fail.
-- Rests on specs/Choosing, specs/Called and applying's Application.
use Prim.Native.Nat.{ℕ, ◌<◌}
use mathlib.Core.Path.{◌≡◌, refl, sym, ap, subst}
use mathlib.Core.Option.{Option, some, none}
use mathlib.Core.List.{List}
use lib.ListN.{length, get_or}
use Rattle.std.specs.Prelude.{Some, None, Result, Ok, Err}
use Rattle.std.specs.Prelude as Rust
use Rattle.meaning.specs.Image.{Rule, rule, raw_program}
use Rattle.meaning.specs.Applying.{Ledger, apply}
use Rattle.meaning.specs.Commands.{ends, after_applying, Chosen, rule_at, first_rule, rule_call, state_at}
use Rattle.meaning.specs.Calls.{journal_room}
use Rattle.laws.specs.Commands.{first_rule-some}
use Rattle.laws.specs.LegalCommands.{legal-rule}
use Rattle.meaning.specs.declared.Layout.{Layout}
use Rattle.meaning.specs.declared.Tally.{Tally}
use Rattle.meaning.specs.declared.Stop.{Stop}
use Rattle.meaning.specs.declared.End.TheVariants.{Failed, Stopped as stopped_end}
use Rattle.parts.specs.Series.{For}
use Rattle.graph.specs.Graph.{Legal}
use Rattle.meaning.specs.Layout.{host_of}
use Rattle.ledger.specs.Running.{ledger_of, state_of, Running, out_of}
use Rattle.ledger.specs.Whole.{running-keeps}
use Rattle.applying.specs.Application.{applied_of, records_after, AtMatch, Applies}
use Rattle.calling.specs.Called.{Listed, Called}
use Rattle.calling.specs.Choosing.{chosen_at, IsChoice, end_of, ran_after}
use Rattle.meaning.specs.declared.Ran.{Ran}

-- the tables of a running program can be searched
pub running-searched : (L : Layout) (nodes edges journal : List ℕ) (used : ℕ) → Running L nodes edges journal used
    → Legal L nodes edges
running-searched L nodes edges journal used run =
    record {
      sized = run.held.sized;
      few = run.held.few;
      nodes_fit = run.held.nodes_fit;
      edges_fit = run.held.edges_fit;
      keeps = running-keeps L nodes edges journal used run;
    }

-- Over states: what the definition's call comes to.

module _ (L : Layout) (nodes edges journal : List ℕ) (t : Tally) (nodes' edges' journal' : List ℕ) where
  -- an application that stopped left the ledger as it was
  ended : (a : Result ℕ Stop) → ((w : Stop) → a ≡ Err w → ledger_of L nodes' edges' journal' t.records ≡ ledger_of L nodes edges journal t.records)
      → out_of L (ran_after t a) nodes' edges' journal'
      ≡ after_applying (applied_of a (ledger_of L nodes' edges' journal' (records_after t.records a))) (state_of L nodes edges journal t)
  unfolding end_of applied_of after_applying
  ended (Ok n) k = refl
  ended (Err w) k =
      ap (λ (g : Ledger). ends (stopped_end w) (state_at g t.fuel t.steps)) (k w refl)

  call-applies : (room : ℕ) (rules : List Rule) (o : Option Chosen) (c : Chosen) (a : Result ℕ Stop) → some c ≡ o
      → applied_of a (ledger_of L nodes' edges' journal' (records_after t.records a))
      ≡ apply L.atoms room c.rule c.slots (ledger_of L nodes edges journal t.records)
      → ((w : Stop) → a ≡ Err w → ledger_of L nodes' edges' journal' t.records ≡ ledger_of L nodes edges journal t.records)
      → out_of L (ran_after t a) nodes' edges' journal' ≡ rule_call L.atoms room rules o (state_of L nodes edges journal t)
  unfolding rule_call
  call-applies room rules o c a e right kept = rw (← e, ← right) (ended a kept)

call-fails : (L : Layout) (nodes edges journal : List ℕ) (t : Tally) (room : ℕ) (rules : List Rule) (o : Option Chosen) → none ≡ o
    → out_of L (record { end = Failed; tally = t }) nodes edges journal
    ≡ rule_call L.atoms room rules o (state_of L nodes edges journal t)
unfolding rule_call
call-fails L nodes edges journal t room rules o e = rw (← e)

-- Over bytes: what the code's call comes to.

-- no rule has a match
pub fails : {L : Layout} {image numbers nodes edges journal lens atoms : List ℕ} {c : Rust.Option (ℕ × List ℕ)} (t : Tally)
    → IsChoice L image numbers nodes edges c lens atoms → c ≡ None → Running L nodes edges journal t.records
    → Called L image numbers nodes edges journal t (record { end = Failed; tally = t }) nodes edges journal
fails {L} {image} {numbers} {nodes} {edges} {journal} t choice q run =
    record {
      right = λ p e. call-fails L nodes edges journal t (journal_room L journal) p.rules _ (rw q at (choice.right p e));
      running = run;
    }

-- rule i has a match at these slots, and the bytes are its part
pub record Found (L : Layout) (image numbers nodes edges bs : List ℕ) (i : ℕ) (slots lens atoms : List ℕ) : Type 0 where
  pub choice : IsChoice L image numbers nodes edges (Some (i, slots)) lens atoms
  pub part : For (raw_program image) (λ p. i < length p.rules → (d : Rule) → rule bs ≡ some (get_or p.rules i d))

module _ {L : Layout} {image numbers nodes edges bs slots lens atoms : List ℕ} {i : ℕ} (f : Found L image numbers nodes edges bs i slots lens atoms) where
  there : For (raw_program image) (λ p. rule bs ≡ some (rule_at p.rules i))
  there p e = f.part p e (f.choice.match p e i slots refl).there _

  chosen : For (raw_program image) (λ p. chosen_at p.rules (Some (i, slots)) ≡ first_rule p.rules (host_of L nodes edges) numbers)
  chosen p e = f.choice.right p e

  -- it can be applied
  pub at-match : Listed image numbers → AtMatch L nodes edges bs slots lens atoms
  at-match listed =
      let p = listed.programmed in
      let m = f.choice.match p.tree p.is i slots refl in
      record {
        room = m.room;
        arrays = m.arrays;
        tree = rule_at p.tree.rules i;
        is = there p.tree p.is;
        legal = legal-rule p.tree.rules p.legal i;
        first = (first_rule-some p.tree.rules (host_of L nodes edges) numbers _ (sym (chosen p.tree p.is))).match;
        values = m.values;
      }

  -- and was
  pub applies : {journal nodes' edges' journal' : List ℕ} {a : Result ℕ Stop} {r : Ran} (t : Tally)
      → Applies L nodes edges journal t.records bs slots a nodes' edges' journal'
      → r ≡ ran_after t a
      → Called L image numbers nodes edges journal t r nodes' edges' journal'
  applies {journal} {nodes'} {edges'} {journal'} {a} t x g =
      subst (λ (y : Ran). Called L image numbers nodes edges journal t y nodes' edges' journal') (sym g)
      (record {
        right = λ p e.
            call-applies L nodes edges journal t nodes' edges' journal' (journal_room L journal) p.rules _ _ a (chosen p e)
            (x.right (rule_at p.rules i) (there p e)) x.kept;
        running = x.running;
      })
