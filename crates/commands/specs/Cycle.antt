-- The command cycle over lent bytes: what is known of the parts of a program before they are run, and what is left after.
-- Rests on parts' Series and Images, on ledger's Running, on the meaning's Procedures and Commands, and on Program.
use Rattle.std.specs.Prelude.{◌≡◌, Bool, List, [], ◌∷◌, ℕ, ◌+◌, ◌<◌, ◌≤◌, length, get_or}
use Rattle.std.proofs.Math.Option.{Option, some}
use Rattle.meaning.specs.Tags.{call_tag}
use Rattle.meaning.specs.Basics.{ensure, ◌>>◌, ◌>>=◌}
use Rattle.meaning.specs.Image.{Raw, RawProgram, command, raw_program}
use Rattle.meaning.specs.References.{names_exist}
use Rattle.meaning.specs.Procedures.{Command, guarded, loop, skip, Commands, no_more, then, put}
use Rattle.meaning.specs.Commands.{State, Out, work, works, exec}
use Rattle.meaning.specs.Calls.{journal_room, most_fuel}
use Rattle.meaning.specs.declared.Layout.{Layout}
use Rattle.meaning.specs.declared.Tally.{Tally}
use Rattle.parts.specs.Series.{For, Series}
use Rattle.parts.specs.Images.{procedure}
use Rattle.ledger.specs.Running.{state_of, Running, out_of}
use Rattle.meaning.specs.declared.Ran.{Ran}
use Rattle.commands.specs.Program.{Runnable}

-- What is known of the parts of a program.

-- The command that bytes with a tag stand for in a program, if all that they name exists. They are nested at most `own` deep by
-- themselves, and at most `deep` with procedures put in.
unfoldable pub stands_for : RawProgram → ℕ → ℕ → ℕ → List ℕ → Option Command
stands_for p own deep tag bs = do
  c ← command own tag bs
  ensure (names_exist c (length p.rules) (length p.procedures))
  put p.procedures deep c

-- bytes with a tag are a command of a program that can be run
pub record Known (image : List ℕ) (tag : ℕ) (bs : List ℕ) : Type 0 where
  pub runnable : Runnable image
  pub own : ℕ
  pub deep : ℕ
  pub cmd : Command
  pub is : stands_for runnable.programmed.tree own deep tag bs ≡ some cmd

-- bytes are commands one after the other, at least so many
pub record Row (least : ℕ) (image bs : List ℕ) : Type 0 where
  pub runnable : Runnable image
  pub own : ℕ
  pub deep : ℕ
  pub cmds : List Command
  pub series : Series (stands_for runnable.programmed.tree own deep) cmds [] bs
  pub enough : least ≤ length cmds

-- the row of the commands of a sequence or a call, from its tag and payload
pub record RowIn (image : List ℕ) (tag : ℕ) (bs row : List ℕ) : Type 0 where
  pub called : tag ≡ call_tag
      → For (raw_program image) (λ p. get_or bs 0 0 < length p.procedures → (d : Raw) → procedure row ≡ some (get_or p.procedures (get_or bs 0 0) d))
  pub itself : (tag ≡ call_tag → ⊥) → row ≡ bs

-- the command of a number in a row
abbrev pub at : {least : ℕ} {image bs : List ℕ} → Row least image bs → ℕ → Command
at w i = get_or w.cmds i skip

unfoldable pub in_order : List Command → Commands
in_order [] = no_more
in_order (c ∷ l) = then c (in_order l)

module _ (L : Layout) where
  -- What each member of the cycle does; `room` is how many records the journal holds.

  abbrev pub runs_command : {image : List ℕ} {tag : ℕ} {bs : List ℕ} → ℕ → Known image tag bs → State → Out
  runs_command room w = exec L.atoms room w.runnable.programmed.tree.rules w.cmd

  abbrev pub runs_inside : {image : List ℕ} {tag : ℕ} {bs : List ℕ} → ℕ → Known image tag bs → State → Out
  runs_inside room w = work L.atoms room w.runnable.programmed.tree.rules w.cmd

  abbrev pub runs_row : {image bs : List ℕ} → ℕ → Row 1 image bs → State → Out
  runs_row room w = works L.atoms room w.runnable.programmed.tree.rules (in_order w.cmds)

  abbrev pub runs_guarded : Bool → {image bs : List ℕ} → ℕ → Row 3 image bs → State → Out
  runs_guarded keep room w = work L.atoms room w.runnable.programmed.tree.rules (guarded keep (at w 0) (at w 1) (at w 2))

  abbrev pub runs_loop : {image bs : List ℕ} → ℕ → Row 1 image bs → State → Out
  runs_loop room w = work L.atoms room w.runnable.programmed.tree.rules (loop (at w 0))

  -- the bytes hold a state, and the steps can be counted
  pub record Begun (nodes edges journal : List ℕ) (t : Tally) : Type 0 where
    pub running : Running L nodes edges journal t.records
    pub sum : t.fuel + t.steps ≤ most_fuel

  -- what is left: the end and the state that the definition gives for whatever is known of the bytes, and bytes that run on
  pub record Comes (W : Type 0) (runs : ℕ → W → State → Out) (nodes edges journal : List ℕ) (t : Tally) (r : Ran) (nodes' edges' journal' : List ℕ) : Type 0 where
    pub right : (w : W) → out_of L r nodes' edges' journal' ≡ runs (journal_room L journal) w (state_of L nodes edges journal t)
    pub running : Running L nodes' edges' journal' r.tally.records
