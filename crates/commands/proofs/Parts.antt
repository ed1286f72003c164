-- What is known of the parts of a command that is known: its row of commands by its tag and payload, a command of a row by its
-- number, and the main command. Rests on Cycle, Putting and States, on parts' Series and Images and on fields' Parsed.
use mathlib.Core.Path.{◌≡◌, refl, sym, ◌∙◌, ap}
use mathlib.Core.Bool.{Bool, true}
use mathlib.Core.Logic.{inl, inr}
use mathlib.Core.Option.{some}
use mathlib.Core.List.{List, [], ◌∷◌}
use Prim.Native.Nat.{ℕ, suc, ◌+◌, ◌-◌, ◌<◌, ◌≤◌}
use native.Mathlib.Omega.{arith}
use borrow.Author.Tests.{ltb-true}
use lib.Dec.{eqb}
use lib.ListN.{length, get_or, drop}
use Rattle.meaning.specs.Tags.{call_tag, guarded_tag, loop_tag, rule_set_tag, sequence_tag}
use Rattle.meaning.specs.Basics.{every}
use Rattle.meaning.specs.Image as Image
use Rattle.meaning.specs.Image.{Rule, limits, Raw, RawProgram, only, passes_all, command, raw_program}
use Rattle.meaning.specs.References.{names_exist, references}
use Rattle.meaning.specs.Procedures.{Command, rule_set, sequence, guarded, loop, skip, program}
use Rattle.meaning.specs.Commands.{State, work, works}
use Rattle.meaning.specs.Laws.Tests.{both_true, every_true}
use Rattle.laws.specs.Procedures.{StandsFor, put_in_some}
use Rattle.fields.specs.Image.{bind_yes}
use Rattle.fields.specs.Parsed.{tag_of, command-tag, rule-set-read, sequence-read, guarded-read, loop-read, skip_read, fail-read, break-read, call-read, one-is}
use Rattle.meaning.specs.declared.End.{End}
use Rattle.meaning.specs.declared.End.TheVariants.{Done, Failed, Broke, Stopped}
use Rattle.parts.specs.Series.{For, Series, only-series, nth_part, nth_tag, nth-item}
use Rattle.parts.specs.Images.{procedure, main-is}
use Rattle.calling.specs.Called.{Listed}
use Rattle.commands.specs.Program.{Runnable}
use Rattle.ends.specs.Ends.{LeafTag, RowTag}
use Rattle.commands.specs.Cycle.{Known, Row, RowIn, at, in_order}
use Rattle.commands.proofs.Putting.{Exist, Stands, stands, stands_for_lem, becomes_as, Puts, puts-length, puts-all, series-puts}
use Rattle.commands.proofs.States.{leaf_of, called-work}

row-series : (n : ℕ) (bs : List ℕ) (l : List Raw) → only passes_all (command n) limits.commands bs ≡ some l → Series (command n) l [] bs
row-series n bs l e = only-series passes_all (command n) (command n) (λ t b a p x. x) limits.commands bs l e

-- what stands where, in a program that can be run
module _ {image : List ℕ} (w : Runnable image) where
  abbrev tree : RawProgram
  tree = w.programmed.tree

  pub names : (every (λ c. names_exist c (length tree.rules) (length tree.procedures)) tree.procedures ≡ true) × (names_exist tree.main (length tree.rules) (length tree.procedures) ≡ true)
  unfolding references
  names = both_true _ _ (both_true _ _ w.exist).1

  pub whole_is : StandsFor tree w.whole
  unfolding program
  whole_is = put_in_some tree w.whole (sym (bind_yes _ _ tree w.programmed.is) ∙ w.is)

module _ {image : List ℕ} {tag : ℕ} {bs : List ℕ} (w : Known image tag bs) where
  pub was : Stands w.runnable.programmed.tree w.own w.deep tag bs w.cmd
  was = stands w.runnable.programmed.tree w.own w.deep tag bs w.cmd w.is

  pub tagged : tag ≡ tag_of was.raw
  tagged = (command-tag w.own tag bs was.raw was.read).1

  deeper : command (suc (w.own - 1)) tag bs ≡ some was.raw
  deeper =
      let h = (command-tag w.own tag bs was.raw was.read).0 in
      let z : suc (w.own - 1) ≡ w.own = omega arith in
      ap (λ (m : ℕ). command m tag bs) z ∙ was.read

  -- all that a command of the kind c names exists
  exist_as : (c : Raw) → was.raw ≡ c → Exist w.runnable.programmed.tree c
  exist_as c e = rw e at was.exist

  -- Rule sets.

  raw-set : tag ≡ rule_set_tag → was.raw ≡ Image.rule_set bs
  raw-set h = (rule-set-read (w.own - 1) tag bs was.raw deeper h).0

  pub rule-set-is : tag ≡ rule_set_tag → w.cmd ≡ rule_set bs
  rule-set-is h = becomes_as _ w.deep was.raw (Image.rule_set bs) w.cmd (raw-set h) was.whole

  pub listed : tag ≡ rule_set_tag → Listed image bs
  unfolding names_exist
  listed h = record { programmed = w.runnable.programmed; exist = exist_as (Image.rule_set bs) (raw-set h) }

  -- a row of commands in it
  abbrev pub row : (least : ℕ) {rest : List ℕ} (cs : List Raw) (n : ℕ) (ds : List Command) → Series (command (w.own - 1)) cs [] rest → Puts w.runnable.programmed.tree n cs ds → least ≤ length cs → Row least image rest
  row least {rest} cs n ds r q h =
      record {
        runnable = w.runnable;
        own = w.own - 1;
        deep = n;
        cmds = ds;
        series = series-puts w.runnable.programmed.tree (w.own - 1) n cs ds rest r q;
        enough = omega (arith, puts-length w.runnable.programmed.tree n cs ds q);
      }

  -- Commands in order, and calls: what a procedure holds is a row of one command.

  -- a row whose commands do what the command does
  pub record RowOf (part : List ℕ) : Type 0 where
    pub row : Row 1 image part
    pub whence : row.runnable ≡ w.runnable
    pub same : (most room : ℕ) (rules : List Rule) (s : State) → works most room rules (in_order row.cmds) s ≡ work most room rules w.cmd s

  in_order_lem : tag ≡ sequence_tag → RowOf bs
  unfolding names_exist work
  in_order_lem h =
      let s = sequence-read (w.own - 1) tag bs was.raw deeper h in
      let b = becomes_as _ w.deep was.raw _ w.cmd s.4 was.whole in
      let t = puts-all w.runnable.programmed.tree b.0 s.0 b.1 (exist_as _ s.4) b.2 in
      record {
        row = row 1 s.0 b.0 t.0 (row-series (w.own - 1) bs s.0 s.1) t.1 s.2;
        whence = refl;
        same = λ most room rules u. ap (λ (c : Command). work most room rules c u) (sym (b.3 ∙ ap sequence t.2));
      }

  module _ (h : tag ≡ call_tag) (part : List ℕ)
      (there : For (raw_program image) (λ p. get_or bs 0 0 < length p.procedures → (d : Raw) → procedure part ≡ some (get_or p.procedures (get_or bs 0 0) d)))
    where
      abbrev P : RawProgram
      P = w.runnable.programmed.tree

      abbrev i : ℕ
      i = get_or bs 0 0

      raw-call : was.raw ≡ Image.call i
      raw-call = (call-read (w.own - 1) tag bs was.raw deeper h).1

      below : i < length P.procedures
      unfolding names_exist
      below = ltb-true i (length P.procedures) (exist_as (Image.call i) raw-call)

      in_call_lem : RowOf part
      unfolding Series
      in_call_lem =
          let b = becomes_as P.procedures w.deep was.raw (Image.call i) w.cmd raw-call was.whole in
          let o = one-is (command limits.depth) part _ (there P w.runnable.programmed.is below Image.skip) in
          let e = every_true _ P.procedures Image.skip (names w.runnable).0 i below in
          record {
            row =
                record {
                  runnable = w.runnable;
                  own = limits.depth;
                  deep = b.0;
                  cmds = b.1 ∷ [];
                  series = record { whole = o.whole; there = o.there; read = stands_for_lem P limits.depth b.0 o.whole.tag o.whole.payload _ _ o.command e b.2; more = o.last };
                  enough = omega arith;
                };
            whence = refl;
            same = λ most room rules u. called-work most room rules b.1 u ∙ ap (λ (c : Command). work most room rules c u) (sym b.3);
          }

  pub row_in : {part : List ℕ} → RowTag tag → RowIn image tag bs part → RowOf part
  row_in (inl h) r = rw (r.itself (λ x. omega arith)) (in_order_lem h)
  row_in {part} (inr h) r = in_call_lem h part (r.called h)

  -- Guarded commands: their commands are behind their flag.

  module _ (h : tag ≡ guarded_tag) {keep : Bool} (k : keep ≡ eqb (get_or bs 0 0) 1) {rest : List ℕ} (d : rest ≡ drop 1 bs) where
    pub three : (a b c : Raw) × (n : ℕ) × (x y z : Command) × Series (command (w.own - 1)) (a ∷ b ∷ c ∷ []) [] rest × Puts w.runnable.programmed.tree n (a ∷ b ∷ c ∷ []) (x ∷ y ∷ z ∷ []) × (w.cmd ≡ guarded keep x y z)
    unfolding names_exist
    three =
        let s = guarded-read (w.own - 1) tag bs was.raw deeper h in
        let b = becomes_as _ w.deep was.raw _ w.cmd s.4 was.whole in
        let e = both_true _ _ (exist_as _ s.4) in
        let f = both_true _ _ e.1 in
        (s.0, s.1, s.2, b.0, b.1, b.2, b.3, row-series (w.own - 1) rest _ (rw d s.3), (e.0, b.4, (f.0, b.5, (f.1, b.6, tt))), rw k b.7)

    unfoldable pub guarded-of : Row 3 image rest
    guarded-of = let s = three in row 3 (s.0 ∷ s.1 ∷ s.2 ∷ []) s.3 (s.4 ∷ s.5 ∷ s.6 ∷ []) s.7 s.8 (omega arith)

    pub guarded-is : w.cmd ≡ guarded keep (at guarded-of 0) (at guarded-of 1) (at guarded-of 2)
    unfolding guarded-of
    guarded-is = three.9

  -- Loops.

  module _ (h : tag ≡ loop_tag) where
    pub body : (c : Raw) × (n : ℕ) × (x : Command) × Series (command (w.own - 1)) (c ∷ []) [] bs × Puts w.runnable.programmed.tree n (c ∷ []) (x ∷ []) × (w.cmd ≡ loop x)
    unfolding names_exist
    body =
        let s = loop-read (w.own - 1) tag bs was.raw deeper h in
        let b = becomes_as _ w.deep was.raw _ w.cmd s.2 was.whole in
        (s.0, b.0, b.1, row-series (w.own - 1) bs _ s.1, (exist_as _ s.2, b.2, tt), b.3)

    unfoldable pub loop-of : Row 1 image bs
    loop-of = let s = body in row 1 (s.0 ∷ []) s.1 (s.2 ∷ []) s.3 s.4 (omega arith)

    pub loop-is : w.cmd ≡ loop (at loop-of 0)
    unfolding loop-of
    loop-is = body.5

  -- Skip, fail and break.

  pub leaf-is : (e : End) → LeafTag tag e → w.cmd ≡ leaf_of e
  leaf-is Done h = becomes_as _ w.deep was.raw Image.skip w.cmd (skip_read (w.own - 1) tag bs was.raw deeper h).1 was.whole
  leaf-is Failed h = becomes_as _ w.deep was.raw Image.fail w.cmd (fail-read (w.own - 1) tag bs was.raw deeper h).1 was.whole
  leaf-is Broke h = becomes_as _ w.deep was.raw Image.break w.cmd (break-read (w.own - 1) tag bs was.raw deeper h).1 was.whole
  leaf-is (Stopped r) h = absurd h

-- A command of a row, by its number.

module _ {least : ℕ} {image bs : List ℕ} (w : Row least image bs) (i : ℕ) (h : i < least) {tag : ℕ} {part : List ℕ} (q : tag ≡ nth_tag i bs) (p : part ≡ nth_part i bs) where
  unfoldable pub nth-known : Known image tag part
  nth-known =
      record {
        runnable = w.runnable;
        own = w.own;
        deep = w.deep;
        cmd = at w i;
        is = rw (q, p) (nth-item bs _ w.cmds i skip w.series (omega (arith, w.enough)));
      }

-- The main command.

module _ {image : List ℕ} (w : Runnable image) where
  abbrev pub last : ℕ
  last = length w.programmed.tree.rules + length w.programmed.tree.procedures

  unfoldable pub main-known : {tag : ℕ} {part : List ℕ} → tag ≡ nth_tag last image → part ≡ nth_part last image → Known image tag part
  main-known {tag} {part} q p =
      record {
        runnable = w;
        own = limits.depth;
        deep = limits.depth;
        cmd = w.whole.main;
        is = stands_for_lem w.programmed.tree limits.depth limits.depth tag part _ _ (main-is image part tag w.programmed.tree w.programmed.is q p) (names w).1 (whole_is w).main;
      }
