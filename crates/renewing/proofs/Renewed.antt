-- Every image of the old form can be rewritten, grows by one byte for each of its ifs and tries, and, where it is then no longer
-- than an image may be, means what it meant: on every input the run that reads today's form returns, answer, report, tables and
-- journal, what the run that read the old one did. Rests on OldForm, Written, Commands and Depth and on parts' Series, Rows and
-- Images.
use Rattle.std.specs.Prelude.{◌≡◌, ℕ, ◌+◌, ◌-◌, ◌<◌, ◌≤◌, eqb, length, take}
use Rattle.std.proofs.Math.Path.{refl, sym, ap}
use Rattle.std.proofs.Common.{◌∙◌, subst, arith}
use Rattle.std.proofs.Math.Bool.{true}
use Rattle.std.proofs.Math.Option.{Option, some, none}
use mathlib.Core.List.{List, [], ◌++◌, append-nil}
use borrow.Author.Tests.{eq-eqb, ne_eqb, le-leb}
use Rattle.std.proofs.Math.Dec.{leb}
use Rattle.std.proofs.Math.ListN.{length-append}
use Rattle.std.proofs.Math.Seq.{take-append_seam}
use Rattle.meaning.specs.Basics.{every, is_some, ◌>>=◌}
use Rattle.meaning.specs.Numbers.{bytes}
use Rattle.meaning.specs.Tags.{rule_tag, procedure_tag}
use Rattle.meaning.specs.Image.{Raw, RawProgram, Read, limits, field, leading, rule, command, one_command, raw_program}
use Rattle.meaning.specs.Procedures.{Program, depth_holds, put_in}
use Rattle.meaning.specs.ProvedSet.{field_bytes}
use Rattle.meaning.specs.Calls.{Lent, Yields, RunPromise, refusal_as, run_on, run_as, run}
use Rattle.meaning.specs.Laws.Tests.{both_of, is_some_true, some_inj, ensure-yes, ensure-no}
use Rattle.meaning.specs.declared.Layout.{Layout}
use Rattle.meaning.specs.declared.Refusal.{Refusal}
use Rattle.fields.specs.Image.{bind_yes, field_is, leading-led, leading-other}
use Rattle.fields.specs.Parsed.{IsOne, IsProgram, program-is, is-program}
use Rattle.parts.specs.Series.{Series, leading-series}
use Rattle.parts.specs.Rows.{tagged, tagged-yes, tagged-some}
use Rattle.parts.specs.Images.{command-above}
use Rattle.renewing.specs.OldForm.{old_command, old_program, old_run, renewed}
use Rattle.renewing.specs.Written.{field-written, length-field, series-front, series-leading}
use Rattle.renewing.specs.Commands.{guards, New, renews}
use Rattle.renewing.specs.Depth.{old-put}
use Rattle.renewing.specs.Renewed.{Renewal, with_image}

-- What is no image of the old form is not rewritten.

no-image : (bs : List ℕ) → old_program bs ≡ none → renewed bs ≡ none
unfolding renewed is_some
no-image bs e = ensure-no _ _ (rw e)

-- An image of the old form, and what it becomes.

module _ (bs : List ℕ) (p : RawProgram) (old : old_program bs ≡ some p) where
  i : IsProgram 0 (old_command limits.depth) bs p
  i = program-is 0 (old_command limits.depth) bs p old

  -- there are no procedures: its command is behind its rules
  bare : ◌≡◌ {A = Read Raw} (record { items = []; rest = i.behind }) (record { items = p.procedures; rest = i.last })
  unfolding leading
  bare = some_inj _ _ i.procedures

  m : IsOne (old_command limits.depth) i.behind p.main
  m = rw (ap (λ (r : Read Raw). r.rest) bare) i.main

  -- the check of the depth with procedures put in (answer 19), which came with them, refuses no image of the old form
  pub old-depth : depth_holds p ≡ true
  unfolding depth_holds every is_some
  old-depth =
      let d = old-put p.procedures limits.depth m.whole.tag m.whole.payload p.main m.command in
      both_of _ _ (rw (← (ap (λ (r : Read Raw). r.items) bare))) (rw d.1)

  new : New limits.depth m.whole.tag m.whole.payload p.main
  new = renews limits.depth m.whole.tag m.whole.payload p.main m.command

  abbrev new_field : List ℕ
  new_field = field_bytes new.new_tag new.payload

  -- its rules, with what stands behind them exchanged
  ruled : Series (tagged rule_tag rule) p.rules i.behind bs
  ruled = leading-series (eqb rule_tag) (λ tag. rule) (tagged rule_tag rule) (tagged-yes rule_tag rule) limits.rules bs _ i.rules

  abbrev front : List ℕ
  front = (series-front (tagged rule_tag rule) p.rules i.behind bs ruled).0

  split : bs ≡ front ++ i.behind
  split = (series-front (tagged rule_tag rule) p.rules i.behind bs ruled).1

  lengths : length bs ≡ length front + length i.behind
  lengths = ap length split ∙ length-append front i.behind

  in_front : take (length bs - length i.behind) bs ≡ front
  in_front =
      let l = lengths in
      let z : length bs - length i.behind ≡ length front = omega arith in
      rw z (ap (take (length front)) split ∙ take-append_seam front i.behind)

  becomes : renewed bs ≡ some (front ++ new_field)
  unfolding renewed is_some
  becomes = ensure-yes _ _ (rw old) ∙ bind_yes _ _ _ i.rules ∙ bind_yes _ _ _ m.there ∙ bind_yes _ _ _ new.is ∙ rw in_front

  longer : length (front ++ new_field) ≡ length bs + guards p.main
  longer =
      let e = lengths in
      let f = (field_is i.behind m.whole m.there).long in
      let z : length m.whole.rest ≡ 0 = ap length m.last in
      length-append front new_field ∙ omega (arith, length-field new.new_tag new.payload, new.longer)

  reads_same : length (front ++ new_field) ≤ limits.bytes → raw_program (front ++ new_field) ≡ some p
  unfolding raw_program bytes
  reads_same h =
      let l = length-append front new_field in
      let k = length-field new.new_tag new.payload in
      let c : command limits.depth new.new_tag new.payload ≡ some p.main = new.reads (omega arith) in
      let t : procedure_tag < new.new_tag = command-above new.new_tag new.payload p.main c in
      is-program limits.procedures (command limits.depth) (front ++ new_field) p
      (record {
        behind = new_field;
        rules = series-leading (eqb rule_tag) (λ tag. rule) (tagged rule_tag rule) (λ tag b a e. let s = tagged-some rule_tag rule tag b a e in (eq-eqb rule_tag tag s.0, s.1)) new_field (λ n. leading-other (eqb rule_tag) (λ tag. rule) n new_field (ne_eqb rule_tag new.new_tag (λ e. omega arith))) p.rules limits.rules (front ++ new_field) (leading-led (eqb rule_tag) (λ tag. rule) limits.rules bs _ i.rules).few ((series-front (tagged rule_tag rule) p.rules i.behind bs ruled).2 new_field);
        last = new_field;
        procedures = leading-other (eqb procedure_tag) (λ tag. one_command (command limits.depth)) limits.procedures new_field (ne_eqb procedure_tag new.new_tag (λ e. omega arith)) ∙ ap (λ (r : Read Raw). some (record { items = r.items; rest = new_field })) bare;
        main = record {
          whole = record { tag = new.new_tag; payload = new.payload; rest = [] };
          there = ap field (sym (append-nil new_field)) ∙ field-written new.new_tag new.payload [] (omega arith);
          last = refl;
          command = c;
        };
      })

renewal : (bs : List ℕ) (p : RawProgram) → old_program bs ≡ some p → Renewal bs p
renewal bs p old = record { new = front bs p old ++ new_field bs p old; is = becomes bs p old; longer = longer bs p old; reads = reads_same bs p old }

-- The theorems.

-- every image of the old form is rewritten, and nothing else is
pub renewed-there : (bs : List ℕ) → is_some (renewed bs) ≡ is_some (old_program bs)
unfolding is_some
renewed-there bs = at (old_program bs) refl
  where
    at : (o : Option RawProgram) → old_program bs ≡ o → is_some (renewed bs) ≡ is_some (old_program bs)
    at none e = rw (no-image bs e, e)
    at (some p) e = rw ((renewal bs p e).is, e)

module _ (bs new : List ℕ) (e : renewed bs ≡ some new) where
  -- it grows by one byte for each guarded command
  pub renewed-longer : (p : RawProgram) → old_program bs ≡ some p → length new ≡ length bs + guards p.main
  renewed-longer p old = let r = renewal bs p old in ap length (some_inj _ _ (sym e ∙ r.is)) ∙ r.longer

  was : (p : RawProgram) × (old_program bs ≡ some p)
  unfolding is_some
  was = is_some_true (old_program bs) (sym (renewed-there bs) ∙ ap is_some e)

  -- within the limit it is read as it was
  pub renewed-reads : length new ≤ limits.bytes → raw_program new ≡ old_program bs
  renewed-reads h =
      let r = renewal bs was.0 was.1 in
      let same : r.new ≡ new = some_inj _ _ (sym r.is ∙ e) in
      subst (λ (l : List ℕ). length l ≤ limits.bytes → raw_program l ≡ some was.0) same r.reads h ∙ sym was.1

  no-shorter : length bs ≤ length new
  no-shorter = omega (arith, renewed-longer was.0 was.1)

module _ (L : Layout) (x : Lent) (new : List ℕ) where
  same-on : (w : Option Refusal) (p : Option Program) → run_on L w p (with_image new x) ≡ run_on L w p x
  unfolding run_on
  same-on (some w) p = refl
  same-on none none = refl
  same-on none (some p) = refl

  same-refusal : (p : Option RawProgram) → leb (length new) limits.bytes ≡ leb (length x.image) limits.bytes → refusal_as L p (with_image new x) ≡ refusal_as L p x
  unfolding refusal_as
  same-refusal p e = rw e

  -- answer, report, tables and journal are what they were, whatever is lent
  pub renewed-same : renewed x.image ≡ some new → length new ≤ limits.bytes → run L (with_image new x) ≡ old_run L x
  unfolding run
  renewed-same e h =
      let k = no-shorter x.image new e in
      let short : leb (length x.image) limits.bytes ≡ true = le-leb (length x.image) limits.bytes (omega arith) in
      ap (λ (p : Option RawProgram). run_as L p (with_image new x)) (renewed-reads x.image new e h)
      ∙ ap (λ (w : Option Refusal). run_on L w (old_program x.image >>= put_in) (with_image new x)) (same-refusal (old_program x.image) (le-leb _ _ h ∙ sym short))
      ∙ same-on (refusal_as L (old_program x.image) x) (old_program x.image >>= put_in)

  -- so the exported call at the layout, given the rewritten image, yields what the old meaning says of the old one
  pub renewed_yields : renewed x.image ≡ some new → length new ≤ limits.bytes
      → (number : ℕ) (nodes edges journal report : List ℕ) → RunPromise L (with_image new x) number nodes edges journal report
      → Yields (old_run L x) number nodes edges journal report
  renewed_yields e h number nodes edges journal report y = rw (← (renewed-same e h)) y
