-- What the members of the cycle leave in the bytes, from what the members that they call leave. Rests on Cycle, Parts and
-- States, on ledger's Whole and on laws' Commands and Restoring.
use mathlib.Core.Path.{◌≡◌, refl, sym, ◌∙◌, ap, subst}
use mathlib.Core.Bool.{Bool, true, false}
use mathlib.Core.Option.{none}
use mathlib.Core.List.{List, [], ◌∷◌}
use Prim.Native.Nat.{ℕ, ◌+◌, ◌-◌, ◌/◌, ◌<◌, ◌≤◌}
use native.Mathlib.Omega.{arith}
use lib.Dec.{eqb}
use lib.ListN.{length, get_or, take, drop}
use Rattle.meaning.specs.Tags.{guarded_tag, loop_tag, rule_set_tag}
use Rattle.meaning.specs.Layout.{record_length}
use Rattle.meaning.specs.Image.{Rule, field}
use Rattle.meaning.specs.Procedures.{Program, Command, rule_set, guarded, loop}
use Rattle.meaning.specs.Commands.{State, Out, work, works, exec}
use Rattle.meaning.specs.Calls.{journal_room}
use Rattle.meaning.specs.Laws.Tests.{some_inj}
use Rattle.laws.specs.Restoring.{From, from-count}
use Rattle.laws.specs.Commands.{exec-from}
use Rattle.laws.specs.Fuel.{Counted, exec-counted, exec_spending}
use Rattle.meaning.specs.declared.Layout.{Layout}
use Rattle.meaning.specs.declared.Tally.{Tally}
use Rattle.meaning.specs.declared.Stop.TheVariants.{OutOfFuel}
use Rattle.meaning.specs.declared.End.{End}
use Rattle.meaning.specs.declared.End.TheVariants.{Done, Failed, Broke, Stopped}
use Rattle.fields.specs.Laws.{Lies}
use Rattle.parts.specs.Series.{Series, Taken, series-none, series-some, series-there, nth_part, nth_tag}
use Rattle.ledger.specs.Running.{ledger_of, state_of, Running, out_of}
use Rattle.ledger.specs.Whole.{records-count, running-legal}
use Rattle.calling.specs.Called.{Called}
use Rattle.meaning.specs.declared.Ran.{Ran}
use Rattle.std.specs.Prelude.{Some, None}
use Rattle.ends.specs.declared.Kind.{Kind}
use Rattle.commands.specs.Program.{Runnable, RunsProgram}
use Rattle.ends.specs.Ends.{LeafTag, RowTag, Tagged, kind_of, kind_tagged, is_done, part_after, settled, Earlier, Settled, Closed}
use Rattle.commands.specs.Cycle.{stands_for, Known, Row, RowIn, at, in_order, runs_command, runs_inside, runs_row, runs_guarded, runs_loop, Begun, Comes}
use Rattle.commands.proofs.Parts.{whole_is, was, tagged, rule-set-is, row_in, guarded-of, guarded-is, loop-of, loop-is, leaf-is, nth-known, last, main-known}
use Rattle.commands.proofs.States.{leaf_of, done-is, settled-fuel, settled-steps, enter-none, enter-paid, leaf-work, row_more, row_ends, row_done, guarded-runs, guarded-stops, loop-out, loop-more, loop-closes}

-- the kind of a command that is known
pub is_kind : {image : List ℕ} {tag : ℕ} {bs : List ℕ} {kind : Kind} → Known image tag bs → (tag ≡ rule_set_tag → ⊥) → kind ≡ kind_of tag bs → (k : Kind) → kind ≡ k → Tagged tag bs k
is_kind {tag = tag} {bs} w other h k e =
    let t : Tagged tag bs (kind_of tag bs) = rw (tagged w) (kind_tagged (was w).raw bs (λ x. other (tagged w ∙ x))) in
    subst (λ (x : Kind). Tagged tag bs x) (sym h ∙ e) t

pub which-less : {which : ℕ} (e : End) → part_after e ≡ Some which → which < 3
unfolding part_after
which-less {which} Done h = let z : ◌≡◌ {A = ℕ} 1 which = cc in omega arith
which-less {which} Failed h = let z : ◌≡◌ {A = ℕ} 2 which = cc in omega arith
which-less Broke h = let z : ◌≡◌ {A = ℕ} 0 1 = cc in absurd (omega arith)
which-less (Stopped w) h = let z : ◌≡◌ {A = ℕ} 0 1 = cc in absurd (omega arith)

-- the tally with which the work of a command begins
abbrev pub spent : Tally → Tally
spent t = record { fuel = t.fuel - 1; steps = t.steps + 1; records = t.records }

pub spent-below : (t : Tally) {s : Tally} → s ≡ spent t → (t.fuel ≡ 0 → ⊥) → s.fuel < t.fuel
spent-below t p h = let e = ap (λ (u : Tally). u.fuel) p in omega arith

module _ (L : Layout) where
  room-same : (a b : List ℕ) → length a ≡ length b → journal_room L a ≡ journal_room L b
  room-same a b e = ap (λ (n : ℕ). n / record_length L) e

  -- After a command.

  module _ {image : List ℕ} {tag : ℕ} {bs nodes edges journal : List ℕ} {t : Tally} {r : Ran} {nodes' edges' journal' : List ℕ}
      (k : Known image tag bs) (b : Begun L nodes edges journal t)
      (m : Comes L (Known image tag bs) (runs_command L) nodes edges journal t r nodes' edges' journal')
    where
      counted : Counted (state_of L nodes edges journal t) (state_of L nodes' edges' journal' r.tally)
      counted = subst (λ (o : Out). Counted (state_of L nodes edges journal t) o.state) (sym (m.right k))
          (exec-counted L.atoms (journal_room L journal) k.runnable.programmed.tree.rules k.cmd (state_of L nodes edges journal t))

      pub begun-after : Begun L nodes' edges' journal' r.tally
      begun-after = record { running = m.running; sum = omega (arith, counted.total, b.sum) }

      -- no more fuel is left, and less where there was any
      fuel-after : r.tally.fuel ≤ t.fuel - 1
      fuel-after =
          let e : r.tally.fuel ≡ _ = ap (λ (o : Out). o.state.fuel) (m.right k) in
          let f = (exec_spending L.atoms (journal_room L journal) k.runnable.programmed.tree.rules k.cmd).spends (state_of L nodes edges journal t) in
          omega arith

      pub fuel-no-more : r.tally.fuel ≤ t.fuel
      fuel-no-more = omega (arith, fuel-after)

      pub fuel-less : 0 < t.fuel → r.tally.fuel < t.fuel
      fuel-less h = omega (arith, fuel-after)

      -- the state before it can be had again
      pub earlier : Earlier L (state_of L nodes edges journal t) nodes' edges' journal' r.tally.records t.records
      earlier =
          record {
            legal = (running-legal L nodes edges journal t.records b.running).host;
            from = subst (λ (o : Out). From (ledger_of L nodes edges journal t.records) o.state.ledger) (sym (m.right k))
                (exec-from L.atoms (journal_room L journal) k.runnable.programmed.tree.rules k.cmd (state_of L nodes edges journal t));
            count = records-count L nodes edges journal t.records;
          }

      pub mark-below : t.records ≤ r.tally.records
      mark-below =
          let e = from-count _ _ earlier.from in
          let f = records-count L nodes edges journal t.records in
          let g = records-count L nodes' edges' journal' r.tally.records in
          omega arith

  -- A command, once its fuel is paid.

  pub begun-spent : {nodes edges journal : List ℕ} {t s : Tally} → s ≡ spent t → (t.fuel ≡ 0 → ⊥) → Begun L nodes edges journal t → Begun L nodes edges journal s
  begun-spent p h b = subst (Begun L _ _ _) (sym p) (record { running = b.running; sum = omega (arith, b.sum) })

  module _ {image : List ℕ} {tag : ℕ} {bs nodes edges journal : List ℕ} {t : Tally} where
    pub out-of-fuel : t.fuel ≡ 0 → Begun L nodes edges journal t
        → Comes L (Known image tag bs) (runs_command L) nodes edges journal t (record { end = Stopped OutOfFuel; tally = t }) nodes edges journal
    out-of-fuel h b = record { right = λ w. enter-none L.atoms (journal_room L journal) w.runnable.programmed.tree.rules w.cmd _ h; running = b.running }

    module _ {s : Tally} {r : Ran} {nodes' edges' journal' : List ℕ} (p : s ≡ spent t) (h : t.fuel ≡ 0 → ⊥) where
      -- what the work of the command comes to, which is c
      paid : (c : Known image tag bs → Command) → ((w : Known image tag bs) → w.cmd ≡ c w)
          → ((w : Known image tag bs) → out_of L r nodes' edges' journal' ≡ work L.atoms (journal_room L journal) w.runnable.programmed.tree.rules (c w) (state_of L nodes edges journal s))
          → Running L nodes' edges' journal' r.tally.records
          → Comes L (Known image tag bs) (runs_command L) nodes edges journal t r nodes' edges' journal'
      paid c e q run =
          record {
            right = λ w.
                q w
                ∙ ap (λ (x : Command). work L.atoms (journal_room L journal) w.runnable.programmed.tree.rules x (state_of L nodes edges journal s)) (sym (e w))
                ∙ ap (λ (u : Tally). work L.atoms (journal_room L journal) w.runnable.programmed.tree.rules w.cmd (state_of L nodes edges journal u)) p
                ∙ enter-paid L.atoms (journal_room L journal) w.runnable.programmed.tree.rules w.cmd _ h;
            running = run;
          }

      pub paid-set : tag ≡ rule_set_tag → Called L image bs nodes edges journal s r nodes' edges' journal'
          → Comes L (Known image tag bs) (runs_command L) nodes edges journal t r nodes' edges' journal'
      unfolding work
      paid-set q m = paid (λ w. rule_set bs) (λ w. rule-set-is w q) (λ w. m.right w.runnable.programmed.tree w.runnable.programmed.is) m.running

      pub paid-row : Comes L (Known image tag bs) (runs_inside L) nodes edges journal s r nodes' edges' journal'
          → Comes L (Known image tag bs) (runs_command L) nodes edges journal t r nodes' edges' journal'
      paid-row m = paid (λ w. w.cmd) (λ w. refl) (λ w. m.right w) m.running

      pub paid-guarded : {keep : Bool} {rest : List ℕ} → (tag ≡ guarded_tag) × (keep ≡ eqb (get_or bs 0 0) 1) → rest ≡ drop 1 bs
          → Comes L (Row 3 image rest) (runs_guarded L keep) nodes edges journal s r nodes' edges' journal'
          → Comes L (Known image tag bs) (runs_command L) nodes edges journal t r nodes' edges' journal'
      unfolding guarded-of
      paid-guarded {keep} q d m =
          paid (λ w. let g = guarded-of w q.0 q.1 d in guarded keep (at g 0) (at g 1) (at g 2)) (λ w. guarded-is w q.0 q.1 d) (λ w. m.right (guarded-of w q.0 q.1 d)) m.running

      pub paid-loop : tag ≡ loop_tag → Comes L (Row 1 image bs) (runs_loop L) nodes edges journal s r nodes' edges' journal'
          → Comes L (Known image tag bs) (runs_command L) nodes edges journal t r nodes' edges' journal'
      unfolding loop-of
      paid-loop q m = paid (λ w. loop (at (loop-of w q) 0)) (λ w. loop-is w q) (λ w. m.right (loop-of w q)) m.running

    pub paid-leaf : {s : Tally} → s ≡ spent t → (t.fuel ≡ 0 → ⊥) → (e : End) → LeafTag tag e → Begun L nodes edges journal t
        → Comes L (Known image tag bs) (runs_command L) nodes edges journal t (record { end = e; tally = s }) nodes edges journal
    paid-leaf p h e q b = paid p h (λ w. leaf_of e) (λ w. leaf-is w e q) (λ w. leaf-work L.atoms (journal_room L journal) w.runnable.programmed.tree.rules tag e _ q) (subst (λ (u : Tally). Running L nodes edges journal u.records) (sym p) b.running)

  -- A row from a place on: the commands that are left come to what the whole row comes to.

  pub record Left {image bs : List ℕ} (room : ℕ) (place : ℕ) (s₀ s : State) (w : Row 1 image bs) : Type 0 where
    pub rest : List Command
    pub series : Series (stands_for w.runnable.programmed.tree w.own w.deep) rest [] (drop place bs)
    pub same : works L.atoms room w.runnable.programmed.tree.rules (in_order rest) s ≡ runs_row L room w s₀

  pub record Going (image bs nodes₀ edges₀ journal₀ : List ℕ) (t₀ : Tally) (place : ℕ) (nodes edges journal : List ℕ) (t : Tally) : Type 0 where
    pub begun : Begun L nodes edges journal t
    pub same_nodes : length nodes ≡ length nodes₀
    pub same_edges : length edges ≡ length edges₀
    pub same_journal : length journal ≡ length journal₀
    pub fuel : t.fuel ≤ t₀.fuel
    pub left : (w : Row 1 image bs) → Left (journal_room L journal₀) place (state_of L nodes₀ edges₀ journal₀ t₀) (state_of L nodes edges journal t) w

  pub row-start : {image bs nodes edges journal : List ℕ} {t : Tally} → Begun L nodes edges journal t → Going image bs nodes edges journal t 0 nodes edges journal t
  row-start b = record { begun = b; same_nodes = refl; same_edges = refl; same_journal = refl; fuel = omega arith; left = λ w. record { rest = w.cmds; series = w.series; same = refl } }

  module _ {image bs nodes₀ edges₀ journal₀ : List ℕ} {t₀ : Tally} {place : ℕ} {nodes edges journal : List ℕ} {t : Tally} (g : Going image bs nodes₀ edges₀ journal₀ t₀ place nodes edges journal t) where
    pub row-over : length bs ≤ place → Comes L (Row 1 image bs) (runs_row L) nodes₀ edges₀ journal₀ t₀ (record { end = Done; tally = t }) nodes edges journal
    row-over h =
        record {
          right = λ w.
              let l = g.left w in
              row_done L.atoms (journal_room L journal₀) w.runnable.programmed.tree.rules _
              ∙ ap (λ (x : List Command). works L.atoms (journal_room L journal₀) w.runnable.programmed.tree.rules (in_order x) (state_of L nodes edges journal t)) (sym (series-none (stands_for w.runnable.programmed.tree w.own w.deep) bs place l.rest l.series h))
              ∙ l.same;
          running = g.begun.running;
        }

    -- a row that has not ended has a field
    pub row_cut : Row 1 image bs → place < length bs → field (drop place bs) ≡ none → ⊥
    row_cut w h k = series-there (stands_for w.runnable.programmed.tree w.own w.deep) bs place (g.left w).rest (g.left w).series h k

    module _ {tag start end : ℕ} {part : List ℕ} (h : place < length bs) (k : Lies bs place tag start end) (p : part ≡ take (end - start) (drop start bs)) where
      pub taken : (w : Row 1 image bs) → Taken (stands_for w.runnable.programmed.tree w.own w.deep) (g.left w).rest bs tag start end
      taken w = series-some (stands_for w.runnable.programmed.tree w.own w.deep) bs place (g.left w).rest (g.left w).series h tag start end k

      unfoldable pub here-known : Row 1 image bs → Known image tag part
      here-known w =
          record {
            runnable = w.runnable;
            own = w.own;
            deep = w.deep;
            cmd = (taken w).first;
            is = ap (stands_for w.runnable.programmed.tree w.own w.deep tag) p ∙ (taken w).read;
          }

      module _ {r : Ran} {nodes' edges' journal' : List ℕ} (m : Comes L (Known image tag part) (runs_command L) nodes edges journal t r nodes' edges' journal') where
        -- the command that was taken came to this
        came : (w : Row 1 image bs) → out_of L r nodes' edges' journal' ≡ exec L.atoms (journal_room L journal₀) w.runnable.programmed.tree.rules (taken w).first (state_of L nodes edges journal t)
        unfolding here-known
        came w = subst (λ (n : ℕ). out_of L r nodes' edges' journal' ≡ exec L.atoms n w.runnable.programmed.tree.rules (taken w).first (state_of L nodes edges journal t)) (room-same journal journal₀ g.same_journal) (m.right (here-known w))

        whole : (w : Row 1 image bs) → works L.atoms (journal_room L journal₀) w.runnable.programmed.tree.rules (in_order ((taken w).first ∷ (taken w).others)) (state_of L nodes edges journal t) ≡ runs_row L (journal_room L journal₀) w (state_of L nodes₀ edges₀ journal₀ t₀)
        whole w = ap (λ (x : List Command). works L.atoms (journal_room L journal₀) w.runnable.programmed.tree.rules (in_order x) (state_of L nodes edges journal t)) (sym (taken w).parts) ∙ (g.left w).same

        pub row_next : Row 1 image bs → is_done r.end ≡ true → (length nodes' ≡ length nodes) × (length edges' ≡ length edges) × (length journal' ≡ length journal)
            → Going image bs nodes₀ edges₀ journal₀ t₀ end nodes' edges' journal' r.tally
        row_next w₀ d s =
            record {
              begun = begun-after (here-known w₀) g.begun m;
              same_nodes = s.0 ∙ g.same_nodes;
              same_edges = s.1 ∙ g.same_edges;
              same_journal = s.2 ∙ g.same_journal;
              fuel = omega (arith, fuel-no-more (here-known w₀) g.begun m, g.fuel);
              left = λ w.
                  record {
                    rest = (taken w).others;
                    series = (taken w).series;
                    same = row_more L.atoms (journal_room L journal₀) w.runnable.programmed.tree.rules (taken w).first (taken w).others _ _ (came w) (done-is r.end d) ∙ whole w;
                  };
            }

        pub row-stop : is_done r.end ≡ false → Comes L (Row 1 image bs) (runs_row L) nodes₀ edges₀ journal₀ t₀ r nodes' edges' journal'
        row-stop d =
            record {
              right = λ w. row_ends L.atoms (journal_room L journal₀) w.runnable.programmed.tree.rules (taken w).first (taken w).others _ _ (came w) d ∙ whole w;
              running = m.running;
            }

  -- the row of a sequence or a call does what that does
  pub row-whole : {image : List ℕ} {tag : ℕ} {bs part nodes edges journal : List ℕ} {t : Tally} {r : Ran} {nodes' edges' journal' : List ℕ} → RowTag tag → RowIn image tag bs part
      → Comes L (Row 1 image part) (runs_row L) nodes edges journal t r nodes' edges' journal'
      → Comes L (Known image tag bs) (runs_inside L) nodes edges journal t r nodes' edges' journal'
  row-whole {image} {nodes = nodes} {edges} {journal} {t} h i m =
      record {
        right = λ w.
            let k = row_in w h i in
            m.right k.row
            ∙ ap (λ (x : Runnable image). works L.atoms (journal_room L journal) x.programmed.tree.rules (in_order k.row.cmds) (state_of L nodes edges journal t)) k.whence
            ∙ k.same _ _ _ _;
        running = m.running;
      }

  -- A guarded command, after its guard.

  module _ {image bs nodes edges journal : List ℕ} {t : Tally} {tag : ℕ} {part : List ℕ} {r : Ran} {nodes' edges' journal' : List ℕ}
      (q : tag ≡ nth_tag 0 bs) (p : part ≡ nth_part 0 bs)
      (m : Comes L (Known image tag part) (runs_command L) nodes edges journal t r nodes' edges' journal') (keep : Bool)
    where
      guard-came : (w : Row 3 image bs) → out_of L r nodes' edges' journal' ≡ exec L.atoms (journal_room L journal) w.runnable.programmed.tree.rules (at w 0) (state_of L nodes edges journal t)
      unfolding nth-known
      guard-came w = m.right (nth-known w 0 (omega arith) q p)

      pub guarded-stop : part_after r.end ≡ None → Comes L (Row 3 image bs) (runs_guarded L keep) nodes edges journal t r nodes' edges' journal'
      guarded-stop e =
          record {
            right = λ w. guarded-stops L.atoms (journal_room L journal) w.runnable.programmed.tree.rules keep w.cmds _ _ (guard-came w) e;
            running = m.running;
          }

      module _ (w₀ : Row 3 image bs) (b : Begun L nodes edges journal t) {after : Tally} {nodes'' edges'' journal'' : List ℕ}
          (u : Settled L keep nodes' edges' journal' r t.records after nodes'' edges'' journal'')
        where
          guard-earlier : Earlier L (state_of L nodes edges journal t) nodes' edges' journal' r.tally.records t.records
          guard-earlier = earlier (nth-known w₀ 0 (omega arith) q p) b m

          was_settled : state_of L nodes'' edges'' journal'' after ≡ settled r.end keep (state_of L nodes edges journal t) (state_of L nodes' edges' journal' r.tally)
          was_settled = (u.again _ guard-earlier).0

          pub fuel-settled : after.fuel ≤ t.fuel
          fuel-settled =
              let f : after.fuel ≡ r.tally.fuel = ap (λ (x : State). x.fuel) was_settled ∙ settled-fuel r.end keep _ _ in
              omega (arith, fuel-no-more (nth-known w₀ 0 (omega arith) q p) b m)

          pub begun-settled : Begun L nodes'' edges'' journal'' after
          begun-settled =
              let a = begun-after (nth-known w₀ 0 (omega arith) q p) b m in
              let f : after.fuel ≡ r.tally.fuel = ap (λ (x : State). x.fuel) was_settled ∙ settled-fuel r.end keep _ _ in
              let g : after.steps ≡ r.tally.steps = ap (λ (x : State). x.steps) was_settled ∙ settled-steps r.end keep _ _ in
              record { running = (u.again _ guard-earlier).1; sum = omega (arith, a.sum) }

          pub guarded-go : {which : ℕ} → part_after r.end ≡ Some which → {tag' : ℕ} {part' : List ℕ} → tag' ≡ nth_tag which bs → part' ≡ nth_part which bs
              → length journal'' ≡ length journal → {r' : Ran} {nodes''' edges''' journal''' : List ℕ}
              → Comes L (Known image tag' part') (runs_command L) nodes'' edges'' journal'' after r' nodes''' edges''' journal'''
              → Comes L (Row 3 image bs) (runs_guarded L keep) nodes edges journal t r' nodes''' edges''' journal'''
          unfolding nth-known
          guarded-go {which} e {tag'} {part'} q' p' s {r'} {nodes'''} {edges'''} {journal'''} m' =
              let h : which < 3 = which-less r.end e in
              record {
                right = λ w.
                    subst (λ (x : ℕ). out_of L r' nodes''' edges''' journal''' ≡ exec L.atoms x w.runnable.programmed.tree.rules (at w which) (state_of L nodes'' edges'' journal'' after)) (room-same journal'' journal s)
                    (m'.right (nth-known w which h q' p'))
                    ∙ guarded-runs L.atoms (journal_room L journal) w.runnable.programmed.tree.rules keep w.cmds _ _ (guard-came w) _ which e was_settled;
                running = m'.running;
              }

  -- A loop, before a round.

  pub record Looping (image bs nodes₀ edges₀ journal₀ : List ℕ) (t₀ : Tally) (nodes edges journal : List ℕ) (t : Tally) : Type 0 where
    pub begun : Begun L nodes edges journal t
    pub same_nodes : length nodes ≡ length nodes₀
    pub same_edges : length edges ≡ length edges₀
    pub same_journal : length journal ≡ length journal₀
    pub fuel : t.fuel ≤ t₀.fuel
    pub left : (w : Row 1 image bs) → runs_loop L (journal_room L journal₀) w (state_of L nodes edges journal t) ≡ runs_loop L (journal_room L journal₀) w (state_of L nodes₀ edges₀ journal₀ t₀)

  pub loop-start : {image bs nodes edges journal : List ℕ} {t : Tally} → Begun L nodes edges journal t → Looping image bs nodes edges journal t nodes edges journal t
  loop-start b = record { begun = b; same_nodes = refl; same_edges = refl; same_journal = refl; fuel = omega arith; left = λ w. refl }

  module _ {image bs nodes₀ edges₀ journal₀ : List ℕ} {t₀ : Tally} {nodes edges journal : List ℕ} {t : Tally} (g : Looping image bs nodes₀ edges₀ journal₀ t₀ nodes edges journal t) where
    pub loop-over : t.fuel ≤ 0 → Comes L (Row 1 image bs) (runs_loop L) nodes₀ edges₀ journal₀ t₀ (record { end = Stopped OutOfFuel; tally = t }) nodes edges journal
    loop-over h =
        record {
          right = λ w. loop-out L.atoms (journal_room L journal₀) w.runnable.programmed.tree.rules (at w 0) _ h ∙ g.left w;
          running = g.begun.running;
        }

    module _ {tag : ℕ} {part : List ℕ} {r : Ran} {nodes' edges' journal' : List ℕ} (h : 0 < t.fuel) (q : tag ≡ nth_tag 0 bs) (p : part ≡ nth_part 0 bs)
        (m : Comes L (Known image tag part) (runs_command L) nodes edges journal t r nodes' edges' journal')
      where
        body-came : (w : Row 1 image bs) → out_of L r nodes' edges' journal' ≡ exec L.atoms (journal_room L journal₀) w.runnable.programmed.tree.rules (at w 0) (state_of L nodes edges journal t)
        unfolding nth-known
        body-came w = subst (λ (n : ℕ). out_of L r nodes' edges' journal' ≡ exec L.atoms n w.runnable.programmed.tree.rules (at w 0) (state_of L nodes edges journal t)) (room-same journal journal₀ g.same_journal) (m.right (nth-known w 0 (omega arith) q p))

        pub loop-next : Row 1 image bs → is_done r.end ≡ true → (length nodes' ≡ length nodes) × (length edges' ≡ length edges) × (length journal' ≡ length journal)
            → Looping image bs nodes₀ edges₀ journal₀ t₀ nodes' edges' journal' r.tally
        loop-next w₀ d s =
            record {
              begun = begun-after (nth-known w₀ 0 (omega arith) q p) g.begun m;
              same_nodes = s.0 ∙ g.same_nodes;
              same_edges = s.1 ∙ g.same_edges;
              same_journal = s.2 ∙ g.same_journal;
              fuel = omega (arith, fuel-no-more (nth-known w₀ 0 (omega arith) q p) g.begun m, g.fuel);
              left = λ w. loop-more L.atoms (journal_room L journal₀) w.runnable.programmed.tree.rules (at w 0) _ _ (body-came w) h (done-is r.end d) ∙ g.left w;
            }

        pub loop-stop : Row 1 image bs → is_done r.end ≡ false → {r' : Ran} {nodes'' edges'' journal'' : List ℕ}
            → Closed L nodes' edges' journal' r t.records r' nodes'' edges'' journal''
            → Comes L (Row 1 image bs) (runs_loop L) nodes₀ edges₀ journal₀ t₀ r' nodes'' edges'' journal''
        loop-stop w₀ d u =
            let a = u.again _ (earlier (nth-known w₀ 0 (omega arith) q p) g.begun m) in
            record {
              right = λ w. a.0 ∙ loop-closes L.atoms (journal_room L journal₀) w.runnable.programmed.tree.rules (at w 0) _ _ (body-came w) h d ∙ g.left w;
              running = a.1;
            }

  -- The whole.

  pub runs-main : {image : List ℕ} {tag : ℕ} {part nodes edges journal : List ℕ} {t : Tally} {r : Ran} {nodes' edges' journal' : List ℕ} (w : Runnable image)
      → tag ≡ nth_tag (last w) image → part ≡ nth_part (last w) image
      → Comes L (Known image tag part) (runs_command L) nodes edges journal t r nodes' edges' journal'
      → RunsProgram L image nodes edges journal t r nodes' edges' journal'
  unfolding main-known
  runs-main {nodes = nodes} {edges} {journal} {t} w q p m =
      record {
        right = λ x e.
            let z : w.whole ≡ x = some_inj _ _ (sym w.is ∙ e) in
            m.right (main-known w q p)
            ∙ ap (λ (l : List Rule). exec L.atoms (journal_room L journal) l w.whole.main (state_of L nodes edges journal t)) (sym (whole_is w).rules)
            ∙ ap (λ (y : Program). exec L.atoms (journal_room L journal) y.rules y.main (state_of L nodes edges journal t)) z;
        running = m.running;
      }
