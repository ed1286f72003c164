-- Each way out of the reader says what the definition reads. Rests on Input and Reading.
use mathlib.Core.Path.{◌≡◌, refl, sym}
use mathlib.Core.Bool.{Bool, true, false}
use mathlib.Core.Option.{Option as Maybe, some, none}
use mathlib.Core.List.{List}
use Prim.Native.Nat.{ℕ, ◌+◌, ◌-◌, ◌<◌, ◌≤◌}
use native.Mathlib.Omega.{arith}
use borrow.Author.Tests.{leb-true, leb-false, le-leb, lt-leb, eq-eqb, ne_eqb}
use lib.ListN.{length, take, drop, length-take, length-drop, drop_of_length-le}
use lib.Seq.{drop-cons, length-take-le}
use lib.Dec.{eqb, leb}
use Rattle.std.specs.Prelude.{Some, None}
use Rattle.std.specs.Bool.{then_some}
use Rattle.meaning.specs.Basics.{is_empty, ensure, ◌>>◌, ◌>>=◌}
use Rattle.meaning.specs.Numbers.{number}
use Rattle.meaning.specs.Image.{Field, expect}
use Rattle.run_input.specs.Input.{nodes_tag, edges_tag, records_tag, fuel_tag, program_tag, most_input, most_records, records_size, fuel_size, input}
use Rattle.run_input.specs.Reading.{Five, Inside, Reading, Payload, field_head, input_of}
use Rattle.run_input.specs.declared.Ends.{Ends}

-- A field that is not there.

ensure-none : {A : Type 0} (t : Bool) → ◌≡◌ {A = Maybe A} (ensure t >> none) none
unfolding ensure ◌>>◌
ensure-none true = refl
ensure-none false = refl

module _ (bs : List ℕ) where
  pub no-nodes : expect nodes_tag bs ≡ none → input bs ≡ none
  unfolding input ◌>>=◌
  no-nodes e = rw e (ensure-none (leb (length bs) most_input))

  module _ {n : Field} (en : expect nodes_tag bs ≡ some n) where
    pub no_edges : expect edges_tag n.rest ≡ none → input bs ≡ none
    unfolding input ◌>>=◌
    no_edges e = rw (en, e) (ensure-none (leb (length bs) most_input))

    module _ {d : Field} (ed : expect edges_tag n.rest ≡ some d) where
      pub no-records : expect records_tag d.rest ≡ none → input bs ≡ none
      unfolding input ◌>>=◌
      no-records e = rw (en, ed, e) (ensure-none (leb (length bs) most_input))

      module _ {j : Field} (ej : expect records_tag d.rest ≡ some j) where
        pub no_fuel : expect fuel_tag j.rest ≡ none → input bs ≡ none
        unfolding input ◌>>=◌
        no_fuel e = rw (en, ed, ej, e) (ensure-none (leb (length bs) most_input))

        pub no_program : {f : Field} → expect fuel_tag j.rest ≡ some f → expect program_tag f.rest ≡ none → input bs ≡ none
        unfolding input ◌>>=◌
        no_program ef e = rw (en, ed, ej, ef, e) (ensure-none (leb (length bs) most_input))

-- The input.

module _ (bs : List ℕ) where
  pub refusing : input bs ≡ none → Reading bs None
  refusing e = record { same = sym e; within = tt }

  pub too_long : most_input < length bs → Reading bs None
  unfolding input ensure ◌>>◌
  too_long h = refusing (rw (lt-leb (length bs) most_input h))

  module _ (h : length bs ≤ most_input) (e : Ends) (f : Five bs e) where
    -- what is left of the definition where the five fields are there
    found : input bs ≡ do
      ensure (is_empty (drop e.program bs))
      ensure (eqb (length (take (e.records - (e.edges + field_head)) (drop (e.edges + field_head) bs))) records_size)
      ensure (eqb (length (take (e.fuel - (e.records + field_head)) (drop (e.records + field_head) bs))) fuel_size)
      ensure (leb (input_of bs e).records most_records)
      some (input_of bs e)
    unfolding input ensure ◌>>◌ ◌>>=◌
    found = rw (le-leb (length bs) most_input h, f.nodes.is, f.edges.is, f.records.is, f.fuel.is, f.program.is)

    payload-length : (at end : ℕ) → end ≤ length bs → at + field_head ≤ end
        → length (take (end - (at + field_head)) (drop (at + field_head) bs)) ≡ end - (at + field_head)
    payload-length at end i k = length-take-le (end - (at + field_head)) (drop (at + field_head) bs) (rw (length-drop (at + field_head) bs) (omega arith))

    pub behind : e.program < length bs → Reading bs None
    unfolding is_empty ensure ◌>>◌
    behind i = refusing (rw (found, drop-cons bs e.program 0 i))

    module _ (end : length bs ≤ e.program) where
      all_read : is_empty (drop e.program bs) ≡ true
      unfolding is_empty
      all_read = rw (drop_of_length-le bs {i = e.program} end)

      pub other-records : (e.records ≡ e.edges + (field_head + records_size) → ⊥) → Reading bs None
      unfolding ensure ◌>>◌
      other-records i =
          let size = payload-length e.edges e.records f.records.inside f.records.ordered in
          let no = ne_eqb (e.records - (e.edges + field_head)) records_size (λ q. i (omega (arith, f.records.ordered))) in
          refusing (rw (found, all_read, size, no))

      module _ (two : e.records ≡ e.edges + (field_head + records_size)) where
        is-two : eqb (length (take (e.records - (e.edges + field_head)) (drop (e.edges + field_head) bs))) records_size ≡ true
        is-two =
            rw (payload-length e.edges e.records f.records.inside f.records.ordered)
            (eq-eqb (e.records - (e.edges + field_head)) records_size (omega arith))

        pub other-fuel : (e.fuel ≡ e.records + (field_head + fuel_size) → ⊥) → Reading bs None
        unfolding ensure ◌>>◌
        other-fuel i =
            let size = payload-length e.records e.fuel f.fuel.inside f.fuel.ordered in
            let no = ne_eqb (e.fuel - (e.records + field_head)) fuel_size (λ q. i (omega (arith, f.fuel.ordered))) in
            refusing (rw (found, all_read, is-two, size, no))

        module _ (four : e.fuel ≡ e.records + (field_head + fuel_size)) where
          is-four : eqb (length (take (e.fuel - (e.records + field_head)) (drop (e.records + field_head) bs))) fuel_size ≡ true
          is-four =
              rw (payload-length e.records e.fuel f.fuel.inside f.fuel.ordered)
              (eq-eqb (e.fuel - (e.records + field_head)) fuel_size (omega arith))

          -- the number of records, as it is read from the bytes
          module _ (count : ℕ) (counts : count ≡ number (take records_size (drop (e.edges + field_head) bs))) where
            counted : count ≡ (input_of bs e).records
            counted = let z : e.records - (e.edges + field_head) ≡ records_size = omega arith in rw z counts

            many : most_records < count → Reading bs None
            unfolding ensure ◌>>◌
            many i = refusing (rw (found, all_read, is-two, is-four, ← counted, lt-leb count most_records i))

            accepting : count ≤ most_records → Reading bs (Some e)
            unfolding ensure ◌>>◌
            accepting i =
                record {
                  same = sym (rw (found, all_read, is-two, is-four, le-leb (input_of bs e).records most_records (rw (← counted) i)));
                  within = record {
                    small = h;
                    nodes = f.nodes.ordered;
                    edges = f.edges.ordered;
                    records = two;
                    fuel = four;
                    program = f.program.ordered;
                    whole = omega (arith, f.program.inside);
                    few = rw (← counted) i;
                  };
                }

            pub judged : (t : Bool) → t ≡ leb count most_records → Reading bs (then_some t e)
            judged true q = accepting (leb-true count most_records (sym q))
            judged false q = many (leb-false count most_records (sym q))

-- The parts of an input.

pub part-read : (bs : List ℕ) (start end : ℕ) (p : List ℕ) → length bs ≤ most_input → p ≡ take (end - start) (drop start bs)
    → Payload (take (end - start) (drop start bs)) p
part-read bs start end p h q =
    record { same = q; small = rw (q, length-take (end - start) (drop start bs), length-drop start bs) (omega arith) }

module _ (bs : List ℕ) (e : Ends) (i : Inside bs e) where
  pub records-read : (count : ℕ) → count ≡ number (take records_size (drop (e.edges + field_head) bs))
      → (count ≡ (input_of bs e).records) × (count ≤ most_records)
  records-read count c =
      let two : e.records - (e.edges + field_head) ≡ records_size = omega (arith, i.records) in
      let same : count ≡ (input_of bs e).records = rw two c in
      (same, rw same i.few)

  pub fuel-read : (fuel : ℕ) → fuel ≡ number (take fuel_size (drop (e.records + field_head) bs)) → fuel ≡ (input_of bs e).fuel
  fuel-read fuel c = let four : e.fuel - (e.records + field_head) ≡ fuel_size = omega (arith, i.fuel) in rw four c
