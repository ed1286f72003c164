-- Each way out of the reader says what the definition reads. Rests on Carried and on run_input's Reading.
use mathlib.Core.Path.{◌≡◌, refl}
use mathlib.Core.Bool.{Bool, true, false}
use mathlib.Core.Option.{some, none}
use mathlib.Core.List.{List}
use Prim.Native.Nat.{ℕ, ◌<◌, ◌≤◌}
use borrow.Author.Tests.{leb-true, leb-false, le-leb, lt-leb}
use lib.Dec.{leb}
use lib.ListN.{length, drop, drop_of_length-le}
use lib.Seq.{drop-cons}
use Rattle.std.specs.Bool.{then_some}
use Rattle.meaning.specs.Basics.{is_empty, ensure, ◌>>◌, ◌>>=◌}
use Rattle.meaning.specs.Image.{expect}
use Rattle.meaning.specs.declared.Layout.{Layout}
use Rattle.run_input.specs.Input.{nodes_tag, edges_tag, most_input}
use Rattle.run_input.specs.Reading.{field_in, Expected}
use Rattle.writing.specs.Words.{letters}
use Rattle.writing.specs.Text.{Lists}
use Rattle.carrier.specs.Finding.{Finds}
use Rattle.carrier.specs.Carried.{tables_in, carried_text, carried_tables, printed, carried_input}

-- What is read.

module _ (bs : List ℕ) where
  pub too_long : most_input < length bs → tables_in bs ≡ none
  unfolding tables_in ensure ◌>>◌
  too_long h = rw (lt-leb (length bs) most_input h)

  module _ (h : length bs ≤ most_input) where
    pub no-nodes : expect nodes_tag bs ≡ none → tables_in bs ≡ none
    unfolding tables_in ensure ◌>>◌ ◌>>=◌
    no-nodes q = rw (le-leb (length bs) most_input h, q)

    module _ {middle : ℕ} (n : Expected bs 0 nodes_tag middle) where
      pub no_edges : expect edges_tag (drop middle bs) ≡ none → tables_in bs ≡ none
      unfolding tables_in ensure ◌>>◌ ◌>>=◌
      no_edges q = rw (le-leb (length bs) most_input h, n.is, q)

      module _ {end : ℕ} (e : Expected bs middle edges_tag end) where
        behind : end < length bs → tables_in bs ≡ none
        unfolding tables_in is_empty ensure ◌>>◌ ◌>>=◌
        behind i = rw (le-leb (length bs) most_input h, n.is, e.is, drop-cons bs end 0 i)

        pub both_read : length bs ≤ end
            → tables_in bs ≡ some (record { nodes = (field_in bs nodes_tag 0 middle).payload; edges = (field_in bs edges_tag middle end).payload })
        unfolding tables_in is_empty ensure ◌>>◌ ◌>>=◌
        both_read i = rw (le-leb (length bs) most_input h, n.is, e.is, drop_of_length-le bs {i = end} i)

        pub found : Finds bs (then_some (leb (length bs) end) (middle, end))
        found = told (leb (length bs) end) refl
          where
            told : (t : Bool) → leb (length bs) end ≡ t → Finds bs (then_some t (middle, end))
            told true q = record { small = h; nodes = n; edges = e; whole = leb-true (length bs) end q }
            told false q = behind (leb-false (length bs) end q)

-- What is printed.

module _ (L M : Layout) (bs : List ℕ) {before after : List ℕ} {end : ℕ} where
  pub input-refused : tables_in bs ≡ none → Lists (letters "input refused\n") before after end → Lists (carried_input L M bs) before after end
  unfolding carried_input printed
  input-refused q l = rw q l

  pub input-carried : (n e nodes edges : List ℕ) → tables_in bs ≡ some (record { nodes = n; edges = e }) → nodes ≡ n → edges ≡ e
      → Lists (carried_text (carried_tables L M nodes edges)) before after end → Lists (carried_input L M bs) before after end
  unfolding carried_input printed
  input-carried n e nodes edges q i j l = rw (q, ← i, ← j) l
