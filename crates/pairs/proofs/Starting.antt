-- Where a run would start, the tables are legal and each rule of the image is one whose references hold, so its first match can
-- be asked for. Rests on Pairs and on laws' Calls.
use mathlib.Core.Path.{◌≡◌, refl, ap}
use mathlib.Core.Bool.{true, false}
use mathlib.Core.Option.{Option, some, none}
use Rattle.std.specs.Prelude as Rust
use Rattle.std.specs.Result.{is_ok}
use mathlib.Core.List.{List, []}
use Prim.Native.Nat.{ℕ, ◌<◌}
use native.Mathlib.Omega.{arith}
use lib.ListN.{length, get_or}
use Rattle.meaning.specs.Layout.{base}
use Rattle.meaning.specs.Image.{Rule, rule, raw_program}
use Rattle.meaning.specs.References.{rule_holds, references}
use Rattle.meaning.specs.Calls.{run_refusal, report_of, lending}
use Rattle.meaning.specs.Laws.Tests.{both_true, every_true}
use Rattle.laws.specs.Calls.{Accepted, accepted}
use Rattle.meaning.specs.declared.Layout.{Layout}
use Rattle.meaning.specs.declared.Refusal.{Refusal}
use Rattle.answers.specs.Answers.{refusal_of}
use Rattle.laws.specs.Layout.{base-sized}
use Rattle.parts.specs.Series.{For}
use Rattle.graph.specs.Graph.{Legal}
use Rattle.plan.specs.Plan.{IsRule}
use Rattle.matching.specs.Values.{IsFirst}
use Rattle.pairs.specs.Pairs.{is_fine, starts, Answers}

module _ (nodes edges image : List ℕ) where
  pub starts-is : (check : Rust.Result (Unit {0}) Refusal) → refusal_of check ≡ run_refusal base (lending nodes edges [] image 0 (report_of 0 0))
      → is_ok check ≡ starts nodes edges image
  unfolding starts refusal_of is_fine
  starts-is (Rust.Ok u) e = ap is_fine e
  starts-is (Rust.Err w) e = ap is_fine e

  fine : (o : Option Refusal) → is_fine o ≡ true → o ≡ none
  unfolding is_fine
  fine none e = refl
  fine (some w) e = let z : ◌≡◌ {A = ℕ} 0 1 = cc in absurd (omega arith)

  module _ (start : starts nodes edges image ≡ true) where
    taken : Accepted base (lending nodes edges [] image 0 (report_of 0 0))
    unfolding starts
    taken = accepted base (lending nodes edges [] image 0 (report_of 0 0)) (fine _ start)

    pub legal : (l : Layout) → l ≡ base → Legal l nodes edges
    legal l e = rw e (record { sized = base-sized; few = omega arith; nodes_fit = taken.nodes_fit; edges_fit = taken.edges_fit; keeps = taken.layout })

    module _ (i : ℕ) (few : For (raw_program image) (λ p. i < length p.rules)) (part : List ℕ) (read : For (raw_program image) (λ p. i < length p.rules → (d : Rule) → rule part ≡ some (get_or p.rules i d))) where
      none_left : Rule
      none_left = record { variables = []; left = record { nodes = []; edges = [] }; right = record { nodes = []; edges = [] }; interface = 0; tests = []; preserving = false }

      pub is-rule : IsRule part
      unfolding references
      is-rule =
          let p = taken.raw in
          let below = few p taken.read in
          record {
            tree = get_or p.rules i none_left;
            is = read p taken.read below none_left;
            holds = every_true rule_holds p.rules none_left (both_true _ _ taken.references).0 i below;
          }

      pub answers : (l : Layout) → l ≡ base → (x : Rust.Option (List ℕ)) (lens atoms : List ℕ) → IsFirst l nodes edges part x lens atoms
          → Answers nodes edges image i x lens atoms
      answers l e x lens atoms first = let w : IsFirst base nodes edges part x lens atoms = rw e at first in record {
        arrays = w.arrays;
        right = λ p h d. w.right (get_or p.rules i d) (read p h (few p h) d);
        values = λ p h d. w.values (get_or p.rules i d) (read p h (few p h) d);
      }
