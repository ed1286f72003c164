-- Why an invariant is needed: without one, that is, with one that always holds, RedRoot's rule is not steady. On a graph of two roots,
-- one of them with a loop, it gives two graphs that are not isomorphic. Rests on RedRoot and Unchanged.
use Rattle.std.specs.Prelude.{[], eqb, ltb}
use Prim.Native.Nat.{ℕ}
use Rattle.meaning.specs.Tags.{none_mark}
use Rattle.meaning.specs.Basics.{choose}
use Rattle.published.specs.Graphs.{Graph}

-- two roots, marked as m says, and a loop at the first
abbrev pub roots : (ℕ → ℕ) → Graph
roots m =
    record {
      is_node = λ v. ltb v 2;
      is_edge = λ e. ltb e 1;
      source = λ e. 0;
      target = λ e. 0;
      node_label = λ v. record { mark = m v; root = 1; list = [] };
      edge_label = λ e. record { mark = none_mark; list = [] };
    }

abbrev pub plain : Graph
plain = roots (λ v. 0)

-- root i is red
abbrev pub red : ℕ → Graph
red i = roots (λ v. choose (eqb v i) 1 0)
