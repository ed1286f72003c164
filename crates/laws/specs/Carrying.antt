-- What is asked of a carrying, one by one. Rests on the meaning's Carrying.
use Rattle.std.specs.Prelude.{◌≡◌, refl, true, List, ℕ, ◌/◌, length}
use Rattle.std.proofs.Math.Option.{none}
use Rattle.std.proofs.Common.{eqb-true, eq-eqb}
use Rattle.meaning.specs.Basics.{choose, clauses, first_failing}
use Rattle.meaning.specs.Layout.{node_length, edge_length, fits_table, host_of, keeps_layout}
use Rattle.meaning.specs.Carrying.{LentTables, counts_agree, lengths_agree, host_fits, carry_refusal}
use Rattle.meaning.specs.Laws.Tests.{both_true, both_of}
use Rattle.meaning.specs.Laws.Checks.{first_failing-none}
use Rattle.meaning.specs.declared.Layout.{Layout}
use Rattle.meaning.specs.declared.Manner.{Manner}
use Rattle.meaning.specs.declared.Manner.TheVariants.{Exact, Packing}

-- the same count agrees in each manner; in the exact one no other does
pub counts_of : (k : Manner) (n m : ℕ) → n ≡ m → counts_agree k n m ≡ true
unfolding counts_agree
counts_of Exact n m e = eq-eqb n m e
counts_of Packing n m e = refl

pub counts_same : (n m : ℕ) → counts_agree Exact n m ≡ true → n ≡ m
unfolding counts_agree
counts_same n m e = eqb-true n m e

pub record LengthsAgree (k : Manner) (w most : ℕ) (table : List ℕ) (v most' : ℕ) (to : List ℕ) : Type 0 where
  pub from : fits_table w most table ≡ true
  pub into : fits_table v most' to ≡ true
  pub counts : counts_agree k (length table / w) (length to / v) ≡ true

module _ (k : Manner) (w most : ℕ) (table : List ℕ) (v most' : ℕ) (to : List ℕ) where
  pub lengths-agree : lengths_agree k w most table v most' to ≡ true → LengthsAgree k w most table v most' to
  unfolding lengths_agree clauses
  lengths-agree e =
      let t = both_true _ _ e in
      let u = both_true _ _ t.1 in
      record { from = t.0; into = u.0; counts = (both_true _ _ u.1).0 }

  lengths-agree-of : LengthsAgree k w most table v most' to → lengths_agree k w most table v most' to ≡ true
  unfolding lengths_agree clauses
  lengths-agree-of s = both_of _ _ s.from (both_of _ _ s.into (both_of _ _ s.counts refl))

module _ (k : Manner) (L M : Layout) (x : LentTables) where
  pub record Taken : Type 0 where
    pub nodes : LengthsAgree k (node_length L) L.nodes x.nodes (node_length M) M.nodes x.to_nodes
    pub edges : LengthsAgree k (edge_length L) L.edges x.edges (edge_length M) M.edges x.to_edges
    pub layout : keeps_layout L x.nodes x.edges ≡ true
    pub fits
        : host_fits M.atoms (length x.to_nodes / node_length M) (length x.to_edges / edge_length M) (host_of L x.nodes x.edges) ≡ true

  pub taken : carry_refusal k L M x ≡ none → Taken
  unfolding carry_refusal
  taken e =
      let t1 = first_failing-none _ _ _ e in
      let t2 = first_failing-none _ _ _ t1.1 in
      let t3 = first_failing-none _ _ _ t2.1 in
      let t4 = first_failing-none _ _ _ t3.1 in
      record {
        nodes = lengths-agree _ _ _ _ _ _ _ t1.0;
        edges = lengths-agree _ _ _ _ _ _ _ t2.0;
        layout = t3.0;
        fits = t4.0;
      }

  pub takes : Taken → carry_refusal k L M x ≡ none
  unfolding carry_refusal first_failing choose
  takes t = rw (lengths-agree-of _ _ _ _ _ _ _ t.nodes, lengths-agree-of _ _ _ _ _ _ _ t.edges, t.layout, t.fits)
