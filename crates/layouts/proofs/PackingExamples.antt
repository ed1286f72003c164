-- Computed cases: tables that are packed and unpacked, with as many slots, more and fewer; carryings that are refused; programs that the
-- small core has no room for and the wide one has; and one run for which all that `unpacked-same` asks is met.
-- Rests on Packing and ExampleTables, on the demands' First, Second and Cases, and on the meaning's ProvedSet and Computing.
use Rattle.std.specs.Prelude.{◌≡◌, refl, [], ◌∷◌, ◌++◌}
use Rattle.std.proofs.Common.{arith, leb-true}
use Rattle.meaning.specs.Layout.{base, small}
use Rattle.meaning.specs.Calls.{report_of}
use Rattle.meaning.specs.Carrying.{lending_tables, pack, unpack}
use Rattle.meaning.specs.Computing.{computing}
use Rattle.demands.specs.Ours.{ours}
use Rattle.demands.proofs.First.{demand1}
use Rattle.demands.proofs.Second.{demand2}
use Rattle.demands.proofs.Cases.{lendable}
use Rattle.laws.specs.Undoing.{base-numbered, small-numbered}
use Rattle.meaning.specs.declared.Manner.TheVariants.{Packing}
use Rattle.meaning.specs.declared.Refusal.TheVariants.{NodeTableLength, EdgeTableLength, BadHost, HostDoesNotFit}
use Rattle.layouts.specs.Carried.{arriving}
use Rattle.layouts.specs.ExampleTables.{node, bad_root, sevens, seven_nodes, seven_edges, leaves, lent, seen, reddens}
use Rattle.layouts.specs.CarriedRuns.{CarriedLent, CarriedRun}
use Rattle.layouts.proofs.Packing.{unpacked-same}
use Rattle.layouts.specs.PackingExamples.{wide_nodes, wide_edge, small_nodes, small_edge, free_nodes, free_edges, unpacked_nodes, doubles, grows, endless, x, y}

pub packed : pack (lending_tables wide_nodes wide_edge (seven_nodes small 2) (seven_edges small 1)) ≡ arriving small_nodes small_edge
unfolding computing
packed = refl

pub unpacked : unpack (lending_tables small_nodes small_edge (seven_nodes base 2) (seven_edges base 1)) ≡ arriving wide_nodes wide_edge
unfolding computing
unpacked = refl

-- to more slots: the further ones are free
pub packed_more : pack (lending_tables wide_nodes wide_edge (seven_nodes small 3) (seven_edges small 3))
    ≡ arriving (small_nodes ++ free_nodes small 1) (small_edge ++ free_edges small 2)
unfolding computing
packed_more = refl

pub unpacked-more : unpack (lending_tables small_nodes small_edge (seven_nodes base 3) (seven_edges base 2))
    ≡ arriving (wide_nodes ++ free_nodes base 1) (wide_edge ++ free_edges base 1)
unfolding computing
unpacked-more = refl

-- to fewer: free slots behind are no hindrance
pub packed-fewer : pack
    (lending_tables (wide_nodes ++ free_nodes base 2) (wide_edge ++ free_edges base 1) (seven_nodes small 2) (seven_edges small 1))
    ≡ arriving small_nodes small_edge
unfolding computing
packed-fewer = refl

pub unpacked-fewer : unpack
    (lending_tables (small_nodes ++ free_nodes small 1) (small_edge ++ free_edges small 2) (seven_nodes base 2) (seven_edges base 1))
    ≡ arriving wide_nodes wide_edge
unfolding computing
unpacked-fewer = refl

-- Refused, with 29: what is live in a slot that is not there, and a label of two atoms.

-- slot 127 is the last of a full small table, and slot 128 is none
pub last-slot : pack (lending_tables (free_nodes base 127 ++ node base 0 []) [] (seven_nodes small 128) [])
    ≡ arriving (free_nodes small 127 ++ node small 0 []) []
unfolding computing
last-slot = refl

pub no_slot : pack (lending_tables (free_nodes base 128 ++ node base 0 []) [] (seven_nodes small 128) [])
    ≡ leaves HostDoesNotFit (seven_nodes small 128) []
unfolding computing
no_slot = refl

pub no-edge-slot : pack (lending_tables wide_nodes (free_edges base 1 ++ wide_edge) (seven_nodes small 2) (seven_edges small 1))
    ≡ leaves HostDoesNotFit (seven_nodes small 2) (seven_edges small 1)
unfolding computing
no-edge-slot = refl

pub no-slot-back : unpack (lending_tables small_nodes [] (seven_nodes base 1) []) ≡ leaves HostDoesNotFit (seven_nodes base 1) []
unfolding computing
no-slot-back = refl

pub two-atoms : pack (lending_tables (node base 0 (1 ∷ 2 ∷ [])) [] (seven_nodes small 1) [])
    ≡ leaves HostDoesNotFit (seven_nodes small 1) []
unfolding computing
two-atoms = refl

-- The lowest number is answered: a damaged node and a label of two atoms; with them an edge table of 9 bytes, or one of 256 slots; with
-- them a node table of 129 slots.

pub damaged : pack (lending_tables (bad_root base ++ node base 0 (1 ∷ 2 ∷ [])) [] (seven_nodes small 2) [])
    ≡ leaves BadHost (seven_nodes small 2) []
unfolding computing
damaged = refl

pub odd_edges : pack (lending_tables (bad_root base ++ node base 0 (1 ∷ 2 ∷ [])) [] (seven_nodes small 2) (sevens 9))
    ≡ leaves EdgeTableLength (seven_nodes small 2) (sevens 9)
unfolding computing
odd_edges = refl

pub many-edges : pack (lending_tables (bad_root base) [] (seven_nodes small 1) (seven_edges small 256))
    ≡ leaves EdgeTableLength (seven_nodes small 1) (seven_edges small 256)
unfolding computing
many-edges = refl

pub many-nodes : pack (lending_tables (bad_root base) [] (seven_nodes small 129) (sevens 9))
    ≡ leaves NodeTableLength (seven_nodes small 129) (sevens 9)
unfolding computing
many-nodes = refl

pub small-label : seen ((ours small).run (lent small 8 doubles (node small 0 (9 ∷ [])))) ≡ (6, node small 0 (9 ∷ []), report_of 1 0)
unfolding computing
small-label = refl

pub wide-label : seen ((ours base).run (lent base 8 doubles (unpacked_nodes (node small 0 (9 ∷ [])) 1)))
    ≡ (0, node base 0 (9 ∷ 9 ∷ []), report_of 1 1)
unfolding computing
wide-label = refl

pub small-slots : seen ((ours small).run (lent small 8 grows (node small 0 []))) ≡ (3, node small 0 [], report_of 1 0)
unfolding computing
small-slots = refl

pub wide-slots : seen ((ours base).run (lent base 8 grows (unpacked_nodes (node small 0 []) 2)))
    ≡ (0, node base 0 [] ++ node base 0 [], report_of 1 2)
unfolding computing
wide-slots = refl

-- and the other way round, where the unpacked tables have fewer slots: so as many are asked
pub small-more : seen ((ours small).run (lent small 8 grows (node small 0 [] ++ free_nodes small 1)))
    ≡ (0, node small 0 [] ++ node small 0 [], report_of 1 2)
unfolding computing
small-more = refl

pub wide-fewer : seen ((ours base).run (lent base 8 grows (unpacked_nodes (node small 0 [] ++ free_nodes small 1) 1)))
    ≡ (3, node base 0 [], report_of 1 0)
unfolding computing
wide-fewer = refl

-- a node is marked red: answer 5 where the journal holds no record
pub small-records : seen ((ours small).run (lent small 0 reddens (node small 0 []))) ≡ (5, node small 0 [], report_of 1 0)
unfolding computing
small-records = refl

pub wide-records : seen ((ours base).run (lent base 8 reddens (unpacked_nodes (node small 0 []) 1)))
    ≡ (0, node base 1 [], report_of 1 1)
unfolding computing
wide-records = refl

pub small-fuel : seen ((ours small).run (lent small 8 endless (node small 0 []))) ≡ (2, node small 0 [], report_of 10 0)
unfolding computing
small-fuel = refl

pub wide-fuel : seen ((ours base).run (lent base 8 endless (unpacked_nodes (node small 0 []) 1))) ≡ (2, node base 0 [], report_of 10 0)
unfolding computing
wide-fuel = refl

pub x-red : seen ((ours small).run x) ≡ (0, node small 1 (300 ∷ []), report_of 1 1)
unfolding computing
x-red = refl

pub y-red : seen ((ours base).run y) ≡ (0, node base 1 (300 ∷ []) ++ free_nodes base 1, report_of 1 1)
unfolding computing
y-red = refl

x-to-y : CarriedLent Packing small base x y
unfolding computing
x-to-y =
    record {
      lendable = lendable y refl;
      to_nodes = seven_nodes base 2;
      to_edges = [];
      carried = refl;
      nodes_many = leb-true 1 2 refl;
      edges_many = leb-true 0 0 refl;
      records = leb-true 8 9 refl;
      journal_fits = refl;
      image = refl;
      fuel_fits = leb-true 10 1000000 refl;
      report_fits = refl;
    }

pub same-red : CarriedRun Packing small base x y ((ours small).run x) ((ours base).run y)
unfolding computing
same-red =
    unpacked-same (ours small) (ours base) (demand1 small) (demand2 small small-numbered) (demand1 base) (demand2 base base-numbered) x
    (lendable x refl) (omega arith) y x-to-y refl
