-- Document 01's tables and those of the small core: what packing and unpacking answer, that each gives back what the other was given, that
-- the packed graph is the same graph, and that a program does on the unpacked graph what it did on the small core.
-- Rests on Carried and CarriedRuns.
use Rattle.std.specs.Prelude.{ℕ, ◌+◌, ◌*◌, ◌<◌, ◌≤◌, ◌≡◌, refl, length, get_or, take, drop}
use Rattle.std.proofs.Math.Path.{sym, ap}
use Rattle.std.proofs.Common.{◌∙◌, subst, arith, get_or-take, get_or-drop}
use mathlib.Core.List.{List, [], ◌∷◌}
use Rattle.std.proofs.Math.Decide.{ℕ_discrete}
use Rattle.std.proofs.Math.ListN.{length-map}
use Rattle.meaning.specs.Numbers.{number}
use Rattle.meaning.specs.Layout.{free, live, is_live, Edge, base, small, edge_length, source_place, target_place, cut, read_edge, read_nodes, read_edges, host_of}
use Rattle.meaning.specs.Calls.{Lent, answer_number, refusal_number}
use Rattle.meaning.specs.Carrying.{LentTables, lending_tables, Carried, unfit, pack, unpack}
use Rattle.meaning.specs.Laws.Slots.{OnLive, live_at_lt}
use Rattle.meaning.specs.Laws.Attached.{Attached}
use Rattle.meaning.proofs.Laws.Attached.{layout_attached}
use Rattle.laws.specs.Numbers.{Bytes}
use Rattle.laws.specs.Pieces.{get_or-map_in, get_or-pieces, length-read}
use Rattle.laws.specs.Layout.{edge_of, read_edge-free, read_edge-live}
use Rattle.laws.specs.Undoing.{base-numbered, small-numbered}
use Rattle.demands.specs.Demands.{Lendable, Interpreter, In, Demand1, Demand2}
use Rattle.demands.specs.Laws.Alike.{Alike}
use Rattle.meaning.specs.declared.Manner.TheVariants.{Packing}
use Rattle.meaning.specs.declared.Answer.TheVariants.{Result}
use Rattle.layouts.specs.Carried.{node_slots, edge_slots, arriving, Kept}
use Rattle.layouts.proofs.Carried.{carry-answers, larger_answers, carry-kept, carry_back}
use Rattle.layouts.specs.LargerRuns.{RunsAs}
use Rattle.layouts.proofs.LargerRuns.{same-fuel}
use Rattle.layouts.specs.CarriedRuns.{CarriedLent, CarriedRun}
use Rattle.layouts.proofs.CarriedRuns.{run-carried, out-carried}
use Rattle.layouts.specs.Packing.{slot_bytes, NamesEnds}

-- What is answered.

pub pack-answers : (x : LentTables) → In (answer_number (pack x).answer) (0 ∷ 10 ∷ 11 ∷ 15 ∷ 29 ∷ [])
unfolding refusal_number unfit
pack-answers = carry-answers Packing base small

pub unpack-answers : (x : LentTables) → In (answer_number (unpack x).answer) (0 ∷ 10 ∷ 11 ∷ 15 ∷ 29 ∷ [])
unfolding refusal_number unfit
unpack-answers = carry-answers Packing small base

module _ (x : LentTables) (hn : Bytes x.nodes) (he : Bytes x.edges) where
  -- 29 never, where there are as many slots or more
  pub unpack-fits : node_slots small x.nodes ≤ node_slots base x.to_nodes → edge_slots small x.edges ≤ edge_slots base x.to_edges
      → In (answer_number (unpack x).answer) (0 ∷ 10 ∷ 11 ∷ 15 ∷ [])
  unpack-fits = larger_answers Packing small base x hn he (omega arith)

  -- What is not refused.

  pub pack-kept : (pack x).answer ≡ Result → Kept Packing base small x (pack x)
  pack-kept = carry-kept Packing base small small-numbered.nodes x hn he

  pub unpack-kept : (unpack x).answer ≡ Result → Kept Packing small base x (unpack x)
  unpack-kept = carry-kept Packing small base base-numbered.nodes x hn he

  -- The same graph: each slot number has the same node and the same edge on both sides, or is free on both; a number that a table has not
  -- counts as free.

  pub packed-graph : (pack x).answer ≡ Result → Alike (host_of base x.nodes x.edges) (host_of small (pack x).nodes (pack x).edges)
  packed-graph r = (pack-kept r).alike

  pub unpacked-graph : (unpack x).answer ≡ Result
      → Alike (host_of small x.nodes x.edges) (host_of base (unpack x).nodes (unpack x).edges)
  unpacked-graph r = (unpack-kept r).alike

  module _ (to_nodes to_edges : List ℕ) (en : length to_nodes ≡ length x.nodes) (ee : length to_edges ≡ length x.edges) where
    -- unpacking what was packed is not refused, and gives the wide bytes
    pub unpack-pack : (pack x).answer ≡ Result
        → unpack (lending_tables (pack x).nodes (pack x).edges to_nodes to_edges) ≡ arriving x.nodes x.edges
    unpack-pack r = carry_back Packing base small small-numbered.nodes x hn he r to_nodes to_edges en ee

    -- packing what was unpacked is not refused, and gives the small bytes
    pub pack-unpack : (unpack x).answer ≡ Result
        → pack (lending_tables (unpack x).nodes (unpack x).edges to_nodes to_edges) ≡ arriving x.nodes x.edges
    pack-unpack r = carry_back Packing small base base-numbered.nodes x hn he r to_nodes to_edges en ee

-- The ends of an edge, of one byte each.

one_byte : (l : List ℕ) → number (take 1 l) ≡ get_or l 0 0
unfolding number
one_byte [] = refl
one_byte (b ∷ l) = omega arith

-- the byte at a place of the slot, as the number that is read there
byte_at : (edges : List ℕ) (i place : ℕ) → place < edge_length small
    → get_or edges (i * edge_length small + place) 0 ≡ number (take 1 (drop place (slot_bytes edges i)))
byte_at edges i place h =
    let n : ℕ = i * edge_length small in
    let same : n + (place + 0) ≡ n + place = omega arith in
    sym
    (one_byte (drop place (slot_bytes edges i)) ∙ get_or-drop place (slot_bytes edges i) 0 0
    ∙ get_or-take (edge_length small) (drop n edges) (place + 0) 0 (omega arith) ∙ get_or-drop n edges (place + 0) 0
    ∙ ap (λ (j : ℕ). get_or edges j 0) same)

module _ (edges : List ℕ) (i : ℕ) (e : Edge) (l : get_or (read_edges small edges) i free ≡ live e) where
  slot_read : read_edge small (slot_bytes edges i) ≡ live e
  unfolding is_live
  slot_read =
      let n = length-read (edge_length small) (read_edge small) edges in
      let h = live_at_lt (read_edges small edges) i (ap is_live l) in
      let k = length-map (cut (edge_length small) edges) (read_edge small) in
      ap (read_edge small) (sym (get_or-pieces (edge_length small) (edge_slots small edges) edges i (omega arith)))
      ∙ sym (get_or-map_in (read_edge small) (cut (edge_length small) edges) i [] free (omega arith))
      ∙ l

  slot_is : edge_of small (slot_bytes edges i) ≡ e
  slot_is = at (ℕ_discrete (get_or (slot_bytes edges i) 0 0) 0)
    where
      at : Dec (get_or (slot_bytes edges i) 0 0 ≡ 0) → edge_of small (slot_bytes edges i) ≡ e
      at (yes q) =
          let f : free ≡ live e = sym (read_edge-free small (slot_bytes edges i) q) ∙ slot_read in
          let z : ◌≡◌ {A = ℕ} 0 1 = cc in absurd (omega arith)
      at (no q) =
          let f : live (edge_of small (slot_bytes edges i)) ≡ live e = sym (read_edge-live small (slot_bytes edges i) q) ∙ slot_read in cc

-- An edge that is packed has the ends that it had, though two bytes became one: they are live nodes, and so have numbers there.
pub packed_ends : (x : LentTables) → Bytes x.nodes → Bytes x.edges → (pack x).answer ≡ Result → (i : ℕ) (e : Edge)
    → get_or (read_edges base x.edges) i free ≡ live e → NamesEnds (pack x).nodes (pack x).edges i e
packed_ends x hn he r i e l =
    let kept = pack-kept x hn he r in
    let packed = (pack x).edges in
    let there : get_or (read_edges small packed) i free ≡ live e = sym (kept.alike.edges i) ∙ l in
    let nodes = read_nodes small (pack x).nodes in
    let ends : Attached nodes e = subst (OnLive (Attached nodes)) there (layout_attached small (pack x).nodes packed kept.layout i) in
    record {
      source = byte_at packed i (source_place small) (omega arith) ∙ ap (λ (d : Edge). d.source) (slot_is packed i e there);
      target = byte_at packed i (target_place small) (omega arith) ∙ ap (λ (d : Edge). d.target) (slot_is packed i e there);
      source_live = ends.source;
      target_live = ends.target;
    }

-- Programs, by any two interpreters that meet demands 1 and 2, the one at the small core's layout and the other at document 01's.

module _ (I J : Interpreter) (first : Demand1 small I) (second : Demand2 small I) (first_there : Demand1 base J)
    (second_there : Demand2 base J) (x : Lent) (b : Lendable x)
  where
    -- What answers 0 or 1 on the small core answers so on the unpacked tables, with as many slots and records or more: with as much fuel as
    -- it takes steps it leaves the same, unpacked, and with less it is out of fuel.
    pub unpacked-run : (I.run x).answer ≤ 1
        → RunsAs small I J x (CarriedLent Packing small base x) (λ y c. CarriedRun Packing small base x y (I.run x) (J.run y))
    unpacked-run = run-carried Packing small base small-numbered base-numbered (omega arith) I J first second first_there second_there x b

    -- So with the same fuel it is the same: the answer, the steps and the count of records, each slot, and the changes in the journal.
    pub unpacked-same : (I.run x).answer ≤ 1 → (y : Lent) → CarriedLent Packing small base x y → y.fuel ≡ x.fuel
        → CarriedRun Packing small base x y (I.run x) (J.run y)
    unpacked-same h = same-fuel small I J x _ _ (unpacked-run h)

    -- What is out of fuel on the small core is so on the unpacked tables, with the same fuel. Of answers 3 to 6 nothing is said: the wide
    -- core may have room for what the small one has none for.
    pub unpacked-out : (I.run x).answer ≡ 2 → (y : Lent) → CarriedLent Packing small base x y → y.fuel ≡ x.fuel → (J.run y).answer ≡ 2
    unpacked-out = out-carried Packing small base small-numbered base-numbered (omega arith) I J first second first_there second_there x b

-- Wide tables are themselves what is unpacked of the small ones that they were packed to: so they are `carried`, as `CarriedLent` asks.
pub packed-carried : (x : LentTables) → Bytes x.nodes → Bytes x.edges → (nodes edges : List ℕ) → pack x ≡ arriving nodes edges
    → unpack (lending_tables nodes edges x.nodes x.edges) ≡ arriving x.nodes x.edges
packed-carried x hn he nodes edges q =
    ap (λ (c : Carried). unpack (lending_tables c.nodes c.edges x.nodes x.edges)) (sym q)
    ∙ unpack-pack x hn he x.nodes x.edges refl refl (ap (λ (c : Carried). c.answer) q)
