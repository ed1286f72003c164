-- A run that came to a result leaves tables whose lines have room; and what a listed run puts in the buffer.
-- Rests on Listing and Rooms, on lines' Rooms and on laws' Calls and Undoing.
use mathlib.Core.Path.{◌≡◌, refl, ◌∙◌, ap}
use mathlib.Core.Option.{Option as Maybe, some, none}
use mathlib.Core.List.{List}
use Prim.Native.Nat.{ℕ, ◌*◌, ◌≤◌}
use native.Mathlib.Nat.{mul_comm}
use native.Mathlib.Omega.{arith}
use lib.ListN.{length, replicate}
use Rattle.meaning.specs.Layout.{layout_of, node_length, edge_length, record_length, read_node, read_edge}
use Rattle.meaning.specs.declared.Layout.{Layout}
use Rattle.meaning.specs.declared.Core.{Core}
use Rattle.meaning.specs.Procedures.{program}
use Rattle.meaning.specs.Calls.{Lent, Returned, run, run_on, run_refusal, refused, answer_number, refusal_number, lending, Yields}
use Rattle.laws.specs.Numbers.{Bytes}
use Rattle.laws.specs.Pieces.{fits-length, fits-same, length-read}
use Rattle.laws.specs.Calls.{Accepted, accepted}
use Rattle.laws.specs.Undoing.{run-keeps}
use Rattle.meaning.specs.declared.Refusal.{Refusal}
use Rattle.meaning.specs.declared.Refusal.TheVariants.{ReportLength, NodeTableLength, EdgeTableLength, JournalLength, TooMuchFuel, ImageTooLong, BadHost, BadForm, BadReferences, BadPlacement, BadDepth, BadRecords, BadText, BadNames, TextDoesNotFit, BufferTooShort, LabelDoesNotFit, HostDoesNotFit}
use Rattle.writing.specs.Words.{letters}
use Rattle.writing.specs.Text.{Adds, Lists}
use Rattle.writing.specs.Laws.Rows.{lists}
use Rattle.run_input.specs.Input.{Input}
use Rattle.run_input.specs.Reading.{Inside, Reading, input_in}
use Rattle.lines.specs.Lines.{report_size, outcome}
use Rattle.listing.specs.Listing.{run_outcome, listed, listing}
use Rattle.listing.specs.Rooms.{Listable}
use Rattle.lines.specs.Rooms.{listing_room, Ready}
use Rattle.run_input.specs.declared.Ends.{Ends}
use Rattle.std.specs.Prelude.{Option, Some, None}

-- no refusal answers 0
refusal-answers : (w : Refusal) → refusal_number w ≡ 0 → ⊥
unfolding refusal_number
refusal-answers ReportLength e = omega arith
refusal-answers NodeTableLength e = omega arith
refusal-answers EdgeTableLength e = omega arith
refusal-answers JournalLength e = omega arith
refusal-answers TooMuchFuel e = omega arith
refusal-answers ImageTooLong e = omega arith
refusal-answers BadHost e = omega arith
refusal-answers BadForm e = omega arith
refusal-answers BadReferences e = omega arith
refusal-answers BadPlacement e = omega arith
refusal-answers BadDepth e = omega arith
refusal-answers BadRecords e = omega arith
refusal-answers BadText e = omega arith
refusal-answers BadNames e = omega arith
refusal-answers TextDoesNotFit e = omega arith
refusal-answers BufferTooShort e = omega arith
refusal-answers LabelDoesNotFit e = omega arith
refusal-answers HostDoesNotFit e = omega arith

module _ (L : Layout) (nodes edges journal image : List ℕ) (fuel : ℕ) (report : List ℕ) (hn : Bytes nodes) (he : Bytes edges) (hi : Bytes image) where
  abbrev lent : Lent
  lent = lending nodes edges journal image fuel report

  abbrev left : Returned
  left = run L lent

  -- a run that came to a result was accepted
  result-accepted : answer_number left.answer ≡ 0 → Accepted L lent
  unfolding run program run_on refused answer_number
  result-accepted e = at (run_refusal L lent) refl e
    where
      at : (w : Maybe Refusal) → run_refusal L lent ≡ w → answer_number (run_on L w (program image) lent).answer ≡ 0 → Accepted L lent
      at (some w) q z = absurd (refusal-answers w z)
      at none q z = accepted L lent q

  pub result-ready : Listable L → (number answer : ℕ) (n e j r : List ℕ) → number ≡ answer → Yields left answer n e j r
      → length n ≡ length nodes → length e ≡ length edges → number ≡ 0 → Ready L n e
  result-ready s number answer n e j r i y b d z =
      let w = result-accepted (rw (← y.numbered, ← i) z) in
      let k = run-keeps L s.runs.numbered nodes edges journal image fuel report hn he hi w.layout in
      let fn = fits-same (node_length L) L.nodes nodes n b w.nodes_fit in
      let fe = fits-same (edge_length L) L.edges edges e d w.edges_fit in
      let t = fits-length (node_length L) L.nodes n fn in
      let u = fits-length (edge_length L) L.edges e fe in
      record {
        legal = record { sized = s.runs.sized; few = s.runs.few; nodes_fit = fn; edges_fit = fe; keeps = rw (y.nodes_returned, y.edges_returned) k };
        room = omega (arith, t.1, u.1, s.nodes, s.edges, length-read (node_length L) read_node n, length-read (edge_length L) (read_edge L) e);
      }

-- The listing is written.

module _ {before out : List ℕ} {r : ℕ} where
  pub run-listed : (L : Layout) (nodes edges journal program : List ℕ) (fuel number answer : ℕ) (n e j report : List ℕ) → number ≡ answer
      → Yields (run L (lending nodes edges journal program fuel (replicate report_size 0))) answer n e j report
      → Adds listing_room (outcome L number report n e) before 0 out r → listing_room ≤ length out
      → Lists (run_outcome L nodes edges journal program fuel) before out r
  unfolding run_outcome
  run-listed L nodes edges journal program fuel number answer n e j report i x w h =
      lists (run_outcome L nodes edges journal program fuel) listing_room
      (rw (← x.numbered, ← x.report_returned, ← x.nodes_returned, ← x.edges_returned, ← i) w) h

  pub input-listed : (L : Layout) → Listable L → (x : Input) (nodes edges journal program : List ℕ) (fuel count : ℕ)
      → nodes ≡ x.nodes → edges ≡ x.edges → count ≡ x.records → journal ≡ replicate (L.change * count) 0 → fuel ≡ x.fuel
      → program ≡ x.program → Lists (run_outcome L nodes edges journal program fuel) before out r → Lists (listed L (some x)) before out r
  unfolding listed
  input-listed L s x nodes edges journal program fuel count a b c d f p w =
      let k : L.change * count ≡ count * record_length L = mul_comm L.change count ∙ ap (λ (n : ℕ). count * n) s.runs.sized.change in
      rw (← a, ← b, ← c, ← f, ← p, ← k, ← d) w

  module _ (c : Core) (bs : List ℕ) (x : Option Ends) (w : Reading bs x) where
    pub image-listed : (L : Layout) → L ≡ layout_of c → (e : Ends) → x ≡ Some e
        → Lists (listed L (input_in bs (Some e))) before out r → Lists (listing c bs) before out r
    unfolding listing
    image-listed L i e q l = rw (← w.same, q, ← i) l

    pub image-refused : {most : ℕ} → x ≡ None → Adds most (letters "input refused\n") before 0 out r → most ≤ listing_room
        → listing_room ≤ length out → Lists (listing c bs) before out r
    unfolding listing listed
    image-refused {most} q a m h = rw (← w.same, q) (lists (letters "input refused\n") most a (omega arith))

pub reading-inside : (bs : List ℕ) (x : Option Ends) (e : Ends) → x ≡ Some e → Reading bs x → Inside bs e
reading-inside bs x e q w = rw q at w.within
