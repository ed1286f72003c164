-- Laws of a journal that holds written records: it is read as they were written, they keep to their tables, and with the later
-- ones cleared it holds the earlier ones. Rests on laws' Records and on ledger's Steps.
use Prim.Native.Nat.{ℕ, ◌+◌, ◌-◌, ◌*◌, ◌<◌, ◌≤◌}
use mathlib.Core.Path.{◌≡◌, refl, ◌∙◌, ap}
use mathlib.Core.Bool.{true}
use mathlib.Core.List.{List, [], ◌∷◌, ◌++◌, map, reverse, map-append, append_assoc, reverse-append, reverse-reverse}
use native.Mathlib.Nat.{add-mul}
use native.Mathlib.Omega.{arith}
use lib.ListN.{length, take, drop, replicate, length-append, replicate-append-replicate}
use lib.Seq.{take_at, drop_at}
use Rattle.meaning.specs.Basics.{every, concat, padded}
use Rattle.meaning.specs.Layout.{Slot, Node, Edge, Change, record_length, write_record, keeps_record}
use Rattle.meaning.specs.Laws.Tests.{every_drop}
use Rattle.meaning.specs.Laws.Every.{Every, Every-parts}
use Rattle.laws.specs.Pieces.{pieces-drop, concat_append}
use Rattle.laws.specs.Records.{LegalChange, Within, Every-reverse, keeps-records, length-written, counted-written}
use Rattle.meaning.specs.declared.Layout.{Layout}
use Rattle.journal.specs.Journal.{records_from, cleared_from}
use Rattle.ledger.specs.Running.{change_of, journal_of}
use Rattle.ledger.specs.Steps.{change_of_write}

-- Records, the first record first.

module _ (L : Layout) (narrow : 0 < L.width) where
  changes-written : (cs : List (Change (Slot Node) (Slot Edge))) → Every (LegalChange L) cs
      → map (change_of L) (map (write_record L) cs) ≡ cs
  changes-written [] h = refl
  changes-written (c ∷ cs) h = let p = change_of_write L narrow c h.0 in let q = changes-written cs h.1 in cc

  -- Changes, the last first, in a journal of n bytes.

  module _ (js : List (Change (Slot Node) (Slot Edge))) (legal : Every (LegalChange L) js) where
    abbrev records : List (List ℕ)
    records = map (write_record L) (reverse js)

    -- it is read as it was written
    pub journal-written : (n : ℕ) → journal_of L (padded n (concat records)) (length js) ≡ js
    unfolding journal_of
    journal-written n =
        ap (λ (l : List (List ℕ)). reverse (map (change_of L) l)) (counted-written L narrow js legal n)
        ∙ ap reverse (changes-written (reverse js) (Every-reverse (LegalChange L) js legal))
        ∙ reverse-reverse js

    -- the records from a number on keep to tables of a nodes and b edges
    pub kept-records : (a b mark n : ℕ) → Every (Within a b) js → mark ≤ length js
        → every (keeps_record L a b) (records_from L mark (length js) (padded n (concat records))) ≡ true
    kept-records a b mark n within m =
        rw (pieces-drop (record_length L) mark (length js) (padded n (concat records)) m, counted-written L narrow js legal n)
        (every_drop (keeps_record L a b) mark records
        (keeps-records L narrow a b (reverse js) (Every-reverse (LegalChange L) js legal) (Every-reverse (Within a b) js within)))

  -- with the new records cleared the old ones are left
  pub cleared-records : (new old : List (Change (Slot Node) (Slot Edge))) (n : ℕ) → Every (LegalChange L) (new ++ old)
      → length (new ++ old) * record_length L ≤ n
      → cleared_from L (length old) (length (new ++ old)) (padded n (concat (map (write_record L) (reverse (new ++ old)))))
      ≡ padded n (concat (map (write_record L) (reverse old)))
  cleared-records new old n legal fits =
      let w = record_length L in
      let A : List ℕ = concat (map (write_record L) (reverse old)) in
      let B : List ℕ = concat (map (write_record L) (reverse new)) in
      let W : List ℕ = concat (map (write_record L) (reverse (new ++ old))) in
      let Z : List ℕ = replicate (n - length W) 0 in
      let both : W ≡ A ++ B = rw (reverse-append new old, map-append) (concat_append (map (write_record L) (reverse old)) (map (write_record L) (reverse new))) in
      let a : length A ≡ length old * w = length-written L narrow old (Every-parts (LegalChange L) new old legal).1 in
      let b : length W ≡ length (new ++ old) * w = length-written L narrow (new ++ old) legal in
      let front : take (length old * w) (W ++ Z) ≡ A =
      ap (λ (l : List ℕ). take (length old * w) (l ++ Z)) both ∙ ap (take (length old * w)) (append_assoc A B Z) ∙ take_at A (B ++ Z) (length old * w) a in
      let behind : drop (length (new ++ old) * w) (W ++ Z) ≡ Z = drop_at W Z (length (new ++ old) * w) b in
      let gone : length (new ++ old) - length old ≡ length new = omega (arith, length-append new old) in
      let rest : length new * w + (n - length W) ≡ n - length A =
      omega (arith, add-mul (length new) (length old) w, ap (λ (k : ℕ). k * w) (length-append new old)) in
      (λ i. front i ++ replicate (gone i * w) 0 ++ behind i)
      ∙ append_assoc A (replicate (length new * w) 0) Z
      ∙ ap (λ (l : List ℕ). A ++ l) (replicate-append-replicate (length new * w) (n - length W) 0 ∙ ap (λ (k : ℕ). replicate k 0) rest)
