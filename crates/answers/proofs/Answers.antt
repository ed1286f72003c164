-- The report that is put: two numbers of four bytes.
use Prim.Native.Nat.{ℕ}
use mathlib.Core.Path.{◌≡◌, ◌∙◌, ap}
use mathlib.Core.List.{List, [], ◌++◌, append-nil}
use native.Mathlib.Omega.{arith}
use borrow.Rule.Slice.PartMut.{put_mid}
use lib.ListN.{length, take, drop, length-drop, drop_of_length-le}
use lib.Seq.{length-take-le, take_at, drop_at, drop-drop}
use Rattle.meaning.specs.Numbers.{bytes}
use Rattle.meaning.specs.Calls.{report_of}
use Rattle.laws.specs.Numbers.{length-bytes}
use Rattle.answers.specs.Answers.{report_number, report_length}

pub report-put : (steps records : ℕ) (report first second : List ℕ) → length report ≡ report_length
    → first ≡ bytes (length (take report_number (drop 0 report))) steps
    → second ≡ bytes (length (take report_number (drop report_number (put_mid 0 report_number report first)))) records
    → put_mid report_number report_number (put_mid 0 report_number report first) second ≡ report_of steps records
report-put steps records report first second h e f =
    let p : first ≡ bytes report_number steps = e ∙ ap (λ (n : ℕ). bytes n steps) (length-take-le report_number report (omega arith)) in
    let l : length first ≡ report_number = ap length p ∙ length-bytes report_number steps in
    let d : drop report_number (first ++ drop report_number report) ≡ drop report_number report = drop_at first (drop report_number report) report_number l in
    let m : length (take report_number (drop report_number report)) ≡ report_number = length-take-le report_number (drop report_number report) (rw length-drop (omega arith)) in
    let q : second ≡ bytes report_number records = f ∙ ap (λ (x : List ℕ). bytes (length (take report_number x)) records) d ∙ ap (λ (n : ℕ). bytes n records) m in
    let r : drop report_number (drop report_number report) ≡ [] = drop-drop report_number report_number report ∙ drop_of_length-le report {i = report_length} (omega arith) in
    rw (take_at first (drop report_number report) report_number l, d, r, append-nil second, p, q)
