-- `read_input` meets its contract: each test that fails says that the definition reads nothing.
use Rattle.std.proofs.Common.{◌+◌, length, sym, ◌∙◌, arith}
use Rattle.std.proofs.lemmas.Bool.{both_ways, leb-true, eqb-true, eqb-false}
use Rattle.run_input.proofs.Inputs.{too_long, behind, other-records, other-fuel, judged}
use Rattle.run_input.proofs.read_input.Goals.{then-e-image, else-e-image, then-e, else-e, then-e-2, else-e-2}
use Rattle.run_input.proofs.read_input.Goals as goal

pub returns-then-image-gt-MOST : goal.returns-then-image-gt-MOST
returns-then-image-gt-MOST c = too_long c.args.image.now c.if-image-gt-MOST.true

pub returns : goal.returns
returns c =
    let bs = c.args.image.now in
    let h = c.if-image-gt-MOST.false in
    let f = c.in_ok-e.ensures in
    let fits = leb-true (length bs) c.in_ok-e.e.program in
    let two = eqb-true c.in_ok-e.e.records (c.in_ok-e.e.edges + 5) in
    let four = eqb-true c.in_ok-e.e.fuel (c.in_ok-e.e.records + 7) in
    rw c.then_some.ensures (elim c.if-e-2.branch [
      | then-e-2 w ↦ elim c.if-e.branch [
        | then-e v ↦ elim c.if-e-image.branch [
          | then-e-image u ↦ judged bs h _ f u.if-e-image.true (two (sym u.value-is ∙ v.if-e.true)) (four (sym v.value-is ∙ w.if-e-2.true)) w.number2.result w.number2.ensures.0 c.if-e-2.whole w.whole-is
          | else-e-image u ↦ absurd (omega (arith, u.if-e-image.false, fits (sym u.value-is ∙ v.if-e.true)))
        ]
        | else-e v ↦ absurd (both_ways _ (v.value-is ∙ v.if-e.false) w.if-e-2.true)
      ]
      | else-e-2 w ↦ elim c.if-e.branch [
        | then-e v ↦ elim c.if-e-image.branch [
          | then-e-image u ↦ rw (w.whole-is, w.if-e-2.false) (other-fuel bs h _ f u.if-e-image.true (two (sym u.value-is ∙ v.if-e.true)) (eqb-false c.in_ok-e.e.fuel (c.in_ok-e.e.records + 7) (sym v.value-is ∙ w.if-e-2.false)))
          | else-e-image u ↦ absurd (omega (arith, u.if-e-image.false, fits (sym u.value-is ∙ v.if-e.true)))
        ]
        | else-e v ↦ elim c.if-e-image.branch [
          | then-e-image u ↦ rw (w.whole-is, w.if-e-2.false) (other-records bs h _ f u.if-e-image.true (eqb-false c.in_ok-e.e.records (c.in_ok-e.e.edges + 5) (sym u.value-is ∙ v.if-e.false)))
          | else-e-image u ↦ rw (w.whole-is, w.if-e-2.false) (behind bs h _ f u.if-e-image.false)
        ]
      ]
    ])
