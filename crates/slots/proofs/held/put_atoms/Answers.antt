use Rattle.std.proofs.Common.{◌+◌, ◌*◌, refl, ap, ◌∙◌, arith, rules, length, get_or}
use Rattle.meaning.specs.Basics.{concat}
use Rattle.meaning.specs.Layout.{atom_length}
use Rattle.laws.specs.Pieces.{stored}
use Rattle.meaning.specs.Numbers.{bytes}
use Rattle.slots.specs.Parts.{part_length, slot-back}
use Rattle.slots.proofs.Written.{labelling-more, labelling-all, length-labelling}
use Rattle.slots.proofs.held.put_atoms.Goals as goal

pub loop-j-init : goal.loop-j-init
unfolding concat
loop-j-init c = (refl, refl)

pub loop-j-preserved : goal.loop-j-preserved
loop-j-preserved c =
    let a = c.args in
    let j = c.loop-j.j in
    let x = bytes atom_length (get_or a.label.now j 0) in
    let n = part_length (j * atom_length) atom_length c.loop-j.to _ refl (omega (arith, c.loop-j.invariant.0, c.requires)) in
    let e = slot-back atom_length j c.loop-j.to refl (c.put_number.ensures ∙ ap (λ k. bytes k (get_or a.label.now j 0)) n)
    ∙ ap (stored atom_length j x) c.loop-j.invariant.1
    ∙ labelling-more a.label.now a.to.now j (search rules) c.requires in
    (ap length e ∙ length-labelling a.label.now a.to.now (j + 1) (search rules) c.requires, e)

pub returns : goal.returns
returns c = c.loop-j.invariant.1 ∙ labelling-all c.args.label.now c.args.to.now c.loop-j.j (search rules) (search rules)
