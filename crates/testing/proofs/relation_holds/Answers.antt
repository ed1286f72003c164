-- `relation_holds` meets its contract: its two operands are read one behind the other.
use Rattle.std.proofs.Common.{◌≡◌, refl, ◌∙◌, ap, ◌≤◌, length, Some}
use Rattle.fields.specs.Fields.{found}
use Rattle.meaning.specs.Tags.{relation_tag}
use Rattle.meaning.specs.Layout.{Host, host_of}
use Rattle.meaning.specs.Matching.{Assignment, atom_of}
use Rattle.meaning.specs.Assigned.{assigned}
use Rattle.parts.proofs.Loops.{a-field, part_in}
use Rattle.testing.specs.Testing.{HasCondition}
use Rattle.testing.proofs.Conditions.{two, left-none, left-operand, right-none, right_operand, equal-holds, less-holds}
use Rattle.testing.proofs.relation_holds.Goals as goal
use Rattle.testing.proofs.relation_holds.Goals.{In-Some-Ok-read_field, After-byte_at}

abbrev host : (s : After-byte_at) → Host
host s = host_of s.args.host.now.layout s.args.host.now.nodes.now s.args.host.now.edges.now

abbrev Has : (s : After-byte_at) → Type 0
Has s = HasCondition (host s) s.args.rule.now.bytes.now s.args.rule.now.plan.now s.args.trial.now.at.now s.args.trial.now.item s.args.trial.now.slot relation_tag s.args.p.now

abbrev α : (s : After-byte_at) → Has s → Assignment
α s w = assigned (host s) w.trial.rule w.trial.placed

left-there : (c : In-Some-Ok-read_field) → c.read_field.result ≡ found c.in-Some-Ok.left.tag c.in-Some-Ok.left.start c.in-Some-Ok.left.end
left-there c = c.in-Some-Ok.is ∙ ap Some c.in-Some-Ok.field-0-is

right-there : (c : In-Some-Ok-read_field)
    → c.read_field-2.result ≡ found c.in-Some-Ok-read_field.right.tag c.in-Some-Ok-read_field.right.start c.in-Some-Ok-read_field.right.end
right-there c = c.in-Some-Ok-read_field.is ∙ ap Some c.in-Some-Ok-read_field.field-0-is

-- where they lie
left-part : (c : In-Some-Ok-read_field) → (c.in-Some-Ok.left.start ≤ c.in-Some-Ok.left.end) × (c.in-Some-Ok.left.end ≤ length c.args.p.now)
left-part c = part_in (a-field _ _ c.read_field.ensures (left-there c))

right-part : (c : In-Some-Ok-read_field)
    → (c.in-Some-Ok-read_field.right.start ≤ c.in-Some-Ok-read_field.right.end) × (c.in-Some-Ok-read_field.right.end ≤ length c.args.p.now)
right-part c = part_in (a-field _ _ c.read_field-2.ensures (right-there c))

atoms : (c : After-byte_at) (w : Has c)
    → (c.atom-a.result ≡ atom_of (α c w) (two w).left) × (c.atom-b.result ≡ atom_of (α c w) (two w).right)
atoms c w = (
  c.atom-a.ensures (left-operand w c.read_field.ensures (left-there (goal.at.After-byte_at c).In-Some-Ok-read_field) refl),
  c.atom-b.ensures (right_operand w c.read_field.ensures (left-there (goal.at.After-byte_at c).In-Some-Ok-read_field) c.read_field-2.ensures (right-there (goal.at.After-byte_at c).In-Some-Ok-read_field) refl),
)

pub returns-in_default : goal.returns-in_default
returns-in_default c = λ w. absurd (left-none w c.read_field.ensures (λ tag start end e. cc))

pub returns-in_default-2 : goal.returns-in_default-2
returns-in_default-2 c = λ w. absurd (left-none w c.read_field.ensures (λ tag start end e. cc))

pub returns-in_default-read_field : goal.returns-in_default-read_field
returns-in_default-read_field c = λ w. absurd (right-none w c.read_field.ensures (c.in-Some-Ok.is ∙ ap Some c.in-Some-Ok.field-0-is) c.read_field-2.ensures (λ tag start end e. cc))

pub returns-in_default-read_field-2 : goal.returns-in_default-read_field-2
returns-in_default-read_field-2 c = λ w. absurd (right-none w c.read_field.ensures (c.in-Some-Ok.is ∙ ap Some c.in-Some-Ok.field-0-is) c.read_field-2.ensures (λ tag start end e. cc))

pub slice_bounds-first-count : goal.slice_bounds-first-count
slice_bounds-first-count c = (left-part (goal.at.slice_bounds-first-count c).In-Some-Ok-read_field).0

pub slice_bounds-first-start : goal.slice_bounds-first-start
slice_bounds-first-start c = (left-part (goal.at.slice_bounds-first-start c).In-Some-Ok-read_field).0

pub slice_bounds-first-end : goal.slice_bounds-first-end
slice_bounds-first-end c = (left-part (goal.at.slice_bounds-first-end c).In-Some-Ok-read_field).1

pub atom-a-requires : goal.atom-a-requires
atom-a-requires c =
    (left-operand c.requires c.read_field.ensures (left-there (goal.at.atom-a-requires c).In-Some-Ok-read_field) refl)

pub slice_bounds-second-count : goal.slice_bounds-second-count
slice_bounds-second-count c = (right-part (goal.at.slice_bounds-second-count c).In-Some-Ok-read_field).0

pub slice_bounds-second-start : goal.slice_bounds-second-start
slice_bounds-second-start c = (right-part (goal.at.slice_bounds-second-start c).In-Some-Ok-read_field).0

pub slice_bounds-second-end : goal.slice_bounds-second-end
slice_bounds-second-end c = (right-part (goal.at.slice_bounds-second-end c).In-Some-Ok-read_field).1

pub atom-b-requires : goal.atom-b-requires
atom-b-requires c =
    let here = (goal.at.atom-b-requires c).In-Some-Ok-read_field in
    (right_operand c.requires c.read_field.ensures (left-there here) c.read_field-2.ensures (right-there here) refl)

pub returns-then-byte_at-eq-EQUAL : goal.returns-then-byte_at-eq-EQUAL
returns-then-byte_at-eq-EQUAL c = λ w. let a = atoms (goal.at.returns-then-byte_at-eq-EQUAL c).After-byte_at w in equal-holds (two w) _ _ _ _ _ a.0 a.1 c.byte_at.ensures c.if-byte_at-eq-EQUAL.true

pub returns-else-byte_at-eq-EQUAL : goal.returns-else-byte_at-eq-EQUAL
returns-else-byte_at-eq-EQUAL c = λ w. let a = atoms (goal.at.returns-else-byte_at-eq-EQUAL c).After-byte_at w in less-holds (two w) _ _ _ _ _ a.0 a.1 c.byte_at.ensures c.if-byte_at-eq-EQUAL.false _ _ c.height.ensures.0 c.height-else-byte_at-eq-EQUAL.ensures.0
