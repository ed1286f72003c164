-- `condition_holds` meets its contract, kind by kind.
use Rattle.std.proofs.Common.{refl, arith}
use Rattle.meaning.specs.Matching.{in_degree, out_degree, condition_holds}
use Rattle.parts.specs.Reading.{condition_in_is, condition-out-is}
use Rattle.testing.proofs.Conditions.{as_relation, room, first-node, second-node, edge-holds, degree_holds}
use Rattle.testing.proofs.condition_holds.Goals as goal

pub relation_holds-requires : goal.relation_holds-requires
relation_holds-requires c =
    (as_relation c.if-tag-eq-RELATION.true c.requires)

pub returns-then-tag-eq-RELATION : goal.returns-then-tag-eq-RELATION
returns-then-tag-eq-RELATION c = λ w. c.relation_holds.ensures (as_relation c.if-tag-eq-RELATION.true w)

pub slot_of-s-requires : goal.slot_of-s-requires
slot_of-s-requires c =
    let w = c.requires in
    room w.trial (first-node w _ c.number_at.ensures.0 c.if-tag-eq-RELATION.false)

pub slot_of-t-requires : goal.slot_of-t-requires
slot_of-t-requires c =
    let w = c.requires in
    room w.trial (second-node w _ c.number_at.ensures.0 _ c.number_at-in-64.ensures.0 c.in-64.is)

pub returns-in-64 : goal.returns-in-64
returns-in-64 c = λ w. edge-holds w _ c.number_at.ensures.0 _ c.number_at-in-64.ensures.0 c.in-64.is _ _ _ _ c.slot_of-s.ensures c.slot_of-t.ensures c.any_runs.ensures

pub returns-in-65 : goal.returns-in-65
unfolding condition_holds
returns-in-65 c = λ w. degree_holds w _ c.number_at.ensures.0 _ (condition_in_is _ _ _ c.number_at.ensures.0 _ c.degree_of.ensures.0 c.in-65.is w.k w.is) (in_degree _) _ _ _ refl c.if-tag-eq-RELATION.false c.slot_of-s.ensures c.in_degree.ensures

pub returns-in_default : goal.returns-in_default
unfolding condition_holds
returns-in_default c = λ w. degree_holds w _ c.number_at.ensures.0 _ (condition-out-is _ _ _ c.number_at.ensures.0 _ c.degree_of-in_default.ensures.0 c.if-tag-eq-RELATION.false (λ e. omega arith) (λ e. omega arith) w.k w.is) (out_degree _) _ _ _ refl c.if-tag-eq-RELATION.false c.slot_of-s.ensures c.out_degree.ensures
