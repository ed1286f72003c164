-- `make` meets its contract: the parts of a rule are the fields of their numbers.
use Rattle.planning.proofs.Filling.{left-graph, interface-byte, laid, holds_of}
use Rattle.planning.proofs.Places.{parts-are, parts-there}
use Rattle.planning.proofs.make.Goals as goal

pub unwrap-parts-requires : goal.unwrap-parts-requires
unwrap-parts-requires c = parts-there _ c.requires.rule.is c.parts_of.result c.parts_of.ensures

pub items-requires : goal.items-requires
items-requires c =
    record {
      has_graph = record { graph = c.requires.rule.tree.left; placed = left-graph c.requires.rule.is (parts-are _ c.unwrap-parts.ensures c.parts_of.ensures).left };
      plan_len = c.requires.plan_len;
    }

pub bounds-rule-parts : goal.bounds-rule-parts
bounds-rule-parts c = (interface-byte c.requires.rule.is (parts-are _ c.unwrap-parts.ensures c.parts_of.ensures).interface).0

pub plan_variables-requires : goal.plan_variables-requires
plan_variables-requires c =
    let p = parts-are _ c.unwrap-parts.ensures c.parts_of.ensures in
    let e = c.requires.rule.is in
    record { tree = c.requires.rule.tree; laid = laid e c.requires.rule.holds (c.items.ensures _ (left-graph e p.left)) p.interface c.from.ensures p.tests p.types _ (c.mode_at.ensures _ e p.mode) }

pub plan_labels-requires : goal.plan_labels-requires
plan_labels-requires c =
    let p = parts-are _ c.unwrap-parts.ensures c.parts_of.ensures in
    let e = c.requires.rule.is in
    record { tree = c.requires.rule.tree; named = c.plan_variables.ensures _ (laid e c.requires.rule.holds (c.items.ensures _ (left-graph e p.left)) p.interface c.from.ensures p.tests p.types _ (c.mode_at.ensures _ e p.mode)) }

pub plan_tests-requires : goal.plan_tests-requires
plan_tests-requires c =
    let p = parts-are _ c.unwrap-parts.ensures c.parts_of.ensures in
    let e = c.requires.rule.is in
    record { tree = c.requires.rule.tree; labelled = c.plan_labels.ensures _ (c.plan_variables.ensures _ (laid e c.requires.rule.holds (c.items.ensures _ (left-graph e p.left)) p.interface c.from.ensures p.tests p.types _ (c.mode_at.ensures _ e p.mode))) }

pub returns : goal.returns
returns c = λ r e.
    let p = parts-are _ c.unwrap-parts.ensures c.parts_of.ensures in
    c.plan_tests.ensures r (c.plan_labels.ensures r (c.plan_variables.ensures r (laid e (holds_of c.requires.rule e) (c.items.ensures _ (left-graph e p.left)) p.interface c.from.ensures p.tests p.types _ (c.mode_at.ensures r e p.mode))))
