-- What contracts say of structs that are lent. Rests on Fitting.
use Rattle.std.specs.Prelude.{ℕ}
use Rattle.graph.specs.Hosts.{host_in}
use Rattle.graph.specs.declared.Graph.{Graph}
use Rattle.plan.specs.declared.PlannedRule.{PlannedRule}
use Rattle.agreeing.specs.declared.Trial.{Trial}
use Rattle.fitting.specs.Fitting.{TriedEdge}

-- an item is tried, and a left edge is there
abbrev pub EdgeIn : Graph → PlannedRule → Trial → ℕ → Type 0
EdgeIn g r t k = TriedEdge (host_in g) r.bytes.now r.plan.now t.at.now t.item t.slot k
