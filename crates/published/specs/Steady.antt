-- Programs that can come to one thing only. A rule set is steady relative to an invariant of graphs if it keeps it and gives one
-- graph up to isomorphism, if any, on the host graphs that have it. Where all rule sets that a program calls are steady, a graph
-- that has the invariant and that the program can bring to a result, or to fail, it can bring to nothing else: it can neither
-- diverge nor get stuck besides. The invariant is put into the likeness of graphs that Unique speaks of; a coarser likeness than
-- isomorphism will do too. Rests on Unique, Answers and SameMatch.
use Rattle.std.specs.Prelude.{List}
use Rattle.meaning.specs.Image.{Rule}
use Rattle.published.specs.Graphs.{Graph, HostGraph, Iso}
use Rattle.published.specs.RuleApplication.{Applied}
use Rattle.published.specs.Semantics.{ComSeq, Outcome, graph, fails, ⟦◌⟧}
use Rattle.published.specs.Answers.{Alike}
use Rattle.published.specs.Alike.{Same}

-- the same outcome up to isomorphism
abbrev pub SameOutcome : Outcome Graph → Outcome Graph → Type 0
SameOutcome X Y = Same Graph Alike X Y

-- P comes to one thing on G, up to a likeness
pub record Decided (P : ComSeq) (G : Graph) (◌~◌ : Graph → Graph → Type 0) : Type 0 where
  pub result : (H : Graph) → ⟦◌⟧ Graph Applied P G (graph H) → (X : Outcome Graph) → ⟦◌⟧ Graph Applied P G X → Same Graph ◌~◌ (graph H) X
  pub fail : ⟦◌⟧ Graph Applied P G fails → (X : Outcome Graph) → ⟦◌⟧ Graph Applied P G X → Same Graph ◌~◌ fails X

-- Any likeness of graphs will do that the rule sets keep in step: what R does to a graph it does to one that is like it, and all
-- that it makes of both is alike.
pub record Lockstep (◌~◌ : Graph → Graph → Type 0) (R : List Rule) : Type 0 where
  pub carry : (G G' H : Graph) → ◌~◌ G G' → Applied R G H → (H' : Graph) × ◌~◌ H H' × Applied R G' H'
  pub unique : (G G' H H' : Graph) → ◌~◌ G G' → Applied R G H → Applied R G' H' → ◌~◌ H H'

-- the invariant of all graphs
abbrev pub Always : Graph → Type 0
Always G = Unit {0}

module _ (Inv : Graph → Type 0) where
  -- the rule set R keeps the invariant, and where it holds gives one graph up to isomorphism, if it gives any
  pub record Steady (R : List Rule) : Type 0 where
    pub keeps : (G H : Graph) → HostGraph G → Inv G → Applied R G H → Inv H
    pub one : (G H H' : Graph) → HostGraph G → Inv G → Applied R G H → Applied R G H' → Iso H H'
