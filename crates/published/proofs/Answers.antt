-- What the interpreter answers, by the published semantics: over abstract graphs, with the published rule application, a graph
-- that it leaves is a possible result of the program, and a fail is a possible outcome; and the names of nodes and edges do not
-- matter to what a program can come to. Rests on Application, HostResult, Isomorphism, Results and Alike.
use Rattle.std.specs.Prelude.{ℕ, ◌^◌, ◌≤◌, ◌≡◌, List, map}
use Rattle.meaning.specs.Layout.{Host}
use Rattle.meaning.specs.Image.{Rule}
use Rattle.meaning.specs.Applying.{Ledger, applied, apply}
use Rattle.meaning.specs.Commands.{rule_at}
use Rattle.demands.specs.Inference.{NoMatch, FirstCalled}
use Rattle.meaning.specs.Calls.{Lent}
use Rattle.demands.specs.Demands.{Interpreter, Lendable, Demand1, Demand2}
use Rattle.laws.specs.Hosts.{LegalHost}
use Rattle.laws.specs.Legality.{LegalLedger}
use Rattle.laws.specs.LegalCommands.{LegalRules, legal-rule}
use Rattle.laws.specs.Undoing.{Numbered}
use Rattle.meaning.specs.declared.Layout.{Layout}
use Rattle.published.specs.Graphs.{Graph, HostGraph, graph_of}
use Rattle.published.specs.RuleApplication.{Applied}
use Rattle.published.proofs.Isomorphism.{iso-same, iso-back, applied-iso}
use Rattle.published.proofs.Application.{host-graph, first-applies, no_call}
use Rattle.published.proofs.HostResult.{applies-host}
use Rattle.published.specs.Semantics.{ComSeq, Outcome, graph, fails, ⟦◌⟧}
use Rattle.published.proofs.Results
use Rattle.published.specs.Results.{held}
use Rattle.published.proofs.Alike as Likeness
use Rattle.published.specs.Alike.{Calls, Same}
use Rattle.published.specs.Answers.{Alike}
use Rattle.published.specs.Answers as Defs

-- The answers.

module _ (L : Layout) where
  hit : (m n : ℕ) → m ≤ 256 ^ L.width → n ≤ 256 ^ L.width → (room : ℕ) (rules : List Rule) → LegalRules rules
      → (l : List ℕ) (r : Rule) (p : List ℕ) (g g' : Ledger) → LegalLedger L m n g → FirstCalled rules g.host l r p
      → apply L.atoms room r p g ≡ applied g' → Applied (map (rule_at rules) l) (graph_of g.host) (graph_of g'.host)
  hit m n few few' room rules legal l r p g g' k f a =
      first-applies rules legal L L.atoms room l r p g g' k.host f a

  miss : (rules : List Rule) → LegalRules rules → (l : List ℕ) (h : Host) → LegalHost L h → NoMatch rules h l → (H : Graph)
      → Applied (map (rule_at rules) l) (graph_of h) H → ⊥
  miss rules legal l h k n H a = no_call rules legal L h k l n H a

  abbrev Comes : Lent → Outcome Graph → Type 0
  Comes = Defs.Comes L

  module _ (numbered : Numbered L) (I : Interpreter) (first : Demand1 L I) (second : Demand2 L I) (x : Lent) (b : Lendable x) where
    -- where it answers 0, the graph that it leaves is a possible result
    pub result_published : (I.run x).answer ≡ 0 → Comes x (graph (held L graph_of (I.run x).nodes (I.run x).edges))
    result_published z = Results.result_published L Graph Applied graph_of hit miss numbered I first second x b z

    -- where it answers 1, the program can fail
    pub fail_published : (I.run x).answer ≡ 1 → Comes x fails
    fail_published z = Results.fail_published L Graph Applied graph_of hit miss numbered I first second x b z

    -- both graphs are host graphs
    pub came-host : (I.run x).answer ≤ 6 → HostGraph (held L graph_of x.nodes x.edges)
    came-host z = host-graph L _ (Results.came-legal L Graph Applied graph_of hit miss numbered I first second x b z)

    pub left-host : (I.run x).answer ≡ 0 → HostGraph (held L graph_of (I.run x).nodes (I.run x).edges)
    left-host z = host-graph L _ (Results.left-legal L Graph Applied graph_of hit miss numbered I first second x b z)

pub alike-back : (G H : Graph) → Alike G H → Alike H G
alike-back G H a = record { this = a.that; that = a.this; iso = iso-back G H a.this a.iso }

pub carry : (R : List Rule) → LegalRules R → (G G' H : Graph) → Alike G G' → Applied R G H → (H' : Graph) × Alike H H' × Applied R G' H'
carry R legal G G' H a x =
    let h = applies-host (rule_at R x.place) (legal-rule R legal x.place) G H a.this x.applies in
    let holds : (k : ℕ) → _ = λ k. (legal-rule R legal k).holds in
    (H, record { this = h; that = h; iso = iso-same H }, applied-iso R holds G G' H H a.this a.iso (iso-same H) x)

-- what a program whose rules are legal can come to on one of two isomorphic host graphs, it can come to on the other, up to
-- isomorphism
pub alike_outcomes : (P : ComSeq) → Calls LegalRules P → (G G' : Graph) → Alike G G' → (X : Outcome Graph) → ⟦◌⟧ Graph Applied P G X
    → (X' : Outcome Graph) × Same Graph Alike X X' × ⟦◌⟧ Graph Applied P G' X'
alike_outcomes P legal G G' a X p = Likeness.outcome-over Graph Applied LegalRules Alike alike-back carry P legal G G' a X p
