-- The theorem about applying rules: what the interpreter does to a host is, on the host's graph, the published rule application,
-- and where it finds no match there is no published application. Ours may have a match and no result, where a sum leaves 32 bits
-- or there is no room; the published application has one there. Rests on Application/Construction and OneResult.
pub mod Conditions
pub mod Matching
pub mod Values
pub mod Construction
use Rattle.std.specs.Prelude.{ℕ, ◌+◌, ◌<◌, ◌≤◌, ◌≡◌, ◌↔◌, true, List, length, get_or}
use Rattle.std.proofs.Common.{sym, ◌∙◌, arith}
use Rattle.std.proofs.Math.Option.{some, none}
use Rattle.std.proofs.lemmas.List.{length-map}
use Rattle.meaning.specs.Layout.{Slot, free, live, Node, Edge, Host, is_live, live_at, is_node_mark, is_edge_mark}
use Rattle.meaning.specs.Image.{Rule}
use Rattle.meaning.specs.Procedures.{rule_set}
use Rattle.meaning.specs.Matching.{node_in, edge_in, Match}
use Rattle.meaning.specs.Applying.{Ledger, applied, apply}
use Rattle.meaning.specs.Commands.{State, Chosen, rule_at, first_rule}
use Rattle.demands.specs.Inference
use Rattle.demands.specs.Inference.{NoMatch, FirstCalled, Does}
use Rattle.meaning.specs.Laws.Slots.{OnLive, live_at_lt}
use Rattle.meaning.specs.Laws.Attached.{Attached}
use Rattle.laws.specs.Hosts.{LegalNode, LegalEdge, LegalHost}
use Rattle.laws.specs.Pieces.{get_or-map_in}
use Rattle.laws.specs.References.{Sound}
use Rattle.laws.specs.Values.{LegalRule, assigned-words}
use Rattle.laws.specs.LegalCommands.{LegalRules, legal-rule, legal-sound}
use Rattle.demands.proofs.Laws.Inference.{called-none, none-called, called-some}
use Rattle.meaning.specs.declared.Layout.{Layout}
use Rattle.meaning.specs.declared.End.{End}
use Rattle.meaning.specs.declared.End.TheVariants.{Done, Failed}
use Rattle.published.specs.Graphs.{Graph, HostGraph, graph_of, Iso}
use Rattle.published.specs.RuleApplication.{Matches, Applies, Applied}
use Rattle.published.proofs.OneResult.{one-result}
use Rattle.published.proofs.Application.Matching.{placement, match-of, match-applies, no-match, constructed-back}
use Rattle.published.proofs.Application.Construction.{application_constructs}
use Rattle.published.specs.Application as Defs

-- A legal host's graph is a host graph.

pub host-graph : (L : Layout) (h : Host) → LegalHost L h → HostGraph (graph_of h)
unfolding is_live node_in edge_in
host-graph L h k =
    record {
      sources = λ e. source (get_or h.edges e free) (k.ends e);
      targets = λ e. target (get_or h.edges e free) (k.ends e);
      most = length h.nodes + length h.edges;
      nodes_finite = λ v l. omega (arith, live_at_lt h.nodes v l);
      edges_finite = λ e l. omega (arith, live_at_lt h.edges e l);
      node_marks = λ v. node_mark (get_or h.nodes v free) (k.nodes v);
      edge_marks = λ e. edge_mark (get_or h.edges e free) (k.edges e);
      roots = λ v. root (get_or h.nodes v free) (k.nodes v);
    }
  where
    source : (s : Slot Edge) → OnLive (Attached h.nodes) s → is_live s ≡ true → live_at h.nodes (edge_in s).source ≡ true
    source free a l = let z : ◌≡◌ {A = ℕ} 0 1 = cc in absurd (omega arith)
    source (live e) a l = a.source

    target : (s : Slot Edge) → OnLive (Attached h.nodes) s → is_live s ≡ true → live_at h.nodes (edge_in s).target ≡ true
    target free a l = let z : ◌≡◌ {A = ℕ} 0 1 = cc in absurd (omega arith)
    target (live e) a l = a.target

    node_mark : (s : Slot Node) → OnLive (LegalNode L) s → is_live s ≡ true → is_node_mark (node_in s).mark ≡ true
    node_mark free a l = let z : ◌≡◌ {A = ℕ} 0 1 = cc in absurd (omega arith)
    node_mark (live n) a l = a.mark

    edge_mark : (s : Slot Edge) → OnLive (LegalEdge L) s → is_live s ≡ true → is_edge_mark (edge_in s).mark ≡ true
    edge_mark free a l = let z : ◌≡◌ {A = ℕ} 0 1 = cc in absurd (omega arith)
    edge_mark (live e) a l = a.mark

    root : (s : Slot Node) → OnLive (LegalNode L) s → is_live s ≡ true → (node_in s).root ≤ 1
    root free a l = let z : ◌≡◌ {A = ℕ} 0 1 = cc in absurd (omega arith)
    root (live n) a l = a.root

-- One rule.

module _ (r : Rule) (rule : LegalRule r) where
  -- what the interpreter applies at a match is a published application
  pub applies : (L : Layout) (most room : ℕ) (p : List ℕ) (g g' : Ledger) → LegalHost L g.host → Match g.host r p
      → apply most room r p g ≡ applied g' → Applies r (graph_of g.host) (graph_of g'.host)
  applies L most room p g g' legal m e =
      match-applies g.host r rule L legal p m (graph_of g'.host)
      (application_constructs most room r rule p g g' m (assigned-words L g.host legal r p) e)

  -- a rule has no match exactly where it has no published match
  pub match-exactly : (L : Layout) (h : Host) → LegalHost L h → ((p : List ℕ) → Match h r p → ⊥) ↔ (Matches r (graph_of h) → ⊥)
  match-exactly L h legal = no-match h r rule L legal

  -- and then it has no published application
  pub no_application : (L : Layout) (h : Host) → LegalHost L h → ((p : List ℕ) → Match h r p → ⊥) → (H : Graph) → Applies r (graph_of h) H → ⊥
  no_application L h legal n H a = n (placement r (graph_of h) a.match.g) (match-of h r rule L legal a.match)

  -- every published application to a host's graph is what the interpreter does at the placement of its premorphism, up to
  -- isomorphism, where nothing hinders that
  pub every_application : (L : Layout) (most room : ℕ) (g g' : Ledger) → LegalHost L g.host → (H : Graph)
      (a : Applies r (graph_of g.host) H) → apply most room r (placement r (graph_of g.host) a.match.g) g ≡ applied g'
      → Iso (graph_of g'.host) H
  every_application L most room g g' legal H a e =
      one-result r rule.holds (graph_of g.host) (host-graph L g.host legal) a.match (graph_of g'.host) H
      (constructed-back g.host r rule L legal a.match (graph_of g'.host)
      (application_constructs most room r rule _ g g' (match-of g.host r rule L legal a.match) (assigned-words L g.host legal r _) e))
      a.constructed

-- Rule sets.

module _ (rules : List Rule) (legal_rules : LegalRules rules) where
  sound : (i : ℕ) → Sound (rule_at rules i)
  sound = legal-sound rules legal_rules

  abbrev called : List ℕ → List Rule
  called = Defs.called rules legal_rules

  pub called_at : (l : List ℕ) (i : ℕ) → i < length l → rule_at (called l) i ≡ rule_at rules (get_or l i 0)
  called_at l i h = get_or-map_in (rule_at rules) l i 0 _ h

  -- the first listed rule that has a match, applied at its first match
  pub first-applies : (L : Layout) (most room : ℕ) (l : List ℕ) (r : Rule) (p : List ℕ) (g g' : Ledger) → LegalHost L g.host
      → FirstCalled rules g.host l r p → apply most room r p g ≡ applied g' → Applied (called l) (graph_of g.host) (graph_of g'.host)
  first-applies L most room l r p g g' legal f a =
      let s : LegalRule r = rw f.rule (legal-rule rules legal_rules (get_or l f.place 0)) in
      let q : rule_at (called l) f.place ≡ r = called_at l f.place f.listed ∙ sym f.rule in
      record {
        place = f.place;
        listed = rw (length-map l (rule_at rules)) f.listed;
        applies = rw q (applies r s L most room p g g' legal f.match a);
      }

  -- what the interpreter does where a rule is found is a published application of the rule set
  pub set-applies : (L : Layout) (most room : ℕ) (l : List ℕ) (c : Chosen) (g g' : Ledger) → LegalHost L g.host
      → first_rule rules g.host l ≡ some c → apply most room c.rule c.slots g ≡ applied g'
      → Applied (called l) (graph_of g.host) (graph_of g'.host)
  set-applies L most room l c g g' legal e a =
      first-applies L most room l c.rule c.slots g g' legal (called-some rules sound g.host l c e) a

  -- no listed rule has a match exactly where none has a published match
  pub set-exactly : (L : Layout) (h : Host) → LegalHost L h → (l : List ℕ)
      → (first_rule rules h l ≡ none) ↔ ((i : ℕ) → i < length l → Matches (rule_at rules (get_or l i 0)) (graph_of h) → ⊥)
  set-exactly L h legal l = (
    λ e i k. (match-exactly _ (legal-rule rules legal_rules (get_or l i 0)) L h legal).0 (called-none rules sound h l e i k),
    λ n. none-called rules sound h l (λ i k. (match-exactly _ (legal-rule rules legal_rules (get_or l i 0)) L h legal).1 (n i k)),
  )

  -- and then there is no published application of the rule set
  pub no_call : (L : Layout) (h : Host) → LegalHost L h → (l : List ℕ) → NoMatch rules h l → (H : Graph) → Applied (called l) (graph_of h) H → ⊥
  no_call L h legal l n H a =
      let k : a.place < length l = rw (length-map l (rule_at rules)) at a.listed in
      no_application _ (legal-rule rules legal_rules (get_or l a.place 0)) L h legal (n a.place k) H (rw (called_at l a.place k) at a.applies)

  pub no-set_application : (L : Layout) (h : Host) → LegalHost L h → (l : List ℕ) → first_rule rules h l ≡ none → (H : Graph) → Applied (called l) (graph_of h) H → ⊥
  no-set_application L h legal l e = no_call L h legal l (called-none rules sound h l e)

  -- The same of the rules of inference: a rule call that succeeds is a published application, and one that fails has none.

  pub call-applies : (L : Layout) (most room : ℕ) {l : List ℕ} {s t : State} {e : End} → LegalHost L s.ledger.host
      → Does most room rules (rule_set l) s e t → e ≡ Done → Applied (called l) (graph_of s.ledger.host) (graph_of t.ledger.host)
  call-applies L most room legal (Inference.no_match n) q = let z : ◌≡◌ {A = ℕ} 0 1 = cc in absurd (omega arith)
  call-applies L most room legal (Inference.applies {l = l} {s = s} r p g f a v) q =
      rw v (first-applies L most room l r p s.ledger g legal f a)
  call-applies L most room legal (Inference.hinders r p w f a) q = let z : ◌≡◌ {A = ℕ} 0 1 = cc in absurd (omega arith)

  pub call-fails : (L : Layout) (most room : ℕ) {l : List ℕ} {s t : State} {e : End} → LegalHost L s.ledger.host
      → Does most room rules (rule_set l) s e t → e ≡ Failed → (H : Graph) → Applied (called l) (graph_of s.ledger.host) H → ⊥
  call-fails L most room legal (Inference.no_match {l = l} {s = s} n) q = no_call L s.ledger.host legal l n
  call-fails L most room legal (Inference.applies r p g f a v) q = let z : ◌≡◌ {A = ℕ} 0 1 = cc in absurd (omega arith)
  call-fails L most room legal (Inference.hinders r p w f a) q = let z : ◌≡◌ {A = ℕ} 0 1 = cc in absurd (omega arith)
