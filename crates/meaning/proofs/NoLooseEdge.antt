-- No application leaves a live edge on a free node: in tables that keep the layout, a rule whose references hold, applied at a
-- match, leaves both ends of every live edge live. It needs the dangling condition: a case shows where it would fail without.
-- Rests on Layout, References, Matching and Applying, on Laws/Attached, and for the case on ProvedSet and Computing.
use Rattle.std.specs.Prelude.{◌≡◌, refl, true, List, [], ◌∷◌, ℕ, zero, suc, ◌<◌, get_or}
use Rattle.std.proofs.Common.{inr, arith}
use Rattle.meaning.specs.Layout.{base, Slot, free, live, Node, Edge, is_live, live_at, Change, host_of, keeps_layout}
use Rattle.meaning.specs.Image.{Rule}
use Rattle.meaning.specs.References.{rule_holds}
use Rattle.meaning.specs.Matching.{edge_in, Match}
use Rattle.meaning.specs.Applying.{Ledger, ledger_at, changed, applied, apply}
use Rattle.meaning.specs.ProvedSet.{plain_node, live_edge}
use Rattle.meaning.specs.Computing.{computing}
use Rattle.meaning.specs.Laws.Slots.{OnLive}
use Rattle.meaning.specs.Laws.Attached.{Attached}
use Rattle.meaning.proofs.Laws.Attached.{layout_attached, applied_attached}
use Rattle.meaning.specs.declared.Layout.{Layout}
use Rattle.meaning.specs.NoLooseEdge.{NoLooseEdge, looped, deletes_node, keeps_node}

pub no_loose_edge : (L : Layout) (nodes edges : List ℕ) → keeps_layout L nodes edges ≡ true
    → (r : Rule) → rule_holds r ≡ true
    → (p : List ℕ) → Match (host_of L nodes edges) r p
    → (most room : ℕ) (journal : List (Change (Slot Node) (Slot Edge))) (g : Ledger)
    → apply most room r p (ledger_at (host_of L nodes edges) journal) ≡ applied g
    → NoLooseEdge g.host
unfolding is_live edge_in
no_loose_edge L nodes edges layout r holds p match most room journal g is x =
    at (get_or g.host.edges x free)
    (applied_attached most room r p (ledger_at (host_of L nodes edges) journal) g holds match (layout_attached L nodes edges layout) is x)
  where
    at : (s : Slot Edge) → OnLive (Attached g.host.nodes) s → is_live s ≡ true
        → (live_at g.host.nodes (edge_in s).source ≡ true) × (live_at g.host.nodes (edge_in s).target ≡ true)
    at free a e = let z : ◌≡◌ {A = ℕ} 0 1 = cc in absurd (omega arith)
    at (live e) a q = (a.source, a.target)

at_none : (P : ℕ → Type 0) (k : ℕ) → k < 0 → P k
at_none P k h = absurd (omega arith)

at_one : (P : ℕ → Type 0) → P 0 → (i : ℕ) → i < 1 → P i
at_one P p zero h = p
at_one P p (suc i) h = absurd (omega arith)

matches : Match looped keeps_node (0 ∷ [])
unfolding computing
matches =
    record {
      size = refl;
      nodes_live = at_one _ refl;
      edges_live = at_none _;
      nodes_apart = λ i j h k. absurd (omega arith);
      edges_apart = λ i j h k. absurd (omega arith);
      node_marks = at_one _ (inr refl);
      edge_marks = at_none _;
      roots = at_one _ refl;
      sources = at_none _;
      targets = at_none _;
      assignment = λ v. [];
      ints = λ v e. let z : ◌≡◌ {A = ℕ} 0 1 = cc in absurd (omega arith);
      node_labels = at_one _ refl;
      edge_labels = at_none _;
      dangling = λ x j l h k. absurd (omega arith);
      tests = refl;
    }

-- Host and rule are legal, and the rule's left side has a match there if the node is kept, so that the dangling condition alone
-- stands against it. Applied there all the same, the rule leaves the edge without its ends.
pub needs-dangling :
    (keeps_layout base plain_node (live_edge 0 0) ≡ true)
    × (rule_holds deletes_node ≡ true)
    × Match looped keeps_node (0 ∷ [])
    × (g : Ledger) × (apply base.atoms 1 deletes_node (0 ∷ []) (ledger_at looped []) ≡ applied g) × (NoLooseEdge g.host → ⊥)
unfolding computing
needs-dangling = (
  refl,
  refl,
  matches,
  changed deletes_node (0 ∷ []) (record { nodes = []; edges = [] }) (ledger_at looped []),
  refl,
  λ n.
      let z = (n 0 refl).0 in let w : ◌≡◌ {A = ℕ} 0 1 = cc in omega arith,
)
