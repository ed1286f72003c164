-- No application leaves a live edge on a free node: in tables that keep the layout, a rule whose references hold, applied at a
-- match, leaves both ends of every live edge live. It needs the dangling condition: a case shows where it would fail without.
-- Rests on Layout, References, Matching and Applying, on Laws/Attached, and for the case on ProvedSet and Computing.
use Rattle.std.specs.Prelude.{◌≡◌, true, false, List, [], ◌∷◌, ℕ}
use Rattle.meaning.specs.Layout.{base, Host, live_at, host_of}
use Rattle.meaning.specs.Image.{RuleNode, Rule}
use Rattle.meaning.specs.Matching.{edge_at}
use Rattle.meaning.specs.ProvedSet.{plain_node, live_edge}

-- both ends of every live edge are live
abbrev pub NoLooseEdge : Host → Type 0
NoLooseEdge h =
    (x : ℕ) → live_at h.edges x ≡ true
    → (live_at h.nodes (edge_at h x).source ≡ true) × (live_at h.nodes (edge_at h x).target ≡ true)

-- The case: document 01's case 5, a rule that deletes a node, placed at a node that has a loop.

abbrev pub looped : Host
looped = host_of base plain_node (live_edge 0 0)

abbrev pub plain : RuleNode
plain = record { mark = 0; root = 0; label = [] }

-- a plain node on the left, with these nodes on the right and this interface
abbrev pub on_plain : List RuleNode → ℕ → Rule
on_plain right k =
    record {
      variables = [];
      left = record { nodes = plain ∷ []; edges = [] };
      right = record { nodes = right; edges = [] };
      interface = k;
      tests = [];
      preserving = false;
    }

abbrev pub deletes_node : Rule
deletes_node = on_plain [] 0

abbrev pub keeps_node : Rule
keeps_node = on_plain (plain ∷ []) 1
