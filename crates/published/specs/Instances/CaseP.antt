-- Case P of document 01 (programs/case-p) on graphs in which at most one edge joins two grey nodes: its rule turns that edge and leaves
-- none. Its own graph is such a graph, so that what document 01 says of case P is all that can come of it, on either core.
-- Rests on Whence.
use Rattle.std.specs.Prelude.{◌≡◌, false, List, [], ◌∷◌, ◌++◌, ℕ}
use Rattle.meaning.specs.Layout.{Slot, live, Node, Edge as EdgeSlot}
use Rattle.meaning.specs.Image.{Rule}
use Rattle.meaning.specs.Procedures.{Program, rule_set, loop}
use Rattle.meaning.specs.ProvedSet.{field_bytes, rule_set_field, turns}
use Rattle.meaning.specs.Tags.{blue_mark, grey_mark, int_type, loop_tag, none_mark, red_mark}
use Rattle.meaning.specs.declared.Operand.TheVariants.{Variable as variable_operand}
use Rattle.meaning.specs.declared.Element.TheVariants.{Variable, Sum}
use Rattle.published.specs.Graphs.{Graph, Edge}

abbrev pub image : List ℕ
image = turns ++ field_bytes loop_tag (rule_set_field 0)

abbrev pub turn : Rule
turn =
    record {
      variables = int_type ∷ int_type ∷ [];
      left = record {
        nodes = record { mark = grey_mark; root = 0; label = Variable 0 ∷ [] } ∷ record { mark = grey_mark; root = 0; label = Variable 1 ∷ [] } ∷ [];
        edges = record { mark = none_mark; source = 0; target = 1; label = [] } ∷ [];
      };
      right = record {
        nodes =
            record { mark = red_mark; root = 0; label = Variable 0 ∷ [] }
            ∷ record { mark = blue_mark; root = 0; label = Sum (variable_operand 0) (variable_operand 1) ∷ [] }
            ∷ [];
        edges = record { mark = none_mark; source = 1; target = 0; label = [] } ∷ [];
      };
      interface = 2;
      tests = [];
      preserving = false;
    }

abbrev pub tree : Program
tree = record { rules = turn ∷ []; main = loop (rule_set (0 ∷ [])) }

-- e joins two grey nodes
pub record Grey (G : Graph) (e : ℕ) : Type 0 where
  pub edge : Edge G e
  pub source : (G.node_label (G.source e)).mark ≡ 4
  pub target : (G.node_label (G.target e)).mark ≡ 4

abbrev pub OneGreyEdge : Graph → Type 0
OneGreyEdge G = (e f : ℕ) → Grey G e → Grey G f → e ≡ f

-- Document 01's graph, in the tables of either core: nodes 0 and 1, grey and labelled 5 and 7, and an edge from 0 to 1.

abbrev pub node : ℕ → ℕ → Slot Node
node mark n = live (record { mark = mark; root = 0; label = n ∷ [] })

abbrev pub edge : ℕ → ℕ → Slot EdgeSlot
edge source target = live (record { mark = none_mark; source = source; target = target; label = [] })
