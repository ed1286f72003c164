-- A walk: the root goes along an edge to an unmarked node and leaves a red one behind, as long as it can. Where there is at most one root
-- and at most one edge leaves each node, there is one way to go. Rests on Determined.
use Rattle.std.specs.Prelude.{false, List, [], ◌∷◌, ◌++◌, ℕ, ◌*◌, replicate}
use Rattle.meaning.specs.Tags.{edge_tag, list_type, loop_tag, node_tag, none_mark, red_mark}
use Rattle.meaning.specs.Layout.{base, record_length}
use Rattle.meaning.specs.Image.{Rule}
use Rattle.meaning.specs.Procedures.{Program, rule_set, loop}
use Rattle.meaning.specs.Calls.{Lent}
use Rattle.meaning.specs.ProvedSet.{field_bytes, rule_field, variable_field, rule_set_field}
use Rattle.meaning.specs.ProvedSet.{field_bytes, rule_field, variable_field, rule_set_field, live_node, live_edge, plain_node}
use Rattle.meaning.specs.declared.Element.TheVariants.{Variable}

abbrev pub edge : List ℕ
edge = field_bytes edge_tag (0 ∷ 0 ∷ 1 ∷ variable_field 0)

abbrev pub image : List ℕ
image =
    rule_field (2 ∷ 2 ∷ 2 ∷ []) (field_bytes node_tag (0 ∷ 1 ∷ variable_field 1) ++ field_bytes node_tag (0 ∷ 0 ∷ variable_field 2) ++ edge)
    (field_bytes node_tag (1 ∷ 0 ∷ variable_field 1) ++ field_bytes node_tag (0 ∷ 1 ∷ variable_field 2) ++ edge) 2
    ++ field_bytes loop_tag (rule_set_field 0)

abbrev pub step : Rule
step =
    record {
      variables = list_type ∷ list_type ∷ list_type ∷ [];
      left = record {
        nodes = record { mark = none_mark; root = 1; label = Variable 1 ∷ [] } ∷ record { mark = none_mark; root = 0; label = Variable 2 ∷ [] } ∷ [];
        edges = record { mark = none_mark; source = 0; target = 1; label = Variable 0 ∷ [] } ∷ [];
      };
      right = record {
        nodes = record { mark = red_mark; root = 0; label = Variable 1 ∷ [] } ∷ record { mark = none_mark; root = 1; label = Variable 2 ∷ [] } ∷ [];
        edges = record { mark = none_mark; source = 0; target = 1; label = Variable 0 ∷ [] } ∷ [];
      };
      interface = 2;
      tests = [];
      preserving = false;
    }

abbrev pub tree : Program
tree = record { rules = step ∷ []; main = loop (rule_set (0 ∷ [])) }

-- Two nodes, the first a root, and an edge from it to the second: nothing can come of it but that the root is there.

abbrev pub nodes : List ℕ
nodes = live_node 0 1 (0 ∷ []) ++ plain_node

abbrev pub two_nodes : Lent
two_nodes =
    record { nodes = nodes; edges = live_edge 0 1; journal = replicate (8 * record_length base) 1; image = image; fuel = 10; report = replicate 8 7 }
