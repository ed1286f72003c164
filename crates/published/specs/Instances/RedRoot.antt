-- A loop over one rule that marks an unmarked, unlabelled root red, on graphs that have at most one root; and on one such graph.
-- Rests on Determined.
use Rattle.std.specs.Prelude.{false, List, [], ◌∷◌, ◌++◌, ℕ, ◌*◌, replicate}
use Rattle.meaning.specs.Tags.{loop_tag, node_tag, none_mark, red_mark}
use Rattle.meaning.specs.Layout.{base, record_length}
use Rattle.meaning.specs.Image.{Rule}
use Rattle.meaning.specs.Procedures.{Program, rule_set, loop}
use Rattle.meaning.specs.Calls.{Lent}
use Rattle.meaning.specs.ProvedSet.{field_bytes, rule_field, rule_set_field, live_node, plain_node}

abbrev pub image : List ℕ
image = rule_field [] (field_bytes node_tag (0 ∷ 1 ∷ [])) (field_bytes node_tag (1 ∷ 1 ∷ [])) 1 ++ field_bytes loop_tag (rule_set_field 0)

abbrev pub redden : Rule
redden =
    record {
      variables = [];
      left = record { nodes = record { mark = none_mark; root = 1; label = [] } ∷ []; edges = [] };
      right = record { nodes = record { mark = red_mark; root = 1; label = [] } ∷ []; edges = [] };
      interface = 1;
      tests = [];
      preserving = false;
    }

abbrev pub tree : Program
tree = record { rules = redden ∷ []; main = loop (rule_set (0 ∷ [])) }

-- Two nodes, the first a root: nothing but the root in red can come of it.

abbrev pub nodes : List ℕ
nodes = live_node 0 1 (0 ∷ []) ++ plain_node

abbrev pub two_nodes : Lent
two_nodes =
    record { nodes = nodes; edges = []; journal = replicate (8 * record_length base) 1; image = image; fuel = 10; report = replicate 8 7 }
