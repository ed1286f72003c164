-- Document 01's case 14, 2147483647 + 1, from bytes, on either core. The run answers 6, since the label can't be held. By the published
-- semantics, whose integers have no bound, the program can't fail there: it can come to a graph, and each graph that it can come to
-- has a node labelled 2147483648. Rests on OneCall.
use Rattle.std.specs.Prelude.{ℕ, ◌*◌, ◌≡◌, false, [], ◌∷◌, ◌++◌, replicate, ℤ}
use Rattle.meaning.specs.Layout.{live, layout_of, record_length, write_node}
use Rattle.meaning.specs.Tags.{constant_tag, int_type, none_mark, sum_tag}
use Rattle.meaning.specs.Image.{Rule}
use Rattle.meaning.specs.Procedures.{Program, rule_set}
use Rattle.meaning.specs.Calls.{Lent}
use Rattle.meaning.specs.ProvedSet.{field_bytes, rule_field, node_field, variable_field, rule_set_field}
use Rattle.demands.specs.Fails.{host}
use Rattle.meaning.specs.declared.Layout.{Layout}
use Rattle.meaning.specs.declared.Core.{Core}
use Rattle.meaning.specs.declared.Operand.TheVariants.{Constant as constant_operand, Variable as variable_operand}
use Rattle.meaning.specs.declared.Element.TheVariants.{Variable, Sum}
use Rattle.published.specs.Integers.{atom}
use Rattle.published.specs.Graphs.{Graph, Node, graph_of}

-- x becomes x + 1, on a node labelled 2147483647
abbrev pub case14 : Layout → Lent
case14 L =
    record {
      nodes = write_node L (live (record { mark = none_mark; root = 0; label = 2147483647 ∷ [] }));
      edges = [];
      journal = replicate (8 * record_length L) 1;
      image =
          rule_field (1 ∷ []) (node_field 0 (variable_field 0))
          (node_field 0 (field_bytes sum_tag (variable_field 0 ++ field_bytes constant_tag (0 ∷ 0 ∷ 0 ∷ 1 ∷ []))))
          1
          ++ rule_set_field 0;
      fuel = 100;
      report = replicate 8 7;
    }

abbrev pub rule : Rule
rule =
    record {
      variables = int_type ∷ [];
      left = record { nodes = record { mark = none_mark; root = 0; label = Variable 0 ∷ [] } ∷ []; edges = [] };
      right = record { nodes = record { mark = none_mark; root = 0; label = Sum (variable_operand 0) (constant_operand 1) ∷ [] } ∷ []; edges = [] };
      interface = 1;
      tests = [];
      preserving = false;
    }

abbrev pub tree : Program
tree = record { rules = rule ∷ []; main = rule_set (0 ∷ []) }

-- the graph that the tables hold, and its one node's label

abbrev pub graph14 : Core → Graph
graph14 c = graph_of (host (layout_of c) (case14 (layout_of c)))

-- H has a node whose label is the integer z
abbrev pub Labelled : Graph → ℤ → Type 0
Labelled H z = (v : ℕ) × Node H v × ((H.node_label v).list ≡ atom z ∷ [])
