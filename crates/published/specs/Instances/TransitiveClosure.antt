-- The published program transitive-closure (programs/transitive-closure), on all host graphs. Its rule links two nodes by an edge, and
-- which pair it links first decides how the graph goes on; but another pair that could be linked still can be, and in either
-- order the same graph comes of it. Rests on Diamond and OneEdgeMore.
use Rattle.std.specs.Prelude.{true, false, List, [], ◌∷◌}
use Prim.Native.Nat.{ℕ}
use Rattle.meaning.specs.Tags.{list_type, none_mark}
use Rattle.meaning.specs.Image.{RuleNode, RuleEdge, Rule}
use Rattle.meaning.specs.Procedures.{Program, rule_set, loop}
use Rattle.meaning.specs.declared.Element.TheVariants.{Variable}
use Rattle.meaning.specs.declared.Condition.TheVariants.{Edge as edge_between}

-- programs/transitive-closure/transitive-closure.gp2, assembled
abbrev pub image : List ℕ
image =
    0x10 ∷ 0x00 ∷ 0x7f ∷ 0x11 ∷ 0x00 ∷ 0x05 ∷ 0x02 ∷ 0x02 ∷ 0x02 ∷ 0x02 ∷ 0x02 ∷ 0x12 ∷ 0x00 ∷ 0x2f ∷ 0x20 ∷ 0x00 ∷
    0x06 ∷ 0x00 ∷ 0x00 ∷ 0x31 ∷ 0x00 ∷ 0x01 ∷ 0x02 ∷ 0x20 ∷ 0x00 ∷ 0x06 ∷ 0x00 ∷ 0x00 ∷ 0x31 ∷ 0x00 ∷ 0x01 ∷ 0x03 ∷
    0x20 ∷ 0x00 ∷ 0x06 ∷ 0x00 ∷ 0x00 ∷ 0x31 ∷ 0x00 ∷ 0x01 ∷ 0x04 ∷ 0x21 ∷ 0x00 ∷ 0x07 ∷ 0x00 ∷ 0x00 ∷ 0x01 ∷ 0x31 ∷
    0x00 ∷ 0x01 ∷ 0x00 ∷ 0x21 ∷ 0x00 ∷ 0x07 ∷ 0x00 ∷ 0x01 ∷ 0x02 ∷ 0x31 ∷ 0x00 ∷ 0x01 ∷ 0x01 ∷ 0x13 ∷ 0x00 ∷ 0x35 ∷
    0x20 ∷ 0x00 ∷ 0x06 ∷ 0x00 ∷ 0x00 ∷ 0x31 ∷ 0x00 ∷ 0x01 ∷ 0x02 ∷ 0x20 ∷ 0x00 ∷ 0x06 ∷ 0x00 ∷ 0x00 ∷ 0x31 ∷ 0x00 ∷
    0x01 ∷ 0x03 ∷ 0x20 ∷ 0x00 ∷ 0x06 ∷ 0x00 ∷ 0x00 ∷ 0x31 ∷ 0x00 ∷ 0x01 ∷ 0x04 ∷ 0x21 ∷ 0x00 ∷ 0x07 ∷ 0x00 ∷ 0x00 ∷
    0x01 ∷ 0x31 ∷ 0x00 ∷ 0x01 ∷ 0x00 ∷ 0x21 ∷ 0x00 ∷ 0x07 ∷ 0x00 ∷ 0x01 ∷ 0x02 ∷ 0x31 ∷ 0x00 ∷ 0x01 ∷ 0x01 ∷ 0x21 ∷
    0x00 ∷ 0x03 ∷ 0x00 ∷ 0x00 ∷ 0x02 ∷ 0x14 ∷ 0x00 ∷ 0x01 ∷ 0x03 ∷ 0x15 ∷ 0x00 ∷ 0x06 ∷ 0x40 ∷ 0x00 ∷ 0x03 ∷ 0x01 ∷
    0x00 ∷ 0x02 ∷ 0x54 ∷ 0x00 ∷ 0x04 ∷ 0x50 ∷ 0x00 ∷ 0x01 ∷ 0x00 ∷ []

abbrev pub three : List RuleNode
three =
    record { mark = none_mark; root = 0; label = Variable 2 ∷ [] }
    ∷ record { mark = none_mark; root = 0; label = Variable 3 ∷ [] }
    ∷ record { mark = none_mark; root = 0; label = Variable 4 ∷ [] }
    ∷ []

abbrev pub first : RuleEdge
first = record { mark = none_mark; source = 0; target = 1; label = Variable 0 ∷ [] }

abbrev pub second : RuleEdge
second = record { mark = none_mark; source = 1; target = 2; label = Variable 1 ∷ [] }

-- from the first node of a path of two edges to its last, where no edge leads
abbrev pub link : Rule
link =
    record {
      variables = list_type ∷ list_type ∷ list_type ∷ list_type ∷ list_type ∷ [];
      left = record { nodes = three; edges = first ∷ second ∷ [] };
      right = record { nodes = three; edges = first ∷ second ∷ record { mark = none_mark; source = 0; target = 2; label = [] } ∷ [] };
      interface = 3;
      tests = record { negated = true; condition = edge_between 0 2 } ∷ [];
      preserving = false;
    }

abbrev pub tree : Program
tree = record { rules = link ∷ []; main = loop (rule_set (0 ∷ [])) }
