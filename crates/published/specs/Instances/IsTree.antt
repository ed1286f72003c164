-- The published program is-tree (programs/is-tree) on chains: at most one edge leaves each node, and at most one grey node is reached by
-- no edge from another node. There its rules init and push, which have many matches in general, have one at most.
-- Rests on Chains, Determined and Unchanged.
use Rattle.std.specs.Prelude.{true, false, List, [], ◌∷◌, ◌++◌, ℕ, ◌*◌, replicate}
use Rattle.meaning.specs.Tags.{any_mark, blue_mark, grey_mark, list_type, none_mark}
use Rattle.meaning.specs.Layout.{base, record_length}
use Rattle.meaning.specs.Image.{Rule}
use Rattle.meaning.specs.Procedures.{Program, rule_set, sequence, guarded, loop, skip, fail, called, no_more, then}
use Rattle.meaning.specs.Calls.{Lent}
use Rattle.meaning.specs.ProvedSet.{live_node, live_edge}
use Rattle.meaning.specs.declared.Element.TheVariants.{Variable}
use Rattle.meaning.specs.declared.Condition.TheVariants.{InDegree}

-- programs/is-tree/is-tree.gp2, assembled
abbrev pub image : List ℕ
image =
    0x10 ∷ 0x00 ∷ 0x2a ∷ 0x11 ∷ 0x00 ∷ 0x01 ∷ 0x02 ∷ 0x12 ∷ 0x00 ∷ 0x09 ∷ 0x20 ∷ 0x00 ∷ 0x06 ∷ 0x04 ∷ 0x00 ∷ 0x31 ∷
    0x00 ∷ 0x01 ∷ 0x00 ∷ 0x13 ∷ 0x00 ∷ 0x09 ∷ 0x20 ∷ 0x00 ∷ 0x06 ∷ 0x03 ∷ 0x01 ∷ 0x31 ∷ 0x00 ∷ 0x01 ∷ 0x00 ∷ 0x14 ∷
    0x00 ∷ 0x01 ∷ 0x01 ∷ 0x15 ∷ 0x00 ∷ 0x07 ∷ 0x41 ∷ 0x00 ∷ 0x04 ∷ 0x00 ∷ 0x00 ∷ 0x00 ∷ 0x00 ∷ 0x10 ∷ 0x00 ∷ 0x38 ∷
    0x11 ∷ 0x00 ∷ 0x03 ∷ 0x02 ∷ 0x02 ∷ 0x02 ∷ 0x12 ∷ 0x00 ∷ 0x1c ∷ 0x20 ∷ 0x00 ∷ 0x06 ∷ 0x03 ∷ 0x00 ∷ 0x31 ∷ 0x00 ∷
    0x01 ∷ 0x01 ∷ 0x20 ∷ 0x00 ∷ 0x06 ∷ 0x03 ∷ 0x01 ∷ 0x31 ∷ 0x00 ∷ 0x01 ∷ 0x02 ∷ 0x21 ∷ 0x00 ∷ 0x07 ∷ 0x00 ∷ 0x00 ∷
    0x01 ∷ 0x31 ∷ 0x00 ∷ 0x01 ∷ 0x00 ∷ 0x13 ∷ 0x00 ∷ 0x09 ∷ 0x20 ∷ 0x00 ∷ 0x06 ∷ 0x03 ∷ 0x01 ∷ 0x31 ∷ 0x00 ∷ 0x01 ∷
    0x01 ∷ 0x14 ∷ 0x00 ∷ 0x01 ∷ 0x01 ∷ 0x15 ∷ 0x00 ∷ 0x00 ∷ 0x10 ∷ 0x00 ∷ 0x4b ∷ 0x11 ∷ 0x00 ∷ 0x03 ∷ 0x02 ∷ 0x02 ∷
    0x02 ∷ 0x12 ∷ 0x00 ∷ 0x1c ∷ 0x20 ∷ 0x00 ∷ 0x06 ∷ 0x03 ∷ 0x01 ∷ 0x31 ∷ 0x00 ∷ 0x01 ∷ 0x01 ∷ 0x20 ∷ 0x00 ∷ 0x06 ∷
    0x04 ∷ 0x00 ∷ 0x31 ∷ 0x00 ∷ 0x01 ∷ 0x02 ∷ 0x21 ∷ 0x00 ∷ 0x07 ∷ 0x00 ∷ 0x00 ∷ 0x01 ∷ 0x31 ∷ 0x00 ∷ 0x01 ∷ 0x00 ∷
    0x13 ∷ 0x00 ∷ 0x1c ∷ 0x20 ∷ 0x00 ∷ 0x06 ∷ 0x03 ∷ 0x00 ∷ 0x31 ∷ 0x00 ∷ 0x01 ∷ 0x01 ∷ 0x20 ∷ 0x00 ∷ 0x06 ∷ 0x03 ∷
    0x01 ∷ 0x31 ∷ 0x00 ∷ 0x01 ∷ 0x02 ∷ 0x21 ∷ 0x00 ∷ 0x07 ∷ 0x00 ∷ 0x00 ∷ 0x01 ∷ 0x31 ∷ 0x00 ∷ 0x01 ∷ 0x00 ∷ 0x14 ∷
    0x00 ∷ 0x01 ∷ 0x02 ∷ 0x15 ∷ 0x00 ∷ 0x00 ∷ 0x10 ∷ 0x00 ∷ 0x2a ∷ 0x11 ∷ 0x00 ∷ 0x01 ∷ 0x02 ∷ 0x12 ∷ 0x00 ∷ 0x09 ∷
    0x20 ∷ 0x00 ∷ 0x06 ∷ 0x03 ∷ 0x01 ∷ 0x31 ∷ 0x00 ∷ 0x01 ∷ 0x00 ∷ 0x13 ∷ 0x00 ∷ 0x09 ∷ 0x20 ∷ 0x00 ∷ 0x06 ∷ 0x03 ∷
    0x01 ∷ 0x31 ∷ 0x00 ∷ 0x01 ∷ 0x00 ∷ 0x14 ∷ 0x00 ∷ 0x01 ∷ 0x01 ∷ 0x15 ∷ 0x00 ∷ 0x07 ∷ 0x41 ∷ 0x00 ∷ 0x04 ∷ 0x00 ∷
    0x00 ∷ 0x00 ∷ 0x01 ∷ 0x10 ∷ 0x00 ∷ 0x23 ∷ 0x11 ∷ 0x00 ∷ 0x01 ∷ 0x02 ∷ 0x12 ∷ 0x00 ∷ 0x09 ∷ 0x20 ∷ 0x00 ∷ 0x06 ∷
    0x06 ∷ 0x00 ∷ 0x31 ∷ 0x00 ∷ 0x01 ∷ 0x00 ∷ 0x13 ∷ 0x00 ∷ 0x09 ∷ 0x20 ∷ 0x00 ∷ 0x06 ∷ 0x06 ∷ 0x00 ∷ 0x31 ∷ 0x00 ∷
    0x01 ∷ 0x00 ∷ 0x14 ∷ 0x00 ∷ 0x01 ∷ 0x01 ∷ 0x15 ∷ 0x00 ∷ 0x00 ∷ 0x10 ∷ 0x00 ∷ 0x38 ∷ 0x11 ∷ 0x00 ∷ 0x02 ∷ 0x02 ∷
    0x02 ∷ 0x12 ∷ 0x00 ∷ 0x13 ∷ 0x20 ∷ 0x00 ∷ 0x06 ∷ 0x03 ∷ 0x01 ∷ 0x31 ∷ 0x00 ∷ 0x01 ∷ 0x01 ∷ 0x21 ∷ 0x00 ∷ 0x07 ∷
    0x00 ∷ 0x00 ∷ 0x00 ∷ 0x31 ∷ 0x00 ∷ 0x01 ∷ 0x00 ∷ 0x13 ∷ 0x00 ∷ 0x13 ∷ 0x20 ∷ 0x00 ∷ 0x06 ∷ 0x03 ∷ 0x01 ∷ 0x31 ∷
    0x00 ∷ 0x01 ∷ 0x01 ∷ 0x21 ∷ 0x00 ∷ 0x07 ∷ 0x00 ∷ 0x00 ∷ 0x00 ∷ 0x31 ∷ 0x00 ∷ 0x01 ∷ 0x00 ∷ 0x14 ∷ 0x00 ∷ 0x01 ∷
    0x01 ∷ 0x15 ∷ 0x00 ∷ 0x00 ∷ 0x17 ∷ 0x00 ∷ 0x16 ∷ 0x59 ∷ 0x00 ∷ 0x13 ∷ 0x01 ∷ 0x50 ∷ 0x00 ∷ 0x01 ∷ 0x01 ∷ 0x55 ∷
    0x00 ∷ 0x00 ∷ 0x51 ∷ 0x00 ∷ 0x08 ∷ 0x50 ∷ 0x00 ∷ 0x01 ∷ 0x02 ∷ 0x50 ∷ 0x00 ∷ 0x01 ∷ 0x03 ∷ 0x17 ∷ 0x00 ∷ 0x05 ∷
    0x50 ∷ 0x00 ∷ 0x02 ∷ 0x04 ∷ 0x05 ∷ 0x51 ∷ 0x00 ∷ 0x19 ∷ 0x50 ∷ 0x00 ∷ 0x01 ∷ 0x00 ∷ 0x54 ∷ 0x00 ∷ 0x04 ∷ 0x58 ∷
    0x00 ∷ 0x01 ∷ 0x00 ∷ 0x59 ∷ 0x00 ∷ 0x0b ∷ 0x00 ∷ 0x58 ∷ 0x00 ∷ 0x01 ∷ 0x01 ∷ 0x56 ∷ 0x00 ∷ 0x00 ∷ 0x55 ∷ 0x00 ∷
    0x00 ∷ []

-- a grey node that no edge reaches from another becomes a blue root
abbrev pub init : Rule
init =
    record {
      variables = list_type ∷ [];
      left = record { nodes = record { mark = grey_mark; root = 0; label = Variable 0 ∷ [] } ∷ []; edges = [] };
      right = record { nodes = record { mark = blue_mark; root = 1; label = Variable 0 ∷ [] } ∷ []; edges = [] };
      interface = 1;
      tests = record { negated = false; condition = InDegree 0 0 } ∷ [];
      preserving = false;
    }

-- the root, a leaf, goes, and the node above it becomes the root
abbrev pub prune : Rule
prune =
    record {
      variables = list_type ∷ list_type ∷ list_type ∷ [];
      left = record {
        nodes = record { mark = blue_mark; root = 0; label = Variable 1 ∷ [] } ∷ record { mark = blue_mark; root = 1; label = Variable 2 ∷ [] } ∷ [];
        edges = record { mark = none_mark; source = 0; target = 1; label = Variable 0 ∷ [] } ∷ [];
      };
      right = record { nodes = record { mark = blue_mark; root = 1; label = Variable 1 ∷ [] } ∷ []; edges = [] };
      interface = 1;
      tests = [];
      preserving = false;
    }

-- a grey node below the root becomes the root, blue
abbrev pub push : Rule
push =
    record {
      variables = list_type ∷ list_type ∷ list_type ∷ [];
      left = record {
        nodes = record { mark = blue_mark; root = 1; label = Variable 1 ∷ [] } ∷ record { mark = grey_mark; root = 0; label = Variable 2 ∷ [] } ∷ [];
        edges = record { mark = none_mark; source = 0; target = 1; label = Variable 0 ∷ [] } ∷ [];
      };
      right = record {
        nodes = record { mark = blue_mark; root = 0; label = Variable 1 ∷ [] } ∷ record { mark = blue_mark; root = 1; label = Variable 2 ∷ [] } ∷ [];
        edges = record { mark = none_mark; source = 0; target = 1; label = Variable 0 ∷ [] } ∷ [];
      };
      interface = 2;
      tests = [];
      preserving = false;
    }

-- asks whether one edge reaches the root
abbrev pub verify : Rule
verify =
    record {
      variables = list_type ∷ [];
      left = record { nodes = record { mark = blue_mark; root = 1; label = Variable 0 ∷ [] } ∷ []; edges = [] };
      right = record { nodes = record { mark = blue_mark; root = 1; label = Variable 0 ∷ [] } ∷ []; edges = [] };
      interface = 1;
      tests = record { negated = false; condition = InDegree 0 1 } ∷ [];
      preserving = false;
    }

-- asks for a node that is no root
abbrev pub match : Rule
match =
    record {
      variables = list_type ∷ [];
      left = record { nodes = record { mark = any_mark; root = 0; label = Variable 0 ∷ [] } ∷ []; edges = [] };
      right = record { nodes = record { mark = any_mark; root = 0; label = Variable 0 ∷ [] } ∷ []; edges = [] };
      interface = 1;
      tests = [];
      preserving = false;
    }

-- asks for a root with a loop
abbrev pub looped : Rule
looped =
    record {
      variables = list_type ∷ list_type ∷ [];
      left = record {
        nodes = record { mark = blue_mark; root = 1; label = Variable 1 ∷ [] } ∷ [];
        edges = record { mark = none_mark; source = 0; target = 0; label = Variable 0 ∷ [] } ∷ [];
      };
      right = record {
        nodes = record { mark = blue_mark; root = 1; label = Variable 1 ∷ [] } ∷ [];
        edges = record { mark = none_mark; source = 0; target = 0; label = Variable 0 ∷ [] } ∷ [];
      };
      interface = 1;
      tests = [];
      preserving = false;
    }

abbrev pub tree : Program
tree =
    record {
      rules = init ∷ prune ∷ push ∷ verify ∷ match ∷ looped ∷ [];
      main =
          sequence
          (then (rule_set (0 ∷ []))
          (then (loop (called (guarded true (rule_set (1 ∷ [])) skip (sequence (then (rule_set (2 ∷ [])) (then (rule_set (3 ∷ [])) no_more))))))
          (then (guarded false (called (rule_set (4 ∷ 5 ∷ []))) fail skip) no_more)));
    }

-- Two grey nodes and an edge from the first to the second, a tree: nothing can come of it but one blue root.

abbrev pub nodes : List ℕ
nodes = live_node 4 0 (0 ∷ []) ++ live_node 4 0 (0 ∷ [])

abbrev pub edges : List ℕ
edges = live_edge 0 1

abbrev pub two_nodes : Lent
two_nodes =
    record { nodes = nodes; edges = edges; journal = replicate (32 * record_length base) 1; image = image; fuel = 100; report = replicate 8 7 }
