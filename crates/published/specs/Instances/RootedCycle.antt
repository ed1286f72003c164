-- The published program is-cycle (programs/is-cycle) from its second command on, where one node has become the root: on graphs that
-- have at most one root. Each of its rules deletes the root, so that by the dangling condition the root's edges are those of the
-- rule, and red3 and red2 never match both. Its first command, which makes any grey node the root, has many results.
-- Rests on Determined and Unchanged.
use Rattle.std.specs.Prelude.{false, List, [], ◌∷◌, ℕ}
use Rattle.meaning.specs.Tags.{grey_mark, list_type, none_mark}
use Rattle.meaning.specs.Image.{Rule}
use Rattle.meaning.specs.Procedures.{Program, rule_set, sequence, guarded, loop, skip, fail, called, no_more, then}
use Rattle.meaning.specs.declared.Element.TheVariants.{Variable}

-- programs/is-cycle/is-cycle.gp2 without init, assembled
abbrev pub image : List ℕ
image =
    0x10 ∷ 0x00 ∷ 0x25 ∷ 0x11 ∷ 0x00 ∷ 0x02 ∷ 0x02 ∷ 0x02 ∷ 0x12 ∷ 0x00 ∷ 0x13 ∷ 0x20 ∷ 0x00 ∷ 0x06 ∷ 0x04 ∷ 0x01 ∷
    0x31 ∷ 0x00 ∷ 0x01 ∷ 0x01 ∷ 0x21 ∷ 0x00 ∷ 0x07 ∷ 0x00 ∷ 0x00 ∷ 0x00 ∷ 0x31 ∷ 0x00 ∷ 0x01 ∷ 0x00 ∷ 0x13 ∷ 0x00 ∷
    0x00 ∷ 0x14 ∷ 0x00 ∷ 0x01 ∷ 0x00 ∷ 0x15 ∷ 0x00 ∷ 0x00 ∷ 0x10 ∷ 0x00 ∷ 0x4d ∷ 0x11 ∷ 0x00 ∷ 0x04 ∷ 0x02 ∷ 0x02 ∷
    0x02 ∷ 0x02 ∷ 0x12 ∷ 0x00 ∷ 0x26 ∷ 0x20 ∷ 0x00 ∷ 0x06 ∷ 0x04 ∷ 0x01 ∷ 0x31 ∷ 0x00 ∷ 0x01 ∷ 0x02 ∷ 0x20 ∷ 0x00 ∷
    0x06 ∷ 0x04 ∷ 0x00 ∷ 0x31 ∷ 0x00 ∷ 0x01 ∷ 0x03 ∷ 0x21 ∷ 0x00 ∷ 0x07 ∷ 0x00 ∷ 0x00 ∷ 0x01 ∷ 0x31 ∷ 0x00 ∷ 0x01 ∷
    0x00 ∷ 0x21 ∷ 0x00 ∷ 0x07 ∷ 0x00 ∷ 0x01 ∷ 0x00 ∷ 0x31 ∷ 0x00 ∷ 0x01 ∷ 0x01 ∷ 0x13 ∷ 0x00 ∷ 0x13 ∷ 0x20 ∷ 0x00 ∷
    0x06 ∷ 0x04 ∷ 0x01 ∷ 0x31 ∷ 0x00 ∷ 0x01 ∷ 0x02 ∷ 0x21 ∷ 0x00 ∷ 0x07 ∷ 0x00 ∷ 0x00 ∷ 0x00 ∷ 0x31 ∷ 0x00 ∷ 0x01 ∷
    0x00 ∷ 0x14 ∷ 0x00 ∷ 0x01 ∷ 0x00 ∷ 0x15 ∷ 0x00 ∷ 0x00 ∷ 0x10 ∷ 0x00 ∷ 0x60 ∷ 0x11 ∷ 0x00 ∷ 0x05 ∷ 0x02 ∷ 0x02 ∷
    0x02 ∷ 0x02 ∷ 0x02 ∷ 0x12 ∷ 0x00 ∷ 0x2f ∷ 0x20 ∷ 0x00 ∷ 0x06 ∷ 0x04 ∷ 0x00 ∷ 0x31 ∷ 0x00 ∷ 0x01 ∷ 0x02 ∷ 0x20 ∷
    0x00 ∷ 0x06 ∷ 0x04 ∷ 0x00 ∷ 0x31 ∷ 0x00 ∷ 0x01 ∷ 0x04 ∷ 0x20 ∷ 0x00 ∷ 0x06 ∷ 0x04 ∷ 0x01 ∷ 0x31 ∷ 0x00 ∷ 0x01 ∷
    0x03 ∷ 0x21 ∷ 0x00 ∷ 0x07 ∷ 0x00 ∷ 0x00 ∷ 0x02 ∷ 0x31 ∷ 0x00 ∷ 0x01 ∷ 0x00 ∷ 0x21 ∷ 0x00 ∷ 0x07 ∷ 0x00 ∷ 0x02 ∷
    0x01 ∷ 0x31 ∷ 0x00 ∷ 0x01 ∷ 0x01 ∷ 0x13 ∷ 0x00 ∷ 0x1c ∷ 0x20 ∷ 0x00 ∷ 0x06 ∷ 0x04 ∷ 0x00 ∷ 0x31 ∷ 0x00 ∷ 0x01 ∷
    0x02 ∷ 0x20 ∷ 0x00 ∷ 0x06 ∷ 0x04 ∷ 0x01 ∷ 0x31 ∷ 0x00 ∷ 0x01 ∷ 0x04 ∷ 0x21 ∷ 0x00 ∷ 0x07 ∷ 0x00 ∷ 0x00 ∷ 0x01 ∷
    0x31 ∷ 0x00 ∷ 0x01 ∷ 0x00 ∷ 0x14 ∷ 0x00 ∷ 0x01 ∷ 0x02 ∷ 0x15 ∷ 0x00 ∷ 0x00 ∷ 0x10 ∷ 0x00 ∷ 0x23 ∷ 0x11 ∷ 0x00 ∷
    0x01 ∷ 0x02 ∷ 0x12 ∷ 0x00 ∷ 0x09 ∷ 0x20 ∷ 0x00 ∷ 0x06 ∷ 0x04 ∷ 0x00 ∷ 0x31 ∷ 0x00 ∷ 0x01 ∷ 0x00 ∷ 0x13 ∷ 0x00 ∷
    0x09 ∷ 0x20 ∷ 0x00 ∷ 0x06 ∷ 0x04 ∷ 0x00 ∷ 0x31 ∷ 0x00 ∷ 0x01 ∷ 0x00 ∷ 0x14 ∷ 0x00 ∷ 0x01 ∷ 0x01 ∷ 0x15 ∷ 0x00 ∷
    0x00 ∷ 0x17 ∷ 0x00 ∷ 0x0f ∷ 0x51 ∷ 0x00 ∷ 0x0c ∷ 0x54 ∷ 0x00 ∷ 0x05 ∷ 0x50 ∷ 0x00 ∷ 0x02 ∷ 0x02 ∷ 0x01 ∷ 0x50 ∷
    0x00 ∷ 0x01 ∷ 0x00 ∷ 0x17 ∷ 0x00 ∷ 0x0e ∷ 0x59 ∷ 0x00 ∷ 0x0b ∷ 0x00 ∷ 0x50 ∷ 0x00 ∷ 0x01 ∷ 0x03 ∷ 0x56 ∷ 0x00 ∷
    0x00 ∷ 0x55 ∷ 0x00 ∷ 0x00 ∷ 0x51 ∷ 0x00 ∷ 0x08 ∷ 0x58 ∷ 0x00 ∷ 0x01 ∷ 0x00 ∷ 0x58 ∷ 0x00 ∷ 0x01 ∷ 0x01 ∷ []

-- the root, with a loop, goes
abbrev pub red1 : Rule
red1 =
    record {
      variables = list_type ∷ list_type ∷ [];
      left = record {
        nodes = record { mark = grey_mark; root = 1; label = Variable 1 ∷ [] } ∷ [];
        edges = record { mark = none_mark; source = 0; target = 0; label = Variable 0 ∷ [] } ∷ [];
      };
      right = record { nodes = []; edges = [] };
      interface = 0;
      tests = [];
      preserving = false;
    }

-- the root and another node, with an edge each way, become a root with a loop
abbrev pub red2 : Rule
red2 =
    record {
      variables = list_type ∷ list_type ∷ list_type ∷ list_type ∷ [];
      left = record {
        nodes = record { mark = grey_mark; root = 1; label = Variable 2 ∷ [] } ∷ record { mark = grey_mark; root = 0; label = Variable 3 ∷ [] } ∷ [];
        edges =
            record { mark = none_mark; source = 0; target = 1; label = Variable 0 ∷ [] }
            ∷ record { mark = none_mark; source = 1; target = 0; label = Variable 1 ∷ [] }
            ∷ [];
      };
      right = record {
        nodes = record { mark = grey_mark; root = 1; label = Variable 2 ∷ [] } ∷ [];
        edges = record { mark = none_mark; source = 0; target = 0; label = Variable 0 ∷ [] } ∷ [];
      };
      interface = 0;
      tests = [];
      preserving = false;
    }

-- the root is cut out of a path of two edges, and its successor becomes the root
abbrev pub red3 : Rule
red3 =
    record {
      variables = list_type ∷ list_type ∷ list_type ∷ list_type ∷ list_type ∷ [];
      left = record {
        nodes =
            record { mark = grey_mark; root = 0; label = Variable 2 ∷ [] }
            ∷ record { mark = grey_mark; root = 0; label = Variable 4 ∷ [] }
            ∷ record { mark = grey_mark; root = 1; label = Variable 3 ∷ [] }
            ∷ [];
        edges =
            record { mark = none_mark; source = 0; target = 2; label = Variable 0 ∷ [] }
            ∷ record { mark = none_mark; source = 2; target = 1; label = Variable 1 ∷ [] }
            ∷ [];
      };
      right = record {
        nodes = record { mark = grey_mark; root = 0; label = Variable 2 ∷ [] } ∷ record { mark = grey_mark; root = 1; label = Variable 4 ∷ [] } ∷ [];
        edges = record { mark = none_mark; source = 0; target = 1; label = Variable 0 ∷ [] } ∷ [];
      };
      interface = 2;
      tests = [];
      preserving = false;
    }

-- asks for a node
abbrev pub match : Rule
match =
    record {
      variables = list_type ∷ [];
      left = record { nodes = record { mark = grey_mark; root = 0; label = Variable 0 ∷ [] } ∷ []; edges = [] };
      right = record { nodes = record { mark = grey_mark; root = 0; label = Variable 0 ∷ [] } ∷ []; edges = [] };
      interface = 1;
      tests = [];
      preserving = false;
    }

abbrev pub tree : Program
tree =
    record {
      rules = red1 ∷ red2 ∷ red3 ∷ match ∷ [];
      main =
          sequence
          (then (called (sequence (then (loop (rule_set (2 ∷ 1 ∷ []))) (then (rule_set (0 ∷ [])) no_more))))
          (then (called (guarded false (rule_set (3 ∷ [])) fail skip)) no_more));
    }

-- The sets.

abbrev pub cuts : List Rule
cuts = red3 ∷ red2 ∷ []
