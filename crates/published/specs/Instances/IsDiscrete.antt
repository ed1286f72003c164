-- The published program is-discrete (programs/is-discrete) where the nodes that no edge touches are labelled alike: its rule del
-- deletes one of them, and it is the same which. Rests on Symmetric and Unchanged.
use Rattle.std.specs.Prelude.{◌≡◌, false, List, [], ◌∷◌, ℕ}
use Rattle.meaning.specs.Tags.{list_type, none_mark}
use Rattle.meaning.specs.Image.{Rule}
use Rattle.meaning.specs.Procedures.{Program, rule_set, sequence, guarded, loop, skip, fail, no_more, then}
use Rattle.meaning.specs.declared.Element.TheVariants.{Variable}
use Rattle.published.specs.Graphs.{Graph, Node}
use Rattle.published.specs.RuleApplication.{Applies}
use Rattle.published.specs.Families.Symmetric.{Lone}

-- programs/is-discrete/is-discrete.gp2, assembled
abbrev pub image : List ℕ
image =
    0x10 ∷ 0x00 ∷ 0x1a ∷ 0x11 ∷ 0x00 ∷ 0x01 ∷ 0x02 ∷ 0x12 ∷ 0x00 ∷ 0x09 ∷ 0x20 ∷ 0x00 ∷ 0x06 ∷ 0x00 ∷ 0x00 ∷ 0x31 ∷
    0x00 ∷ 0x01 ∷ 0x00 ∷ 0x13 ∷ 0x00 ∷ 0x00 ∷ 0x14 ∷ 0x00 ∷ 0x01 ∷ 0x00 ∷ 0x15 ∷ 0x00 ∷ 0x00 ∷ 0x10 ∷ 0x00 ∷ 0x23 ∷
    0x11 ∷ 0x00 ∷ 0x01 ∷ 0x02 ∷ 0x12 ∷ 0x00 ∷ 0x09 ∷ 0x20 ∷ 0x00 ∷ 0x06 ∷ 0x00 ∷ 0x00 ∷ 0x31 ∷ 0x00 ∷ 0x01 ∷ 0x00 ∷
    0x13 ∷ 0x00 ∷ 0x09 ∷ 0x20 ∷ 0x00 ∷ 0x06 ∷ 0x00 ∷ 0x00 ∷ 0x31 ∷ 0x00 ∷ 0x01 ∷ 0x00 ∷ 0x14 ∷ 0x00 ∷ 0x01 ∷ 0x01 ∷
    0x15 ∷ 0x00 ∷ 0x00 ∷ 0x51 ∷ 0x00 ∷ 0x15 ∷ 0x54 ∷ 0x00 ∷ 0x04 ∷ 0x50 ∷ 0x00 ∷ 0x01 ∷ 0x00 ∷ 0x59 ∷ 0x00 ∷ 0x0b ∷
    0x00 ∷ 0x50 ∷ 0x00 ∷ 0x01 ∷ 0x01 ∷ 0x56 ∷ 0x00 ∷ 0x00 ∷ 0x55 ∷ 0x00 ∷ 0x00 ∷ []

-- deletes an unmarked node
abbrev pub del : Rule
del =
    record {
      variables = list_type ∷ [];
      left = record { nodes = record { mark = none_mark; root = 0; label = Variable 0 ∷ [] } ∷ []; edges = [] };
      right = record { nodes = []; edges = [] };
      interface = 0;
      tests = [];
      preserving = false;
    }

-- asks for one
abbrev pub node : Rule
node =
    record {
      variables = list_type ∷ [];
      left = record { nodes = record { mark = none_mark; root = 0; label = Variable 0 ∷ [] } ∷ []; edges = [] };
      right = record { nodes = record { mark = none_mark; root = 0; label = Variable 0 ∷ [] } ∷ []; edges = [] };
      interface = 1;
      tests = [];
      preserving = false;
    }

abbrev pub tree : Program
tree =
    record {
      rules = del ∷ node ∷ [];
      main = sequence (then (loop (rule_set (0 ∷ []))) (then (guarded false (rule_set (1 ∷ [])) fail skip) no_more));
    }

-- nodes that no edge touches have the same label
abbrev pub LoneAlike : Graph → Type 0
LoneAlike G = (v w : ℕ) → Node G v → Node G w → Lone G v → Lone G w → G.node_label v ≡ G.node_label w

module _ (G H : Graph) (a : Applies del G H) where
  -- a node of H that no edge touches is such a node of G, with its label
  abbrev pub Was : ℕ → Type 0
  Was z = (v : ℕ) × Node G v × (H.node_label z ≡ G.node_label v) × (Lone H z → Lone G v)
