-- The listings of case P of document 01, from the bytes of its image to its four lines, in the tables of each core; and one that is
-- refused. Rests on Listing.
use Rattle.std.specs.Prelude.{◌≡◌, refl, List, [], ◌∷◌, ◌++◌, ℕ}
use Rattle.meaning.specs.Computing.{computing}
use Rattle.meaning.specs.ProvedSet.{field_bytes, live_node, live_edge, turns, rule_set_field}
use Rattle.meaning.specs.declared.Core.{Core}
use Rattle.meaning.specs.declared.Core.TheVariants.{Wide, Small}
use Rattle.writing.specs.Words.{letters, digits, decimal, signed, mark_name, root_name}
use Rattle.writing.specs.Lines.{onward}
use Rattle.run_input.specs.Input.{nodes_tag, edges_tag, records_tag, fuel_tag, program_tag, input}
use Rattle.lines.specs.Lines.{node_line, edge_line, slot_line, live_lines, outcome}
use Rattle.listing.specs.Listing.{run_outcome, listed, listing}

-- two grey nodes labelled 5 and 7; those of the small core have 8 bytes
abbrev nodes_p : Core → List ℕ
nodes_p Wide = live_node 4 0 (1 ∷ 0 ∷ 0 ∷ 0 ∷ 5 ∷ []) ++ live_node 4 0 (1 ∷ 0 ∷ 0 ∷ 0 ∷ 7 ∷ [])
nodes_p Small = 1 ∷ 4 ∷ 0 ∷ 1 ∷ 0 ∷ 0 ∷ 0 ∷ 5 ∷ 1 ∷ 4 ∷ 0 ∷ 1 ∷ 0 ∷ 0 ∷ 0 ∷ 7 ∷ []

-- an edge from 0 to 1; that of the small core has 10 bytes
abbrev edges_p : Core → List ℕ
edges_p Wide = live_edge 0 1
edges_p Small = 1 ∷ 0 ∷ 0 ∷ 0 ∷ 0 ∷ 1 ∷ 0 ∷ 0 ∷ 0 ∷ 0 ∷ []

abbrev pub image_p : Core → List ℕ
image_p c =
    field_bytes nodes_tag (nodes_p c)
    ++ field_bytes edges_tag (edges_p c)
    ++ field_bytes records_tag (0 ∷ 8 ∷ [])
    ++ field_bytes fuel_tag (0 ∷ 0 ∷ 0 ∷ 10 ∷ [])
    ++ field_bytes program_tag (turns ++ field_bytes 0x54 (rule_set_field 0))

pub case_p_lem : (c : Core) → listing c (image_p c) ≡ letters "answer 0 steps 3 records 4\nnode 0 red plain 5\nnode 1 blue plain 12\nedge 0 1 0 none\n"
unfolding computing letters digits decimal signed mark_name root_name onward node_line edge_line slot_line live_lines outcome input run_outcome listed listing
case_p_lem Wide = refl
case_p_lem Small = refl

pub none-refused : (c : Core) → listing c [] ≡ letters "input refused\n"
unfolding computing input listed listing
none-refused c = refl

pub minus_one : signed 0xffffffff ≡ letters "-1"
unfolding computing letters digits decimal signed
minus_one = refl
