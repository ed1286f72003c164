-- What the computed cases of carrying are made of: slots, what a refused carrying leaves, what a run is lent and is seen to leave, and a
-- program. Rests on the meaning's Layout, Calls, Carrying and ProvedSet, and on the demands' Demands.
use Rattle.std.specs.Prelude.{List, [], ◌∷◌, ◌++◌, ℕ, ◌*◌, length, replicate}
use Rattle.meaning.specs.Basics.{padded}
use Rattle.meaning.specs.Layout.{node_length, edge_length, record_length, atom_bytes}
use Rattle.meaning.specs.Calls.{Lent, lending}
use Rattle.meaning.specs.Carrying.{Carried}
use Rattle.meaning.specs.ProvedSet.{rule_field, node_field, variable_field, rule_set_field}
use Rattle.demands.specs.Demands.{Outcome}
use Rattle.meaning.specs.declared.Layout.{Layout}
use Rattle.meaning.specs.declared.Refusal.{Refusal}
use Rattle.meaning.specs.declared.Answer.TheVariants.{Refused}

-- a live node of a mark and a label
abbrev pub node : Layout → ℕ → List ℕ → List ℕ
node L mark label = padded (node_length L) (1 ∷ mark ∷ 0 ∷ length label ∷ atom_bytes label)

-- a live node with a root flag of 2, which no layout allows
abbrev pub bad_root : Layout → List ℕ
bad_root L = padded (node_length L) (1 ∷ 0 ∷ 2 ∷ [])

-- bytes, and so many slots, that are no part of a host
abbrev pub sevens : ℕ → List ℕ
sevens n = replicate n 7

abbrev pub seven_nodes : Layout → ℕ → List ℕ
seven_nodes L n = sevens (n * node_length L)

abbrev pub seven_edges : Layout → ℕ → List ℕ
seven_edges L n = sevens (n * edge_length L)

-- a refused carrying, and the tables that it was to write
abbrev pub leaves : Refusal → List ℕ → List ℕ → Carried
leaves w nodes edges = record { answer = Refused w; nodes = nodes; edges = edges }

-- a run on nodes alone, with room for so many records and fuel 10
abbrev pub lent : Layout → ℕ → List ℕ → List ℕ → Lent
lent L records image nodes = lending nodes [] (replicate (records * record_length L) 1) image 10 (sevens 8)

-- what a run answers, and leaves in the node table and in the report
abbrev pub seen : Outcome → ℕ × List ℕ × List ℕ
seen o = (o.answer, o.nodes, o.report)

-- a program that marks an unmarked node of any label red
abbrev pub reddens : List ℕ
reddens = rule_field (2 ∷ []) (node_field 0 (variable_field 0)) (node_field 1 (variable_field 0)) 1 ++ rule_set_field 0
