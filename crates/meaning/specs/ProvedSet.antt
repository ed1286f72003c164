-- The proved set: cases 1 to 12 and P of document 01, from bytes to bytes, and one claim that the call `run` gives what the
-- paper says. Rests on Basics, Numbers, Layout, Calls and Computing.
use Rattle.std.specs.Prelude.{◌≡◌, refl, List, [], ◌∷◌, ◌++◌, map, ℕ, ◌*◌, length, replicate}
use Rattle.meaning.specs.Basics.{padded}
use Rattle.meaning.specs.Numbers.{bytes}
use Rattle.meaning.specs.Layout.{base, node_length, edge_length, record_length}
use Rattle.meaning.specs.Calls.{Returned, run, answer_number, report_of, lending}
use Rattle.meaning.specs.Computing.{computing}

-- A case: what is lent, and what the paper expects. The journal is lent full of ones, the report full of sevens.

pub record Expected : Type 0 where
  pub answer : ℕ
  pub nodes : List ℕ
  pub edges : List ℕ
  pub journal : List ℕ
  pub report : List ℕ

pub record Case : Type 0 where
  pub nodes : List ℕ
  pub edges : List ℕ
  pub records : ℕ
  pub image : List ℕ
  pub fuel : ℕ
  pub expected : Expected

abbrev pub given : Case → Expected
given c =
    let l : Returned = run base (lending c.nodes c.edges (replicate (c.records * record_length base) 1) c.image c.fuel (replicate 8 7)) in
    record { answer = answer_number l.answer; nodes = l.nodes; edges = l.edges; journal = l.journal; report = l.report }

-- Bytes of slots and of records.

-- a live node; `label` is the byte of its length and its atoms
abbrev pub live_node : ℕ → ℕ → List ℕ → List ℕ
live_node mark root label = padded (node_length base) (1 ∷ mark ∷ root ∷ label)

abbrev pub free_node : List ℕ
free_node = replicate (node_length base) 0

-- a live edge, unmarked and unlabelled, between slots below 256
abbrev pub live_edge : ℕ → ℕ → List ℕ
live_edge source target = padded (edge_length base) (1 ∷ 0 ∷ 0 ∷ 0 ∷ 0 ∷ source ∷ 0 ∷ target ∷ [])

abbrev pub node_record : ℕ → List ℕ → List ℕ
node_record slot before = 1 ∷ 0 ∷ 0 ∷ slot ∷ padded (edge_length base) before

abbrev pub edge_record : ℕ → List ℕ → List ℕ
edge_record slot before = 2 ∷ 0 ∷ 0 ∷ slot ∷ padded (edge_length base) before

-- one unmarked, unlabelled, plain node, and the same in red
abbrev pub plain_node : List ℕ
plain_node = live_node 0 0 (0 ∷ [])

abbrev pub red_node : List ℕ
red_node = live_node 1 0 (0 ∷ [])

-- Bytes of images.

abbrev pub field_bytes : ℕ → List ℕ → List ℕ
field_bytes tag payload = tag ∷ bytes 2 (length payload) ++ payload

-- a rule of variables, left and right graph and interface, with no tests
abbrev pub rule_field : List ℕ → List ℕ → List ℕ → ℕ → List ℕ
rule_field variables left right k = field_bytes 0x10 (field_bytes 0x11 variables ++ field_bytes 0x12 left ++ field_bytes 0x13 right ++ field_bytes 0x14 (k ∷ []) ++ field_bytes 0x15 [])

abbrev pub node_field : ℕ → List ℕ → List ℕ
node_field mark label = field_bytes 0x20 (mark ∷ 0 ∷ label)

abbrev pub edge_field : ℕ → ℕ → List ℕ
edge_field source target = field_bytes 0x21 (0 ∷ source ∷ target ∷ [])

abbrev pub variable_field : ℕ → List ℕ
variable_field v = field_bytes 0x31 (v ∷ [])

abbrev pub rule_set_field : ℕ → List ℕ
rule_set_field i = field_bytes 0x50 (i ∷ [])

abbrev pub skip_field : List ℕ
skip_field = field_bytes 0x55 []

abbrev pub fail_field : List ℕ
fail_field = field_bytes 0x56 []

abbrev pub break_field : List ℕ
break_field = field_bytes 0x57 []

-- D deletes one unmarked, unlabelled, plain node; M marks such a node red.
abbrev pub deletes : List ℕ
deletes = rule_field [] (node_field 0 []) [] 0

abbrev pub marks_red : List ℕ
marks_red = rule_field [] (node_field 0 []) (node_field 1 []) 1

-- a left side of two such nodes
abbrev pub two_nodes : List ℕ
two_nodes = rule_field [] (node_field 0 [] ++ node_field 0 []) (node_field 0 [] ++ node_field 0 []) 2

-- one such node deleted and one added
abbrev pub replaces : List ℕ
replaces = rule_field [] (node_field 0 []) (node_field 0 []) 0

-- grey x to grey y into red x, blue x + y, with the edge turned round
abbrev pub turns : List ℕ
turns =
    rule_field (1 ∷ 1 ∷ [])
    (node_field 4 (variable_field 0) ++ node_field 4 (variable_field 1) ++ edge_field 0 1)
    (node_field 1 (variable_field 0) ++ node_field 3 (field_bytes 0x32 (variable_field 0 ++ variable_field 1)) ++ edge_field 1 0)
    2

-- What is expected, with 8 records lent.

abbrev pub no_result : ℕ → ℕ → List ℕ → List ℕ → Expected
no_result answer steps nodes edges =
    record { answer = answer; nodes = nodes; edges = edges; journal = replicate (8 * record_length base) 0; report = report_of steps 0 }

abbrev pub results : ℕ → ℕ → List ℕ → List ℕ → List ℕ → Expected
results steps records nodes edges journal =
    record { answer = 0; nodes = nodes; edges = edges; journal = padded (8 * record_length base) journal; report = report_of steps records }

abbrev pub on_plain_node : ℕ → List ℕ → Expected → Case
on_plain_node fuel image expected =
    record { nodes = plain_node; edges = []; records = 8; image = image; fuel = fuel; expected = expected }

abbrev pub cases : List Case
cases =
    -- 1, 2, 3: skip with fuel 1 and with none; a loop of skip with fuel 1,000
    on_plain_node 1 skip_field (results 1 0 plain_node [] [])
    ∷ on_plain_node 0 skip_field (no_result 2 0 plain_node [])
    ∷ on_plain_node 1000 (field_bytes 0x54 skip_field) (no_result 2 1000 plain_node [])
    -- 4: a loop of fail, a loop of break
    ∷ on_plain_node 100 (field_bytes 0x54 fail_field) (results 2 0 plain_node [] [])
    ∷ on_plain_node 100 (field_bytes 0x54 break_field) (results 2 0 plain_node [] [])
    -- 5: D, the node has a loop
    ∷ record { nodes = plain_node; edges = live_edge 0 0; records = 8; image = deletes ++ rule_set_field 0; fuel = 100; expected = no_result 1 1 plain_node (live_edge 0 0) }
    -- 6: D, isolated
    ∷ on_plain_node 100 (deletes ++ rule_set_field 0) (results 1 1 free_node [] (node_record 0 plain_node))
    -- 7: a left side of two nodes on one
    ∷ on_plain_node 100 (two_nodes ++ rule_set_field 0) (no_result 1 1 plain_node [])
    -- 8, 9: if and try M then skip else fail
    ∷ on_plain_node 100 (marks_red ++ field_bytes 0x59 (0 ∷ rule_set_field 0 ++ skip_field ++ fail_field)) (results 3 0 plain_node [] [])
    ∷ on_plain_node 100 (marks_red ++ field_bytes 0x59 (1 ∷ rule_set_field 0 ++ skip_field ++ fail_field)) (results 3 1 red_node [] (node_record 0 plain_node))
    -- 10, 11: a loop of (M; fail) and of (M; break)
    ∷ on_plain_node 100 (marks_red ++ field_bytes 0x54 (field_bytes 0x51 (rule_set_field 0 ++ fail_field))) (results 4 0 plain_node [] [])
    ∷ on_plain_node 100 (marks_red ++ field_bytes 0x54 (field_bytes 0x51 (rule_set_field 0 ++ break_field))) (results 4 1 red_node [] (node_record 0 plain_node))
    -- 12: delete one node and add one in a full table
    ∷ on_plain_node 100 (replaces ++ rule_set_field 0) (results 1 2 plain_node [] (node_record 0 plain_node ++ node_record 0 free_node))
    -- P: two grey nodes labelled 5 and 7, an edge from 0 to 1, 8 records, fuel 10
    ∷ record {
      nodes = live_node 4 0 (1 ∷ 0 ∷ 0 ∷ 0 ∷ 5 ∷ []) ++ live_node 4 0 (1 ∷ 0 ∷ 0 ∷ 0 ∷ 7 ∷ []);
      edges = live_edge 0 1;
      records = 8;
      image = turns ++ field_bytes 0x54 (rule_set_field 0);
      fuel = 10;
      expected =
          results 3 4
          (live_node 1 0 (1 ∷ 0 ∷ 0 ∷ 0 ∷ 5 ∷ []) ++ live_node 3 0 (1 ∷ 0 ∷ 0 ∷ 0 ∷ 12 ∷ []))
          (live_edge 1 0)
          (edge_record 0 (live_edge 0 1)
          ++ node_record 0 (live_node 4 0 (1 ∷ 0 ∷ 0 ∷ 0 ∷ 5 ∷ []))
          ++ node_record 1 (live_node 4 0 (1 ∷ 0 ∷ 0 ∷ 0 ∷ 7 ∷ []))
          ++ edge_record 0 (replicate (edge_length base) 0));
    }
    ∷ []

pub proved-set : map given cases ≡ map (λ c. c.expected) cases
unfolding computing
proved-set = refl
