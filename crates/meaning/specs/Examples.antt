-- Further worked cases, computed from bytes to bytes: at each of them a likely mistake in the definitions would give another
-- outcome. Rests on Tags, Layout, Calls, ProvedSet and Computing, and on the code's Answer.
use Rattle.std.specs.Prelude.{◌≡◌, refl, List, [], ◌∷◌, ◌++◌, map, ℕ, zero, suc, ◌*◌, replicate}
use Rattle.meaning.specs.Layout.{base, edge_length, record_length}
use Rattle.meaning.specs.Tags.{rule_tag, procedure_tag, variables_tag, left_tag, right_tag, interface_tag, tests_tag, mode_tag, node_tag, constant_tag, sum_tag, in_degree_tag, out_degree_tag, sequence_tag, loop_tag, call_tag, guarded_tag}
use Rattle.meaning.specs.Calls.{Returned, run, undo, report_of, lending, lending_undo}
use Rattle.meaning.specs.ProvedSet.{Case, Expected, given, live_node, free_node, live_edge, node_record, edge_record, plain_node, red_node, field_bytes, rule_field, node_field, edge_field, variable_field, rule_set_field, marks_red, skip_field, fail_field, break_field, no_result, results, on_plain_node}
use Rattle.meaning.specs.Computing.{computing}
use Rattle.meaning.specs.declared.Answer.TheVariants.{Result}

abbrev free_edge : List ℕ
free_edge = replicate (edge_length base) 0

-- a node goes together with its loop
abbrev deletes_looped : List ℕ
deletes_looped = rule_field [] (node_field 0 [] ++ edge_field 0 0) [] 0

-- a rule of left and right graph, interface and tests, and what stands behind them
abbrev rule_with : List ℕ → List ℕ → ℕ → List ℕ → List ℕ → List ℕ
rule_with left right k tests behind =
    field_bytes rule_tag
    (field_bytes variables_tag []
    ++ field_bytes left_tag left
    ++ field_bytes right_tag right
    ++ field_bytes interface_tag (k ∷ [])
    ++ field_bytes tests_tag tests
    ++ behind)

-- M, under tests
abbrev marks_under : List ℕ → List ℕ
marks_under tests = rule_with (node_field 0 []) (node_field 1 []) 1 tests []

-- M, with a mode or what else stands behind its tests
abbrev marks_with : List ℕ → List ℕ
marks_with behind = rule_with (node_field 0 []) (node_field 1 []) 1 [] behind

abbrev mode_field : ℕ → List ℕ
mode_field mode = field_bytes mode_tag (mode ∷ [])

abbrev mode_before_tests : List ℕ
mode_before_tests =
    field_bytes rule_tag
    (field_bytes variables_tag []
    ++ field_bytes left_tag []
    ++ field_bytes right_tag []
    ++ field_bytes interface_tag (0 ∷ [])
    ++ mode_field 0
    ++ field_bytes tests_tag [])

-- a rule that preserves roots
abbrev preserving : List ℕ → List ℕ → ℕ → List ℕ
preserving left right k = rule_with left right k [] (mode_field 1)

-- an unmarked, unlabelled root of a rule
abbrev root_field : List ℕ
root_field = field_bytes node_tag (0 ∷ 1 ∷ [])

-- the test that a degree of the node, the in-degree or the out-degree by its tag, is n
abbrev degree_field : ℕ → ℕ → List ℕ
degree_field tag n = field_bytes tag (0 ∷ 0 ∷ 0 ∷ n ∷ [])

-- x becomes x + 1
abbrev adds : List ℕ
adds =
    rule_field (1 ∷ []) (node_field 0 (variable_field 0))
    (node_field 0 (field_bytes sum_tag (variable_field 0 ++ field_bytes constant_tag (0 ∷ 0 ∷ 0 ∷ 1 ∷ []))))
    1

-- a node comes
abbrev adds_node : List ℕ
adds_node = rule_field [] [] (node_field 0 []) 0

-- a root without mark and label
abbrev root_node : List ℕ
root_node = live_node 0 1 (0 ∷ [])

abbrev on_root : List ℕ → Expected → Case
on_root rule expected =
    record { nodes = root_node; edges = []; records = 8; image = rule ++ rule_set_field 0; fuel = 100; expected = expected }

-- the largest atom
abbrev largest : List ℕ
largest = live_node 0 0 (1 ∷ 127 ∷ 255 ∷ 255 ∷ 255 ∷ [])

abbrev procedure_field : List ℕ → List ℕ
procedure_field command = field_bytes procedure_tag command

abbrev call_field : ℕ → List ℕ
call_field i = field_bytes call_tag (i ∷ [])

-- a procedure of skip, and n more that each call the one before
abbrev chain : ℕ → List ℕ
chain zero = procedure_field skip_field
chain (suc n) = chain n ++ procedure_field (call_field n)

-- what is left on a plain node with 8 records where the call is refused
abbrev refuses : ℕ → Expected
refuses answer =
    record { answer = answer; nodes = plain_node; edges = []; journal = replicate (8 * record_length base) 1; report = report_of 0 0 }

abbrev examples : List Case
examples =
    -- no break stands in a guard, whatever stands around it
    on_plain_node 100 (field_bytes loop_tag (field_bytes guarded_tag (0 ∷ break_field ++ skip_field ++ skip_field))) (refuses 18)
    -- a guarded command has a byte of 0 or 1 in front; 0x52 and 0x53 are no commands
    ∷ on_plain_node 100 (field_bytes guarded_tag (2 ∷ skip_field ++ skip_field ++ skip_field)) (refuses 16)
    ∷ on_plain_node 100 (field_bytes guarded_tag (skip_field ++ skip_field ++ skip_field)) (refuses 16)
    ∷ on_plain_node 100 (field_bytes 0x52 (skip_field ++ skip_field ++ skip_field)) (refuses 16)
    ∷ on_plain_node 100 (field_bytes 0x53 (skip_field ++ skip_field ++ skip_field)) (refuses 16)
    -- a label that can't be held is answered before records that don't fit
    ∷ record {
      nodes = largest;
      edges = [];
      records = 0;
      image = adds ++ rule_set_field 0;
      fuel = 100;
      expected = record { answer = 6; nodes = largest; edges = []; journal = []; report = report_of 1 0 };
    }
    -- a free edge slot leaves no node
    ∷ record {
      nodes = plain_node;
      edges = free_edge;
      records = 8;
      image = marks_under (degree_field out_degree_tag 0) ++ rule_set_field 0;
      fuel = 100;
      expected = results 1 1 red_node free_edge (node_record 0 plain_node);
    }
    -- a loop leaves its node once and arrives there once
    ∷ record {
      nodes = plain_node;
      edges = live_edge 0 0;
      records = 8;
      image = marks_under (degree_field in_degree_tag 1 ++ degree_field out_degree_tag 1) ++ rule_set_field 0;
      fuel = 100;
      expected = results 1 1 red_node (live_edge 0 0) (node_record 0 plain_node);
    }
    -- and is one edge there, so that both can go
    ∷ record {
      nodes = plain_node;
      edges = live_edge 0 0;
      records = 8;
      image = deletes_looped ++ rule_set_field 0;
      fuel = 100;
      expected = results 1 2 free_node free_edge (edge_record 0 (live_edge 0 0) ++ node_record 0 plain_node);
    }
    -- document 01's case 13: a node comes, and the table is full
    ∷ on_plain_node 100 (adds_node ++ rule_set_field 0) (no_result 3 1 plain_node [])
    -- case 14: the largest atom and 1
    ∷ record { nodes = largest; edges = []; records = 8; image = adds ++ rule_set_field 0; fuel = 100; expected = no_result 6 1 largest [] }
    -- case 15: M, and the node is a root; the same with its mode written out
    ∷ on_root marks_red (no_result 1 1 root_node [])
    ∷ on_root (marks_with (mode_field 0)) (no_result 1 1 root_node [])
    -- a preserving rule takes the root where its left node is none, and it stays a root
    ∷ on_root (marks_with (mode_field 1)) (results 1 1 (live_node 1 1 (0 ∷ [])) [] (node_record 0 root_node))
    -- a left root still needs one, and a right node that is none makes it plain
    ∷ on_plain_node 100 (preserving root_field (node_field 0 []) 1 ++ rule_set_field 0) (no_result 1 1 plain_node [])
    ∷ on_root (preserving root_field (node_field 0 []) 1) (results 1 1 plain_node [] (node_record 0 root_node))
    -- a new node has the right side's flag, also where a node of its number goes
    ∷ on_root (preserving (node_field 0 []) (node_field 0 []) 0) (results 1 2 plain_node [] (node_record 0 root_node ++ node_record 0 free_node))
    -- a mode is one byte of 0 or 1, and there is one at most, behind the tests
    ∷ on_plain_node 100 (marks_with (mode_field 2) ++ rule_set_field 0) (refuses 16)
    ∷ on_plain_node 100 (marks_with (field_bytes mode_tag (1 ∷ 0 ∷ [])) ++ rule_set_field 0) (refuses 16)
    ∷ on_plain_node 100 (marks_with (field_bytes mode_tag []) ++ rule_set_field 0) (refuses 16)
    ∷ on_plain_node 100 (marks_with (mode_field 0 ++ mode_field 0) ++ rule_set_field 0) (refuses 16)
    ∷ on_plain_node 100 (mode_before_tests ++ rule_set_field 0) (refuses 16)
    -- entering a call costs a step; then its procedure's command is entered
    ∷ on_plain_node 2 (procedure_field skip_field ++ call_field 0) (results 2 0 plain_node [] [])
    ∷ on_plain_node 1 (procedure_field skip_field ++ call_field 0) (no_result 2 1 plain_node [])
    ∷ on_plain_node 0 (procedure_field skip_field ++ call_field 0) (no_result 2 0 plain_node [])
    -- a loop of a call of (M; fail) is undone, and one of (M; loop of break) leaves its own loop alone
    ∷ on_plain_node 100 (marks_red ++ procedure_field (field_bytes sequence_tag (rule_set_field 0 ++ fail_field)) ++ field_bytes loop_tag (call_field 0)) (results 5 0 plain_node [] [])
    ∷ on_plain_node 100 (marks_red ++ procedure_field (field_bytes sequence_tag (rule_set_field 0 ++ field_bytes loop_tag break_field)) ++ field_bytes loop_tag (call_field 0)) (results 9 1 red_node [] (node_record 0 plain_node))
    -- a procedure is one command, a call one byte, and there are 16 procedures at most, behind the rules
    ∷ on_plain_node 100 (procedure_field (skip_field ++ skip_field) ++ call_field 0) (refuses 16)
    ∷ on_plain_node 100 (procedure_field [] ++ call_field 0) (refuses 16)
    ∷ on_plain_node 100 (procedure_field skip_field ++ field_bytes call_tag (0 ∷ 0 ∷ [])) (refuses 16)
    ∷ on_plain_node 100 (procedure_field skip_field ++ field_bytes call_tag []) (refuses 16)
    ∷ on_plain_node 100 (procedure_field skip_field ++ marks_red ++ call_field 0) (refuses 16)
    ∷ on_plain_node 100 (chain 15 ++ procedure_field skip_field ++ skip_field) (refuses 16)
    -- a procedure that is called exists, also from one that nothing calls
    ∷ on_plain_node 100 (procedure_field skip_field ++ call_field 1) (refuses 17)
    ∷ on_plain_node 100 (procedure_field (call_field 1) ++ skip_field) (refuses 17)
    -- the caller's loop is no loop for a break in a procedure
    ∷ on_plain_node 100 (procedure_field break_field ++ field_bytes loop_tag (call_field 0)) (refuses 18)
    -- calls in a ring, whether anything calls into it or not; and calls too deep by one
    ∷ on_plain_node 100 (procedure_field (call_field 0) ++ skip_field) (refuses 19)
    ∷ on_plain_node 100 (procedure_field (call_field 1) ++ procedure_field (call_field 0) ++ call_field 0) (refuses 19)
    ∷ on_plain_node 100 (chain 15 ++ call_field 15) (refuses 19)
    ∷ on_plain_node 100 (chain 15 ++ call_field 14) (results 16 0 plain_node [] [])
    ∷ []

pub as_expected : map given examples ≡ map (λ c. c.expected) examples
unfolding computing
as_expected = refl

-- a report of another length than 8 is left as it came
pub short-report : (run base (lending plain_node [] [] skip_field 1 (7 ∷ []))).report ≡ 7 ∷ []
unfolding computing
short-report = refl

-- undo puts the counted records back from last to first, and zeros them: the slot was plain, then red, and is free
abbrev restored : Returned
restored =
    record { answer = Result; nodes = plain_node; edges = []; journal = replicate (2 * record_length base) 0; report = report_of 0 2 }

pub records-back : undo base (lending_undo free_node [] (node_record 0 plain_node ++ node_record 0 red_node) 2 (replicate 8 7)) ≡ restored
unfolding computing
records-back = refl
