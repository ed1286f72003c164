-- Texts imported and tables exported, computed: a small graph both ways, what the grammar allows and what it does not, and each refusal.
-- At document 01's layout, unless a layout is named. Rests on the meaning's Computing, on writing's Words, and on Text and what that rests on.
use Rattle.std.specs.Prelude.{◌≡◌, refl, List, [], ◌∷◌, ◌++◌, ℕ, replicate}
use Rattle.meaning.specs.Layout.{Slot, free, live, Node, Edge, base, write_nodes, write_edges}
use Rattle.meaning.specs.Computing.{computing}
use Rattle.meaning.specs.declared.Layout.{Layout}
use Rattle.meaning.specs.declared.Refusal.{Refusal}
use Rattle.meaning.specs.declared.Refusal.TheVariants.{NodeTableLength, EdgeTableLength, BadHost, BadText, BadNames, TextDoesNotFit, BufferTooShort}
use Rattle.meaning.specs.declared.Answer.TheVariants.{Result, Refused}
use Rattle.writing.specs.Words as Writing
use Rattle.writing.specs.Words.{letters}
use Rattle.text.specs.Words
use Rattle.text.specs.Spacing
use Rattle.text.specs.Integers
use Rattle.text.specs.Grammar
use Rattle.text.specs.Text
use Rattle.text.specs.Text.{import_text, export_text, text_of}

-- opens every definition of texts
unfoldable pub reading : Unit {0}
unfolding computing Writing.letters Writing.digits Writing.decimal Words.within Words.is_digit Words.is_letter Words.is_white Words.begun Words.next Words.is_sign Words.signs Words.told Words.last Words.words_in Words.same_word Spacing.spell Spacing.opens Spacing.closes Spacing.before Spacing.gap Spacing.onward Spacing.text Integers.integer_of Integers.value_from Integers.is_atom Integers.atom Grammar.index Grammar.known Grammar.marks Grammar.all_then Grammar.maybe_then Grammar.integer_then Grammar.next_then Grammar.list_then Grammar.mark_then Grammar.label_then Grammar.fraction_then Grammar.coordinate_then Grammar.position_then Grammar.root_then Grammar.node_then Grammar.edge_then Grammar.graph_words Grammar.◌>>=◌ Grammar.begins Grammar.expect Grammar.optional Grammar.named Grammar.many Grammar.integer Grammar.next_integer Grammar.integers Grammar.list Grammar.a_mark Grammar.label Grammar.a_fraction Grammar.coordinate Grammar.a_position Grammar.a_root Grammar.node_body Grammar.node Grammar.edge_body Grammar.edge Grammar.ended Grammar.graph Text.to_node Text.to_edge Text.filled Text.node_item Text.edge_item Text.numbered Text.apart Text.names_hold Text.at_most Text.label_fits Text.labels_fit Text.found Text.placed Text.export_on Text.names_pass Text.fits Text.text_checks Text.import_refusal Text.tables_of Text.import_on Text.import_text Text.text_of Text.export_refusal Text.export_text
reading = tt

node : ℕ → ℕ → List ℕ → Slot Node
node mark root label = live (record { mark = mark; root = root; label = label })

edge : ℕ → ℕ → ℕ → List ℕ → Slot Edge
edge mark s t label = live (record { mark = mark; source = s; target = t; label = label })

-- three node slots and two edge slots, with holes
nodes : List ℕ
nodes = write_nodes base (free ∷ node 1 1 (7 ∷ 0xffffffff ∷ []) ∷ node 0 0 [] ∷ [])

edges : List ℕ
edges = write_edges base (free ∷ edge 5 2 1 (12 ∷ []) ∷ [])

-- closed up
closed_nodes : List ℕ
closed_nodes = write_nodes base (node 1 1 (7 ∷ 0xffffffff ∷ []) ∷ node 0 0 [] ∷ free ∷ [])

closed_edges : List ℕ
closed_edges = write_edges base (edge 5 1 0 (12 ∷ []) ∷ free ∷ [])

written : List ℕ
written = letters "[\n  (1(R), 7:-1 # red)\n  (2, empty)\n|\n  (1, 2, 1, 12 # dashed)\n]\n"

-- opens the tables too
unfoldable opened : Unit {0}
unfolding reading node edge nodes edges closed_nodes closed_edges written
opened = tt

-- A graph both ways: its text, the buffer that it is in, and the tables that it is read into.

its-text : text_of base nodes edges ≡ written
unfolding opened
its-text = refl

exported : export_text base nodes edges (replicate 67 9) ≡ record { answer = Result; length = 65; buffer = written ++ 9 ∷ 9 ∷ [] }
unfolding opened
exported = refl

imported : import_text base written nodes edges ≡ record { answer = Result; nodes = closed_nodes; edges = closed_edges }
unfolding opened
imported = refl

-- What the grammar allows.

-- any white space and comments of both kinds, or nothing where words part by themselves; positions, with and without a fraction
free-form : import_text base
    (letters "[(x(R),7#grey)// a node\n\t( y , - 1 # red <1,-2.50> ) < 0 , 3 >|/* two\r\n lines, * and ** / */( e,x , y,empty)]//")
    nodes edges
    ≡ record {
      answer = Result;
      nodes = write_nodes base (node 4 1 (7 ∷ []) ∷ node 1 0 (0xffffffff ∷ []) ∷ free ∷ []);
      edges = write_edges base (edge 0 0 1 [] ∷ free ∷ []);
    }
unfolding opened
free-form = refl

-- leading zeros, minus zero, the least atom and the greatest
numbers : import_text base (letters "[ (1, 0007:-0:-007:-2147483648:2147483647:000000000000001) | ]") nodes edges
    ≡ record {
      answer = Result;
      nodes = write_nodes base (node 0 0 (7 ∷ 0 ∷ 0xfffffff9 ∷ 0x80000000 ∷ 0x7fffffff ∷ 1 ∷ []) ∷ free ∷ free ∷ []);
      edges = replicate 80 0;
    }
unfolding opened
numbers = refl

-- words of the grammar as names; 1 and 01 are two names, and so are those of a node and an edge
names : import_text base (letters "[ (R(R), empty) (1, empty) (01, empty) | (1, 01, R, empty) (empty, 1, 1, empty) ]") nodes edges
    ≡ record {
      answer = Result;
      nodes = write_nodes base (node 0 1 [] ∷ node 0 0 [] ∷ node 0 0 [] ∷ []);
      edges = write_edges base (edge 0 2 0 [] ∷ edge 0 1 1 [] ∷ []);
    }
unfolding opened
names = refl

no-graph : import_text base (letters "[|]") nodes edges ≡ record { answer = Result; nodes = replicate 108 0; edges = replicate 80 0 }
unfolding opened
no-graph = refl

-- Refusals leave the tables as they were, whatever was in them.

-- the text is refused, by three node slots and two edge slots
abbrev Refuses : Refusal → List ℕ → Type 0
Refuses w bs =
    import_text base bs (replicate 108 9) (replicate 80 9)
    ≡ record { answer = Refused w; nodes = replicate 108 9; edges = replicate 80 9 }

-- nothing; cut short; with something behind; a bracket in a comment
bad_graphs : Refuses BadText []
    × Refuses BadText (letters "[ (1, empty) | ")
    × Refuses BadText (letters "[ | ] ]")
    × Refuses BadText (letters "[ | // ]")
unfolding opened
bad_graphs = (refl, refl, refl, refl)

-- a comment without its end, and one whose only star begins it; a slash; a comment that parts two words
bad_comments : Refuses BadText (letters "[ | ] /* *")
    × Refuses BadText (letters "[ | ] /*/")
    × Refuses BadText (letters "[ | ] /")
    × Refuses BadText (letters "[ (1/**/2, empty) | ]")
unfolding opened
bad_comments = (refl, refl, refl, refl)

-- a string; a plus; a name for an integer; a list behind empty; a list without its end; a fraction; two minuses
bad-lists : Refuses BadText (letters "[ (1, \"a\") | ]")
    × Refuses BadText (letters "[ (1, +1) | ]")
    × Refuses BadText (letters "[ (1, 5x) | ]")
    × Refuses BadText (letters "[ (1, empty:1) | ]")
    × Refuses BadText (letters "[ (1, 1:) | ]")
    × Refuses BadText (letters "[ (1, 1.5) | ]")
    × Refuses BadText (letters "[ (1, --1) | ]")
unfolding opened
bad-lists = (refl, refl, refl, refl, refl, refl, refl)

-- mark any; mark none; a mark behind a position; no identifier; another word for a root; an edge with a position
bad-items : Refuses BadText (letters "[ (1, 5 # any) | ]")
    × Refuses BadText (letters "[ (1, 5 # none) | ]")
    × Refuses BadText (letters "[ (1, 5 <1,2> # red) | ]")
    × Refuses BadText (letters "[ (, 5) | ]")
    × Refuses BadText (letters "[ (1(r), 5) | ]")
    × Refuses BadText (letters "[ (1, 5) | (1, 1, 1, 5 <1,2>) ]")
unfolding opened
bad-items = (refl, refl, refl, refl, refl, refl)

-- a node's identifier twice, an edge's, a source and a target that isn't there, and four nodes where three fit: 24 applies to each too
bad-names : Refuses BadNames (letters "[ (1, 2147483648) (1, empty) | ]")
    × Refuses BadNames (letters "[ (1, 1:2:3:4:5:6:7:8:9) | (1, 1, 1, empty) (1, 1, 1, empty) ]")
    × Refuses BadNames (letters "[ (1, empty # dashed) | (1, 2, 1, empty) ]")
    × Refuses BadNames (letters "[ (1, empty) | (1, 1, 01, empty # grey) ]")
    × Refuses BadNames (letters "[ (1, empty) (2, empty) (3, empty) (3, empty) | ]")
unfolding opened
bad-names = (refl, refl, refl, refl, refl)

-- atoms, a label and marks that can't be held; too many nodes and too many edges
too_much : Refuses TextDoesNotFit (letters "[ (1, 2147483648) | ]")
    × Refuses TextDoesNotFit (letters "[ (1, -2147483649) | ]")
    × Refuses TextDoesNotFit (letters "[ (1, 1:2:3:4:5:6:7:8:9) | ]")
    × Refuses TextDoesNotFit (letters "[ (1, empty # dashed) | ]")
    × Refuses TextDoesNotFit (letters "[ (1, empty) | (1, 1, 1, empty # grey) ]")
    × Refuses TextDoesNotFit (letters "[ (1, empty) (2, empty) (3, empty) (4, empty) | ]")
    × Refuses TextDoesNotFit (letters "[ (1, empty) | (1, 1, 1, empty) (2, 1, 1, empty) (3, 1, 1, empty) ]")
unfolding opened
too_much = (refl, refl, refl, refl, refl, refl, refl)

-- The lowest number that applies: to two tables and a text that no one can take, to one and the text, to the text alone.

bad : List ℕ
bad = letters "[ (1, 2147483648) (1, empty) | "

lowest : (import_text base bad (9 ∷ []) (9 ∷ []) ≡ record { answer = Refused NodeTableLength; nodes = 9 ∷ []; edges = 9 ∷ [] })
    × (import_text base bad [] (9 ∷ []) ≡ record { answer = Refused EdgeTableLength; nodes = []; edges = 9 ∷ [] })
    × Refuses BadText bad
unfolding opened bad
lowest = (refl, refl, refl)

-- Tables that have at most one node and one edge: of a text that lists more, names are not asked, so two nodes or edges of one name are 24;
-- of one that does not, they are.

abbrev tiny : Layout
tiny = record { atoms = 1; width = 1; node = 8; edge = 10; change = 12; nodes = 1; edges = 1; records = 1 }

abbrev RefusesTiny : Refusal → List ℕ → Type 0
RefusesTiny w bs = import_text tiny bs (replicate 8 0) [] ≡ record { answer = Refused w; nodes = replicate 8 0; edges = [] }

unasked : RefusesTiny TextDoesNotFit (letters "[ (1, empty) (1, empty) | ]")
    × RefusesTiny TextDoesNotFit (letters "[ (1, empty) | (1, 1, 1, empty) (1, 1, 2, empty) ]")
    × RefusesTiny BadNames (letters "[ (1, empty) | (1, 1, 2, empty) ]")
unfolding opened
unasked = (refl, refl, refl)

-- Export: a buffer one byte short, which stays, with the length that is needed.

one-short : export_text base nodes edges (replicate 64 9) ≡ record { answer = Refused BufferTooShort; length = 65; buffer = replicate 64 9 }
unfolding opened
one-short = refl

-- a free slot that isn't zero, and no buffer; with an edge table that is too long by a byte; with both
damaged : List ℕ
damaged = 0 ∷ 1 ∷ replicate 34 0

refused : (export_text base damaged [] [] ≡ record { answer = Refused BadHost; length = 0; buffer = [] })
    × (export_text base damaged (0 ∷ []) [] ≡ record { answer = Refused EdgeTableLength; length = 0; buffer = [] })
    × (export_text base (0 ∷ damaged) (0 ∷ []) [] ≡ record { answer = Refused NodeTableLength; length = 0; buffer = [] })
unfolding opened damaged
refused = (refl, refl, refl)
