-- Carrying a host from two tables to two tables of another layout, slot numbers kept: a function from all that is lent to all that is
-- returned, refusals in their order included. Rests on Basics, Layout and Calls, and on the code's Layout, Manner, Refusal and Answer.
use Rattle.std.specs.Prelude.{◌≡◌, Bool, true, not, List, [], ◌∷◌, ◌++◌, ℕ, ◌-◌, ◌/◌, length, take, drop, replicate, eqb, leb}
use Rattle.std.proofs.Math.Option.{Option, some, none}
use Rattle.meaning.specs.Basics.{both, clauses, every, first_failing}
use Rattle.meaning.specs.Layout.{Slot, free, live, is_live, Node, Edge, Host, base, four, small, node_length, edge_length, fits_table, read_nodes, read_edges, host_of, write_nodes, write_edges, keeps_layout}
use Rattle.meaning.specs.Calls.{answer_number}
use Rattle.meaning.specs.declared.Layout.{Layout}
use Rattle.meaning.specs.declared.Manner.{Manner}
use Rattle.meaning.specs.declared.Manner.TheVariants.{Exact, Packing}
use Rattle.meaning.specs.declared.Refusal.{Refusal}
use Rattle.meaning.specs.declared.Refusal.TheVariants.{NodeTableLength, EdgeTableLength, BadHost, LabelDoesNotFit, HostDoesNotFit}
use Rattle.meaning.specs.declared.Answer.{Answer}
use Rattle.meaning.specs.declared.Answer.TheVariants.{Result, Refused}

-- What is lent: the tables that hold the host, and those that it is carried to.
pub record LentTables : Type 0 where
  pub nodes : List ℕ
  pub edges : List ℕ
  pub to_nodes : List ℕ
  pub to_edges : List ℕ

abbrev pub lending_tables : List ℕ → List ℕ → List ℕ → List ℕ → LentTables
lending_tables nodes edges to_nodes to_edges = record { nodes = nodes; edges = edges; to_nodes = to_nodes; to_edges = to_edges }

-- What is returned: the answer, and both tables that the host is carried to. The others are only read.
pub record Carried : Type 0 where
  pub answer : Answer
  pub nodes : List ℕ
  pub edges : List ℕ

-- the number and the tables are those that a carrying returns
pub record Carries (c : Carried) (number : ℕ) (nodes edges : List ℕ) : Type 0 where
  pub numbered : number ≡ answer_number c.answer
  pub nodes_returned : nodes ≡ c.nodes
  pub edges_returned : edges ≡ c.edges

-- Slot counts of a table and of the one that it is carried to: exactly, they are the same; packing, there may be any.

unfoldable pub counts_agree : Manner → ℕ → ℕ → Bool
counts_agree Exact n m = eqb n m
counts_agree Packing n m = true

-- a table of slots of w bytes, at most so many, is carried to one of slots of v bytes, at most so many
unfoldable pub lengths_agree : Manner → ℕ → ℕ → List ℕ → ℕ → ℕ → List ℕ → Bool
lengths_agree k w most table v most' to =
    clauses (fits_table w most table ∷ fits_table v most' to ∷ counts_agree k (length table / w) (length to / v) ∷ [])

-- What fits: slots whose labels have at most so many atoms, of which those from number n on are free.

-- the slot is free, or its label has at most so many atoms
unfoldable pub label_fits : {A : Type 0} → ℕ → (A → List ℕ) → Slot A → Bool
label_fits most label free = true
label_fits most label (live a) = leb (length (label a)) most

unfoldable pub slots_fit : {A : Type 0} → ℕ → (A → List ℕ) → ℕ → List (Slot A) → Bool
slots_fit most label n t = both (every (label_fits most label) t) (every (λ s. not (is_live s)) (drop n t))

-- both tables do; the ends of an edge are live nodes, and so have numbers there
unfoldable pub host_fits : ℕ → ℕ → ℕ → Host → Bool
host_fits most n m h =
    both (slots_fit most (λ (a : Node). a.label) n h.nodes) (slots_fit most (λ (e : Edge). e.label) m h.edges)

-- what is answered where the host does not fit
unfoldable pub unfit : Manner → Refusal
unfit Exact = LabelDoesNotFit
unfit Packing = HostDoesNotFit

-- What is written.

-- n slots: the first of the table, and free ones behind
abbrev pub resized : {A : Type 0} → ℕ → List (Slot A) → List (Slot A)
resized n t = take n t ++ replicate (n - length t) free

-- From layout L to layout M.

module _ (k : Manner) (L M : Layout) where
  -- the lowest applicable number of 10, 11, 15, and 26 or 29
  unfoldable pub carry_refusal : LentTables → Option Refusal
  carry_refusal x =
      first_failing
      ((lengths_agree k (node_length L) L.nodes x.nodes (node_length M) M.nodes x.to_nodes, NodeTableLength)
      ∷ (lengths_agree k (edge_length L) L.edges x.edges (edge_length M) M.edges x.to_edges, EdgeTableLength)
      ∷ (keeps_layout L x.nodes x.edges, BadHost)
      ∷ (host_fits M.atoms (length x.to_nodes / node_length M) (length x.to_edges / edge_length M) (host_of L x.nodes x.edges), unfit k)
      ∷ [])

  -- a refused carrying leaves both tables as they were
  unfoldable pub carry_on : Option Refusal → LentTables → Carried
  carry_on (some w) x = record { answer = Refused w; nodes = x.to_nodes; edges = x.to_edges }
  carry_on none x =
      record {
        answer = Result;
        nodes = write_nodes M (resized (length x.to_nodes / node_length M) (read_nodes L x.nodes));
        edges = write_edges M (resized (length x.to_edges / edge_length M) (read_edges L x.edges));
      }

  unfoldable pub carry : LentTables → Carried
  carry x = carry_on (carry_refusal x) x

-- What the exported calls promise of their tables: old tables come to have room for eight atoms in a label, and back; and tables of
-- document 01's layout come to be those of the small core, and back.

abbrev pub widen : LentTables → Carried
widen = carry Exact four base

abbrev pub narrow : LentTables → Carried
narrow = carry Exact base four

abbrev pub pack : LentTables → Carried
pack = carry Packing base small

abbrev pub unpack : LentTables → Carried
unpack = carry Packing small base
