-- What a carrying answers and leaves, in either manner and between any two layouts: refused, both tables as they were lent; else the same
-- host in the layout that it is carried to, from which it is carried back to the bytes that it came from.
-- Rests on the meaning's Carrying, on laws' Hosts, Carrying and Resized, and on ResizedHosts.
use Rattle.std.specs.Prelude.{ℕ, ◌/◌, ◌≤◌, ◌≡◌, true, List, [], ◌∷◌, length}
use Rattle.meaning.specs.Layout.{Host, node_length, edge_length, host_of, keeps_layout}
use Rattle.meaning.specs.Calls.{refusal_number}
use Rattle.meaning.specs.Carrying.{LentTables, Carried, unfit}
use Rattle.demands.specs.Laws.Alike.{Alike}
use Rattle.meaning.specs.declared.Layout.{Layout}
use Rattle.meaning.specs.declared.Manner.{Manner}
use Rattle.meaning.specs.declared.Manner.TheVariants.{Exact, Packing}
use Rattle.meaning.specs.declared.Answer.TheVariants.{Result}
use Rattle.layouts.specs.ResizedHosts.{resized_host}

-- How many slots a table of the layout has.

abbrev pub node_slots : Layout → List ℕ → ℕ
node_slots L nodes = length nodes / node_length L

abbrev pub edge_slots : Layout → List ℕ → ℕ
edge_slots L edges = length edges / edge_length L

-- the host that is carried, at the slot counts of the tables that it is carried to
abbrev pub arrived : Layout → Layout → LentTables → Host
arrived L M x = resized_host (node_slots M x.to_nodes) (edge_slots M x.to_edges) (host_of L x.nodes x.edges)

-- What is answered.

-- these tables are left, and nothing is refused
abbrev pub arriving : List ℕ → List ℕ → Carried
arriving nodes edges = record { answer = Result; nodes = nodes; edges = edges }

-- the numbers that can be answered; the last is 26 in the exact manner, and 29 in the packing one
abbrev pub carry_table : Manner → List ℕ
carry_table k = 0 ∷ 10 ∷ 11 ∷ 15 ∷ refusal_number (unfit k) ∷ []

-- To tables of as many slots or more, whose labels hold as many atoms or more.

-- m slots are as many as n or more; in the exact manner they are as many, and nothing is asked
abbrev pub AsManySlots : Manner → ℕ → ℕ → Type 0
AsManySlots Exact n m = Unit {0}
AsManySlots Packing n m = n ≤ m

-- A carrying that is not refused.

-- the host h in tables of n node slots and m edge slots; in the exact manner there are as many as it has, and it is h itself
abbrev pub host_in : Manner → ℕ → ℕ → Host → Host
host_in Exact n m h = h
host_in Packing n m h = resized_host n m h

-- it leaves the same host, with the same slot at each number, laid out as it is to be, in tables of the lengths lent
pub record Kept (k : Manner) (L M : Layout) (x : LentTables) (c : Carried) : Type 0 where
  pub answer : c.answer ≡ Result
  pub host
      : host_of M c.nodes c.edges ≡ host_in k (node_slots M x.to_nodes) (edge_slots M x.to_edges) (host_of L x.nodes x.edges)
  pub alike : Alike (host_of L x.nodes x.edges) (host_of M c.nodes c.edges)
  pub layout : keeps_layout M c.nodes c.edges ≡ true
  pub nodes_length : length c.nodes ≡ length x.to_nodes
  pub edges_length : length c.edges ≡ length x.to_edges
