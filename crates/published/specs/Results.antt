-- What the interpreter answers is an outcome of the program by the published semantics: a result where it answers 0, fail where
-- it answers 1. First of commands, then of every interpreter that meets demands 1 and 2. Graphs, the reading of a host as a
-- graph and the application of a rule set are parameters. Rests on Following and demands' Demands.
use Rattle.std.specs.Prelude.{◌≡◌, List, ℕ}
use Rattle.std.proofs.Math.Option.{some}
use Rattle.meaning.specs.Layout.{Host, read_nodes, read_edges}
use Rattle.meaning.specs.Image.{Rule}
use Rattle.meaning.specs.Procedures.{Program, program}
use Rattle.meaning.specs.declared.Layout.{Layout}
use Rattle.published.specs.Semantics
use Rattle.published.specs.Semantics.{⟦◌⟧, com_seq}

-- the host that two tables hold, and the graph that is read off it
abbrev pub host_in : Layout → List ℕ → List ℕ → Host
host_in L nodes edges = record { nodes = read_nodes L nodes; edges = read_edges L edges }

abbrev pub held {ℓ} : {Graph : Type ℓ} → Layout → (Host → Graph) → List ℕ → List ℕ → Graph
held L read nodes edges = read (host_in L nodes edges)

module _ {ℓ κ} (L : Layout) (Graph : Type ℓ) (Applied : List Rule → Graph → Graph → Type κ) (read : Host → Graph) where
  -- by the published semantics, executing the image's program on the graph that the tables hold can come to X
  pub record CanComeTo (nodes edges image : List ℕ) (X : Semantics.Outcome Graph) : Type (ℓ ⊔ κ) where
    pub tree : Program
    pub form : program image ≡ some tree
    pub outcome : ⟦◌⟧ Graph Applied (com_seq tree.rules tree.main) (held L read nodes edges) X
