-- An application in two halves: nothing hinders it, the left part is done, the right side has come. Rests on Application.
use Rattle.std.specs.Prelude.{◌≡◌, List, ℕ, ◌+◌, ◌/◌, length, take}
use Rattle.std.proofs.Math.Option.{some, none}
use Rattle.meaning.specs.Layout.{record_length}
use Rattle.meaning.specs.Image.{Rule}
use Rattle.meaning.specs.Matching.{left_nodes, left_edges, total}
use Rattle.meaning.specs.Applying.{Right, right_side, changed, hindrance}
use Rattle.meaning.specs.Laws.Room.{after_left}
use Rattle.meaning.specs.declared.Layout.{Layout}
use Rattle.ledger.specs.Running.{ledger_of, Running, Leads}
use Rattle.ledger.specs.Changes.{Went}
use Rattle.applying.specs.Application.{AtMatch}

module _ (L : Layout) where
  -- the rule can be applied at its match: nothing hinders
  pub record Unhindered (nodes edges journal : List ℕ) (used : ℕ) (bs slots lens atoms : List ℕ) : Type 0 where
    pub running : Running L nodes edges journal used
    pub match : AtMatch L nodes edges bs slots lens atoms
    pub fine : hindrance L.atoms (length journal / record_length L) match.tree (take (total match.tree) slots) (ledger_of L nodes edges journal used) ≡ none

  -- the bytes hold the changed ledger
  abbrev pub Changed : (nodes edges journal : List ℕ) (used : ℕ) (bs slots lens atoms : List ℕ) (after : ℕ) (nodes' edges' journal' : List ℕ) → Type 0
  Changed nodes edges journal used bs slots lens atoms after nodes' edges' journal' =
      (w : Unhindered nodes edges journal used bs slots lens atoms) (right : Right)
      → right_side L.atoms (ledger_of L nodes edges journal used).host w.match.tree (take (total w.match.tree) slots) ≡ some right
      → Leads L (changed w.match.tree (take (total w.match.tree) slots) right (ledger_of L nodes edges journal used)) nodes' edges' journal' after

  -- Its two parts.

  -- the left edges are gone and the left nodes changed, with one record each
  pub record Left (nodes edges journal : List ℕ) (used : ℕ) (r : Rule) (p : List ℕ) (right : Right) (after : ℕ) (nodes' edges' journal' : List ℕ) : Type 0 where
    pub went : Went L (after_left r p right (ledger_of L nodes edges journal used)) nodes edges journal nodes' edges' journal' after
    pub records : after ≡ used + left_edges r + left_nodes r

  -- the left part of an application is done
  abbrev pub LeftChanged : (nodes edges journal : List ℕ) (used : ℕ) (bs slots lens atoms : List ℕ) (after : ℕ) (nodes' edges' journal' : List ℕ) → Type 0
  LeftChanged nodes edges journal used bs slots lens atoms after nodes' edges' journal' =
      (w : Unhindered nodes edges journal used bs slots lens atoms) (right : Right)
      → right_side L.atoms (ledger_of L nodes edges journal used).host w.match.tree (take (total w.match.tree) slots) ≡ some right
      → Left nodes edges journal used w.match.tree (take (total w.match.tree) slots) right after nodes' edges' journal'

  -- the right side is to come: at the start nothing hindered, and the left part is done
  pub record Halfway (nodes edges journal : List ℕ) (used : ℕ) (bs slots lens atoms : List ℕ) : Type 0 where
    pub nodes₀ : List ℕ
    pub edges₀ : List ℕ
    pub journal₀ : List ℕ
    pub used₀ : ℕ
    pub start : Unhindered nodes₀ edges₀ journal₀ used₀ bs slots lens atoms
    pub right : Right
    pub values : right_side L.atoms (ledger_of L nodes₀ edges₀ journal₀ used₀).host start.match.tree (take (total start.match.tree) slots) ≡ some right
    pub left : Left nodes₀ edges₀ journal₀ used₀ start.match.tree (take (total start.match.tree) slots) right used nodes edges journal

  -- it has come: the bytes hold the changed ledger
  abbrev pub RightCame : (nodes edges journal : List ℕ) (used : ℕ) (bs slots lens atoms : List ℕ) (after : ℕ) (nodes' edges' journal' : List ℕ) → Type 0
  RightCame nodes edges journal used bs slots lens atoms after nodes' edges' journal' =
      (w : Halfway nodes edges journal used bs slots lens atoms)
      → Leads L (changed w.start.match.tree (take (total w.start.match.tree) slots) w.right (ledger_of L w.nodes₀ w.edges₀ w.journal₀ w.used₀)) nodes' edges' journal' after
