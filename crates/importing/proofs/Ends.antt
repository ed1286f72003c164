-- The names of listed items, asked for at their places: ends of edges, and what holds of a graph's names. Rests on specs/Names, Places and
-- items' Again.
use mathlib.Core.Path.{◌≡◌, sym, ◌∙◌, ap}
use mathlib.Core.Bool.{Bool, true, false}
use mathlib.Core.List.{List}
use Prim.Native.Nat.{ℕ}
use borrow.Author.Tests.{lt-ltb, le-ltb}
use Rattle.std.specs.Prelude.{Option, Some, None, is_some, Ok, Err}
use Rattle.std.specs.Option.{unwrap_or}
use native.Mathlib.Omega.{arith}
use lib.ListN.{length, length-map}
use Rattle.meaning.specs.Basics.{both, clauses, every}
use Rattle.meaning.specs.Laws.Tests.{both_yes, both-no, both-last}
use Rattle.meaning.specs.declared.Table.TheVariants.{Nodes, Edges}
use Rattle.text.specs.Grammar.{EdgeItem, Listed, index, known}
use Rattle.text.specs.Text.{apart, names_hold}
use Rattle.text.specs.Text.{ends_known}
use Rattle.lexing.specs.Lexing.{name_at}
use Rattle.items.specs.Items.{At, ReadsEdge}
use Rattle.items.specs.Again.{edge-again, edge-unbroken}
use Rattle.items.specs.declared.EdgeAt.{EdgeAt}
use Rattle.parsing.specs.declared.BrokenAt.{BrokenAt}
use Rattle.importing.specs.Names.{names_at, Found, ListedAt}
use Rattle.importing.proofs.Places.{names-listed}

module _ (bs ps : List ℕ) where
  -- a name that was looked up
  known-found : (id : List ℕ) (q : ℕ) (x : Option ℕ) → id ≡ name_at bs q → Found (name_at bs q) (names_at bs ps) x
      → known id (names_at bs ps) ≡ is_some x
  unfolding known
  known-found id q (Some j) e f = rw (e, f.0) (lt-ltb j (length (names_at bs ps)) f.1)
  known-found id q None e f = rw (e, f) (le-ltb (length (names_at bs ps)) (length (names_at bs ps)) (omega arith))

  -- its number, or how many names there are
  pub numbered : (id : List ℕ) (x : Option ℕ) → Found id (names_at bs ps) x → unwrap_or x (length ps) ≡ index id (names_at bs ps)
  numbered id (Some j) f = sym f.0
  numbered id None f = sym (length-map ps (name_at bs)) ∙ sym f

  module _ (p : ℕ) (e : EdgeItem) (w : At bs Edges p e) where
    pub edge-reads : {b : BrokenAt} → ReadsEdge bs p (Err b) → ⊥
    edge-reads x = edge-unbroken bs w x

    module _ (r : EdgeAt) (reads : ReadsEdge bs p (Ok r)) (source : Option ℕ) (s : Found (name_at bs r.source) (names_at bs ps) source) where
      pub ends-known : is_some source ≡ true → (target : Option ℕ) → Found (name_at bs r.target) (names_at bs ps) target
          → is_some target ≡ ends_known (names_at bs ps) e
      ends-known h target t =
          let is = edge-again bs r w reads in
          sym
          (both_yes _ _ (known-found e.source r.source source is.source s ∙ h)
          ∙ known-found e.target r.target target is.target t)

      pub source_unknown : is_some source ≡ false → is_some source ≡ ends_known (names_at bs ps) e
      source_unknown h =
          let is = edge-again bs r w reads in
          h ∙ sym (both-no _ _ (known-found e.source r.source source is.source s ∙ h))

-- the names of a graph, by its places
pub holds_at : (bs node_places edge_places : List ℕ) (g : Listed) → ListedAt bs Nodes g.nodes node_places → ListedAt bs Edges g.edges edge_places
    → both (apart (names_at bs node_places)) (both (apart (names_at bs edge_places)) (every (ends_known (names_at bs node_places)) g.edges)) ≡ names_hold g
unfolding names_hold clauses
holds_at bs node_places edge_places g n e =
    rw (names-listed bs Nodes g.nodes node_places n, names-listed bs Edges g.edges edge_places e)
    (three (apart _) (apart _) (every _ _))
  where
    three : (a b c : Bool) → both a (both b c) ≡ both a (both b (both c true))
    three a b c = ap (λ d. both a (both b d)) (both-last c)
