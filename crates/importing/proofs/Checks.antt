-- What is refused of a text that is a graph, check by check. Rests on specs/Graphs, Places and the text's Text.
use mathlib.Core.Path.{◌≡◌, sym, ◌∙◌, ap}
use mathlib.Core.Bool.{Bool, true, false, not}
use mathlib.Core.Option.{some, none}
use mathlib.Core.List.{List, [], ◌∷◌}
use Prim.Native.Nat.{ℕ, ◌<◌, ◌≤◌}
use native.Mathlib.Omega.{arith}
use borrow.Author.Tests.{le-leb, lt-leb}
use lib.Dec.{leb}
use lib.ListN.{take}
use Rattle.meaning.specs.Basics.{both, either, first_failing}
use Rattle.meaning.specs.Laws.Tests.{both_yes, both-no}
use Rattle.meaning.specs.Laws.Checks.{first-no, first-yes, first-none}
use Rattle.meaning.specs.declared.Layout.{Layout}
use Rattle.meaning.specs.declared.Refusal.TheVariants.{BadNames, TextDoesNotFit}
use Rattle.meaning.specs.declared.Table.TheVariants.{Nodes, Edges}
use Rattle.text.specs.Text.{graph_of, names_hold, at_most, names_pass, fits, text_checks}
use Rattle.items.specs.declared.GraphAt.{GraphAt}
use Rattle.importing.specs.Names.{NamesHold}
use Rattle.importing.specs.Graphs.{Graph}
use Rattle.importing.proofs.Places.{listed-front}

module _ (L : Layout) (bs node_places edge_places : List ℕ) (g : GraphAt) (w : Graph L bs node_places edge_places g) where
  -- Names: asked where there are no more items than tables may have.

  at-most : (m n : ℕ) → at_most m n w.listed ≡ both (leb g.nodes m) (leb g.edges n)
  unfolding at_most
  at-most m n = rw (w.is.nodes, w.is.edges)

  passes : (b : Bool) → at_most L.nodes L.edges w.listed ≡ b → names_pass L w.listed ≡ either (not b) (names_hold w.listed)
  unfolding names_pass
  passes b e = ap (λ b. either (not b) (names_hold w.listed)) e

  pub many-nodes : L.nodes < g.nodes → true ≡ names_pass L w.listed
  unfolding either
  many-nodes h = sym (passes false (at-most _ _ ∙ both-no _ _ (lt-leb _ _ h)))

  module _ (few : g.nodes ≤ L.nodes) where
    pub many-edges : L.edges < g.edges → true ≡ names_pass L w.listed
    unfolding either
    many-edges h = sym (passes false (at-most _ _ ∙ both_yes _ _ (le-leb _ _ few) ∙ lt-leb _ _ h))

    pub names-asked : g.edges ≤ L.edges → (r : Bool) → NamesHold bs (take g.nodes node_places) (take g.edges edge_places) r
        → r ≡ names_pass L w.listed
    unfolding either
    names-asked h r f =
        f w.listed
        (listed-front bs Nodes w.listed.nodes node_places g.nodes w.is.nodes_at w.is.nodes (omega (arith, w.nodes_kept)))
        (listed-front bs Edges w.listed.edges edge_places g.edges w.is.edges_at w.is.edges (omega (arith, w.edges_kept)))
        ∙ sym (passes true (at-most _ _ ∙ both_yes _ _ (le-leb _ _ few) ∙ le-leb _ _ h))

  -- The checks in their order, as the code found them.

  module _ (m n : ℕ) where
    room-told : fits L m n w.listed ≡ both g.fits (both (leb g.nodes m) (leb g.edges n))
    unfolding fits
    room-told = rw (w.is.fits, at-most m n)

    told : first_failing (text_checks L m n (graph_of bs)) ≡ first_failing ((names_pass L w.listed, BadNames) ∷ (fits L m n w.listed, TextDoesNotFit) ∷ [])
    unfolding text_checks
    told = ap (λ o. first_failing (text_checks L m n o)) w.found

    module _ (names : Bool) (pass : names ≡ names_pass L w.listed) where
      pub other-names : names ≡ false → some BadNames ≡ first_failing (text_checks L m n (graph_of bs))
      other-names e = sym (told ∙ first-no _ _ _ (sym pass ∙ e))

      module _ (e : names ≡ true) (room : Bool) (has : room ≡ both g.fits (both (leb g.nodes m) (leb g.edges n))) where
        pub no_room : room ≡ false → some TextDoesNotFit ≡ first_failing (text_checks L m n (graph_of bs))
        no_room q = sym (told ∙ first-yes _ _ _ (sym pass ∙ e) ∙ first-no _ _ _ (room-told ∙ sym has ∙ q))

        pub all-fine : room ≡ true → none ≡ first_failing (text_checks L m n (graph_of bs))
        all-fine q = sym (told ∙ first-yes _ _ _ (sym pass ∙ e) ∙ first-yes _ _ _ (room-told ∙ sym has ∙ q) ∙ first-none)
