-- The end of the text, and the whole graph, part by part. Rests on Items and on parsing's Laws.
use mathlib.Core.Path.{◌≡◌, ◌∙◌}
use mathlib.Core.Bool.{Bool}
use mathlib.Core.List.{List}
use Prim.Native.Nat.{ℕ}
use native.Mathlib.Omega.{arith}
use Rattle.std.specs.Prelude.{Some, None, Ok, Err}
use Rattle.meaning.specs.Basics.{choose, is_empty, both}
use Rattle.meaning.specs.declared.Table.TheVariants.{Nodes, Edges}
use Rattle.text.specs.Words.{opening, closing, bar}
use Rattle.text.specs.Grammar.{ended, graph}
use Rattle.text.specs.Text.{labels_fit}
use Rattle.lexing.specs.Lexing.{Next}
use Rattle.lexing.specs.declared.Token.{Token}
use Rattle.lexing.specs.declared.Token.TheVariants.{Sign, Name}
use Rattle.parsing.specs.Reading.{Passed}
use Rattle.parsing.specs.Laws.{then, breaks, done}
use Rattle.parsing.specs.declared.BrokenAt.{BrokenAt}
use Rattle.items.specs.Items.{Ends, ReadsItems, ReadsGraph}
use Rattle.items.specs.declared.ItemsAt.{ItemsAt}

module _ (bs : List ℕ) where
  -- The end.

  pub end_read : (at : ℕ) → Next bs at None → Ends bs at (Ok tt)
  unfolding choose ended is_empty
  end_read at n = record { read = rw n; onward = omega arith }

  pub no_end : (at : ℕ) (t : Token) → Next bs at (Some t) → Ends bs at (Err (record { place = at }))
  unfolding choose ended is_empty
  no_end at (Sign b next) n = record { read = rw n.0; onward = omega arith }
  no_end at (Name from to) n = record { read = rw (n.0, n.1); onward = omega arith }

  -- The graph.

  module _ (most : ℕ) (ps qs : List ℕ) where
    pub graph-1 : {b : BrokenAt} → Passed bs 0 opening (Err b) → ReadsGraph bs most ps qs (Err b)
    unfolding graph
    graph-1 x = breaks bs _ x

    module _ {a : ℕ} (o : Passed bs 0 opening (Ok a)) where
      pub graph-2 : {b : BrokenAt} → ReadsItems bs Nodes most a ps (Err b) → ReadsGraph bs most ps qs (Err b)
      unfolding graph
      graph-2 x = then bs _ o.0 (breaks bs _ x)

      module _ (ns : ItemsAt) (n : ReadsItems bs Nodes most a ps (Ok ns)) where
        pub graph-3 : {b : BrokenAt} → Passed bs ns.next bar (Err b) → ReadsGraph bs most ps qs (Err b)
        unfolding graph
        graph-3 x = then bs _ o.0 (then bs _ n.1 (breaks bs _ x))

        module _ {c : ℕ} (p : Passed bs ns.next bar (Ok c)) where
          pub graph-4 : {b : BrokenAt} → ReadsItems bs Edges most c qs (Err b) → ReadsGraph bs most ps qs (Err b)
          unfolding graph
          graph-4 x = then bs _ o.0 (then bs _ n.1 (then bs _ p.0 (breaks bs _ x)))

          module _ (es : ItemsAt) (m : ReadsItems bs Edges most c qs (Ok es)) where
            pub graph-5 : {b : BrokenAt} → Passed bs es.next closing (Err b) → ReadsGraph bs most ps qs (Err b)
            unfolding graph
            graph-5 x = then bs _ o.0 (then bs _ n.1 (then bs _ p.0 (then bs _ m.1 (breaks bs _ x))))

            module _ {d : ℕ} (q : Passed bs es.next closing (Ok d)) where
              pub graph-6 : {b : BrokenAt} → Ends bs d (Err b) → ReadsGraph bs most ps qs (Err b)
              unfolding graph
              graph-6 x = then bs _ o.0 (then bs _ n.1 (then bs _ p.0 (then bs _ m.1 (then bs _ q.0 (breaks bs _ x)))))

              pub graph-read : {fits : Bool} → Ends bs d (Ok tt) → fits ≡ both ns.fits es.fits
                  → ReadsGraph bs most ps qs (Ok (record { next = d; nodes = ns.count; edges = es.count; fits = fits }))
              unfolding graph labels_fit
              graph-read x f =
                  let i = n.2 in
                  let j = m.2 in (
                    _,
                    then bs _ o.0 (then bs _ n.1 (then bs _ p.0 (then bs _ m.1 (then bs _ q.0 (then bs _ x (done bs d _)))))),
                    record { nodes = i.count; edges = j.count; fits = f ∙ rw (i.fits, j.fits); nodes_at = i.places; edges_at = j.places },
                  )
