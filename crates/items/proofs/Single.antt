-- Single items: from what was read of each part to what was read of a node, of an edge, and of an item of either table; and where a part
-- breaks. Rests on Items and on parsing's Laws.
use mathlib.Core.Path.{◌≡◌, refl, ◌∙◌, ap, sym, subst}
use mathlib.Core.List.{List}
use mathlib.Core.Bool.{Bool}
use Prim.Native.Nat.{ℕ}
use lib.ListN.{drop}
use Rattle.std.specs.Prelude.{Option, Ok, Err}
use Rattle.labels.specs.declared.Label.{Label}
use Rattle.meaning.specs.declared.Table.{Table}
use Rattle.meaning.specs.declared.Table.TheVariants.{Nodes, Edges}
use Rattle.text.specs.Words.{words, left, right, comma}
use Rattle.text.specs.Grammar.{optional, position, a_root, node_body, edge_body}
use Rattle.text.specs.Text.{label_fits}
use Rattle.lexing.specs.Lexing.{name_at}
use Rattle.parsing.specs.Reading.{ahead, Reads, Passed, ReadsName, Passes}
use Rattle.parsing.specs.Labels.{Gathers, ReadsByte, ReadsLabel}
use Rattle.parsing.specs.Laws.{then, breaks, done}
use Rattle.parsing.specs.declared.BrokenAt.{BrokenAt}
use Rattle.parsing.specs.declared.NameAt.{NameAt}
use Rattle.parsing.specs.declared.labelling.ByteAt.{ByteAt}
use Rattle.parsing.specs.declared.labelling.LabelAt.{LabelAt}
use Rattle.items.specs.Items.{ItemOf, body_of, id_of, label_of, Fits, ReadsNode, ReadsEdge, ReadsItem}
use Rattle.items.specs.declared.NodeAt.{NodeAt}
use Rattle.items.specs.declared.EdgeAt.{EdgeAt}

module _ (bs : List ℕ) where
  -- A node, part by part.

  pub node-1 : {c : ℕ} {b : BrokenAt} → ReadsName bs c (Err b) → ReadsNode bs c (Err b)
  unfolding node_body
  node-1 x = breaks bs _ x

  module _ {c : ℕ} (id : NameAt) (n : ReadsName bs c (Ok id)) where
    pub node-2 : {b : BrokenAt} → ReadsByte bs id.next (optional left a_root 0) (Err b) → ReadsNode bs c (Err b)
    unfolding node_body
    node-2 x = then bs _ n.reads (breaks bs _ x)

    module _ (r : ByteAt) (o : ReadsByte bs id.next (optional left a_root 0) (Ok r)) where
      pub node-3 : {b : BrokenAt} → Passed bs r.next comma (Err b) → ReadsNode bs c (Err b)
      unfolding node_body
      node-3 x = then bs _ n.reads (then bs _ o (breaks bs _ x))

      module _ {d : ℕ} (m : Passed bs r.next comma (Ok d)) where
        pub node-4 : {b : BrokenAt} → ReadsLabel bs d (Err b) → ReadsNode bs c (Err b)
        unfolding node_body
        node-4 x = then bs _ n.reads (then bs _ o (then bs _ m.0 (breaks bs _ x)))

        module _ (l : LabelAt) (k : ReadsLabel bs d (Ok l)) where
          pub node-5 : {b : BrokenAt} → Passes bs l.next position (Err b) → ReadsNode bs c (Err b)
          unfolding node_body
          node-5 x = then bs _ n.reads (then bs _ o (then bs _ m.0 (then bs _ k.1 (breaks bs _ x))))

          module _ {p : ℕ} (q : Passes bs l.next position (Ok p)) where
            pub node-6 : {b : BrokenAt} → Passed bs p right (Err b) → ReadsNode bs c (Err b)
            unfolding node_body
            node-6 x = then bs _ n.reads (then bs _ o (then bs _ m.0 (then bs _ k.1 (then bs _ q.1 (breaks bs _ x)))))

            module _ {e : ℕ} (s : Passed bs p right (Ok e)) where
              pub node-7 : {b : BrokenAt} → Passes bs e position (Err b) → ReadsNode bs c (Err b)
              unfolding node_body
              node-7 x = then bs _ n.reads (then bs _ o (then bs _ m.0 (then bs _ k.1 (then bs _ q.1 (then bs _ s.0 (breaks bs _ x))))))

              pub node-read : {t : ℕ} → Passes bs e position (Ok t)
                  → ReadsNode bs c (Ok (record { next = t; from = id.from; root = r.byte; mark = l.mark; label = l.label }))
              unfolding node_body
              node-read {t} x = (
                _,
                then bs _ n.reads (then bs _ o (then bs _ m.0 (then bs _ k.1 (then bs _ q.1 (then bs _ s.0 (then bs _ x.1 (done bs t _))))))),
                record { here = n.here; id = refl; root = refl; mark = refl; gathers = k.2 },
              )

  -- An edge, part by part.

  pub edge-1 : {c : ℕ} {b : BrokenAt} → ReadsName bs c (Err b) → ReadsEdge bs c (Err b)
  unfolding edge_body
  edge-1 x = breaks bs _ x

  module _ {c : ℕ} (id : NameAt) (n : ReadsName bs c (Ok id)) where
    pub edge-2 : {b : BrokenAt} → Passed bs id.next comma (Err b) → ReadsEdge bs c (Err b)
    unfolding edge_body
    edge-2 x = then bs _ n.reads (breaks bs _ x)

    module _ {d : ℕ} (m : Passed bs id.next comma (Ok d)) where
      pub edge-3 : {b : BrokenAt} → ReadsName bs d (Err b) → ReadsEdge bs c (Err b)
      unfolding edge_body
      edge-3 x = then bs _ n.reads (then bs _ m.0 (breaks bs _ x))

      module _ (source : NameAt) (s : ReadsName bs d (Ok source)) where
        pub edge-4 : {b : BrokenAt} → Passed bs source.next comma (Err b) → ReadsEdge bs c (Err b)
        unfolding edge_body
        edge-4 x = then bs _ n.reads (then bs _ m.0 (then bs _ s.reads (breaks bs _ x)))

        module _ {e : ℕ} (o : Passed bs source.next comma (Ok e)) where
          pub edge-5 : {b : BrokenAt} → ReadsName bs e (Err b) → ReadsEdge bs c (Err b)
          unfolding edge_body
          edge-5 x = then bs _ n.reads (then bs _ m.0 (then bs _ s.reads (then bs _ o.0 (breaks bs _ x))))

          module _ (target : NameAt) (t : ReadsName bs e (Ok target)) where
            pub edge-6 : {b : BrokenAt} → Passed bs target.next comma (Err b) → ReadsEdge bs c (Err b)
            unfolding edge_body
            edge-6 x = then bs _ n.reads (then bs _ m.0 (then bs _ s.reads (then bs _ o.0 (then bs _ t.reads (breaks bs _ x)))))

            module _ {f : ℕ} (q : Passed bs target.next comma (Ok f)) where
              pub edge-7 : {b : BrokenAt} → ReadsLabel bs f (Err b) → ReadsEdge bs c (Err b)
              unfolding edge_body
              edge-7 x = then bs _ n.reads (then bs _ m.0 (then bs _ s.reads (then bs _ o.0 (then bs _ t.reads (then bs _ q.0 (breaks bs _ x))))))

              module _ (l : LabelAt) (k : ReadsLabel bs f (Ok l)) where
                pub edge-8 : {b : BrokenAt} → Passed bs l.next right (Err b) → ReadsEdge bs c (Err b)
                unfolding edge_body
                edge-8 x =
                    then bs _ n.reads (then bs _ m.0 (then bs _ s.reads (then bs _ o.0 (then bs _ t.reads (then bs _ q.0 (then bs _ k.1 (breaks bs _ x)))))))

                pub edge-read : {g : ℕ} → Passed bs l.next right (Ok g)
                    → ReadsEdge bs c
                    (Ok (record { next = g; from = id.from; source = source.from; target = target.from; mark = l.mark; label = l.label }))
                unfolding edge_body
                edge-read {g} x = (
                  _,
                  then bs _ n.reads
                      (then bs _ m.0 (then bs _ s.reads (then bs _ o.0 (then bs _ t.reads (then bs _ q.0 (then bs _ k.1 (then bs _ x.0 (done bs g _)))))))),
                  record { here = n.here; id = refl; source = refl; target = refl; mark = refl; gathers = k.2 },
                )

  -- Either, as an item of its table.

  as_item : (t : Table) (a : ItemOf t) {c p r most mark : ℕ} (g : Option Label) {fits : Bool} → Reads bs c (body_of t) r a
      → ahead bs c ≡ words (drop p bs) → id_of t a ≡ name_at bs p → (label_of t a).mark ≡ mark → Gathers (label_of t a).atoms g
      → Fits t mark g most fits → ReadsItem bs t most c (Ok (record { next = r; from = p; fits = fits }))
  unfolding label_fits
  as_item t a {r = r} g x here id mark gathers f = (
    a,
    x,
    record { at = record { rest = ahead bs r; body = ap (body_of t) (sym here) ∙ x.read; id = id }; fits = rw mark (f _ gathers) },
  )

  pub node-item : {t : Table} {c : ℕ} (r : NodeAt) {most : ℕ} {fits : Bool} → t ≡ Nodes → ReadsNode bs c (Ok r) → Fits t r.mark r.label most fits
      → ReadsItem bs t most c (Ok (record { next = r.next; from = r.from; fits = fits }))
  node-item {c = c} r {most} {fits} k x f =
      let i = x.2 in
      let y : ReadsItem bs Nodes most c (Ok (record { next = r.next; from = r.from; fits = fits })) = as_item Nodes x.0 r.label x.1 i.here i.id i.mark i.gathers (rw k at f) in
      subst (λ t. ReadsItem bs t most c (Ok (record { next = r.next; from = r.from; fits = fits }))) (sym k) y

  pub node-broken : {t : Table} {c : ℕ} (most : ℕ) {b : BrokenAt} → t ≡ Nodes → ReadsNode bs c (Err b) → ReadsItem bs t most c (Err b)
  node-broken most k x = rw k x

  pub edge-item : {t : Table} {c : ℕ} (r : EdgeAt) {most : ℕ} {fits : Bool} → t ≡ Edges → ReadsEdge bs c (Ok r) → Fits t r.mark r.label most fits
      → ReadsItem bs t most c (Ok (record { next = r.next; from = r.from; fits = fits }))
  edge-item {c = c} r {most} {fits} k x f =
      let i = x.2 in
      let y : ReadsItem bs Edges most c (Ok (record { next = r.next; from = r.from; fits = fits })) = as_item Edges x.0 r.label x.1 i.here i.id i.mark i.gathers (rw k at f) in
      subst (λ t. ReadsItem bs t most c (Ok (record { next = r.next; from = r.from; fits = fits }))) (sym k) y

  pub edge-broken : {t : Table} {c : ℕ} (most : ℕ) {b : BrokenAt} → t ≡ Edges → ReadsEdge bs c (Err b) → ReadsItem bs t most c (Err b)
  edge-broken most k x = rw k x
